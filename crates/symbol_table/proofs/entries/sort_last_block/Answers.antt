use Rattle.std.proofs.Common.{◌≡◌, ◌-◌, ◌∙◌, length, arith}
use Rattle.std.specs.List.{between}
use Rattle.std.proofs.lemmas.List.Edits.{length-between}
use Rattle.std.proofs.lemmas.List.Sorted.{IsPermutation-put_mid, length_permutation}
use Rattle.symbol_table.specs.inside.Entries.{entry_less}
use Rattle.symbol_table.proofs.BlockLaws.{blocks_from_last}
use Rattle.symbol_table.proofs.entries.sort_last_block.Goals as goal

pub returns-clause-same : goal.returns-clause-same
returns-clause-same c = IsPermutation-put_mid c.block_begin-begin.result _ c.args.entries.now _
    c.sort_entries.ensures.same

pub returns-clause-blocks : goal.returns-clause-blocks
returns-clause-blocks c =
    let entries = c.args.entries.now in
    let begin = c.block_begin-begin.result in
    let len : length c.sort_entries.new.entries ≡ length entries - begin =
    length_permutation (between begin (length entries) entries) c.sort_entries.new.entries
    c.sort_entries.ensures.same ∙ length-between entries begin (length entries) (omega arith) in
    blocks_from_last (entry_less c.args.index c.args.symbols.now) entries c.sort_entries.new.entries begin
    c.requires.some (omega arith) c.block_begin-begin.ensures.value len c.sort_entries.ensures.ascend c.requires.blocks
