use Rattle.std.proofs.Common.{rules, ◌≡◌, ◌-◌, ◌∙◌, List, length, take, vec_len, refl, sym, subst, arith}
use Rattle.std.proofs.lemmas.List.{with_items_is, length-take-le}
use Rattle.std.proofs.lemmas.List.Sorted.{length_permutation, IsPermutation-refl}
use Rattle.symbol_table.specs.declared.entries.Entry.{Entry}
use Rattle.symbol_table.specs.inside.Entries.{entry_less, HasAll}
use Rattle.symbol_table.specs.inside.Blocks.{InBlocks}
use Rattle.symbol_table.proofs.EntryLaws.{last_parts, noted, blocks_still, pushed_blocks, unpushed_blocks}
use Rattle.symbol_table.proofs.entries.note_last.Goals as goal

pub sort_last_block-requires-clause-blocks : goal.sort_last_block-requires-clause-blocks
sort_last_block-requires-clause-blocks c =
    let symbols = c.args.symbols.now in
    let place = length symbols - 1 in
    let last = c.index-symbols-place.result in
    let less = entry_less c.args.index symbols in
    let entries = c.args.entries.now.items in
    let pushed = c.push_symbol.new.entries in
    let old : vec_len c.args.entries.now ≡ length entries = search rules in
    let new : vec_len pushed ≡ length pushed.items = search rules in
    let parts = last_parts symbols place last refl c.requires.some c.index-symbols-place.is in
    let P : List Entry → Type 0 = λ es. InBlocks less (take (length es - 1) es) in
    subst P (sym c.as_mut_slice.ensures.value)
    (pushed_blocks less c.args.index last place entries pushed.items c.push_symbol.ensures.items
    (omega (arith, old, new)) (blocks_still c.args.index symbols last place entries parts c.requires.before))

pub returns-then-count-len-clause-all : goal.returns-then-count-len-clause-all
returns-then-count-len-clause-all c =
    let symbols = c.args.symbols.now in
    let place = length symbols - 1 in
    let last = c.index-symbols-place.result in
    let pushed = c.push_symbol.new.entries in
    let held = c.as_mut_slice.result.now in
    let sorted = c.sort_last_block.new.entries in
    let at : place ≡ length (take place symbols) = sym (length-take-le place symbols (omega arith)) in
    let len : length sorted ≡ pushed.len =
    omega (arith, length_permutation held sorted c.sort_last_block.ensures.same, c.as_mut_slice.ensures.len) in
    let P : List Entry → Type 0 = λ es. HasAll c.args.index symbols es in
    subst P (sym (with_items_is pushed sorted len))
    (noted c.args.index symbols last place c.args.entries.now.items held sorted
    (last_parts symbols place last refl c.requires.some c.index-symbols-place.is) at c.requires.before
    (c.as_mut_slice.ensures.value ∙ c.push_symbol.ensures.items) c.sort_last_block.ensures.same
    c.sort_last_block.ensures.blocks)

pub returns-else-count-len-clause-all : goal.returns-else-count-len-clause-all
returns-else-count-len-clause-all c =
    let symbols = c.args.symbols.now in
    let place = length symbols - 1 in
    let last = c.index-symbols-place.result in
    let entries = c.args.entries.now.items in
    let pushed = c.push_symbol.new.entries in
    let old : vec_len c.args.entries.now ≡ length entries = search rules in
    let new : vec_len pushed ≡ length pushed.items = search rules in
    let at : place ≡ length (take place symbols) = sym (length-take-le place symbols (omega arith)) in
    let parts = last_parts symbols place last refl c.requires.some c.index-symbols-place.is in
    noted c.args.index symbols last place entries pushed.items pushed.items parts at c.requires.before
    c.push_symbol.ensures.items (IsPermutation-refl pushed.items)
    (unpushed_blocks (entry_less c.args.index symbols) c.args.index last place entries pushed.items
    c.push_symbol.ensures.items (omega (arith, old, new))
    (blocks_still c.args.index symbols last place entries parts c.requires.before))
