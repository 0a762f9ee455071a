use Rattle.std.proofs.Common.{◌≡◌, ◌∙◌, ℕ, false, drop, sym, subst, arith}
use Rattle.std.specs.List.{list_any}
use Rattle.symbol_table.specs.inside.Entries.{name_less}
use Rattle.symbol_table.specs.inside.Names.{is_entry_of}
use Rattle.symbol_table.proofs.BlockLaws.{block_sorted_at}
use Rattle.symbol_table.proofs.NameLaws.{any_named, any_global, found_here, none_here}
use Rattle.symbol_table.proofs.kinds.is_global.Goals as goal

pub stands_in_block-requires : goal.stands_in_block-requires
stands_in_block-requires c = block_sorted_at (name_less c.args.symbols.now) c.args.entries.now _ c.loop-end.end
    c.block_begin-begin.ensures.value c.requires.blocks c.loop-end.invariant.within

pub returns-then-stands_in_block : goal.returns-then-stands_in_block
returns-then-stands_in_block c =
    let symbols = c.args.symbols.now in
    let entries = c.args.entries.now in
    let test = is_entry_of symbols c.args.name.now c.args.address in
    let below = c.block_begin-begin.ensures.below in
    sym (found_here test entries c.block_begin-begin.result c.loop-end.end (omega (arith, below))
    (sym (any_named symbols c.args.name.now c.args.address _) ∙ sym c.stands_in_block.ensures
    ∙ c.if-stands_in_block.true))
    ∙ any_global symbols c.args.name.now c.args.address entries c.requires

pub loop-end-preserved : goal.loop-end-preserved
loop-end-preserved c =
    let symbols = c.args.symbols.now in
    let entries = c.args.entries.now in
    let test = is_entry_of symbols c.args.name.now c.args.address in
    let below = c.block_begin-begin.ensures.below in
    let within = c.loop-end.invariant.within in
    record {
      within = omega (arith, within, below);
      none = none_here test entries c.block_begin-begin.result c.loop-end.end (omega (arith, below))
          (sym (any_named symbols c.args.name.now c.args.address _) ∙ sym c.stands_in_block.ensures
          ∙ c.if-stands_in_block.false) c.loop-end.invariant.none;
    }

pub returns : goal.returns
returns c =
    let symbols = c.args.symbols.now in
    let entries = c.args.entries.now in
    let e : c.loop-end.end ≡ 0 = omega arith in
    let P : ℕ → Type 0 = λ n. list_any (is_entry_of symbols c.args.name.now c.args.address) (drop n entries) ≡ false in
    sym (subst P e c.loop-end.invariant.none) ∙ any_global symbols c.args.name.now c.args.address entries c.requires
