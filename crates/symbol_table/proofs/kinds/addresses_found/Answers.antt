use Rattle.std.proofs.Common.{◌≡◌, ◌++◌, ◌∙◌, ℕ, List, drop, refl, subst, sym, arith}
use Rattle.std.specs.List.Sorted.{IsPermutation}
use Rattle.std.proofs.lemmas.Slice.{pushed}
use Rattle.symbol_table.specs.inside.Names.{found_at}
use Rattle.symbol_table.specs.inside.Entries.{name_less}
use Rattle.symbol_table.proofs.BlockLaws.{block_sorted_at}
use Rattle.symbol_table.proofs.NameLaws.{found_more}
use Rattle.symbol_table.proofs.kinds.addresses_found.Goals as goal

pub found_in_block-requires : goal.found_in_block-requires
found_in_block-requires c = block_sorted_at (name_less c.args.symbols.now) c.args.entries.now _ c.loop-end.end
    c.block_begin-begin.ensures.value c.requires c.loop-end.invariant.within

pub loop-end-preserved : goal.loop-end-preserved
loop-end-preserved c =
    let within = c.loop-end.invariant.within in
    let below = c.block_begin-begin.ensures.below in
    let found = c.loop-end.found.items in
    let block = c.as_slice.result.now in
    let items : c.extend_from_slice.new.self.items ≡ found ++ block =
    pushed block refl c.in_ok-extend_from_slice.was c.extend_from_slice.ensures.items in
    let P : List ℕ → Type 0 = λ ys. IsPermutation
    (found_at c.args.symbols.now c.args.kind c.args.name.now (drop c.block_begin-begin.result c.args.entries.now))
    ys in
    record {
      within = omega (arith, within, below);
      so_far = subst P (sym items) (found_more c.args.symbols.now c.args.kind c.args.name.now c.args.entries.now
          c.block_begin-begin.result c.loop-end.end found block (omega (arith, below))
          (c.as_slice.ensures.value ∙ c.in_ok-block.ensures) c.loop-end.invariant.so_far);
    }
