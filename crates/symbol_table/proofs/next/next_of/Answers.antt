use Rattle.std.proofs.Common.{◌≡◌, ℕ, List, length, drop, refl, sym, subst, Option, None, arith}
use Rattle.std.proofs.lemmas.List.{drop_all}
use Rattle.symbol_table.specs.declared.entries.Entry.{Entry}
use Rattle.symbol_table.specs.inside.Entries.{address_less}
use Rattle.symbol_table.specs.inside.Next.{any_address, IsNext}
use Rattle.symbol_table.proofs.BlockLaws.{block_sorted_at}
use Rattle.symbol_table.proofs.NextLaws.{next_more}
use Rattle.symbol_table.proofs.next.next_of.Goals as goal

pub loop-end-init : goal.loop-end-init
loop-end-init c =
    let entries = c.args.entries.now in
    let P : List Entry → Type 0 = λ es. IsNext c.args.address (any_address es) None in
    record { within = omega arith; so_far = subst P (sym (drop_all (length entries) entries (omega arith))) refl }

pub next_in_block-requires : goal.next_in_block-requires
next_in_block-requires c = block_sorted_at address_less c.args.entries.now _ c.loop-end.end
    c.block_begin-begin.ensures.value c.requires c.loop-end.invariant.within

pub loop-end-preserved : goal.loop-end-preserved
loop-end-preserved c =
    let within = c.loop-end.invariant.within in
    let below = c.block_begin-begin.ensures.below in
    let entries = c.args.entries.now in
    let P : Option ℕ → Type 0 = IsNext c.args.address (any_address (drop c.block_begin-begin.result entries)) in
    record {
      within = omega (arith, within, below);
      so_far = subst P (sym c.lesser-next.ensures)
          (next_more c.args.address entries c.block_begin-begin.result c.loop-end.end _ _
          (omega (arith, below)) c.next_in_block.ensures c.loop-end.invariant.so_far);
    }

pub returns : goal.returns
returns c =
    let e : c.loop-end.end ≡ 0 = omega arith in
    let P : ℕ → Type 0 = λ n. IsNext c.args.address (any_address (drop n c.args.entries.now)) c.loop-end.next in
    subst P e c.loop-end.invariant.so_far
