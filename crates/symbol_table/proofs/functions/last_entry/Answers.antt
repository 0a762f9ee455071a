use Rattle.std.proofs.Common.{◌≡◌, ◌≤◌, ◌∙◌, length, drop, Option, sym, ap, subst, arith}
use Rattle.std.specs.Prelude.{IfSome}
use Rattle.std.proofs.lemmas.List.{drop_all}
use Rattle.symbol_table.specs.declared.entries.Entry.{Entry}
use Rattle.symbol_table.specs.inside.Entries.{address_less}
use Rattle.symbol_table.specs.inside.Functions.{greater_entry, entry_below}
use Rattle.symbol_table.proofs.BlockLaws.{block_sorted_at}
use Rattle.symbol_table.proofs.FunctionLaws.{last_more, below_reaches}
use Rattle.symbol_table.proofs.functions.last_entry.Goals as goal

pub loop-end-init : goal.loop-end-init
loop-end-init c =
    let entries = c.args.entries.now in
    record {
      within = omega arith;
      so_far =
          sym (ap (entry_below c.args.address) (drop_all (length entries) entries (omega arith)));
    }

pub last_in_block-requires : goal.last_in_block-requires
last_in_block-requires c = block_sorted_at address_less c.args.entries.now _ c.loop-end.end
    c.block_begin-begin.ensures.value c.requires c.loop-end.invariant.within

pub loop-end-preserved : goal.loop-end-preserved
loop-end-preserved c =
    let within = c.loop-end.invariant.within in
    let below = c.block_begin-begin.ensures.below in
    let block = c.last_in_block.result in
    record {
      within = omega (arith, within, below);
      so_far =
          c.greater_entry-last.ensures ∙ ap (greater_entry block) c.loop-end.invariant.so_far
          ∙ ap (λ o. greater_entry o (entry_below c.args.address (drop c.loop-end.end c.args.entries.now)))
          c.last_in_block.ensures
          ∙ last_more c.args.address c.args.entries.now c.block_begin-begin.result c.loop-end.end
          (omega (arith, below));
    }

pub returns-clause-found : goal.returns-clause-found
returns-clause-found c =
    let e : c.loop-end.end ≡ 0 = omega arith in
    c.loop-end.invariant.so_far ∙ ap (λ n. entry_below c.args.address (drop n c.args.entries.now)) e

pub returns-clause-below : goal.returns-clause-below
returns-clause-below c =
    let P : Option Entry → Type 0 = λ o. IfSome o (λ entry. entry.address ≤ c.args.address) in
    subst P (sym c.loop-end.invariant.so_far) (below_reaches c.args.address (drop c.loop-end.end c.args.entries.now))
