-- The pages that are left are at most half after each step.
use Rattle.std.proofs.Common.{ℕ, ◌+◌, ◌-◌, ◌/◌, ◌<◌, length, arith, ap, inl, inr}
use Rattle.std.proofs.lemmas.List.{get_or_read}
use Rattle.paged_memory.specs.declared.types.Page.{Page}
use Rattle.paged_memory.proofs.PageLaws.{numbers_rise, step_halves, step_small, ranked}
use Rattle.paged_memory.proofs.search.place.Goals as goal

pub loop-low-preserved-then-here-number : goal.loop-low-preserved-then-here-number
loop-low-preserved-then-here-number g c =
    let pages = c.args.pages.now in
    let low = c.loop-low.low in
    let high = c.loop-low.high in
    let i = c.loop-low.invariant in
    let order = i.order in
    let some = c.loop-low-test.true in
    let bound = i.bound in
    let middle : ℕ = low + (high - low) / 2 in
    let m : middle < length pages = omega arith in
    let less = c.if-here-number.true in
    let here = c.number_of-here.ensures.number in
    record {
      order = omega arith;
      bound = bound;
      before = λ k d l. elim (ranked k middle (omega arith)) [
        | inl e ↦
            let at = get_or_read pages middle c.index-pages-middle.result m c.index-pages-middle.is d in
            let at' = ap (λ (p : Page). p.number) at in
            rw e (omega (arith, at', less, here))
        | inr b ↦
            let rise = numbers_rise pages k middle d c.requires b m in
            let at = get_or_read pages middle c.index-pages-middle.result m c.index-pages-middle.is d in
            let at' = ap (λ (p : Page). p.number) at in
            omega (arith, at', less, here, rise)
      ];
      above = i.above;
      rise = let r = i.rise in let s = c.number_of-here.ensures.step in omega arith;
      cost = rw c.number_of-here.ensures.step
          (step_halves c.args.steps.now c.loop-low.steps (length pages) (high - low) (high - (middle + 1)) i.rise i.cost
          (omega arith));
      small = rw c.number_of-here.ensures.step
          (step_small c.args.steps.now c.loop-low.steps (length pages) (high - low) i.rise i.cost (omega arith));
    }

pub loop-low-preserved : goal.loop-low-preserved
loop-low-preserved g c =
    let pages = c.args.pages.now in
    let low = c.loop-low.low in
    let high = c.loop-low.high in
    let i = c.loop-low.invariant in
    let order = i.order in
    let some = c.loop-low-test.true in
    let bound = i.bound in
    let middle : ℕ = low + (high - low) / 2 in
    let m : middle < length pages = omega arith in
    let more = c.if-number-here.true in
    let here = c.number_of-here.ensures.number in
    record {
      order = omega arith;
      bound = omega arith;
      before = i.before;
      above = λ k d l n.
          let at = get_or_read pages middle c.index-pages-middle.result m c.index-pages-middle.is d in
          let at' = ap (λ (p : Page). p.number) at in
          elim (ranked middle k (omega arith)) [
            | inl e ↦ rw (← e) (omega (arith, at', more, here))
            | inr b ↦ let rise = numbers_rise pages middle k d c.requires b n in omega (arith, at', more, here, rise)
          ];
      rise = let r = i.rise in let s = c.number_of-here.ensures.step in omega arith;
      cost = rw c.number_of-here.ensures.step
          (step_halves c.args.steps.now c.loop-low.steps (length pages) (high - low) (middle - low) i.rise i.cost
          (omega arith));
      small = rw c.number_of-here.ensures.step
          (step_small c.args.steps.now c.loop-low.steps (length pages) (high - low) i.rise i.cost (omega arith));
    }

pub returns-else-number-here-clause-cost : goal.returns-else-number-here-clause-cost
returns-else-number-here-clause-cost g c =
    let i = c.loop-low.invariant in
    let some = c.loop-low-test.true in
    rw c.number_of-here.ensures.step
    (step_small c.args.steps.now c.loop-low.steps (length c.args.pages.now) (c.loop-low.high - c.loop-low.low) i.rise
    i.cost (omega arith))
