-- A word below or above all ranges is an address of none.
use Rattle.std.proofs.Common.{ℕ, List, refl, arith, sym, inl, inr}
use Rattle.ks_base.specs.declared.places.Range.{Range}
use Rattle.stack_scan.specs.declared.slots.Slots.{Slots}
use Rattle.stack_scan.specs.inside.Cuts.{IsCut}
use Rattle.stack_scan.proofs.TargetLaws.{outside}
use Rattle.stack_scan.proofs.targets.Targets.has.Goals as goal
use Rattle.stack_scan.proofs.targets.Targets.has.Goals.{then-word-self-via-then-word-self}
use Rattle.stack_scan.proofs.targets.Targets.has.Goals.{then-word-self-via-else-word-self+then-word-self-2}

pub returns-then-word-self : goal.returns-then-word-self
returns-then-word-self c =
    let t = c.self.inside in
    rw (sym c.self.view_is) (sym (outside t.low t.high c.args.word t.ranges.now c.self.invariant.0
    (elim c.then-word-self.branch [
      | then-word-self-via-then-word-self w ↦ inl (omega arith)
      | then-word-self-via-else-word-self+then-word-self-2 w ↦ inr (omega arith)
    ])))

from_its_low : (slots : Slots) (low high : ℕ) (ranges : List Range)
    → IsCut slots low high ranges → IsCut slots slots.low high ranges
from_its_low slots low high ranges cut =
    let first = cut.first in
    let reach = cut.reach in
    record {
      first = refl;
      shift = cut.shift;
      reach = omega (arith, first, reach);
      ended = cut.ended;
    }

-- the slots are those of these bounds and ranges
pub has-requires-clause-order : goal.has-requires-clause-order
has-requires-clause-order c =
    let known = c.self.invariant.1 c.in-Some.slots c.in-Some.is in
    known.0

pub has-requires-clause-slots : goal.has-requires-clause-slots
has-requires-clause-slots c =
    let known = c.self.invariant.1 c.in-Some.slots c.in-Some.is in
    from_its_low c.in-Some.slots c.self.inside.low c.self.inside.high c.self.inside.ranges.now known.1

pub has-requires-clause-above : goal.has-requires-clause-above
has-requires-clause-above c =
    let known = c.self.invariant.1 c.in-Some.slots c.in-Some.is in
    let first = known.1.first in
    omega (arith, first)
