-- Each byte of one extent is as good as its first.
use Rattle.std.proofs.Common.{◌≡◌, ◌+◌, ◌-◌, ◌<◌, ◌≤◌, arith, sym, refl, ap, ◌∙◌, Some, None, get_or, length, inl, inr}
use Rattle.image_memory.specs.Ranges.{lies_in}
use Rattle.image_memory.specs.Access.{first_fault, access_fault}
use Rattle.ks_base.specs.declared.refusals.Fault.TheVariants.{Unmapped}
use Rattle.image_memory.specs.laws.RangeLaws.{found_along, found_here, nowhere, within, above, below, lows_rise, one_after}
use Rattle.image_memory.specs.laws.RangeLaws.{each_above}
use Rattle.image_memory.specs.laws.ByteLaws.{fault_stops, fault_more, access_none, earlier_or_later}
use Rattle.paged_memory.specs.Pages.{extent_range, extent_at, extent_fault}
use Rattle.paged_memory.specs.declared.types.Extent.{Extent}
use Rattle.image_memory.specs.declared.types.Kind.TheVariants.{Code}
use Rattle.image_memory.specs.laws.AccessLaws.{all_good, good_at}
use Rattle.paged_memory.proofs.ListLaws.{same_at}
use Rattle.paged_memory.proofs.PageLaws.{ranked}
use Rattle.paged_memory.proofs.extents.first_fault.Goals as goal

pub loop-done-init : goal.loop-done-init
unfolding first_fault
loop-done-init c = record {
  bound = c.requires.within;
  small = let l = c.requires.low in omega arith;
  before = λ k d l. let b = c.requires.before k d (omega arith) l in omega arith;
  from = λ k d l m. let b = c.requires.from k d l m in omega arith;
  good = refl;
}

pub returns-then-next-extents : goal.returns-then-next-extents
returns-then-next-extents c =
    let es = c.args.extents.now in
    let here = c.args.address + c.loop-done.done in
    let all = c.if-next-extents.true in
    let gone : extent_at es here ≡ None = nowhere (λ e. lies_in here (extent_range e)) es (λ k d l.
    let b = c.loop-done.invariant.before k d (omega arith) in above here (extent_range (get_or es k d)) b) in
    let bad : extent_fault c.args.access es here ≡ Some Unmapped = rw gone (access_none c.args.access) in
    sym (fault_stops (extent_fault c.args.access es) c.args.address c.loop-done.done c.args.count Unmapped
    c.loop-done.invariant.good bad c.loop-done-test.true)

-- the extent at the loop's place
abbrev none_yet : Extent
none_yet = record { kind = Code; base = 0; length = 0 }

pub returns-then-from-address : goal.returns-then-from-address
returns-then-from-address c =
    let es = c.args.extents.now in
    let here = c.args.address + c.loop-done.done in
    let next = c.loop-done.next in
    let n : next < length es = let b = c.loop-done.invariant.bound in omega arith in
    let over : here < (get_or es next none_yet).base = let b = c.if-from-address.true in let e = c.from.ensures in omega arith in
    let gone : extent_at es here ≡ None = nowhere (λ e. lies_in here (extent_range e)) es (λ k d l.
    elim (earlier_or_later k next) [
      | inl before ↦
          let b = c.loop-done.invariant.before k d before in above here (extent_range (get_or es k d)) b
      | inr behind ↦
          let rise = lows_rise extent_range 0 es c.requires.ascend next k d behind l in
          let at = ap (λ (e : Extent). e.base) (same_at es next none_yet d n) in
          below here (extent_range (get_or es k d)) (omega arith)
    ]) in
    let bad : extent_fault c.args.access es here ≡ Some Unmapped = rw gone (access_none c.args.access) in
    sym (fault_stops (extent_fault c.args.access es) c.args.address c.loop-done.done c.args.count Unmapped
    c.loop-done.invariant.good bad c.loop-done-test.true)

pub returns-in-Some : goal.returns-in-Some
returns-in-Some c =
    let es = c.args.extents.now in
    let here = c.args.address + c.loop-done.done in
    let next = c.loop-done.next in
    let n : next < length es = let b = c.loop-done.invariant.bound in omega arith in
    let base : (get_or es next none_yet).base ≤ here = let b = c.if-from-address.false in let e = c.from.ensures in omega arith in
    let ends = c.loop-done.invariant.from next none_yet (omega arith) n in
    let held : extent_at es here ≡ Some (get_or es next none_yet) = found_here extent_range 0 es here next none_yet
    c.requires.ascend n (within here (extent_range (get_or es next none_yet)) base ends) in
    let bad : extent_fault c.args.access es here ≡ Some c.in-Some.fault = rw held (sym c.fault.ensures ∙ c.in-Some.is) in
    sym (fault_stops (extent_fault c.args.access es) c.args.address c.loop-done.done c.args.count c.in-Some.fault
    c.loop-done.invariant.good bad c.loop-done-test.true)

pub loop-done-preserved : goal.loop-done-preserved
loop-done-preserved c =
    let es = c.args.extents.now in
    let done = c.loop-done.done in
    let here = c.args.address + done in
    let next = c.loop-done.next in
    let n : next < length es = let b = c.loop-done.invariant.bound in omega arith in
    let base : (get_or es next none_yet).base ≤ here = let b = c.if-from-address.false in let e = c.from.ensures in omega arith in
    let ends = c.loop-done.invariant.from next none_yet (omega arith) n in
    let end : c.end.result ≡ (get_or es next none_yet).base + (get_or es next none_yet).length = c.end.ensures in
    let held : extent_at es here ≡ Some (get_or es next none_yet) = found_here extent_range 0 es here next none_yet
    c.requires.ascend n (within here (extent_range (get_or es next none_yet)) base ends) in
    let good : access_fault c.args.access (Some (get_or es next none_yet).kind) ≡ None = sym c.fault.ensures ∙ c.in_default.is in
    let fits = c.end.type_inv in
    record {
      bound = omega arith;
      small = omega arith;
      before = λ k d l. elim (ranked k next (omega arith)) [
        | inl e ↦
            let at = ap (λ (x : Extent). x.base + x.length) (same_at es next none_yet d n) in
            rw e (omega (arith, at))
        | inr b ↦ let h = c.loop-done.invariant.before k d b in omega arith
      ];
      from = λ k d l m.
          let later = one_after extent_range 0 es next k d c.requires.ascend (omega arith) m in
          let full = each_above extent_range 0 es k d c.requires.ascend m in
          let at = ap (λ (x : Extent). x.base + x.length) (same_at es next none_yet d n) in
          omega arith;
      good = fault_more (extent_fault c.args.access es) c.args.address done (c.end.result - c.args.address)
          c.loop-done.invariant.good
          (λ k l m.
          let along = found_along extent_range 0 es here (c.args.address + k) (get_or es next none_yet) c.requires.ascend
          held (omega arith) (omega arith) in
          rw along good);
    }

pub returns : goal.returns
returns c =
    sym (all_good (extent_fault c.args.access c.args.extents.now) c.args.address c.args.count
    (λ k l. good_at (extent_fault c.args.access c.args.extents.now) c.args.address c.loop-done.done k
    c.loop-done.invariant.good (let b = c.loop-done-test.false in omega arith)))
