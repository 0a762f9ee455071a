-- Where no extent has the first byte it is unmapped.
use Rattle.std.proofs.Common.{◌≡◌, ◌+◌, arith, refl, sym, ◌∙◌, None, Some}
use Rattle.ks_base.specs.declared.refusals.Fault.TheVariants.{Unmapped}
use Rattle.image_memory.specs.Access.{first_fault}
use Rattle.image_memory.specs.laws.ByteLaws.{fault_stops, access_none}
use Rattle.paged_memory.specs.Pages.{extent_at, extent_fault}
use Rattle.paged_memory.proofs.UseLaws.{holder_before, holder_from, home_below}
use Rattle.paged_memory.proofs.table.PageTable.usable.Goals as goal

pub returns-then-count-eq0 : goal.returns-then-count-eq0
unfolding first_fault
returns-then-count-eq0 c =
    let e = c.if-count-eq0.true in
    rw e (record {
      good = refl;
      bound = omega arith;
      below = λ k d l. absurd (omega arith);
      home = λ l. absurd (omega arith);
    })

pub returns-in_default : goal.returns-in_default
unfolding first_fault
returns-in_default c =
    let es = c.args.self.now.extents.items in
    let none : extent_at es c.args.address ≡ None = c.in_default.ensures in
    let here : c.args.address + 0 ≡ c.args.address = omega arith in
    let bad : extent_fault c.args.access es (c.args.address + 0) ≡ Some Unmapped = rw (here, none) (access_none c.args.access) in
    fault_stops (extent_fault c.args.access es) c.args.address 0 c.args.count Unmapped refl bad (omega arith)

pub first_fault-requires-clause-before : goal.first_fault-requires-clause-before
first_fault-requires-clause-before c =
    let t = c.args.self.now in
    rw (c.as_slice-extents.ensures.value, c.from.ensures) (λ k d l m.
    holder_before t.extents.items c.args.address c.in-Some.spot.extent k d t.ascend c.in-Some.ensures.extent m)

pub first_fault-requires-clause-from : goal.first_fault-requires-clause-from
first_fault-requires-clause-from c =
    let t = c.args.self.now in
    rw (c.as_slice-extents.ensures.value, c.from.ensures) (λ k d l m.
    holder_from t.extents.items c.args.address c.in-Some.spot.extent k d t.ascend c.in-Some.ensures.extent l m)

pub returns-in-None : goal.returns-in-None
returns-in-None c =
    let t = c.args.self.now in
    let page = c.in-Some.ensures.page in
    let told : c.first_fault.result ≡ first_fault (extent_fault c.args.access t.extents.items) c.args.address c.args.count
    = rw (c.as_slice-extents.ensures.value, c.from.ensures) at c.first_fault.ensures in
    record {
      good = sym told ∙ c.in-None.is;
      bound = let l = page.within in omega arith;
      below = λ k d l. home_below t.pages.items c.args.address c.in-Some.spot.page k d t.sorted page l;
      home = λ l. page;
    }
