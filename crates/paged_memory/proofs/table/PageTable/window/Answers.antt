-- The code from an address on is what pages have there.
use Rattle.std.proofs.Common.{◌≡◌, ℕ, ◌+◌, ◌-◌, ◌∙◌, ap, subst, arith, None, Some, Ok, Option, List, drop, cond, true}
use Rattle.image_memory.specs.declared.types.Kind.{Kind}
use Rattle.image_memory.specs.declared.types.Window.{Window}
use Rattle.image_memory.specs.Contents.{Contents, Retired}
use Rattle.image_memory.specs.Fetch.{shown, is_code}
use Rattle.image_memory.specs.Ranges.{lies_in}
use Rattle.image_memory.specs.laws.RangeLaws.{within}
use Rattle.paged_memory.specs.Pages.{extent_range, pieces_of, stored_from}
use Rattle.paged_memory.specs.declared.table.PageTable.{PageTable}
use Rattle.paged_memory.specs.declared.types.Extent.{Extent}
use Rattle.paged_memory.proofs.UseLaws.{code_none, code_some, holder_is, held_here}
use Rattle.paged_memory.proofs.PutLaws.{paged_at}
use Rattle.paged_memory.proofs.WindowLaws.{window_none, window_code, window_retired}
use Rattle.paged_memory.proofs.table.PageTable.window.Goals as goal

-- the memory of these pieces and retired ranges
abbrev memory : PageTable → Retired → Contents
memory t retired = record { pieces = pieces_of t.extents.items t.pages.items; fences = retired.fences }

-- the code of an extent, by its kind
abbrev code_of : PageTable → ℕ → Extent → Kind → Option (List ℕ)
code_of t pc e kind = cond (is_code kind) (Some (drop (pc - e.base) (stored_from t.pages.items e.base e.length))) None

pub returns-in_default-clause-exact : goal.returns-in_default-clause-exact
returns-in_default-clause-exact c =
    let t = c.args.self.now in
    window_none (memory t c.args.retired.now) c.args.pc (code_none t.extents.items t.pages.items c.args.pc c.in_default.ensures)

pub overflow_sub-end : goal.overflow_sub-end
overflow_sub-end c =
    let t = c.args.self.now in
    let e = c.index.result.now in
    let is = holder_is t.extents.items c.args.pc c.in-Some.spot.extent e c.in-Some.ensures.extent c.index.ensures in
    let here = held_here t.extents.items c.args.pc e is in
    let high = here.1 in
    omega arith

pub window_of-requires-clause-had : goal.window_of-requires-clause-had
window_of-requires-clause-had c =
    let t = c.args.self.now in
    let at = c.in-Some.spot.extent in
    let e = c.index.result.now in
    let is = holder_is t.extents.items c.args.pc at e c.in-Some.ensures.extent c.index.ensures in
    let here = held_here t.extents.items c.args.pc e is in
    let low = here.0 in
    let high = here.1 in
    rw c.as_slice.ensures.value (λ k l.
    let among = within (c.args.pc + k) (extent_range e) (omega arith) (omega arith) in
    paged_at t.extents.items t.pages.items at (c.args.pc + k) e t.ascend t.covered c.in-Some.ensures.extent.within
    (subst (λ (x : Extent). lies_in (c.args.pc + k) (extent_range x) ≡ true) c.index.ensures among))

pub returns-in_default-limit-clause-exact : goal.returns-in_default-limit-clause-exact
returns-in_default-limit-clause-exact c =
    let t = c.args.self.now in
    let e = c.index.result.now in
    let is = holder_is t.extents.items c.args.pc c.in-Some.spot.extent e c.in-Some.ensures.extent c.index.ensures in
    window_retired (memory t c.args.retired.now) c.args.pc _ c.in_default-limit.ensures.limit
    (code_some t.extents.items t.pages.items c.args.pc e is ∙ ap (code_of t c.args.pc e) c.in-Code.is)

pub returns-in-Some-limit-clause-exact : goal.returns-in-Some-limit-clause-exact
returns-in-Some-limit-clause-exact c =
    let t = c.args.self.now in
    let e = c.index.result.now in
    let is = holder_is t.extents.items c.args.pc c.in-Some.spot.extent e c.in-Some.ensures.extent c.index.ensures in
    let shows : c.window_of.result ≡ shown (stored_from t.pages.items c.args.pc c.min-count.result) =
    rw c.as_slice.ensures.value at c.window_of.ensures.shown in
    ap (λ (w : Window). Ok w) shows
    ∙ window_code t.extents.items t.pages.items c.args.retired.now.fences c.args.pc c.in-Some-limit.limit c.min-count.result e
    c.in-Some-limit.ensures.limit is c.in-Code.is (omega arith)

pub returns-in-ReadOnly-clause-exact : goal.returns-in-ReadOnly-clause-exact
returns-in-ReadOnly-clause-exact c =
    let t = c.args.self.now in
    let e = c.index.result.now in
    let is = holder_is t.extents.items c.args.pc c.in-Some.spot.extent e c.in-Some.ensures.extent c.index.ensures in
    window_none (memory t c.args.retired.now) c.args.pc
    (code_some t.extents.items t.pages.items c.args.pc e is ∙ ap (code_of t c.args.pc e) c.in-ReadOnly.is)

pub returns-in-Writable-clause-exact : goal.returns-in-Writable-clause-exact
returns-in-Writable-clause-exact c =
    let t = c.args.self.now in
    let e = c.index.result.now in
    let is = holder_is t.extents.items c.args.pc c.in-Some.spot.extent e c.in-Some.ensures.extent c.index.ensures in
    window_none (memory t c.args.retired.now) c.args.pc
    (code_some t.extents.items t.pages.items c.args.pc e is ∙ ap (code_of t c.args.pc e) c.in-Writable.is)
