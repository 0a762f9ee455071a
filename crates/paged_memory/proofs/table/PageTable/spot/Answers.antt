-- Where no page has the address, no extent does.
use Rattle.std.proofs.Common.{◌/◌, refl, ap, subst, List}
use Rattle.std.specs.Option.{is_some}
use Rattle.paged_memory.specs.Pages.{extent_at, IsGap}
use Rattle.paged_memory.specs.declared.types.Page.{Page}
use Rattle.paged_memory.proofs.PageLaws.{page_nowhere, is_none}
use Rattle.paged_memory.proofs.table.PageTable.spot.Goals as goal

pub returns-in_default-clause-found : goal.returns-in_default-clause-found
returns-in_default-clause-found g c =
    let t = c.args.self.now in
    let P = λ (ps : List Page). IsGap ps (c.args.address / 4096) c.in_default.field-0 in
    let gap = subst P c.as_slice.ensures.value c.in_default.ensures.found in
    let none = page_nowhere t.pages.items c.args.address (c.args.address / 4096) _ gap refl in
    is_none (extent_at t.extents.items c.args.address) (t.covered c.args.address (ap is_some none))
