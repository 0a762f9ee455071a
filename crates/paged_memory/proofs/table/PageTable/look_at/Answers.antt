-- The byte of the address's page, and the kind of the extent that has it.
use Rattle.std.proofs.Common.{◌≡◌, ◌∙◌, ◌/◌, sym, ap, arith, refl, subst, Some}
use Rattle.image_memory.specs.laws.RangeLaws.{within}
use Rattle.paged_memory.specs.Pages.{page_range, extent_at, stored}
use Rattle.paged_memory.specs.declared.types.Page.{Page}
use Rattle.paged_memory.specs.declared.types.Extent.{Extent}
use Rattle.paged_memory.proofs.ExtentLaws.{look_none, look_some}
use Rattle.paged_memory.proofs.PageLaws.{page_here, stored_is}
use Rattle.paged_memory.proofs.table.PageTable.look_at.Goals as goal

pub returns-in_err-spot : goal.returns-in_err-spot
returns-in_err-spot c =
    let t = c.args.self.now in
    c.from_residual.ensures ∙ sym (look_none t.extents.items t.pages.items c.args.address c.in_err-spot.ensures)

pub byte-byte-requires : goal.byte-byte-requires
byte-byte-requires c =
    let page = c.index.result.now in
    let n = subst (λ (p : Page). p.number ≡ c.args.address / 4096) (sym c.index.ensures)
    (c.in_ok-spot.ensures.page.is page) in
    within c.args.address (page_range page) (omega arith) (omega arith)

pub returns : goal.returns
returns c =
    let t = c.args.self.now in
    let page = c.index.result.now in
    let e = c.index-2.result.now in
    let here : extent_at t.extents.items c.args.address ≡ Some e =
    c.in_ok-spot.ensures.extent.is e ∙ ap (λ (x : Extent). Some x) (sym c.index-2.ensures) in
    let at = page_here t.pages.items c.args.address (c.args.address / 4096) c.in_ok-spot.spot.page page t.sorted
    c.in_ok-spot.ensures.page refl ∙ ap (λ (p : Page). Some p) (sym c.index.ensures) in
    let byte : c.byte-byte.result ≡ stored t.pages.items c.args.address =
    c.byte-byte.ensures ∙ sym (stored_is t.pages.items c.args.address page at) in
    rw byte (sym (look_some t.extents.items t.pages.items c.args.address e here))
