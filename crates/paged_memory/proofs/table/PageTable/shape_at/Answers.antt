-- The shape of a piece is that of its extent: its bytes are as many.
use Rattle.std.proofs.Common.{refl, sym, ap, ◌∙◌}
use Rattle.std.specs.List.{slice_get}
use Rattle.std.proofs.lemmas.Option.{slice_get-map, slice_get_read}
use Rattle.paged_memory.specs.Pages.{piece_of}
use Rattle.paged_memory.proofs.PageLaws.{length-stored_from}
use Rattle.paged_memory.proofs.table.PageTable.shape_at.Goals as goal

pub returns : goal.returns
returns c =
    let table = c.args.self.now in
    let extent = c.in_ok-extent.extent.now in
    let at = c.in_ok-extent.ensures.lookup in
    let found = ap (λ extents. slice_get extents c.args.i) (sym c.as_slice.ensures.value)
    ∙ slice_get_read c.as_slice.result.now _ c.args.i extent refl at.3.0 at.1 in
    rw (
      slice_get-map (piece_of table.pages.items) table.extents.items c.args.i,
      found,
      c.range.ensures,
      length-stored_from table.pages.items extent.base extent.length,
    ) refl
