-- What pieces have is what pages have.
use Rattle.std.proofs.Common.{◌≡◌, ◌+◌, sym, ◌∙◌, length}
use Rattle.image_memory.specs.Access.{read_fault}
use Rattle.image_memory.specs.laws.AccessLaws.{good_at}
use Rattle.image_memory.specs.declared.types.Access.TheVariants.{Read}
use Rattle.paged_memory.specs.Pages.{extent_fault, pieces_of, stored_from}
use Rattle.paged_memory.proofs.UseLaws.{read_fault_is, first_same, held_where_good, stored_where_good, bytes_is}
use Rattle.paged_memory.proofs.table.PageTable.read_along.Goals as goal

pub copy_out-requires-clause-had : goal.copy_out-requires-clause-had
copy_out-requires-clause-had c =
    let t = c.args.self.now in
    rw (c.as_slice.ensures.value, c.from.ensures) (stored_where_good Read t.extents.items t.pages.items c.args.address
    (length c.args.into.now) t.covered c.in-Ok.ensures.good)

pub returns-in-Ok-clause-ok : goal.returns-in-Ok-clause-ok
returns-in-Ok-clause-ok c =
    let t = c.args.self.now in
    let copied : c.copy_out.new.into ≡ stored_from t.pages.items c.args.address (length c.args.into.now) =
    rw (c.as_slice.ensures.value, c.from.ensures) at c.copy_out.ensures in
    copied ∙ sym (bytes_is t.extents.items t.pages.items c.args.address (length c.args.into.now) (λ k l.
    held_where_good Read t.extents.items (c.args.address + k) (good_at (extent_fault Read t.extents.items) c.args.address
    (length c.args.into.now) k c.in-Ok.ensures.good l)))

pub returns-in-Ok-clause-cause : goal.returns-in-Ok-clause-cause
returns-in-Ok-clause-cause c =
    let t = c.args.self.now in
    first_same (read_fault (pieces_of t.extents.items t.pages.items)) (extent_fault Read t.extents.items) c.args.address
    (length c.args.into.now) (read_fault_is t.extents.items t.pages.items) ∙ c.in-Ok.ensures.good

pub returns-in-Err-clause-cause : goal.returns-in-Err-clause-cause
returns-in-Err-clause-cause c =
    let t = c.args.self.now in
    first_same (read_fault (pieces_of t.extents.items t.pages.items)) (extent_fault Read t.extents.items) c.args.address
    (length c.args.into.now) (read_fault_is t.extents.items t.pages.items) ∙ c.in-Err.ensures
