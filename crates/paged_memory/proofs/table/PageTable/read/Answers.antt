-- What pieces have is what pages have.
use Rattle.std.proofs.Common.{◌≡◌, ◌+◌, sym, ◌∙◌, length}
use Rattle.image_memory.specs.Access.{read_fault}
use Rattle.image_memory.specs.laws.AccessLaws.{good_at}
use Rattle.image_memory.specs.declared.types.Access.TheVariants.{Read}
use Rattle.paged_memory.specs.Pages.{extent_fault, pieces_of, stored_from}
use Rattle.paged_memory.proofs.UseLaws.{read_fault_is, first_same, held_where_good, bytes_is}
use Rattle.paged_memory.proofs.table.PageTable.read.Goals as goal

pub returns-in-Some-clause-ok : goal.returns-in-Some-clause-ok
returns-in-Some-clause-ok c =
    let t = c.args.self.now in
    let copied : c.copy_part.new.into ≡ stored_from t.pages.items c.args.address (length c.args.into.now) =
    rw (c.as_slice.ensures.value, c.from.ensures) at c.copy_part.ensures in
    copied ∙ sym (bytes_is t.extents.items t.pages.items c.args.address (length c.args.into.now) (λ k l.
    held_where_good Read t.extents.items (c.args.address + k) (good_at (extent_fault Read t.extents.items) c.args.address
    (length c.args.into.now) k c.in-Some.ensures.usable.good l)))

pub returns-in-Some-clause-cause : goal.returns-in-Some-clause-cause
returns-in-Some-clause-cause c =
    let t = c.args.self.now in
    first_same (read_fault (pieces_of t.extents.items t.pages.items)) (extent_fault Read t.extents.items) c.args.address
    (length c.args.into.now) (read_fault_is t.extents.items t.pages.items) ∙ c.in-Some.ensures.usable.good
