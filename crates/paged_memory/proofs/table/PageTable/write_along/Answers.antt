-- Why a write fails.
use Rattle.std.proofs.Common.{◌∙◌, length}
use Rattle.image_memory.specs.Access.{write_fault}
use Rattle.image_memory.specs.declared.types.Access.TheVariants.{Write}
use Rattle.paged_memory.specs.Pages.{extent_fault, pieces_of}
use Rattle.paged_memory.proofs.UseLaws.{write_fault_is, first_same}
use Rattle.paged_memory.proofs.table.PageTable.write_along.Goals as goal

pub returns-in-Ok-clause-cause : goal.returns-in-Ok-clause-cause
returns-in-Ok-clause-cause c =
    let t = c.args.self.now in
    first_same (write_fault (pieces_of t.extents.items t.pages.items)) (extent_fault Write t.extents.items) c.args.address
    (length c.args.from.now) (write_fault_is t.extents.items t.pages.items) ∙ c.in-Ok.ensures.good

pub returns-in-Err-clause-cause : goal.returns-in-Err-clause-cause
returns-in-Err-clause-cause c =
    let t = c.args.self.now in
    first_same (write_fault (pieces_of t.extents.items t.pages.items)) (extent_fault Write t.extents.items) c.args.address
    (length c.args.from.now) (write_fault_is t.extents.items t.pages.items) ∙ c.in-Err.ensures
