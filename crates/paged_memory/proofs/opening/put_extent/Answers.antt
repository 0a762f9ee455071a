-- The place after all that begin at or below it.
use Rattle.std.proofs.Common.{◌∙◌, arith, ap, length}
use Rattle.image_memory.specs.laws.PutLaws.{insert_is_put}
use Rattle.paged_memory.specs.Pages.{extent_range}
use Rattle.paged_memory.proofs.opening.put_extent.Goals as goal

pub returns-clause-items : goal.returns-clause-items
returns-clause-items c =
    let es = c.args.extents.now in
    let value = c.as_slice.ensures.value in
    let same = ap length value in
    let from = c.from.ensures in
    let n = c.begun-at.result in
    let bound = c.begun-at.ensures.bound in
    c.insert_spare.ensures.items
    ∙ insert_is_put extent_range c.args.extent es.items n (omega arith)
    (λ k d l. let h = (rw value at c.begun-at.ensures.below) k d (omega arith) l in omega arith)
    (λ k d l m. let h = (rw value at c.begun-at.ensures.above) k d l m in omega arith)
