-- The extent that has the one byte is found at its address.
use Rattle.std.proofs.Common.{arith}
use Rattle.image_memory.specs.laws.RangeLaws.{found_here, within}
use Rattle.paged_memory.specs.Pages.{extent_range}
use Rattle.paged_memory.proofs.table.PageTable.spot_at.Goals as goal

pub returns-in-Some : goal.returns-in-Some
returns-in-Some c =
    let t = c.args.self.now in
    let near = c.in-Some.ensures in
    record {
      page = near.page;
      extent = record {
        within = near.extent;
        is = λ d.
            let low = near.low d in
            let high = near.high d in
            found_here extent_range 0 t.extents.items c.args.address c.in-Some.spot.extent d t.ascend near.extent
            (within c.args.address _ (omega arith) (omega arith));
      };
    }
