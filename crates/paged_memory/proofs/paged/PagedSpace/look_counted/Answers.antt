-- There are as few pages as pieces need.
use Rattle.std.proofs.Common.{arith}
use Rattle.paged_memory.proofs.CountLaws.{as_few}
use Rattle.paged_memory.proofs.paged.PagedSpace.look_counted.Goals as goal

pub returns-clause-cost : goal.returns-clause-cost
returns-clause-cost g c = λ numbers have.
    let t = c.args.self.now.table in
    let few = as_few t.extents.items t.pages.items numbers t.ascend t.sorted t.first t.last t.some have in
    let cost = c.look.ensures.cost in
    omega (arith, few, cost, t.pages.ok.0)
