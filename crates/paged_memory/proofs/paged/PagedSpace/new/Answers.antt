-- No range is spare.
use Rattle.std.proofs.Common.{arith}
use Rattle.paged_memory.proofs.MissingLaws.{missing-none}
use Rattle.paged_memory.proofs.paged.PagedSpace.new.Goals as goal

pub invariant_of-result-clause-block_room : goal.invariant_of-result-clause-block_room
invariant_of-result-clause-block_room c =
    let none = missing-none c.in_ok-table.table.pages.items in
    rw c.new-2.ensures (omega (arith, none))
