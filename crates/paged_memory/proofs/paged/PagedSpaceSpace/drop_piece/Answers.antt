-- No range is spare then.
use Rattle.std.proofs.Common.{arith}
use Rattle.paged_memory.proofs.MissingLaws.{missing-none}
use Rattle.paged_memory.proofs.paged.PagedSpaceSpace.drop_piece.Goals as goal

pub invariant_of-self-clause-block_room : goal.invariant_of-self-clause-block_room
invariant_of-self-clause-block_room c =
    let none = missing-none c.remove.new.self.pages.items in
    rw c.clear.ensures (omega (arith, none))
