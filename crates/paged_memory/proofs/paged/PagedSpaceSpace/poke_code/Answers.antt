-- No page goes, and no block is taken.
use Rattle.paged_memory.proofs.paged.PagedSpaceSpace.poke_code.Goals as goal

pub invariant_of-self-clause-block_room : goal.invariant_of-self-clause-block_room
invariant_of-self-clause-block_room c =
    let space = c.args.self.now in
    let same = c.poke.ensures.missing space.spare_ranges in
    let room = space.block_room in
    rw (same, c.poke.ensures.blocks) room
