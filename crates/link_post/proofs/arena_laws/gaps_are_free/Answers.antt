use Rattle.std.proofs.Common.{map}
use Rattle.image_memory.specs.Contents.{piece_range}
use Rattle.link_post.proofs.GapLaws.{all_ascend, all_below, meets_none}
use Rattle.link_post.proofs.arena_laws.gaps_are_free.Goals as goal

pub returns-clause-ascend : goal.returns-clause-ascend
returns-clause-ascend c free pieces up = all_ascend free (map piece_range pieces) up

pub returns-clause-below : goal.returns-clause-below
returns-clause-below c limit free pieces all = all_below limit free (map piece_range pieces) all

pub returns-clause-apart : goal.returns-clause-apart
returns-clause-apart c free pieces = meets_none piece_range free pieces
