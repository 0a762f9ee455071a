use Rattle.link_post.proofs.ExactGaps.{exactly_left, left_of_things, between_gaps}
use Rattle.image_memory.specs.Contents.{piece_range}
use Rattle.link_post.proofs.arena_laws.gaps_are_all_that_is_free.Goals as goal

pub returns-clause-exactly : goal.returns-clause-exactly
returns-clause-exactly c free taken address = exactly_left address free taken

pub returns-clause-pieces : goal.returns-clause-pieces
returns-clause-pieces c free pieces address = left_of_things piece_range address free pieces

pub returns-clause-between : goal.returns-clause-between
returns-clause-between c range taken = between_gaps range taken
