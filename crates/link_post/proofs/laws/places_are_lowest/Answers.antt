use Rattle.link_post.proofs.LowestLaws.{is_lowest, fits_nowhere, placed_low, finds_no_room}
use Rattle.link_post.proofs.laws.places_are_lowest.Goals as goal

pub returns-clause-some : goal.returns-clause-some
returns-clause-some c section free base at = is_lowest section free base at

pub returns-clause-none : goal.returns-clause-none
returns-clause-none c section free none = fits_nowhere section free none

pub returns-clause-places : goal.returns-clause-places
returns-clause-places c sections free places is = placed_low sections free places is

pub returns-clause-refused : goal.returns-clause-refused
returns-clause-refused c sections free refusal is = finds_no_room sections free refusal is
