use Rattle.code_listing.proofs.ListingLaws.{go_forward, below_end, at_end}
use Rattle.code_listing.proofs.laws.lines_follow_one_another.Goals as goal

pub returns-clause-below : goal.returns-clause-below
returns-clause-below c = below_end (go_forward c.run_code_goes_on.ensures.some_bytes c.run_code_goes_on.ensures.place)

pub returns-clause-end : goal.returns-clause-end
returns-clause-end c = at_end
