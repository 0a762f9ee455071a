use Rattle.extract_post.proofs.Placed.{constants, interiors, new_data, added}
use Rattle.extract_post.proofs.laws.placed_sections_bring_what_they_name.Goals as goal

pub returns-clause-constants : goal.returns-clause-constants
returns-clause-constants c = constants

pub returns-clause-interiors : goal.returns-clause-interiors
returns-clause-interiors c = interiors

pub returns-clause-new_data : goal.returns-clause-new_data
returns-clause-new_data c = new_data

pub returns-clause-added : goal.returns-clause-added
returns-clause-added c = added
