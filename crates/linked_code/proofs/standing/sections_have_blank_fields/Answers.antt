use Rattle.linked_code.proofs.Blanks.{blank_sections}
use Rattle.linked_code.proofs.standing.sections_have_blank_fields.Goals as goal

pub returns : goal.returns
returns c = blank_sections
