use Rattle.update_pieces.proofs.NewTexts.{all_have_text}
use Rattle.update_pieces.proofs.laws.replaced_functions_have_new_text.Goals as goal

pub returns : goal.returns
returns c = all_have_text
