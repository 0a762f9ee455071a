use Rattle.image_file.proofs.ImageSpelled.{image_back}
use Rattle.image_file.proofs.laws.read_is_spelled.Goals as goal

pub returns : goal.returns
returns c = image_back
