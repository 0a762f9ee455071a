use Rattle.image_file.proofs.ImageRead.{image_read}
use Rattle.image_file.proofs.laws.spelling_is_read.Goals as goal

pub returns : goal.returns
returns c = image_read
