use Rattle.image_file.specs.Seen.{contents_of}
use Rattle.image_file.proofs.ImageRead.{image_read}
use Rattle.image_file.proofs.laws.written_is_read.Goals as goal

pub returns : goal.returns
returns c = image_read (contents_of c.args.image.now) c.image_keeps_rules.ensures
