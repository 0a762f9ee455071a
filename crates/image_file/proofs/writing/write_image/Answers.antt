use Rattle.std.proofs.Common.{◌≡◌, rules}
use Rattle.image_file.specs.Spelling.{spelling}
use Rattle.image_file.specs.Seen.{contents_of}
use Rattle.image_file.proofs.writing.write_image.Goals as goal

pub returns-clause-read_again : goal.returns-clause-read_again
unfolding spelling
returns-clause-read_again c =
    let exact : c.from_vec.result ≡ spelling (contents_of c.args.image.now) = search rules in
    rw exact c.written_is_read.ensures
