use Rattle.std.proofs.Common.{refl}
use Rattle.work_gen.specs.Objects.{old_object, new_object}
use Rattle.work_gen.specs.Work.{work_of}
use Rattle.work_gen.proofs.making.make_work.Goals as goal

pub returns : goal.returns
unfolding work_of old_object new_object
returns c =
    rw (c.in_ok-image.ensures, c.in_ok-pre.ensures, c.in_ok-post.ensures, c.in_ok-script.ensures) refl
