-- The last item is the last one.
use Rattle.std.proofs.Common.{◌≡◌, ◌-◌, List, length, ap, ◌∙◌}
use Rattle.std.specs.List.{slice_get}
use Rattle.ia32_step.specs.declared.types.Frame.{Frame}
use Rattle.frame_watch.specs.Frames.{Watched}
use Rattle.frame_watch.proofs.FrameLaws.{last_of}
use Rattle.frame_watch.proofs.thread.ThreadFrames.last.Goals as goal

pub returns : goal.returns
returns c =
    let same : c.self.inside.frames.items ≡ c.args.self.now.frames = ap (λ (w : Watched). w.frames) c.self.view_is in
    c.copied.ensures
    ∙ (c.last.ensures.value
    ∙ (ap (λ (fs : List Frame). slice_get fs (length fs - 1)) (c.deref.ensures.value ∙ same)
    ∙ last_of c.args.self.now.frames))
