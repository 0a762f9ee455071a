-- The last slot is the least.
use Rattle.std.proofs.Common.{◌≡◌, ◌-◌, List, length, ap, ◌∙◌, sym, refl, Some, None, true}
use Rattle.std.specs.List.{slice_get}
use Rattle.ia32_step.specs.declared.types.Frame.{Frame}
use Rattle.frame_watch.specs.Frames.{Watched}
use Rattle.frame_watch.specs.inside.Kept.{is_in_place, is_based}
use Rattle.frame_watch.proofs.FrameLaws.{in_place_by, in_place_none}
use Rattle.frame_watch.proofs.thread.ThreadFrames.is_in_place.Goals as goal

abbrev shown : goal.After-is_slot → Watched
shown c = record {
  thread = c.self.inside.thread;
  stack = c.self.inside.stack;
  esp = c.self.inside.esp;
  frames =
      c.self.inside.frames.items;
}

pub returns-in-Some : goal.returns-in-Some
returns-in-Some c =
    let fs = c.self.inside.frames.items in
    let same : shown c ≡ c.args.self.now = c.self.view_is in
    let got : slice_get fs (length fs - 1) ≡ Some c.in-Some.frame.now
    = ap (λ (xs : List Frame). slice_get xs (length xs - 1)) (sym c.deref.ensures.value)
    ∙ sym c.in-Some.ensures.value in
    let based : is_based (shown c) ≡ true = ap is_based same ∙ c.requires in
    c.is_slot.ensures
    ∙ (in_place_by (shown c) (length fs - 1) c.in-Some.frame.now c.self.invariant.1 based refl got
    ∙ ap is_in_place same)

pub returns-in-None : goal.returns-in-None
returns-in-None c =
    let fs = c.args.self.now.frames in
    let same : c.self.inside.frames.items ≡ fs = ap (λ (w : Watched). w.frames) c.self.view_is in
    let got : slice_get fs (length fs - 1) ≡ None
    = ap (λ (xs : List Frame). slice_get xs (length xs - 1)) (sym same ∙ sym c.deref.ensures.value)
    ∙ sym c.in-None.ensures.value in
    in_place_none c.args.self.now got
