-- There is room for one frame more, and its slot is below all others.
use Rattle.std.proofs.Common.{◌≡◌, ◌∙◌, ◌+◌, ◌≤◌, arith, List, ap, sym, subst, true}
use Rattle.std.specs.List.{All}
use Rattle.std.proofs.lemmas.List.Sums.{AllPass-from_list_all}
use Rattle.ia32_step.specs.declared.types.Frame.{Frame}
use Rattle.ia32_step.specs.Frames.{is_slot}
use Rattle.frame_watch.specs.Frames.{Watched, frame}
use Rattle.frame_watch.specs.inside.Kept.{Falls, is_in_place}
use Rattle.frame_watch.proofs.FrameLaws.{room_for, falls_more, slot_is}
use Rattle.frame_watch.proofs.thread.ThreadFrames.go.Goals as goal

pub push_reserved-requires : goal.push_reserved-requires
push_reserved-requires g c =
    let x = c.self.inside in
    let shown : Watched = record { thread = x.thread; stack = x.stack; esp = x.esp; frames = x.frames.items } in
    let place : is_in_place shown ≡ true = ap is_in_place c.self.view_is ∙ c.requires.in_place in
    let room = room_for shown c.self.invariant.1 place in
    let capacity = c.self.invariant.0 in
    omega (arith, x.frames.ok.0)

pub invariant_of-self-in-Call : goal.invariant_of-self-in-Call
invariant_of-self-in-Call g c =
    let x = c.self.inside in
    let capacity = c.self.invariant.0 in
    let new = frame c.esp_of-self-inside.result c.dword_at.result in
    let same : x.esp ≡ c.args.self.now.esp = ap (λ (w : Watched). w.esp) c.self.view_is in
    let place : is_in_place (let w : Watched =
    record { thread = x.thread; stack = x.stack; esp = x.esp; frames = x.frames.items } in w) ≡ true
    = ap is_in_place c.self.view_is ∙ c.requires.in_place in
    let lower = c.requires.lower c.in-Call.is in
    let esp = c.esp_of-self-inside.ensures in
    let above : All (λ (f : Frame). new.slot + 4 ≤ f.slot) x.frames.items = λ k d l.
    let slot = slot_is x.stack x.esp _
    (AllPass-from_list_all (λ (f : Frame). is_slot x.stack x.esp f.slot) x.frames.items place k d l) in
    let high = slot.above in
    omega arith in
    let P : List Frame → Type 0 = λ fs. Falls fs in (
      omega (arith, c.push_reserved.ensures.capacity),
      subst P (sym c.push_reserved.ensures.items) (falls_more x.frames.items new c.self.invariant.1 above),
    )
