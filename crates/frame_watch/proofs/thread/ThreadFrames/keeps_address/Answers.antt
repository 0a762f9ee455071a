-- The frame after those with higher slots is the only one that can have the slot.
use Rattle.std.proofs.Common.{◌≡◌, ◌≢◌, ◌<◌, ◌≤◌, ℕ, arith, Bool, not, ◌==◌, List}
use Rattle.std.proofs.Common.{length, ap, ◌∙◌, sym, subst, Some, None, true, get_or}
use Rattle.std.specs.List.{slice_get}
use Rattle.std.proofs.lemmas.Bool.Decides.{nat_tests}
use Rattle.std.proofs.lemmas.Option.{slice_get_within, get_or_from_slice_get}
use Rattle.ia32_step.specs.declared.types.Frame.{Frame}
use Rattle.ia32_step.specs.Frames.{holds_dword}
use Rattle.frame_watch.specs.Frames.{Watched}
use Rattle.frame_watch.specs.inside.Kept.{Falls}
use Rattle.frame_watch.proofs.FrameLaws.{kept_by, kept_none, other_slot, same_slot}
use Rattle.frame_watch.proofs.thread.ThreadFrames.keeps_address.Goals as goal

apart : (a b : ℕ) → a ≢ b → not (a == b) ≡ true
apart a b h = grind (arith, nat_tests)

-- the frame's slot is not above the slot
not_above : (frames : List Frame) (slot n : ℕ) (f : Frame) → slice_get frames n ≡ Some f
    → ((k : ℕ) (d : Frame) → n ≤ k → k < length frames → (get_or frames k d).slot ≤ slot) → f.slot ≤ slot
not_above frames slot n f got below =
    let at = ap (λ (x : Frame). x.slot) (get_or_from_slice_get frames n f f got) in
    let low = below n f (omega arith) (slice_get_within frames n f got) in
    omega arith

pub returns-then-from-slot : goal.returns-then-from-slot
returns-then-from-slot g c =
    let fs = c.args.self.now.frames in
    let frame = c.in-Some.frame in
    let pieces = (g.S.Space.contents c.args.space.now).pieces in
    let keeps : Frame → Bool = λ f. holds_dword pieces f.slot f.address in
    let same : c.self.inside.frames.items ≡ fs = ap (λ (w : Watched). w.frames) c.self.view_is in
    let P : List Frame → Type 0 = λ xs. Falls xs in
    let falls : Falls fs = subst P same c.self.invariant.1 in
    let got : slice_get fs c.above.result ≡ Some frame
    = ap (λ (xs : List Frame). slice_get xs c.above.result) (sym (c.deref.ensures.value ∙ same))
    ∙ sym c.in-Some.ensures in
    let differs : frame.slot ≢ c.args.slot = λ e. c.if-from-slot.true (c.from.ensures ∙ e) in
    apart c.from.result c.args.slot c.if-from-slot.true
    ∙ (sym (other_slot keeps c.args.slot frame differs)
    ∙ kept_by keeps c.args.slot fs c.above.result frame falls got (λ k d l m. c.above.ensures.above k d (omega arith) l)
    (not_above fs c.args.slot c.above.result frame got c.above.ensures.below))

pub returns-else-from-slot : goal.returns-else-from-slot
returns-else-from-slot g c =
    let fs = c.args.self.now.frames in
    let frame = c.in-Some.frame in
    let pieces = (g.S.Space.contents c.args.space.now).pieces in
    let keeps : Frame → Bool = λ f. holds_dword pieces f.slot f.address in
    let same : c.self.inside.frames.items ≡ fs = ap (λ (w : Watched). w.frames) c.self.view_is in
    let P : List Frame → Type 0 = λ xs. Falls xs in
    let falls : Falls fs = subst P same c.self.invariant.1 in
    let got : slice_get fs c.above.result ≡ Some frame
    = ap (λ (xs : List Frame). slice_get xs c.above.result) (sym (c.deref.ensures.value ∙ same))
    ∙ sym c.in-Some.ensures in
    let agrees : frame.slot ≡ c.args.slot = sym c.from.ensures ∙ c.if-from-slot.false in
    c.holds_address.ensures
    ∙ (sym (same_slot keeps c.args.slot frame agrees)
    ∙ kept_by keeps c.args.slot fs c.above.result frame falls got (λ k d l m. c.above.ensures.above k d (omega arith) l)
    (not_above fs c.args.slot c.above.result frame got c.above.ensures.below))

pub returns-in-None : goal.returns-in-None
returns-in-None g c =
    let fs = c.args.self.now.frames in
    let pieces = (g.S.Space.contents c.args.space.now).pieces in
    let keeps : Frame → Bool = λ f. holds_dword pieces f.slot f.address in
    let same : c.self.inside.frames.items ≡ fs = ap (λ (w : Watched). w.frames) c.self.view_is in
    let got : slice_get fs c.above.result ≡ None
    = ap (λ (xs : List Frame). slice_get xs c.above.result) (sym (c.deref.ensures.value ∙ same))
    ∙ sym c.in-None.ensures in
    kept_none keeps c.args.slot fs c.above.result got (λ k d l m. c.above.ensures.above k d (omega arith) l)
