-- What is known of the threads after one has moved or was started: only this thread and what was written can have
-- broken the slot rule.
use Rattle.std.proofs.Common.{◌≡◌, ◌≢◌, ℕ, suc, ◌+◌, ◌-◌, ◌<◌, ◌≤◌, Bool, true, false, not, cond, ◌&&◌}
use Rattle.std.proofs.Common.{◌==◌, is_some, nat_lt, List, [], ◌∷◌, ◌++◌, length, get_or, map, take, min}
use Rattle.std.proofs.Common.{max, refl, sym, ap, subst, ◌∙◌, arith, length-append, Option, Some, None}
use Rattle.std.specs.List.{All, filter}
use Rattle.std.proofs.lemmas.Bool.Decides.{nat_tests}
use Rattle.std.proofs.lemmas.List.{get_or_default, get_or-take, get_or_append_left, length-take}
use Rattle.std.proofs.lemmas.List.Elements.{All-map, All-filter, All-take, All-append, All-cons, All-nil}
use Rattle.std.proofs.lemmas.List.Sums.{AllPass-from_list_all, list_all-from_AllPass}
use Rattle.ks_base.specs.declared.places.Range.{Range}
use Rattle.ks_base.specs.declared.refusals.Fault.{Fault}
use Rattle.image_memory.specs.declared.types.Piece.{Piece}
use Rattle.image_memory.specs.Access.{first_fault, read_fault, dword_at}
use Rattle.image_memory.specs.laws.PutLaws.{All-put}
use Rattle.ia32_step.specs.declared.types.Frame.{Frame}
use Rattle.ia32_step.specs.declared.types.Store.{Store}
use Rattle.ia32_step.specs.declared.types.Thread.{Thread}
use Rattle.ia32_step.specs.declared.types.Flow.{Flow}
use Rattle.ia32_step.specs.declared.types.Flow.TheVariants.{Plain, Call, Return}
use Rattle.ia32_step.specs.declared.types.Outcome.{Outcome}
use Rattle.ia32_step.specs.declared.types.Outcome.TheVariants.{Moved}
use Rattle.ia32_step.specs.Frames.{is_slot, holds_dword}
use Rattle.ia32_step.specs.Threads.{esp_of}
use Rattle.frame_watch.specs.Frames.{Watched, is_of, stack_of, if_of, started, watched_at, with_started}
use Rattle.frame_watch.specs.Frames.{without_thread, frames_at, frames_in, closed, frame}
use Rattle.frame_watch.specs.Conditions.{HoldBut, IsStart, IsStep, touches}
use Rattle.frame_watch.specs.inside.Kept.{AreApart, AreInPlace, IsTouched, is_in_place}
use Rattle.frame_watch.specs.inside.Kept.{is_based, number_unless, first_store}
use Rattle.frame_watch.specs.inside.Events.{IsStill, moved, flow_frames}
use Rattle.frame_watch.proofs.FrameLaws.{slot_at}
use Rattle.frame_watch.proofs.ListLaws.{found_at, has_number, same_number, none_displaced}

-- ---- the frames of one thread
abbrev Lie : Range → List Frame → Type 0
Lie stack frames = All (λ (f : Frame). is_slot stack 0 f.slot ≡ true) frames

lying : (w : Watched) → is_in_place w ≡ true → Lie w.stack w.frames
lying w place k d l =
    slot_at w.stack w.esp 0 (get_or w.frames k d).slot
    (AllPass-from_list_all (λ (f : Frame). is_slot w.stack w.esp f.slot) w.frames place k d l) (omega arith)

-- all but the last lie in the stack, whatever the step was
closed_lie : (pieces : List Piece) (after : Thread) (flow : Flow) (stack : Range) (frames : List Frame)
    → Lie stack frames
    → Lie stack (closed (flow_frames pieces after flow frames))
closed_lie pieces after Plain stack frames lie =
    All-take (λ (f : Frame). is_slot stack 0 f.slot ≡ true) (length frames - 1) frames lie
closed_lie pieces after Return stack frames lie =
    All-take (λ (f : Frame). is_slot stack 0 f.slot ≡ true) (length (closed frames) - 1) (closed frames)
    (All-take (λ (f : Frame). is_slot stack 0 f.slot ≡ true) (length frames - 1) frames lie)
closed_lie pieces after Call stack frames lie = λ k d l.
    let new = frame (esp_of after) (dword_at pieces (esp_of after)) in
    let n = length (frames ++ new ∷ []) - 1 in
    let long : length (frames ++ new ∷ []) ≡ length frames + 1 = simp length-append in
    let short : length (take n (frames ++ new ∷ [])) ≤ n = simp length-take (omega arith) in
    let m : k < length frames = omega arith in
    ap (λ (f : Frame). is_slot stack 0 f.slot)
    (get_or-take n (frames ++ new ∷ []) k d (omega arith) ∙ get_or_append_left frames (new ∷ []) d k m)
    ∙ lie k d m

-- a thread that was in place, and has moved
pub based_after : (pieces : List Piece) (after : Thread) (flow : Flow) (w new : Watched) → is_in_place w ≡ true
    → new ≡ (let v : Watched = record w { esp = esp_of after; frames = flow_frames pieces after flow w.frames } in v)
    → is_based new ≡ true
based_after pieces after flow w new place made =
    let fs = flow_frames pieces after flow w.frames in
    ap is_based made ∙ list_all-from_AllPass (λ (f : Frame). is_slot w.stack 0 f.slot) (closed fs)
    (closed_lie pieces after flow w.stack w.frames (lying w place))

module _ (pieces : List Piece) (store : Option Store) where
  abbrev Held : Frame → Type 0
  Held f = touches store f.slot ≡ false → holds_dword pieces f.slot f.address ≡ true

  holds_pushed : (address : ℕ) → first_fault (read_fault pieces) address 4 ≡ None
      → holds_dword pieces address (dword_at pieces address) ≡ true
  holds_pushed address readable =
      let same : (dword_at pieces address == dword_at pieces address) ≡ true = equal (dword_at pieces address) in
      ap (λ (o : Option Fault). not (is_some o) && (dword_at pieces address == dword_at pieces address)) readable ∙ same
    where
      equal : (n : ℕ) → (n == n) ≡ true
      equal n = grind (arith, nat_tests)

  held_flow : (after : Thread) (flow : Flow) (frames : List Frame) → All Held frames
      → (flow ≡ Call → first_fault (read_fault pieces) (esp_of after) 4 ≡ None)
      → All Held (flow_frames pieces after flow frames)
  held_flow after Plain frames held readable = held
  held_flow after Return frames held readable = All-take Held (length frames - 1) frames held
  held_flow after Call frames held readable =
      let new = frame (esp_of after) (dword_at pieces (esp_of after)) in
      All-append Held frames (new ∷ []) held
      (All-cons Held new [] (λ _. holds_pushed (esp_of after) (readable refl)) (All-nil Held))

  -- ---- of all threads
  -- all threads are in place
  pub touched_still : (ws : List Watched) → AreInPlace ws → HoldBut pieces ws store → IsTouched pieces None store ws
  touched_still ws place hold = record {
    number = 0;
    own = none_displaced 0 ws place;
    others = λ k d l _. place k d l;
    hold = hold;
  }

  pub touched_none : IsTouched pieces None store []
  touched_none = touched_still [] (λ k d l. absurd (omega arith)) (λ k d l. absurd (omega arith))

  -- a thread was taken out
  pub touched_less : (number : ℕ) (ws : List Watched) → AreInPlace ws → HoldBut pieces ws store
      → IsTouched pieces None store (without_thread ws number)
  touched_less number ws place hold =
      let p : Watched → Bool = λ w. not (is_of number w) in
      touched_still (filter p ws) (All-filter p (λ w. is_in_place w ≡ true) ws place)
      (All-filter p (λ (w : Watched). All Held w.frames) ws hold)

  if_holds : (Q : Watched → Type 0) (n esp : ℕ) (frames : List Frame) (w : Watched)
      → (w.thread ≡ n → Q (let v : Watched = record w { esp = esp; frames = frames } in v)) → (w.thread ≢ n → Q w)
      → Q (if_of n esp frames w)
  if_holds Q n esp frames w own other =
      elim (w.thread == n) as (λ b. (w.thread == n) ≡ b
      → Q (cond b (let v : Watched = record w { esp = esp; frames = frames } in v) w)) [
        | true ↦ λ hit. own (same_number n w hit)
        | false ↦ λ miss. other (λ e. let hit = has_number n w e in absurd (cc))
      ] refl

  module _ (before after : Thread) (ws : List Watched) where
    its_frames : AreApart ws → (k : ℕ) (d : Watched) → k < length ws → (get_or ws k d).thread ≡ before.number
        → (get_or ws k d).frames ≡ frames_at ws before.number
    its_frames apart k d l e =
        ap frames_in (sym (found_at before.number ws k d apart l (λ x.
        ap (is_of before.number) (get_or_default ws k x d l) ∙ has_number before.number (get_or ws k d) e)))

    -- the thread has moved
    pub touched_with : (flow : Flow) (displaced : Option ℕ)
        → displaced ≡ number_unless is_in_place
        (watched_at (moved pieces after (Moved flow) (frames_at ws before.number) ws) before.number)
        → IsStep pieces before after (Moved flow) ws → AreInPlace ws → AreApart ws
        → HoldBut pieces ws store
        → IsTouched pieces displaced store (moved pieces after (Moved flow) (frames_at ws before.number) ws)
    touched_with flow displaced own step place apart hold = record {
      number = before.number;
      own = own;
      others = All-map (λ w. is_of before.number w ≡ false → is_in_place w ≡ true) change ws (λ k d l.
          if_holds (λ w. is_of before.number w ≡ false → is_in_place w ≡ true) after.number (esp_of after) new
          (get_or ws k d)
          (λ e miss. (let hit = has_number before.number (get_or ws k d) (e ∙ step.number) in absurd (cc)))
          (λ _ _. place k d l));
      hold = All-map (λ (w : Watched). All Held w.frames) change ws (λ k d l.
          if_holds (λ (w : Watched). All Held w.frames) after.number (esp_of after) new (get_or ws k d)
          (λ e. own_held k d l (e ∙ step.number))
          (λ _. hold k d l));
    }
      where
        new : List Frame
        new = flow_frames pieces after flow (frames_at ws before.number)

        change : Watched → Watched
        change = if_of after.number (esp_of after) new

        own_held : (k : ℕ) (d : Watched) → k < length ws → (get_or ws k d).thread ≡ before.number → All Held new
        own_held k d l e =
            let P : List Frame → Type 0 = λ fs. All Held fs in
            held_flow after flow (frames_at ws before.number) (subst P (its_frames apart k d l e) (hold k d l))
            (λ call. ((step.stepped k d l e).pushed (ap (λ (f : Flow). Moved f) call)).readable)

-- a step that is neither a call nor a return, and leaves ESP as it is
pub still_same : (pieces : List Piece) (before after : Thread) (outcome : Outcome) (ws : List Watched)
    → IsStill before after outcome → IsStep pieces before after outcome ws → AreApart ws
    → ws ≡ moved pieces after outcome (frames_at ws before.number) ws
still_same pieces before after outcome ws still step apart =
    sym (ap (λ o. moved pieces after o (frames_at ws before.number) ws) still.plain
    ∙ all_same ws (λ k d l e. (
      (step.stepped k d l (e ∙ step.number)).esp ∙ sym still.esp,
      its_frames pieces None before after ws apart k d l (e ∙ step.number),
    )))
  where
    all_same : (vs : List Watched)
        → All (λ w. w.thread ≡ after.number → (w.esp ≡ esp_of after) × (w.frames ≡ frames_at ws before.number)) vs
        → map (if_of after.number (esp_of after) (frames_at ws before.number)) vs ≡ vs
    all_same [] all = refl
    all_same (w ∷ vs) all =
        let fs = frames_at ws before.number in
        let here : if_of after.number (esp_of after) fs w ≡ w
        = if_holds pieces None (λ v. v ≡ w) after.number (esp_of after) fs w
        (λ e. let same = all 0 w (omega arith) e in
        ap (λ x. let v : Watched = record w { esp = x; frames = fs } in v) (sym same.0)
        ∙ ap (λ (x : List Frame). let v : Watched = record w { frames = x } in v) (sym same.1))
        (λ _. refl) in
        ap (λ v. v ∷ map (if_of after.number (esp_of after) fs) vs) here
        ∙ ap (λ (us : List Watched). w ∷ us) (all_same vs (λ k d l. all (suc k) d (omega arith)))

pub touched_left : (pieces : List Piece) (before after : Thread) (ws new : List Watched) (outcome : Outcome)
    (flow : Flow) (displaced : Option ℕ) → outcome ≡ Moved flow
    → displaced ≡ number_unless is_in_place (watched_at new before.number)
    → IsStep pieces before after outcome ws → AreInPlace ws → AreApart ws
    → new ≡ moved pieces after outcome (frames_at ws before.number) ws
    → (store : Option Store) → HoldBut pieces ws store → IsTouched pieces displaced store new
touched_left pieces before after ws new outcome flow displaced is own step place apart same store hold =
    let P : List Watched → Type 0 = λ vs. IsTouched pieces displaced store vs in
    let Q : Outcome → Type 0 = λ o. IsStep pieces before after o ws in
    let N : List Watched → Type 0 = λ vs. displaced ≡ number_unless is_in_place (watched_at vs before.number) in
    let made = same ∙ ap (λ o. moved pieces after o (frames_at ws before.number) ws) is in
    subst P (sym made) (touched_with pieces store before after ws flow displaced (subst N made own) (subst Q is step)
    place apart hold)

-- a thread that was started, as if the address to which it returns at last had just been written
pub touched_started : (pieces : List Piece) (thread : Thread) (ws : List Watched) → IsStart ws thread
    → AreInPlace ws → HoldBut pieces ws None
    → IsTouched pieces None (Some (first_store thread)) (with_started ws thread)
touched_started pieces thread ws start place hold = touched_still pieces (Some (first_store thread))
    (with_started ws thread)
    (All-put stack_of (λ w. is_in_place w ≡ true) (started thread) ws (rw start.slot refl) place)
    (All-put stack_of (λ (w : Watched). All IsHeld w.frames) (started thread) ws
    (All-cons IsHeld (frame (esp_of thread) 0xFFFF_0000) []
    (λ free. absurd (let hit = written (esp_of thread) in cc)) (All-nil IsHeld))
    (λ k d l i e m _. hold k d l i e m refl))
  where
    IsHeld : Frame → Type 0
    IsHeld f = touches (Some (first_store thread)) f.slot ≡ false → holds_dword pieces f.slot f.address ≡ true

    written : (slot : ℕ) → nat_lt (max slot slot) (min (slot + 4) (slot + 4)) ≡ true
    written slot = grind (arith, nat_tests)
