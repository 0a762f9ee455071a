-- Where each open frame and each pc of a disciplined list of events came from.
use Rattle.std.proofs.Common.{◌≡◌, ℕ, suc, ◌-◌, Bool, true, false, ◌&&◌, ◌==◌, nat_le, IsTrue, IsFalse}
use Rattle.std.proofs.Common.{List, [], ◌∷◌, ◌++◌, length, Some, Ok, append_assoc}
use Rattle.std.proofs.Common.{refl, sym, ◌∙◌, ap, subst, arith, ◌⊎◌, inl, inr}
use Rattle.std.specs.List.{All, slice_get}
use Rattle.std.proofs.lemmas.Option.{none-some, same_Some, slice_get_within}
use Rattle.std.proofs.lemmas.Bool.Decides.{nat_tests}
use Rattle.std.proofs.lemmas.List.Elements.{All-cons}
use Rattle.image_file.specs.Reading.{Contents as Image, image_of}
use Rattle.ia32_step.specs.declared.types.Frame.{Frame}
use Rattle.ia32_step.specs.declared.types.Flow.TheVariants.{Call, Return}
use Rattle.ia32_step.specs.declared.types.Outcome.TheVariants.{Moved}
use Rattle.ia32_step.specs.declared.types.Thread.{Thread}
use Rattle.image_threads.specs.Program.{running_at}
use Rattle.update_stack.specs.Events.{Event, Spawn, Step, Apply, Hooks, Undo, UndoNamed}
use Rattle.update_safety.specs.Windows.{window_in}
use Rattle.frame_watch.specs.Frames.{frame}
use Rattle.ksplice_session.specs.Watching.{Watched, first_watched, watched_after, watched_after_all, IsDisciplined}
use Rattle.ksplice_session.specs.Safety.{frames_of, depth_of, return_address, stays_open, step_outcome, is_step_of}
use Rattle.ksplice_session.specs.Safety.{ReturnedNowhere}
use Rattle.ksplice_session.proofs.Lookups.{both_hold, All-at, read_more, read_front, last_at, nothing_read}
use Rattle.ksplice_session.proofs.RuleLaws.{same_number}
use Rattle.ksplice_session.proofs.MomentLaws.{Premises, Change, Stays, Begins, Arrives, Calls, Returns, Ends, IsNext}
use Rattle.ksplice_session.proofs.WatchedLaws.{watched_after_both, after_one}
use Rattle.ksplice_session.proofs.OpenFrames.{front_disciplined, one_deeper, last_address, along}
use Rattle.ksplice_session.proofs.OpenFrames.{next_from, open_frames_keep}

-- A frame of a thread was opened by a call in a list of events, and has stayed open since.
pub record WasCalled (start : Watched) (events : List Event) (n i : ℕ) (frame : Frame) : Type 0 where
  pub before : List Event
  pub during : List Event
  pub whole : before ++ Step n ∷ during ≡ events
  pub called : Watched
  pub at : called ≡ watched_after_all start (before ++ Step n ∷ [])
  pub calls : step_outcome (watched_after_all start before) n ≡ Some (Moved Call)
  pub depth : depth_of called n ≡ suc i
  pub address : return_address called n ≡ frame.address
  pub stays : IsTrue (stays_open n (suc i) called during)

-- where a frame came from: the thread's start, or a call
abbrev pub CameFrom : Watched → List Event → (n i : ℕ) → Frame → Type 0
CameFrom start events n i frame = (frame.address ≡ 0xFFFF_0000) ⊎ WasCalled start events n i frame

-- where a thread stands: at a window, at the end, or where a return brought it whose call had no window at its return
-- address
abbrev pub Stands : Watched → List Event → Watched → (n pc : ℕ) → Type 0
Stands start events s n pc = IsTrue (window_in s.machine pc) ⊎ ((pc ≡ 0xFFFF_0000) ⊎ ReturnedNowhere start events n)

pub record IsHistory (start : Watched) (events : List Event) (s : Watched) : Type 0 where
  pub frames : (n i : ℕ) (frame : Frame) → slice_get (frames_of s n) i ≡ Some frame → CameFrom start events n i frame
  pub pcs : (n : ℕ) (thread : Thread) → running_at s.machine.threads n ≡ Some thread
      → Stands start events s n thread.pc

-- a frame that is open through one event more
stays_more : (n depth : ℕ) (s : Watched) (events : List Event) (event : Event) → IsTrue (stays_open n depth s events)
    → IsTrue (nat_le depth (depth_of (watched_after (watched_after_all s events) event) n))
    → IsTrue (stays_open n depth s (events ++ event ∷ []))
unfolding stays_open watched_after_all
stays_more n depth s [] event stays deep =
    ap (λ (b : Bool). b && nat_le depth (depth_of (watched_after s event) n)) stays ∙ deep
stays_more n depth s (one ∷ events) event stays deep =
    let parts = both_hold (nat_le depth (depth_of s n)) (stays_open n depth (watched_after s one) events) stays in
    ap (λ (b : Bool). b && stays_open n depth (watched_after s one) (events ++ event ∷ [])) parts.0
    ∙ stays_more n depth (watched_after s one) events event parts.1 deep

none_later : (n depth : ℕ) (s : Watched) → IsTrue (nat_le depth (depth_of s n)) → IsTrue (stays_open n depth s [])
unfolding stays_open
none_later n depth s deep = deep

deep_by : (frames : List Frame) (i : ℕ) (one : Frame) → slice_get frames i ≡ Some one
    → IsTrue (nat_le (suc i) (length frames))
deep_by frames i one is =
    let less = slice_get_within frames i one is in grind (arith, nat_tests)

-- an event that is no step of a thread
no_step : (n : ℕ) (event : Event) → (event ≡ Step n → ⊥) → IsFalse (is_step_of n event)
no_step n (Spawn name argument) other = refl
no_step n (Apply name pre post) other = refl
no_step n (Hooks name pre post) other = refl
no_step n Undo other = refl
no_step n (UndoNamed name) other = refl
no_step n (Step m) other = by_test (n == m) refl
  where
    by_test : (b : Bool) → (n == m) ≡ b → b ≡ false
    by_test true same = absurd (other (ap Step (sym (same_number n m same))))
    by_test false isnt = refl

-- one item more after some
All-more : {X : Type 0} (P : X → Type 0) (xs : List X) (x : X) → All P xs → P x → All P (xs ++ x ∷ [])
All-more P [] x all last = All-cons P x [] last (λ i d l. absurd (omega arith))
All-more P (y ∷ ys) x all last =
    All-cons P y (ys ++ x ∷ []) (all 0 y (omega arith))
    (All-more P ys x (λ i d l. all (suc i) d (omega arith)) last)

module _ (start : Watched) where
  -- where the events since a call lead
  reached : (events : List Event) (n i : ℕ) (one : Frame) (was : WasCalled start events n i one)
      → watched_after_all was.called was.during ≡ watched_after_all start events
  reached events n i one was =
      ap (λ (s : Watched). watched_after_all s was.during) was.at
      ∙ sym (watched_after_both start (was.before ++ Step n ∷ []) was.during)
      ∙ ap (watched_after_all start) (append_assoc was.before (Step n ∷ []) was.during ∙ was.whole)

  called_more : (events : List Event) (event : Event) (n i : ℕ) (one : Frame) → WasCalled start events n i one
      → IsTrue (nat_le (suc i) (depth_of (watched_after (watched_after_all start events) event) n))
      → WasCalled start (events ++ event ∷ []) n i one
  called_more events event n i one was deep = record {
    before = was.before;
    during = was.during ++ event ∷ [];
    whole =
        sym (append_assoc was.before (Step n ∷ was.during) (event ∷ []))
        ∙ ap (λ (es : List Event). es ++ event ∷ []) was.whole;
    called = was.called;
    at = was.at;
    calls = was.calls;
    depth = was.depth;
    address = was.address;
    stays = stays_more n (suc i) was.called was.during event was.stays
        (subst (λ (s : Watched). IsTrue (nat_le (suc i) (depth_of (watched_after s event) n)))
        (sym (reached events n i one was)) deep);
  }

  returned_more : (events : List Event) (event : Event) (n : ℕ) → ReturnedNowhere start events n
      → IsFalse (is_step_of n event) → ReturnedNowhere start (events ++ event ∷ []) n
  returned_more events event n was rests = record {
    before = was.before;
    during = was.during;
    behind = was.behind ++ event ∷ [];
    whole = longer was.before was.during was.behind was.whole;
    rests = All-more (λ one. IsFalse (is_step_of n one)) was.behind event was.rests rests;
    called = was.called;
    at = was.at;
    calls = was.calls;
    windowless = was.windowless;
    stays = was.stays;
    last = was.last;
    returns = was.returns;
  }
    where
      longer : (before during behind : List Event) → before ++ Step n ∷ (during ++ Step n ∷ behind) ≡ events
          → before ++ Step n ∷ (during ++ Step n ∷ (behind ++ event ∷ [])) ≡ events ++ event ∷ []
      longer before during behind whole =
          ap (λ (es : List Event). before ++ Step n ∷ es) (sym (append_assoc during (Step n ∷ behind) (event ∷ [])))
          ∙ sym (append_assoc before (Step n ∷ (during ++ Step n ∷ behind)) (event ∷ []))
          ∙ ap (λ (es : List Event). es ++ event ∷ []) whole

  -- a frame that was there before the event
  frame_more : (events : List Event) (event : Event) (n i : ℕ) (one : Frame) → CameFrom start events n i one
      → IsTrue (nat_le (suc i) (depth_of (watched_after (watched_after_all start events) event) n))
      → CameFrom start (events ++ event ∷ []) n i one
  frame_more events event n i one (inl bottom) deep = inl bottom
  frame_more events event n i one (inr was) deep = inr (called_more events event n i one was deep)

module _ (laws : Premises) (file : List ℕ) (image : Image) (read : image_of file ≡ Ok image) where
  abbrev start : Watched
  start = first_watched image

  module _ (events : List Event) (event : Event) (now : IsDisciplined start (events ++ event ∷ []))
      (was : IsHistory start events (watched_after_all start events)) where
    abbrev old : Watched
    old = watched_after_all start events

    abbrev new : Watched
    new = watched_after old event

    next : IsNext old new event
    next = (next_from laws file image read events event old refl now).1

    new_is : new ≡ watched_after_all start (events ++ event ∷ [])
    new_is = sym (after_one start events event)

    -- the frame that a call opens
    newly_called : (n : ℕ) (last : Frame) → event ≡ Step n → step_outcome old n ≡ Some (Moved Call)
        → frames_of new n ≡ frames_of old n ++ last ∷ []
        → WasCalled start (events ++ event ∷ []) n (length (frames_of old n)) last
    newly_called n last steps comes more =
        let deeper = one_deeper new n (frames_of old n) last more in record {
          before = events;
          during = [];
          whole = ap (λ (e : Event). events ++ e ∷ []) (sym steps);
          called = new;
          at = new_is ∙ ap (λ (e : Event). watched_after_all start (events ++ e ∷ [])) steps;
          calls = comes;
          depth = deeper;
          address = last_address new n (frames_of old n) last more;
          stays = none_later n (suc (length (frames_of old n))) new
              (subst (λ (d : ℕ). IsTrue (nat_le d (depth_of new n))) deeper (at_most (depth_of new n)));
        }
      where
        at_most : (d : ℕ) → IsTrue (nat_le d d)
        at_most d = grind (arith, nat_tests)

    frame_from : (n i : ℕ) (one : Frame) → slice_get (frames_of new n) i ≡ Some one → Change old new event n
        → CameFrom start (events ++ event ∷ []) n i one
    frame_from n i one is (Stays idle running same) =
        frame_more start events event n i one
        (was.frames n i one (subst (λ (fs : List Frame). slice_get fs i ≡ Some one) same is))
        (deep_by (frames_of new n) i one is)
    frame_from n i one is (Begins slot after rested none running frames window) =
        inl (All-at (λ (f : Frame). f.address ≡ 0xFFFF_0000) (frame slot 0xFFFF_0000 ∷ []) i one
        (All-cons (λ (f : Frame). f.address ≡ 0xFFFF_0000) (frame slot 0xFFFF_0000) [] refl
        (λ i d l. absurd (omega arith)))
        (subst (λ (fs : List Frame). slice_get fs i ≡ Some one) frames is))
    frame_from n i one is (Arrives after steps comes running same window) =
        frame_more start events event n i one
        (was.frames n i one (subst (λ (fs : List Frame). slice_get fs i ≡ Some one) same is))
        (deep_by (frames_of new n) i one is)
    frame_from n i one is (Calls after last steps comes running more window) =
        elim (read_more (frames_of old n) last one i (subst (λ (fs : List Frame). slice_get fs i ≡ Some one) more is)) [
          | inl before ↦
              frame_more start events event n i one (was.frames n i one before) (deep_by (frames_of new n) i one is)
          | inr here ↦
              inr (subst (λ (j : ℕ). WasCalled start (events ++ event ∷ []) n j one) (sym here.0)
              (subst (λ (f : Frame). WasCalled start (events ++ event ∷ []) n (length (frames_of old n)) f) here.1
              (newly_called n last steps comes more)))
        ]
    frame_from n i one is (Returns after last steps comes running last_was fewer to) =
        frame_more start events event n i one
        (was.frames n i one
        (read_front (length (frames_of old n) - 1) (frames_of old n) i one
        (subst (λ (fs : List Frame). slice_get fs i ≡ Some one) fewer is)))
        (deep_by (frames_of new n) i one is)
    frame_from n i one is (Ends outcome steps comes other rests none) =
        absurd (nothing_read (frames_of new n) i one none is)

    -- where a return brings its thread
    returns_to : (n i : ℕ) (last : Frame) → event ≡ Step n → step_outcome old n ≡ Some (Moved Return)
        → length (frames_of old n) ≡ suc i → slice_get (frames_of old n) i ≡ Some last
        → CameFrom start events n i last → Stands start (events ++ event ∷ []) new n last.address
    returns_to n i last steps comes deep is (inl bottom) = inr (inl bottom)
    returns_to n i last steps comes deep is (inr call) =
        by_window (window_in call.called.machine (return_address call.called n)) refl
      where
        by_window : (b : Bool) → window_in call.called.machine (return_address call.called n) ≡ b
            → Stands start (events ++ event ∷ []) new n last.address
        by_window true window =
            let disciplined : IsDisciplined start (call.before ++ Step n ∷ call.during) =
            subst (IsDisciplined start) (sym call.whole) (front_disciplined start events (event ∷ []) now) in
            let stays =
            subst (λ (d : ℕ). IsTrue (stays_open n d call.called call.during)) (sym call.depth) call.stays in
            let kept =
            open_frames_keep laws file image call.before call.during n call.called read disciplined call.calls call.at
            window stays in
            let here : IsTrue (window_in old.machine last.address) =
            subst (λ (s : Watched). IsTrue (window_in s.machine last.address)) (reached start events n i last call)
            (subst (λ (a : ℕ). IsTrue (window_in (watched_after_all call.called call.during).machine a)) call.address
            kept)
            in
            inl (next.frames n i last is here)
        by_window false windowless = inr (inr (record {
          before = call.before;
          during = call.during;
          behind = [];
          whole =
              sym (append_assoc call.before (Step n ∷ call.during) (Step n ∷ []))
              ∙ ap (λ (es : List Event). es ++ Step n ∷ []) call.whole
              ∙ ap (λ (e : Event). events ++ e ∷ []) (sym steps);
          rests = λ i d l. absurd (omega arith);
          called = call.called;
          at = call.at;
          calls = call.calls;
          windowless = windowless;
          stays = subst (λ (d : ℕ). IsTrue (stays_open n d call.called call.during)) (sym call.depth) call.stays;
          last =
              ap (λ (s : Watched). depth_of s n) (reached start events n i last call) ∙ deep ∙ sym call.depth;
          returns = ap (λ (s : Watched). step_outcome s n) (reached start events n i last call) ∙ comes;
        }))

    pc_from : (n : ℕ) (thread : Thread) → running_at new.machine.threads n ≡ Some thread → Change old new event n
        → Stands start (events ++ event ∷ []) new n thread.pc
    pc_from n thread is (Stays idle running same) =
        let was_running = sym running ∙ is in
        elim (was.pcs n thread was_running) [
          | inl window ↦ inl (next.pcs n thread was_running window)
          | inr rest ↦ elim rest [
            | inl at_bottom ↦ inr (inl at_bottom)
            | inr returned ↦
                inr (inr (returned_more start events event n returned
                (no_step n event (λ steps. none-some thread (sym (idle steps) ∙ was_running)))))
          ]
        ]
    pc_from n thread is (Begins slot after rested none running frames window) =
        inl (subst (λ (t : Thread). IsTrue (window_in new.machine t.pc)) (same_Some after thread (sym running ∙ is))
        window)
    pc_from n thread is (Arrives after steps comes running same window) =
        inl (subst (λ (t : Thread). IsTrue (window_in new.machine t.pc)) (same_Some after thread (sym running ∙ is))
        window)
    pc_from n thread is (Calls after last steps comes running more window) =
        inl (subst (λ (t : Thread). IsTrue (window_in new.machine t.pc)) (same_Some after thread (sym running ∙ is))
        window)
    pc_from n thread is (Returns after last steps comes running last_was fewer to) =
        let place = last_at (frames_of old n) last last_was in
        let i = place.0 in
        let stands = returns_to n i last steps comes place.1 place.2 (was.frames n i last place.2) in
        subst (λ (pc : ℕ). Stands start (events ++ event ∷ []) new n pc)
        (to ∙ ap (λ (t : Thread). t.pc) (same_Some after thread (sym running ∙ is))) stands
    pc_from n thread is (Ends outcome steps comes other rests none) = absurd (none-some thread (sym rests ∙ is))

    history_more : IsHistory start (events ++ event ∷ []) (watched_after_all start (events ++ event ∷ []))
    history_more =
        subst (IsHistory start (events ++ event ∷ [])) new_is (record {
          frames = λ n i one is. frame_from n i one is (next.changes n);
          pcs = λ n thread is. pc_from n thread is (next.changes n);
        })

  first_history : IsHistory start [] (watched_after_all start [])
  unfolding watched_after_all
  first_history = record {
    frames = λ n i one is. absurd (none-some one is);
    pcs = λ n thread is. absurd (none-some thread is);
  }

  pub history_at : (events : List Event) → IsDisciplined start events
      → IsHistory start events (watched_after_all start events)
  history_at events now =
      along laws file image read (λ past. IsHistory start past (watched_after_all start past)) first_history
      (λ past event now was. history_more past event now was) events now
