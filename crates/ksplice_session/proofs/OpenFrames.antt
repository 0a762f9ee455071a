-- Along a disciplined list of events open frames keep their windows.
use Rattle.std.proofs.Common.{◌≡◌, ℕ, suc, ◌-◌, ◌≤◌, nat_le, IsTrue, List, [], ◌∷◌, ◌++◌}
use Rattle.std.proofs.Common.{length, Option, Some, None, Ok, append_assoc, append-nil}
use Rattle.std.proofs.Common.{refl, sym, ◌∙◌, ap, subst, arith}
use Rattle.std.specs.Option.{option_map, unwrap_or}
use Rattle.std.specs.List.{last_or, slice_get}
use Rattle.std.proofs.lemmas.Option.{none-some, same_Some}
use Rattle.std.proofs.lemmas.Bool.Decides.{nat_tests}
use Rattle.std.proofs.lemmas.List.{length-append, length-take-le}
use Rattle.image_file.specs.Reading.{Contents as Image, image_of}
use Rattle.ia32_step.specs.declared.types.Frame.{Frame}
use Rattle.ia32_step.specs.declared.types.Flow.TheVariants.{Plain, Call, Return}
use Rattle.ia32_step.specs.declared.types.Outcome.TheVariants.{Moved}
use Rattle.ia32_step.specs.declared.types.Thread.{Thread}
use Rattle.image_threads.specs.Program.{running_at}
use Rattle.update_stack.specs.Steps.{moved_by, moved}
use Rattle.update_stack.specs.Events.{Event, Step, step_answered, answered}
use Rattle.update_stack.specs.Stacked.{IsBuilt}
use Rattle.update_safety.specs.Windows.{window_in}
use Rattle.frame_watch.specs.declared.types.Verdict.TheVariants.{Disciplined}
use Rattle.ksplice_session.specs.Watching.{Watched, first_watched, watched_after, watched_after_all, IsDisciplined}
use Rattle.ksplice_session.specs.Safety.{frames_of, depth_of, address_of, return_address, stays_open, outcome_by}
use Rattle.ksplice_session.specs.Safety.{step_outcome, OpenFramesKeepWindows}
use Rattle.ksplice_session.proofs.Lookups.{both_hold, more_behind, read_last, front_reads, last_behind, nothing_read}
use Rattle.ksplice_session.proofs.MomentLaws.{Premises, IsMoment, Change, Stays, Begins, Arrives, Calls, Returns, Ends}
use Rattle.ksplice_session.proofs.EventLaws.{Next}
use Rattle.ksplice_session.proofs.NextLaws.{next, was_unbroken}
use Rattle.ksplice_session.proofs.WatchedLaws.{machine_after_all, watched_after_both, after_one}

-- where no rule is broken at the end, none was before
start_unbroken : (s : Watched) (events : List Event) → IsDisciplined s events → s.watch.verdict ≡ Disciplined
unfolding watched_after_all
start_unbroken s [] now = now
start_unbroken s (event ∷ events) now = was_unbroken s event (start_unbroken (watched_after s event) events now)

pub front_disciplined : (s : Watched) (events later : List Event) → IsDisciplined s (events ++ later)
    → IsDisciplined s events
front_disciplined s events later now =
    start_unbroken (watched_after_all s events) later
    (subst (λ (x : Watched). x.watch.verdict ≡ Disciplined) (watched_after_both s events later) now)

none_that_low : (i : ℕ) → IsTrue (nat_le (suc i) 0) → ⊥
none_that_low i low = grind (arith, nat_tests)

-- the frames of a thread stay as long as they are open
frame_stays : (old new : Watched) (event : Event) (n i : ℕ) (frame : Frame) → Change old new event n
    → slice_get (frames_of old n) i ≡ Some frame → IsTrue (nat_le (suc i) (depth_of new n))
    → slice_get (frames_of new n) i ≡ Some frame
frame_stays old new event n i frame (Stays idle running same) is open_yet =
    ap (λ (fs : List Frame). slice_get fs i) same ∙ is
frame_stays old new event n i frame (Begins slot after rested none running frames window) is open_yet =
    absurd (nothing_read (frames_of old n) i frame none is)
frame_stays old new event n i frame (Arrives after steps comes running same window) is open_yet =
    ap (λ (fs : List Frame). slice_get fs i) same ∙ is
frame_stays old new event n i frame (Calls after last steps comes running more window) is open_yet =
    ap (λ (fs : List Frame). slice_get fs i) more ∙ more_behind (frames_of old n) (last ∷ []) i frame is
frame_stays old new event n i frame (Returns after last steps comes running was fewer to) is open_yet =
    let frames = frames_of old n in
    let shorter : length (frames_of new n) ≡ length frames - 1 =
    ap length fewer ∙ length-take-le (length frames - 1) frames (omega arith) in
    let less : suc i ≤ length (frames_of new n) = grind (arith, nat_tests) in
    ap (λ (fs : List Frame). slice_get fs i) fewer ∙ front_reads (length frames - 1) frames i (omega arith) ∙ is
frame_stays old new event n i frame (Ends outcome steps comes other rests none) is open_yet =
    let nothing : IsTrue (nat_le (suc i) 0) =
    subst (λ (fs : List Frame). IsTrue (nat_le (suc i) (length fs))) none open_yet in
    absurd (none_that_low i nothing)

-- a step of no running thread comes to nothing
pub rest_outcome : (s : Watched) (n : ℕ) → running_at s.machine.threads n ≡ None → step_outcome s n ≡ None
unfolding answered moved
rest_outcome s n rests = ap (λ (o : Option Thread). outcome_by (step_answered (moved_by s.machine n o))) rests

-- what a call opens
pub record HasOpened (s : Watched) (n : ℕ) : Type 0 where
  pub place : ℕ
  pub frame : Frame
  pub depth : depth_of s n ≡ suc place
  pub last : slice_get (frames_of s n) place ≡ Some frame
  pub address : return_address s n ≡ frame.address

-- how many frames there are after a call, and the address of the last
pub one_deeper : (s : Watched) (n : ℕ) (frames : List Frame) (last : Frame) → frames_of s n ≡ frames ++ last ∷ []
    → depth_of s n ≡ suc (length frames)
one_deeper s n frames last more = ap length more ∙ length-append frames (last ∷ []) ∙ omega arith

pub last_address : (s : Watched) (n : ℕ) (frames : List Frame) (last : Frame) → frames_of s n ≡ frames ++ last ∷ []
    → return_address s n ≡ last.address
last_address s n frames last more =
    ap (λ (fs : List Frame). unwrap_or (option_map address_of (last_or None fs)) 0) more
    ∙ ap (λ (o : Option Frame). unwrap_or (option_map address_of o) 0) (last_behind None frames last)

call_opens : (old new : Watched) (event : Event) (n : ℕ) → event ≡ Step n → Change old new event n
    → step_outcome old n ≡ Some (Moved Call) → HasOpened new n
call_opens old new event n is (Stays idle running same) called =
    absurd (none-some (Moved Call) (sym (rest_outcome old n (idle is)) ∙ called))
call_opens old new event n is (Begins slot after rested none running frames window) called =
    absurd (none-some (Moved Call) (sym (rest_outcome old n rested) ∙ called))
call_opens old new event n is (Arrives after steps comes running same window) called =
    let same_flow = same_Some (Moved Plain) (Moved Call) (sym comes ∙ called) in absurd (cc)
call_opens old new event n is (Calls after last steps comes running more window) called =
    record {
      place = length (frames_of old n);
      frame = last;
      depth = one_deeper new n (frames_of old n) last more;
      last = ap (λ (fs : List Frame). slice_get fs (length (frames_of old n))) more ∙ read_last (frames_of old n) last;
      address = last_address new n (frames_of old n) last more;
    }
call_opens old new event n is (Returns after last steps comes running was fewer to) called =
    let same_flow = same_Some (Moved Return) (Moved Call) (sym comes ∙ called) in absurd (cc)
call_opens old new event n is (Ends outcome steps comes other rests none) called =
    absurd (other (same_Some outcome (Moved Call) (sym comes ∙ called)))

open_now : (n depth : ℕ) (s : Watched) (later : List Event) → IsTrue (stays_open n depth s later)
    → IsTrue (nat_le depth (depth_of s n))
unfolding stays_open
open_now n depth s [] stays = stays
open_now n depth s (event ∷ later) stays =
    (both_hold (nat_le depth (depth_of s n)) (stays_open n depth (watched_after s event) later) stays).0

open_later : (n depth : ℕ) (s : Watched) (event : Event) (later : List Event)
    → IsTrue (stays_open n depth s (event ∷ later)) → IsTrue (stays_open n depth (watched_after s event) later)
unfolding stays_open
open_later n depth s event later stays =
    (both_hold (nat_le depth (depth_of s n)) (stays_open n depth (watched_after s event) later) stays).1

module _ (laws : Premises) (file : List ℕ) (image : Image) (read : image_of file ≡ Ok image) where
  abbrev pub at_end : List Event → Watched
  at_end events = watched_after_all (first_watched image) events

  built_at : (s : Watched) (events : List Event) → s ≡ at_end events → IsBuilt s.machine
  built_at s events is =
      subst IsBuilt (sym (ap (λ (x : Watched). x.machine) is ∙ machine_after_all (first_watched image) events))
      (laws.built file image events read)

  -- What holds at first, and after each event that leaves the list disciplined, holds at the end.
  pub along : (P : List Event → Type 0) → P []
      → ((past : List Event) (event : Event) → IsDisciplined (first_watched image) (past ++ event ∷ []) → P past
      → P (past ++ event ∷ []))
      → (events : List Event) → IsDisciplined (first_watched image) events → P events
  along P first more events now = go [] events now first
    where
      split : (past : List Event) (event : Event) (later : List Event)
          → (past ++ event ∷ []) ++ later ≡ past ++ event ∷ later
      split past event later = append_assoc past (event ∷ []) later

      go : (past later : List Event) → IsDisciplined (first_watched image) (past ++ later) → P past → P (past ++ later)
      go past [] now here = subst P (sym (append-nil past)) here
      go past (event ∷ later) now here =
          let same = split past event later in
          let whole = subst (IsDisciplined (first_watched image)) (sym same) now in
          subst P same
          (go (past ++ event ∷ []) later whole
          (more past event (front_disciplined (first_watched image) (past ++ event ∷ []) later whole) here))

  first_moment : IsMoment (at_end [])
  unfolding watched_after_all
  first_moment = record {
    unbroken = refl;
    numbered = λ n thread is. absurd (none-some thread is);
    listed = λ n thread is. absurd (none-some thread is);
    agree = λ n. tt;
    slots = λ n one is. absurd (none-some one is);
  }

  next_after : (past : List Event) (event : Event) (s : Watched) → s ≡ at_end past
      → IsDisciplined (first_watched image) (past ++ event ∷ []) → IsMoment s → Next s event (watched_after s event)
  next_after past event s is now moment =
      let same : watched_after s event ≡ at_end (past ++ event ∷ []) =
      ap (λ (x : Watched). watched_after x event) is ∙ sym (after_one (first_watched image) past event) in
      next laws s moment (built_at s past is) event (built_at (watched_after s event) (past ++ event ∷ []) same)
      (subst (λ (x : Watched). x.watch.verdict ≡ Disciplined) (sym same) now)

  pub moment_at : (events : List Event) → IsDisciplined (first_watched image) events → IsMoment (at_end events)
  moment_at events now =
      along (λ past. IsMoment (at_end past)) first_moment
      (λ past event now moment.
      subst IsMoment (sym (after_one (first_watched image) past event))
      (next_after past event (at_end past) refl now moment).0)
      events now

  -- what the next event leaves
  pub next_from : (past : List Event) (event : Event) (s : Watched) → s ≡ at_end past
      → IsDisciplined (first_watched image) (past ++ event ∷ []) → Next s event (watched_after s event)
  next_from past event s is now =
      next_after past event s is now
      (subst IsMoment (sym is)
      (moment_at past (front_disciplined (first_watched image) past (event ∷ []) now)))

  open_keeps : (past later : List Event) (s : Watched) (n i : ℕ) (frame : Frame) → s ≡ at_end past
      → IsDisciplined (first_watched image) (past ++ later) → slice_get (frames_of s n) i ≡ Some frame
      → IsTrue (window_in s.machine frame.address) → IsTrue (stays_open n (suc i) s later)
      → IsTrue (window_in (watched_after_all s later).machine frame.address)
  unfolding watched_after_all
  open_keeps past [] s n i frame is now here window stays = window
  open_keeps past (event ∷ later) s n i frame is now here window stays =
      let same : (past ++ event ∷ []) ++ later ≡ past ++ event ∷ later = append_assoc past (event ∷ []) later in
      let whole : IsDisciplined (first_watched image) ((past ++ event ∷ []) ++ later) =
      subst (IsDisciplined (first_watched image)) (sym same) now in
      let front = front_disciplined (first_watched image) (past ++ event ∷ []) later whole in
      let next = (next_from past event s is front).1 in
      let later_stays = open_later n (suc i) s event later stays in
      open_keeps (past ++ event ∷ []) later (watched_after s event) n i frame
      (ap (λ (x : Watched). watched_after x event) is ∙ sym (after_one (first_watched image) past event)) whole
      (frame_stays s (watched_after s event) event n i frame (next.changes n) here
      (open_now n (suc i) (watched_after s event) later later_stays))
      (next.frames n i frame here window) later_stays

  pub call_opened : (before : List Event) (thread : ℕ) (called : Watched)
      → IsDisciplined (first_watched image) (before ++ Step thread ∷ [])
      → step_outcome (at_end before) thread ≡ Some (Moved Call)
      → called ≡ at_end (before ++ Step thread ∷ []) → HasOpened called thread
  call_opened before thread called now calls is =
      subst (λ (x : Watched). HasOpened x thread) (sym (is ∙ after_one (first_watched image) before (Step thread)))
      (call_opens (at_end before) (watched_after (at_end before) (Step thread)) (Step thread) thread refl
      ((next_from before (Step thread) (at_end before) refl now).1.changes thread) calls)

pub open_frames_keep : Premises → OpenFramesKeepWindows
open_frames_keep laws file image before later thread called read now calls is window stays =
    let past = before ++ Step thread ∷ [] in
    let same : past ++ later ≡ before ++ Step thread ∷ later = append_assoc before (Step thread ∷ []) later in
    let whole = subst (IsDisciplined (first_watched image)) (sym same) now in
    let front = front_disciplined (first_watched image) past later whole in
    let opens = call_opened laws file image read before thread called front calls is in
    subst (λ (a : ℕ). IsTrue (window_in (watched_after_all called later).machine a)) (sym opens.address)
    (open_keeps laws file image read past later called thread opens.place opens.frame is whole opens.last
    (subst (λ (a : ℕ). IsTrue (window_in called.machine a)) opens.address window)
    (subst (λ (d : ℕ). IsTrue (stays_open thread d called later)) opens.depth stays))
