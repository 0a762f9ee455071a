-- What the watch keeps of each thread, where it goes on.
use Rattle.std.proofs.Common.{◌≡◌, ℕ, Bool, true, false, not, ◌==◌, if◌then◌else◌, IsTrue}
use Rattle.std.proofs.Common.{List, Option, Some, None}
use Rattle.std.proofs.Common.{refl, sym, ◌∙◌, ap, subst, arith}
use Rattle.std.specs.Option.{option_map}
use Rattle.std.specs.List.{last_or}
use Rattle.std.proofs.lemmas.Bool.Decides.{nat_tests}
use Rattle.image_memory.specs.declared.types.Piece.{Piece}
use Rattle.image_memory.specs.Fetch.{has_window}
use Rattle.ia32_step.specs.declared.types.Frame.{Frame}
use Rattle.ia32_step.specs.declared.types.Thread.{Thread}
use Rattle.ia32_step.specs.declared.types.Flow.TheVariants.{Plain, Call, Return}
use Rattle.ia32_step.specs.declared.types.Outcome.{Outcome}
use Rattle.ia32_step.specs.declared.types.Outcome.TheVariants.{Moved, Exited, Stopped}
use Rattle.ia32_step.specs.Threads.{esp_of}
use Rattle.frame_watch.specs.declared.types.Rule.{Rule}
use Rattle.frame_watch.specs.declared.types.Rule.TheVariants as rules
use Rattle.frame_watch.specs.declared.types.Verdict.{Verdict}
use Rattle.frame_watch.specs.declared.types.Verdict.TheVariants.{Disciplined, Broken}
use Rattle.frame_watch.specs.Frames.{Watched, Watching, started, stack_of, with_started, is_of, watched_at}
use Rattle.frame_watch.specs.Frames.{frames_at, if_of, with_frames, without_thread, opened, closed, keeps_slots}
use Rattle.frame_watch.specs.Discipline.{Sight, counted, broken, breaking, least, slot_broken}
use Rattle.frame_watch.specs.Discipline.{slots_tested, after_start, pops, after_outcome}
use Rattle.frame_watch.specs.Discipline.{unless_broken, spawn_noted, step_noted, hooks_noted}
use Rattle.ksplice_session.proofs.TestedLaws.{all_keep}
use Rattle.ksplice_session.proofs.Lookups.{All-at, found_at, true_false, found_is}
use Rattle.ksplice_session.proofs.Lookups.{find_mapped, find_without, find_past_filter}
use Rattle.ksplice_session.proofs.Lookups.{find_put_other, find_put_new}

pub same_number : (n m : ℕ) → (n == m) ≡ true → n ≡ m
same_number n m is = grind (arith, nat_tests)

pub is_same : (n m : ℕ) → n ≡ m → (n == m) ≡ true
is_same n m is = grind (arith, nat_tests)

pub other_number : (n m : ℕ) → (n ≡ m → ⊥) → (n == m) ≡ false
other_number n m differ = by_test (n == m) refl
  where
    by_test : (b : Bool) → (n == m) ≡ b → b ≡ false
    by_test true is = absurd (differ (same_number n m is))
    by_test false is = refl

pub differ_by : (n m : ℕ) → (n == m) ≡ false → n ≡ m → ⊥
differ_by n m isnt is = true_false (n == m) (is_same n m is) isnt

-- what is so at a number and elsewhere is so everywhere
pub here_or_not : (P : ℕ → Type 0) (m : ℕ) → P m → ((n : ℕ) → (n ≡ m → ⊥) → P n) → (n : ℕ) → P n
here_or_not P m here elsewhere n = by_test (n == m) refl
  where
    by_test : (b : Bool) → (n == m) ≡ b → P n
    by_test true is = subst P (sym (same_number n m is)) here
    by_test false isnt = elsewhere n (differ_by n m isnt)

-- the thread that is found by a number has it
pub watched_number : (threads : List Watched) (n : ℕ) (one : Watched) → watched_at threads n ≡ Some one → one.thread ≡ n
watched_number threads n one is = same_number one.thread n (found_is (is_of n) threads one is)

number_stays : (number esp : ℕ) (frames : List Frame) (one : Watched)
    → (if_of number esp frames one).thread ≡ one.thread
number_stays number esp frames one = by_test (one.thread == number)
  where
    by_test : (b : Bool) → (if b then record one { esp = esp; frames = frames } else one).thread ≡ one.thread
    by_test true = refl
    by_test false = refl

-- another thread with other frames
pub others_stay : (threads : List Watched) (after : Thread) (frames : List Frame) (n : ℕ) → (n ≡ after.number → ⊥)
    → watched_at (with_frames threads after frames) n ≡ watched_at threads n
others_stay threads after frames n differ =
    find_mapped (is_of n) f (λ one. ap (λ (m : ℕ). m == n) (number_stays after.number (esp_of after) frames one))
    threads
    ∙ by_found (watched_at threads n) refl
  where
    f : Watched → Watched
    f = if_of after.number (esp_of after) frames

    by_found : (o : Option Watched) → watched_at threads n ≡ o → option_map f o ≡ o
    by_found None is = refl
    by_found (Some one) is =
        let isnt : (one.thread == after.number) ≡ false =
        other_number one.thread after.number (λ same. differ (sym (watched_number threads n one is) ∙ same)) in
        ap (λ (b : Bool). let w : Watched =
        (if b then record one { esp = esp_of after; frames = frames } else one) in Some w) isnt

-- the thread itself
pub it_has : (threads : List Watched) (after : Thread) (frames : List Frame) (one : Watched)
    → watched_at threads after.number ≡ Some one
    → watched_at (with_frames threads after frames) after.number
    ≡ Some (record one { esp = esp_of after; frames = frames })
it_has threads after frames one is =
    find_mapped (is_of after.number) (if_of after.number (esp_of after) frames)
    (λ x. ap (λ (m : ℕ). m == after.number) (number_stays after.number (esp_of after) frames x)) threads
    ∙ ap (option_map (if_of after.number (esp_of after) frames)) is
    ∙ ap (λ (b : Bool). let w : Watched =
    (if b then record one { esp = esp_of after; frames = frames } else one) in Some w)
    (is_same one.thread after.number (watched_number threads after.number one is))

pub others_without : (threads : List Watched) (number n : ℕ) → (n ≡ number → ⊥)
    → watched_at (without_thread threads number) n ≡ watched_at threads n
others_without threads number n differ =
    find_past_filter (is_of n) (λ one. not (is_of number one))
    (λ one is. ap not (other_number one.thread number (λ same. differ (sym (same_number one.thread n is) ∙ same))))
    threads

pub it_is_gone : (threads : List Watched) (number : ℕ) → watched_at (without_thread threads number) number ≡ None
it_is_gone threads number = find_without (is_of number) threads

pub others_started : (threads : List Watched) (thread : Thread) (n : ℕ) → (n ≡ thread.number → ⊥)
    → watched_at (with_started threads thread) n ≡ watched_at threads n
others_started threads thread n differ =
    find_put_other (is_of n) stack_of (started thread) threads
    (other_number thread.number n (λ same. differ (sym same)))

pub it_is_started : (threads : List Watched) (thread : Thread) → watched_at threads thread.number ≡ None
    → watched_at (with_started threads thread) thread.number ≡ Some (started thread)
it_is_started threads thread none =
    find_put_new (is_of thread.number) stack_of (started thread) threads
    (is_same thread.number thread.number refl) none

-- the frames of each thread keep the slot rule
abbrev pub KeepRule : List Piece → List Watched → Type 0
KeepRule pieces threads = (n : ℕ) (one : Watched) → watched_at threads n ≡ Some one → IsTrue (keeps_slots pieces one)

none_breaks : (pieces : List Piece) (threads : List Watched) → least (breaking pieces threads) ≡ None
    → KeepRule pieces threads
none_breaks pieces threads none n one is =
    let at = found_at (is_of n) threads one is in
    All-at (λ w. IsTrue (keeps_slots pieces w)) threads at.0 one (all_keep pieces threads none) at.1

-- A watch that goes on with some threads: it has these, and their frames keep the slot rule.
pub record GoesOn (pieces : List Piece) (threads : List Watched) (w : Watching) : Type 0 where
  pub kept : w.threads ≡ threads
  pub slots : KeepRule pieces threads

pub tested : (sight : Sight) (w : Watching) → (slots_tested sight w).verdict ≡ Disciplined
    → GoesOn sight.pieces w.threads (slots_tested sight w)
unfolding slots_tested
tested sight w unbroken = by_least (least (breaking sight.pieces w.threads)) refl unbroken
  where
    by_least : (o : Option ℕ) → least (breaking sight.pieces w.threads) ≡ o
        → (slot_broken w o).verdict ≡ Disciplined → GoesOn sight.pieces w.threads (slot_broken w o)
    by_least None none unbroken = record { kept = refl; slots = none_breaks sight.pieces w.threads none }
    by_least (Some n) some unbroken = absurd (cc)

-- where a rule's test is made, and nothing is broken, the test holds
unbroken_by : (P : Watching → Type 0) (b : Bool) (w old : Watching) (thread : ℕ) (rule : Rule)
    → (if b then w else broken old thread rule).verdict ≡ Disciplined → (w.verdict ≡ Disciplined → P w)
    → (b ≡ true) × P (if b then w else broken old thread rule)
unbroken_by P true w old thread rule unbroken next = (refl, next unbroken)
unbroken_by P false w old thread rule unbroken next = absurd (cc)

pub goes_on_by : (v : Verdict) (next : Watching → Watching) (w : Watching) → v ≡ Disciplined
    → unless_broken v next w ≡ next w
goes_on_by Disciplined next w is = refl
goes_on_by (Broken event thread rule) next w is = absurd (cc)

module _ (sight : Sight) (w : Watching) (unbroken : w.verdict ≡ Disciplined) where
  pub start_goes_on : (thread : Thread) → (spawn_noted sight thread w).verdict ≡ Disciplined
      → IsTrue (has_window (sight.view thread.pc))
      × GoesOn sight.pieces (with_started w.threads thread) (spawn_noted sight thread w)
  unfolding spawn_noted
  start_goes_on thread after =
      let same = goes_on_by w.verdict (after_start sight thread) (counted w) unbroken in
      let now = subst (λ (x : Watching). x.verdict ≡ Disciplined) same after in
      let next : Watching = record (counted w) { threads = with_started w.threads thread } in
      subst (λ (x : Watching). IsTrue (has_window (sight.view thread.pc))
      × GoesOn sight.pieces (with_started w.threads thread) x) (sym same)
      (unbroken_by (GoesOn sight.pieces (with_started w.threads thread)) (has_window (sight.view thread.pc))
      (slots_tested sight next) (counted w) thread.number rules.Start now (tested sight next))

  -- what a step leaves of the watch, by its outcome
  abbrev pub LeavesWatch : (before after : Thread) → Outcome → Watching → Type 0
  LeavesWatch before after (Moved Return) new =
      IsTrue (pops (esp_of before) after.pc (last_or None (frames_at w.threads before.number)))
      × GoesOn sight.pieces (with_frames w.threads after (closed (frames_at w.threads before.number))) new
  LeavesWatch before after (Moved Call) new =
      IsTrue (has_window (sight.view after.pc))
      × GoesOn sight.pieces
      (with_frames w.threads after (opened sight.pieces after (frames_at w.threads before.number))) new
  LeavesWatch before after (Moved Plain) new =
      IsTrue (has_window (sight.view after.pc))
      × GoesOn sight.pieces (with_frames w.threads after (frames_at w.threads before.number)) new
  LeavesWatch before after (Exited value) new = GoesOn sight.pieces (without_thread w.threads after.number) new
  LeavesWatch before after (Stopped fault) new = GoesOn sight.pieces (without_thread w.threads after.number) new

  by_outcome : (before after : Thread) (outcome : Outcome)
      → (after_outcome sight before after (frames_at w.threads before.number) outcome (counted w)).verdict ≡ Disciplined
      → LeavesWatch before after outcome
      (after_outcome sight before after (frames_at w.threads before.number) outcome (counted w))
  by_outcome before after (Moved Return) now =
      let threads = with_frames w.threads after (closed (frames_at w.threads before.number)) in
      let next : Watching = record (counted w) { threads = threads } in
      unbroken_by (GoesOn sight.pieces threads)
      (pops (esp_of before) after.pc (last_or None (frames_at w.threads before.number)))
      (slots_tested sight next) (counted w) after.number rules.Return now (tested sight next)
  by_outcome before after (Moved Call) now =
      let threads = with_frames w.threads after (opened sight.pieces after (frames_at w.threads before.number)) in
      let next : Watching = record (counted w) { threads = threads } in
      unbroken_by (GoesOn sight.pieces threads) (has_window (sight.view after.pc))
      (slots_tested sight next) (counted w) after.number rules.Arrival now (tested sight next)
  by_outcome before after (Moved Plain) now =
      let threads = with_frames w.threads after (frames_at w.threads before.number) in
      let next : Watching = record (counted w) { threads = threads } in
      unbroken_by (GoesOn sight.pieces threads) (has_window (sight.view after.pc))
      (slots_tested sight next) (counted w) after.number rules.Arrival now (tested sight next)
  by_outcome before after (Exited value) now =
      let next : Watching = record (counted w) { threads = without_thread w.threads after.number } in
      tested sight next now
  by_outcome before after (Stopped fault) now =
      let next : Watching = record (counted w) { threads = without_thread w.threads after.number } in
      tested sight next now

  pub step_goes_on : (before after : Thread) (outcome : Outcome)
      → (step_noted sight before after outcome w).verdict ≡ Disciplined
      → LeavesWatch before after outcome (step_noted sight before after outcome w)
  unfolding step_noted
  step_goes_on before after outcome now =
      let same =
      goes_on_by w.verdict (after_outcome sight before after (frames_at w.threads before.number) outcome) (counted w)
      unbroken in
      subst (LeavesWatch before after outcome) (sym same)
      (by_outcome before after outcome (subst (λ (x : Watching). x.verdict ≡ Disciplined) same now))

  -- where functions were run, no frame of what is watched breaks the slot rule
  pub hooks_go_on : (hooks_noted sight w).verdict ≡ Disciplined
      → GoesOn sight.pieces w.threads (hooks_noted sight w)
  unfolding hooks_noted
  hooks_go_on now =
      let same = goes_on_by w.verdict (slots_tested sight) (counted w) unbroken in
      subst (GoesOn sight.pieces w.threads) (sym same)
      (tested sight (counted w) (subst (λ (x : Watching). x.verdict ≡ Disciplined) same now))

-- once a rule was broken it stays so
stays_broken : (v : Verdict) (next : Watching → Watching) (w : Watching) → w.verdict ≡ v
    → (unless_broken v next w).verdict ≡ Disciplined → w.verdict ≡ Disciplined
stays_broken Disciplined next w is now = is
stays_broken (Broken event thread rule) next w is now = now

pub start_was_unbroken : (sight : Sight) (thread : Thread) (w : Watching)
    → (spawn_noted sight thread w).verdict ≡ Disciplined → w.verdict ≡ Disciplined
unfolding spawn_noted
start_was_unbroken sight thread w now = stays_broken w.verdict (after_start sight thread) (counted w) refl now

pub step_was_unbroken : (sight : Sight) (before after : Thread) (outcome : Outcome) (w : Watching)
    → (step_noted sight before after outcome w).verdict ≡ Disciplined → w.verdict ≡ Disciplined
unfolding step_noted
step_was_unbroken sight before after outcome w now =
    stays_broken w.verdict (after_outcome sight before after (frames_at w.threads before.number) outcome) (counted w)
    refl now

pub hooks_was_unbroken : (sight : Sight) (w : Watching) → (hooks_noted sight w).verdict ≡ Disciplined
    → w.verdict ≡ Disciplined
unfolding hooks_noted
hooks_was_unbroken sight w now = stays_broken w.verdict (slots_tested sight) (counted w) refl now
