-- Why the tries of an update are answered as they are to be.
use Rattle.std.proofs.Common.{◌≡◌, ◌≢◌, ℕ, zero, suc, ◌+◌, ◌-◌, ◌<◌, Bool, true, false, if◌then◌else◌, List, [], ◌∷◌, ◌++◌}
use Rattle.std.proofs.Common.{Option, Some, None, Result, Ok, Err, IfOk, OnOk, OnErr, MatchResult}
use Rattle.std.proofs.Common.{refl, sym, ◌∙◌, ap, subst, append_assoc, arith}
use Rattle.std.proofs.lemmas.List.Sums.{fold-append}
use Rattle.std.specs.Result.{result_err}
use Rattle.std.specs.declared.alloc.AllocError.{AllocError}
use Rattle.ks_base.specs.Gives.{Gives}
use Rattle.ks_base.specs.declared.reports.Report.{Report}
use Rattle.ks_base.specs.declared.refusals.Refusal.{Refusal}
use Rattle.ks_base.specs.declared.refusals.Refusal.TheVariants.{Memory}
use Rattle.splice_jump.specs.declared.phase.Phase.{Phase}
use Rattle.splice_jump.specs.declared.phase.Phase.TheVariants.{Done}
use Rattle.image_file.specs.Fields.{◌>>=◌}
use Rattle.image_threads.specs.declared.turns.Turn.{Turn}
use Rattle.image_threads.specs.Turning.{turn_from}
use Rattle.update_stack.specs.Standing.{thread_refusal}
use Rattle.update_stack.specs.PlanType.{Plan}
use Rattle.update_stack.specs.Plan.{unless}
use Rattle.update_stack.specs.AbstractMachine.{AbstractMachine}
use Rattle.update_stack.specs.Apply.{planned_in, accepted, applied, committed}
use Rattle.update_stack.specs.Events.{Event, Spawn, Step, AreSteps, Applied, Happened, happened, apply_answered, answered}
use Rattle.update_stack.specs.Events.{after_event, after_events}
use Rattle.update_stack.specs.Stacked.{IsBuilt}
use Rattle.ksplice_session.specs.declared.types.Answer.{Answer}
use Rattle.ksplice_session.specs.Lines.{applied_lines}
use Rattle.ksplice_session.specs.Running.{round_robin, taken, turn_steps}
use Rattle.ksplice_session.specs.Replies.{Told, Trial, event_of, applied_by, try_told, tried, is_busy}
use Rattle.ksplice_session.specs.Replies.{after_gap, replied, apply_told}
use Rattle.ksplice_session.specs.Watching.{Watched, watched_after, watched_after_all}
use Rattle.ksplice_session.specs.Answers.{Answers, MadeFront, Noted, Unnoted}
use Rattle.ksplice_session.specs.Answers.{turned, turned_before, told_after, answer_of}
use Rattle.ksplice_session.specs.inside.Trying.{checked, plan_for, IsTryAnswer, Waited}
use Rattle.ksplice_session.proofs.AnswerLaws.{with_machine, refused_answers, one_event, all_made, none_made}
use Rattle.ksplice_session.proofs.EventAnswers.{same_Ok}
use Rattle.ksplice_session.proofs.LiveAnswers.{phase_after_all}
use Rattle.ksplice_session.proofs.WatchedLaws.{machine_after_all, watched_after_both}

after_both : (k : AbstractMachine) (gap events : List Event)
    → after_events k (gap ++ events) ≡ after_events (after_events k gap) events
unfolding after_events
after_both k gap events = fold-append after_event k gap events

-- a prefix of what is made after a gap
front_after : (s now : Watched) (gap events : List Event) (turns : Option Phase)
    → MadeFront (watched_after_all s gap) events turns now → MadeFront s (gap ++ events) turns now
front_after s now gap events turns (Noted made rest whole is) =
    Noted (gap ++ made) rest (append_assoc gap made rest ∙ ap (λ (l : List Event). gap ++ l) whole)
    (is ∙ ap (λ (w : Watched). turned_before rest turns w) (sym (watched_after_both s gap made)))
front_after s now gap events turns (Unnoted made rest name argument whole is) =
    let last : List Event = Spawn name argument ∷ [] in
    let machine : after_events (watched_after_all s gap).machine (made ++ last)
    ≡ after_events s.machine ((gap ++ made) ++ last) =
    ap (λ (k : AbstractMachine). after_events k (made ++ last)) (machine_after_all s gap)
    ∙ sym (after_both s.machine gap (made ++ last))
    ∙ ap (after_events s.machine) (sym (append_assoc gap made last)) in
    Unnoted (gap ++ made) rest name argument
    (append_assoc gap made (Spawn name argument ∷ rest) ∙ ap (λ (l : List Event). gap ++ l) whole)
    (is ∙ ap (λ (k : AbstractMachine). with_machine k (watched_after_all (watched_after_all s gap) made)) machine
    ∙ ap (λ (w : Watched). with_machine (after_events s.machine ((gap ++ made) ++ last)) w)
    (sym (watched_after_both s gap made)))

-- what a line does when some events were made, it does after all
after_gap_answers : (s now : Watched) (gap : List Event) (told : Told) (r : Result Answer AllocError)
    → Answers (watched_after_all s gap) told now r → Answers s (after_gap gap told) now r
after_gap_answers s now gap told (Ok answer) h =
    (h.0, h.1 ∙ ap (λ (w : Watched). turned told.turns w) (sym (watched_after_both s gap told.events)))
after_gap_answers s now gap told (Err e) h = front_after s now gap told.events told.turns h

-- the tries of an update leave the phase
try_unturned : (trial : Trial) (try : ℕ) (r : Result (AbstractMachine × Report) Refusal)
    → (try_told trial try r).turns ≡ None
try_unturned trial try (Ok left) = refl
try_unturned trial try (Err refusal) = refl

chosen_unturned : (b : Bool) (told other : Told) → told.turns ≡ None → other.turns ≡ None
    → (if b then told else other).turns ≡ None
chosen_unturned true told other unturned too = unturned
chosen_unturned false told other unturned too = too

tried_unturned : (trial : Trial) (gap try left : ℕ) (k : AbstractMachine) → (tried trial gap try left k).turns ≡ None
unfolding tried
tried_unturned trial gap try zero k = try_unturned trial try (applied_by k trial)
tried_unturned trial gap try (suc left) k =
    chosen_unturned (is_busy (applied_by k trial))
    (after_gap (round_robin k 1 gap) (tried trial gap (try + 1) left (after_events k (round_robin k 1 gap))))
    (try_told trial try (applied_by k trial))
    (tried_unturned trial gap (try + 1) left (after_events k (round_robin k 1 gap)))
    (try_unturned trial try (applied_by k trial))

pub apply_unturned : (k : AbstractMachine) (name : List ℕ) (tries gap : ℕ) (held : List (List ℕ))
    → (apply_told k name tries gap held).turns ≡ None
apply_unturned k name tries gap [] = refl
apply_unturned k name tries gap (pre ∷ []) = refl
apply_unturned k name tries gap (pre ∷ post ∷ []) =
    tried_unturned (record { name = name; pre = pre; post = post }) gap 1 (tries - 1) k
apply_unturned k name tries gap (pre ∷ post ∷ more ∷ rest) = refl

-- a try that is the last one
last_try : (trial : Trial) (gap try left : ℕ) (k : AbstractMachine) → left ≡ 0
    → tried trial gap try left k ≡ try_told trial try (applied_by k trial)
unfolding tried
last_try trial gap try left k none = rw none refl

-- a try after which there is none, though more were left
ends_try : (trial : Trial) (gap try left : ℕ) (k : AbstractMachine) → is_busy (applied_by k trial) ≡ false
    → tried trial gap try left k ≡ try_told trial try (applied_by k trial)
unfolding tried
ends_try trial gap try zero k free = refl
ends_try trial gap try (suc left) k free =
    ap (λ (b : Bool). if b
    then after_gap (round_robin k 1 gap) (tried trial gap (try + 1) left (after_events k (round_robin k 1 gap)))
    else try_told trial try (applied_by k trial)) free

again_try : (trial : Trial) (gap try left : ℕ) (k : AbstractMachine) → is_busy (applied_by k trial) ≡ true
    → tried trial gap try (suc left) k
    ≡ after_gap (round_robin k 1 gap) (tried trial gap (try + 1) left (after_events k (round_robin k 1 gap)))
unfolding tried
again_try trial gap try left k busy =
    ap (λ (b : Bool). if b
    then after_gap (round_robin k 1 gap) (tried trial gap (try + 1) left (after_events k (round_robin k 1 gap)))
    else try_told trial try (applied_by k trial)) busy

-- What a try came to is what the machine answers, unless memory ran out; what is refused changes nothing.
pub record CameOut (s now : Watched) (trial : Trial) (outcome : Result Report Refusal) : Type 0 where
  pub answered : MatchResult outcome
      (λ report. answered s.machine (event_of trial) ≡ Ok (happened now.machine (Applied report)))
      (λ refusal. refusal ≢ Memory → answered s.machine (event_of trial) ≡ Err refusal)
  pub noted : OnOk outcome (now ≡ watched_after s (event_of trial))
  pub refused : OnErr outcome (now ≡ s)

-- what a try comes to, by what is answered to its event
apply_came : (k now : AbstractMachine) (trial : Trial) (report : Report)
    → answered k (event_of trial) ≡ Ok (happened now (Applied report)) → applied_by k trial ≡ Ok (now, report)
unfolding answered
apply_came k now trial report is = by (applied_by k trial) is
  where
    by : (r : Result (AbstractMachine × Report) Refusal) → apply_answered r ≡ Ok (happened now (Applied report))
        → r ≡ Ok (now, report)
    by (Ok left) is =
        let came : happened left.0 (Applied left.1) ≡ happened now (Applied report) = same_Ok _ _ is in
        let answer : Applied left.1 ≡ Applied report = ap (λ (h : Happened). h.answer) came in
        let same : left.1 ≡ report = cc in
        ap (λ (h : Happened). Ok (h.machine, left.1)) came ∙ ap (λ (x : Report). Ok (now, x)) same
    by (Err refusal) is = cc

apply_refused : (k : AbstractMachine) (trial : Trial) (refusal : Refusal)
    → answered k (event_of trial) ≡ Err refusal → applied_by k trial ≡ Err refusal
unfolding answered
apply_refused k trial refusal is = by (applied_by k trial) is
  where
    by : (r : Result (AbstractMachine × Report) Refusal) → apply_answered r ≡ Err refusal → r ≡ Err refusal
    by (Ok left) is = cc
    by (Err other) is = cc

-- what a try tells that ends its line, as its answer
try_answers : (s now : Watched) (trial : Trial) (try : ℕ) (outcome : Result Report Refusal)
    (r : Result Answer AllocError) → CameOut s now trial outcome → IfOk r (IsTryAnswer trial.name try outcome)
    → Answers s (try_told trial try (applied_by s.machine trial)) now r
try_answers s now trial try (Ok report) r came h = by r h
  where
    told_is : try_told trial try (applied_by s.machine trial)
        ≡ replied (event_of trial ∷ []) (applied_lines trial.name try report)
    told_is = ap (try_told trial try) (apply_came s.machine now.machine trial report came.answered)

    made : now ≡ told_after s (try_told trial try (applied_by s.machine trial))
    made = one_event s now (event_of trial) came.noted ∙ sym (ap (λ (t : Told). told_after s t) told_is)

    by : (r : Result Answer AllocError) → IfOk r (IsTryAnswer trial.name try (Ok report))
        → Answers s (try_told trial try (applied_by s.machine trial)) now r
    by (Ok answer) h = (h ∙ sym (ap answer_of told_is), made)
    by (Err e) h = all_made s now (try_told trial try (applied_by s.machine trial)) made
try_answers s now trial try (Err refusal) r came h =
    let told : Told = try_told trial try (applied_by s.machine trial) in
    refused_answers s now told refusal r (λ _. came.refused)
    (λ other. ap (try_told trial try) (apply_refused s.machine trial refusal (came.answered other)))
    (none_made s now told.events told.turns (λ _. try_unturned trial try (applied_by s.machine trial)) came.refused) h

-- ---- the tries before it
-- what was planned tells whether a thread stands in the way
busy_planned : (k : AbstractMachine) (trial : Trial) (planned : Result Plan Refusal) → plan_for k trial ≡ planned
    → is_busy (applied_by k trial) ≡ is_busy (checked k planned)
unfolding applied accepted
busy_planned k trial planned is =
    ap (λ (r : Result Plan Refusal). is_busy ((r
    >>= λ (plan : Plan). unless (thread_refusal k.pieces plan.guarded k.threads) plan)
    >>= λ (plan : Plan). let made : Result (AbstractMachine × Report) Refusal =
    Ok (committed k trial.name plan, plan.report) in made)) is
    ∙ by planned
  where
    by_threads : (plan : Plan) (o : Option Refusal)
        → is_busy (unless o plan >>= λ (clear : Plan). let made : Result (AbstractMachine × Report) Refusal =
        Ok (committed k trial.name clear, clear.report) in made) ≡ is_busy (unless o plan)
    by_threads plan None = refl
    by_threads plan (Some refusal) = refl

    by : (r : Result Plan Refusal)
        → is_busy ((r >>= λ (plan : Plan). unless (thread_refusal k.pieces plan.guarded k.threads) plan)
        >>= λ (plan : Plan). let made : Result (AbstractMachine × Report) Refusal =
        Ok (committed k trial.name plan, plan.report) in made) ≡ is_busy (checked k r)
    by (Err refusal) = refl
    by (Ok plan) = by_threads plan (thread_refusal k.pieces plan.guarded k.threads)

-- Tries that were put off: the plan is the same as before them, and whatever the tries from the one of a number on come
-- to, all come to.
pub record PutOff (trial : Trial) (planned : Result Plan Refusal) (gap tries : ℕ) (s now : Watched) (number : ℕ)
    : Type 0 where
  pub plan : plan_for now.machine trial ≡ planned
  pub comes : (final : Watched) (r : Result Answer AllocError)
      → Answers now (tried trial gap number (tries - number) now.machine) final r
      → Answers s (tried trial gap 1 (tries - 1) s.machine) final r

-- the law of another crate that is used here
abbrev pub StepsKeepPlans : Type 0
StepsKeepPlans = (k : AbstractMachine) (steps : List Event) (name pre_file post_file : List ℕ) → IsBuilt k → AreSteps steps
    → planned_in (after_events k steps) name pre_file post_file ≡ planned_in k name pre_file post_file

-- turns are steps
turns_are_steps : (quantum n : ℕ) (before : Option Turn) (k : AbstractMachine) → AreSteps (turn_steps quantum n before k)
unfolding turn_steps
turns_are_steps quantum zero before k = tt
turns_are_steps quantum (suc n) before k =
    by (turn_from k.threads quantum before)
    (λ turn. turns_are_steps quantum n (Some turn) (after_event k (Step turn.thread)))
  where
    by : (o : Option Turn)
        → ((turn : Turn) → AreSteps (turn_steps quantum n (Some turn) (after_event k (Step turn.thread))))
        → AreSteps (taken k (turn_steps quantum n) o)
    by None rest = tt
    by (Some turn) rest = (tt, rest turn)

module _ (trial : Trial) (planned : Result Plan Refusal) (gap tries : ℕ) (s now : Watched) (number : ℕ)
    (off : PutOff trial planned gap tries s now number) where
  -- the try of that number is the last, or no thread stands in its way
  pub waits_to_the_last : number ≡ tries → Waited trial planned gap tries s now tries
  waits_to_the_last last = record {
    plan = off.plan;
    comes = λ final r h. off.comes final r
        (subst (λ (told : Told). Answers now told final r)
        (sym (last_try trial gap number (tries - number) now.machine (omega (arith, last))))
        (subst (λ (n : ℕ). Answers now (try_told trial n (applied_by now.machine trial)) final r) (sym last) h));
  }

  pub waits_no_more : is_busy (checked now.machine planned) ≡ false → Waited trial planned gap tries s now number
  waits_no_more free = record {
    plan = off.plan;
    comes = λ final r h. off.comes final r
        (subst (λ (told : Told). Answers now told final r)
        (sym (ends_try trial gap number (tries - number) now.machine
        (busy_planned now.machine trial planned off.plan ∙ free))) h);
  }

  -- one does, and steps were made
  pub waits_on : StepsKeepPlans → IsBuilt now.machine → (after : Watched) → is_busy (checked now.machine planned) ≡ true
      → number < tries → after ≡ watched_after_all now (round_robin now.machine 1 gap)
      → PutOff trial planned gap tries s after (number + 1)
  waits_on law built after busy more steps =
      let events : List Event = round_robin now.machine 1 gap in
      let machine : after.machine ≡ after_events now.machine events =
      ap (λ (n : Watched). n.machine) steps ∙ machine_after_all now events in
      let left : ℕ = tries - (number + 1) in
      let later : Told = tried trial gap (number + 1) left (after_events now.machine events) in
      let told : tried trial gap number (tries - number) now.machine ≡ after_gap events later =
      ap (λ (n : ℕ). tried trial gap number n now.machine)
      (let count : tries - number ≡ suc left = omega (arith, more) in count)
      ∙ again_try trial gap number left now.machine (busy_planned now.machine trial planned off.plan ∙ busy) in
      record {
        plan =
            ap (λ (k : AbstractMachine). plan_for k trial) machine
            ∙ law now.machine events trial.name trial.pre trial.post built (turns_are_steps 1 gap None now.machine)
            ∙ off.plan;
        comes = λ final r h. off.comes final r
            (subst (λ (t : Told). Answers now t final r) (sym told)
            (after_gap_answers now final events later r
            (subst (λ (n : Watched). Answers n later final r) steps
            (subst (λ (k : AbstractMachine). Answers after (tried trial gap (number + 1) left k) final r) machine h))));
      }

-- before the first of them
pub waits_for_none : (trial : Trial) (planned : Result Plan Refusal) (gap tries : ℕ) (s : Watched)
    → plan_for s.machine trial ≡ planned → PutOff trial planned gap tries s s 1
waits_for_none trial planned gap tries s is = record { plan = is; comes = λ final r h. h }

-- the answer to all of them, by that to the one that is made
pub all_answer : (trial : Trial) (planned : Result Plan Refusal) (gap tries : ℕ) (s now final : Watched) (number : ℕ)
    (outcome : Result Report Refusal) (r : Result Answer AllocError) → Waited trial planned gap tries s now number
    → CameOut now final trial outcome → IfOk r (IsTryAnswer trial.name number outcome)
    → Answers s (tried trial gap 1 (tries - 1) s.machine) final r
all_answer trial planned gap tries s now final number outcome r waited came h =
    waited.comes final r (try_answers now final trial number outcome r came h)

-- memory ran out for the plan, and nothing was done
pub none_tried : (s : Watched) (trial : Trial) (gap left : ℕ)
    → MadeFront s (tried trial gap 1 left s.machine).events (tried trial gap 1 left s.machine).turns s
none_tried s trial gap left =
    none_made s s (tried trial gap 1 left s.machine).events (tried trial gap 1 left s.machine).turns
    (λ _. tried_unturned trial gap 1 left s.machine) refl

-- what a call planned is what the machine has, where memory didn't run out
pub plan_is : (k : AbstractMachine) (trial : Trial) (planned : Result Plan Refusal) (lacks : Bool)
    → Gives (λ (plan : Plan). plan) planned (plan_for k trial) → lacks ≡ false
    → MatchResult planned (λ _. lacks ≡ false) (λ refusal. lacks ≡ false → refusal ≢ Memory)
    → plan_for k trial ≡ planned
plan_is k trial (Ok plan) lacks gives has told = gives
plan_is k trial (Err refusal) lacks gives has told = gives (told has)

-- what is answered where threads are looked at
pub checked_by : (k : AbstractMachine) (plan : Plan) (outcome : Result (Unit {0}) Refusal)
    → result_err outcome ≡ thread_refusal k.pieces plan.guarded k.threads
    → is_busy outcome ≡ is_busy (checked k (Ok plan))
checked_by k plan (Ok u) is = ap (λ (o : Option Refusal). is_busy (unless o plan)) is
checked_by k plan (Err refusal) is = ap (λ (o : Option Refusal). is_busy (unless o plan)) is

-- the steps leave the phase
pub still_done : (s after : Watched) (events : List Event) → s.phase ≡ Done → after ≡ watched_after_all s events
    → after.phase ≡ Done
still_done s after events done is = ap (λ (w : Watched). w.phase) is ∙ phase_after_all s events ∙ done

-- what is answered to an update that can't be planned, or in whose way a thread stands
pub plan_answered : (k : AbstractMachine) (trial : Trial) (refusal : Refusal) → plan_for k trial ≡ Err refusal
    → answered k (event_of trial) ≡ Err refusal
unfolding answered accepted applied
plan_answered k trial refusal is = rw is refl

pub thread_answered : (k : AbstractMachine) (trial : Trial) (plan : Plan) (refusal : Refusal)
    → plan_for k trial ≡ Ok plan → thread_refusal k.pieces plan.guarded k.threads ≡ Some refusal
    → answered k (event_of trial) ≡ Err refusal
unfolding answered accepted applied
thread_answered k trial plan refusal is stands = rw is (rw stands refl)
