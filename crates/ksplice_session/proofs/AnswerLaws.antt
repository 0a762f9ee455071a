-- Why each line is answered as it is to be.
use Rattle.std.proofs.Common.{◌≡◌, ◌≢◌, ℕ, Bool, true, false, List, [], ◌∷◌, ◌++◌, length, map, is_some}
use Rattle.std.proofs.Common.{Option, Some, None, Result, Ok, Err, IfOk, refl, sym, ◌∙◌, ap, subst, append-nil}
use Rattle.std.specs.declared.alloc.AllocError.{AllocError}
use Rattle.ks_base.specs.declared.refusals.Refusal.{Refusal}
use Rattle.ks_base.specs.declared.refusals.Refusal.TheVariants.{NoThread, Memory}
use Rattle.ks_base.specs.Refusals.{refusal_line}
use Rattle.image_threads.specs.Program.{running_at}
use Rattle.script_lines.specs.declared.types.Command.TheVariants.{Spawn, Step, RoundRobin, Threads}
use Rattle.script_lines.specs.declared.types.Command.TheVariants.{Peek, Undo, UndoNamed, ListUpdates, Watch}
use Rattle.splice_jump.specs.declared.phase.Phase.{Phase}
use Rattle.splice_jump.specs.declared.phase.Phase.TheVariants.{Done}
use Rattle.update_stack.specs.AbstractMachine.{AbstractMachine, shown_update}
use Rattle.update_stack.specs.Events.{Event, Spawn as SpawnEvent, Undo as UndoEvent}
use Rattle.update_stack.specs.Events.{UndoNamed as UndoNamedEvent, Spawned, Undone}
use Rattle.update_stack.specs.Events.{Happened, happened, spawn_answered, undo_answered, answered}
use Rattle.update_stack.specs.Events.{machine_after, after_event, after_events}
use Rattle.update_stack.specs.Steps.{spawned}
use Rattle.update_stack.specs.Undo.{undone, undone_named}
use Rattle.update_stack.specs.Phases.{phased, patched_in}
use Rattle.live_poke.specs.Poke.{open_refusal}
use Rattle.ksplice_session.specs.declared.types.Answer.{Answer}
use Rattle.ksplice_session.specs.Watching.{Watched, watched_by, watched_after, watched_after_all}
use Rattle.ksplice_session.specs.Lines.{spawned_line, threads_lines, peek_line, undone_line, list_lines, watch_line}
use Rattle.ksplice_session.specs.Running.{thread_steps, round_robin}
use Rattle.ksplice_session.specs.Replies.{Told, told_of, spawn_told, undo_told, replied}
use Rattle.ksplice_session.specs.Replies.{refused_after, shown, step_told, turns_told}
use Rattle.ksplice_session.specs.Replies.{live_of, told_unless, unless_open}
use Rattle.ksplice_session.specs.Answers.{Answers, MadeFront, Noted, Unnoted}
use Rattle.ksplice_session.specs.Answers.{turned, turned_before, told_after, answer_of}
use Rattle.ksplice_session.proofs.EventAnswers.{same_Ok}

nothing_made : (s now : Watched) (events : List Event) → now ≡ s → now ≡ watched_after_all s []
unfolding watched_after_all
nothing_made s now events same = same

pub nothing_done : (s : Watched) → s ≡ watched_after_all s []
unfolding watched_after_all
nothing_done s = refl

same_line : (line : Result (List ℕ) AllocError) (reply l : List ℕ)
    → IfOk line (λ m. m ≡ reply) → line ≡ Ok l → l ≡ reply
same_line (Ok m) reply l made is = cc
same_line (Err e) reply l made is = cc

-- all events of a line were made, and the phase changed
pub all_made : (s now : Watched) (told : Told) → now ≡ told_after s told → MadeFront s told.events told.turns now
all_made s now told is = Noted told.events [] (append-nil told.events) is

-- none was, and where there is none, the phase isn't changed
pub none_made : (s now : Watched) (events : List Event) (turns : Option Phase) → (events ≡ [] → turns ≡ None) → now ≡ s
    → MadeFront s events turns now
none_made s now [] turns unturned same =
    Noted [] [] refl
    (nothing_made s now [] same ∙ ap (λ (t : Option Phase). turned t (watched_after_all s [])) (sym (unturned refl)))
none_made s now (e ∷ es) turns unturned same = Noted [] (e ∷ es) refl (nothing_made s now (e ∷ es) same)

-- a line that leaves the phase leaves it with each of its events
unturned_before : (rest : List Event) (s : Watched) → turned_before rest None s ≡ s
unturned_before [] s = refl
unturned_before (e ∷ es) s = refl

-- a line that was run, by what it tells
pub told_answers : (s now : Watched) {told came : Told}
    (line : Result (List ℕ) AllocError) (r : Result Answer AllocError)
    → told ≡ came → came.refused ≡ false → IfOk line (λ l. l ≡ came.reply) → now ≡ told_after s came
    → IfOk r (λ answer. (line ≡ Ok answer.line) × (answer.refused ≡ false)) → Answers s told now r
told_answers s now {told = told} {came = came} line r same done made session is =
    subst (λ (t : Told). Answers s t now r) (sym same) (by r is)
  where
    by : (r : Result Answer AllocError)
        → IfOk r (λ answer. (line ≡ Ok answer.line) × (answer.refused ≡ false)) → Answers s came now r
    by (Ok answer) is = (
      ap (λ (l : List ℕ). let a : Answer = record { line = l; refused = answer.refused } in a)
          (same_line line came.reply answer.line made is.0)
          ∙ ap (λ (b : Bool). let a : Answer = record { line = came.reply; refused = b } in a) (is.1 ∙ sym done),
      session,
    )
    by (Err e) is = all_made s now came session

-- a line that only tells something
pub read_answers : (s : Watched) {told : Told} {reply : List ℕ}
    (line : Result (List ℕ) AllocError) (r : Result Answer AllocError)
    → told ≡ replied [] reply → IfOk line (λ l. l ≡ reply)
    → IfOk r (λ answer. (line ≡ Ok answer.line) × (answer.refused ≡ false)) → Answers s told s r
read_answers s {told = told} {reply = reply} line r same made is =
    told_answers s s {told = told} {came = replied [] reply} line r same refl made (nothing_done s) is

-- a line that is refused, and changes nothing
pub refused_answers : (s now : Watched) (told : Told) (refusal : Refusal) (r : Result Answer AllocError)
    → (refusal ≢ Memory → now ≡ s) → (refusal ≢ Memory → told ≡ refused_after [] refusal)
    → MadeFront s told.events told.turns now
    → IfOk r (λ answer. (answer ≡ (let a : Answer = record { line = refusal_line refusal; refused = true } in a))
    × (refusal ≢ Memory)) → Answers s told now r
refused_answers s now told refusal (Ok answer) same is front h = (
  h.0 ∙ sym (ap answer_of (is h.1)),
  nothing_made s now told.events (same h.1) ∙ sym (ap (λ (t : Told). told_after s t) (is h.1)),
)
refused_answers s now told refusal (Err e) same is front h = front

-- an event that was made
pub one_event : (s now : Watched) (event : Event) → now ≡ watched_after s event → now ≡ watched_after_all s (event ∷ [])
unfolding watched_after_all
one_event s now event is = is

unspawned : (s : Watched) (event : Event) (refusal : Refusal)
    → answered s.machine event ≡ Err refusal → watched_after_all s (event ∷ []) ≡ s
unfolding watched_after_all watched_after
unspawned s event refusal is = ap (watched_by s event) is

unmoved : (s : Watched) (event : Event) (refusal : Refusal)
    → answered s.machine event ≡ Err refusal → after_events s.machine (event ∷ []) ≡ s.machine
unfolding after_events after_event
unmoved s event refusal is = ap (machine_after s.machine) is

no_more : (more rest : List Event) → more ++ rest ≡ [] → more ≡ []
no_more [] rest is = refl
no_more (e ∷ es) rest is = cc

-- a session with another machine
abbrev pub with_machine : AbstractMachine → Watched → Watched
with_machine k s = record s { machine = k }

-- an event that is refused leaves all as it was
nothing_came : (s now : Watched) (event : Event) (refusal : Refusal)
    → answered s.machine event ≡ Err refusal → MadeFront s (event ∷ []) None now → now ≡ s
nothing_came s now event refusal none (Noted [] rest whole is) =
    is ∙ unturned_before rest (watched_after_all s []) ∙ sym (nothing_done s)
nothing_came s now event refusal none (Noted (e ∷ es) rest whole is) =
    let here : e ≡ event = cc in
    let later : es ≡ [] = no_more es rest cc in
    is ∙ unturned_before rest (watched_after_all s (e ∷ es)) ∙ ap (λ (x : Event). watched_after_all s (x ∷ es)) here
    ∙ ap (λ (xs : List Event). watched_after_all s (event ∷ xs)) later
    ∙ unspawned s event refusal none
nothing_came s now event refusal none (Unnoted [] rest name argument whole is) =
    let here : SpawnEvent name argument ≡ event = cc in
    is ∙ ap (λ (k : AbstractMachine). with_machine k (watched_after_all s []))
    (ap (λ (x : Event). after_events s.machine (x ∷ [])) here ∙ unmoved s event refusal none)
    ∙ ap (λ (w : Watched). with_machine s.machine w) (sym (nothing_done s))
nothing_came s now event refusal none (Unnoted (e ∷ []) rest name argument whole is) = cc
nothing_came s now event refusal none (Unnoted (e ∷ f ∷ es) rest name argument whole is) = cc

-- where memory ran out in a start, a prefix of what its line tells was made
pub front_told : (s now : Watched) (name : List ℕ) (argument : ℕ)
    → MadeFront s (SpawnEvent name argument ∷ []) None now
    → MadeFront s (told_of s (Spawn name argument) []).events (told_of s (Spawn name argument) []).turns now
unfolding told_of answered
front_told s now name argument front = by (spawned s.machine name argument) refl
  where
    by : (r : Result AbstractMachine Refusal) → spawned s.machine name argument ≡ r
        → MadeFront s (spawn_told (SpawnEvent name argument) (length s.machine.threads) r).events
        (spawn_told (SpawnEvent name argument) (length s.machine.threads) r).turns now
    by (Ok left) is = front
    by (Err refusal) is =
        none_made s now [] None (λ _. refl)
        (nothing_came s now (SpawnEvent name argument) refusal
        (ap (spawn_answered (length s.machine.threads)) is) front)

pub told_spawned : (s : Watched) (now : AbstractMachine) (name : List ℕ) (argument number : ℕ)
    → answered s.machine (SpawnEvent name argument) ≡ Ok (happened now (Spawned number))
    → told_of s (Spawn name argument) [] ≡ replied (SpawnEvent name argument ∷ []) (shown now number spawned_line)
unfolding told_of answered
told_spawned s now name argument number is = by (spawned s.machine name argument) is
  where
    by : (r : Result AbstractMachine Refusal)
        → spawn_answered (length s.machine.threads) r ≡ Ok (happened now (Spawned number))
        → spawn_told (SpawnEvent name argument) (length s.machine.threads) r
        ≡ replied (SpawnEvent name argument ∷ []) (shown now number spawned_line)
    by (Ok left) is =
        let came : happened left (Spawned (length s.machine.threads)) ≡ happened now (Spawned number) =
        same_Ok _ _ is in
        let answer : Spawned (length s.machine.threads) ≡ Spawned number = ap (λ (h : Happened). h.answer) came in
        let count : length s.machine.threads ≡ number = cc in
        ap (λ (h : Happened).
        replied (SpawnEvent name argument ∷ []) (shown h.machine (length s.machine.threads) spawned_line)) came
        ∙ ap (λ (n : ℕ). replied (SpawnEvent name argument ∷ []) (shown now n spawned_line)) count
    by (Err refusal) is = cc

pub told_spawn_refused : (s : Watched) (name : List ℕ) (argument : ℕ) (refusal : Refusal)
    → answered s.machine (SpawnEvent name argument) ≡ Err refusal
    → told_of s (Spawn name argument) [] ≡ refused_after [] refusal
unfolding told_of answered
told_spawn_refused s name argument refusal is = by (spawned s.machine name argument) is
  where
    by : (r : Result AbstractMachine Refusal) → spawn_answered (length s.machine.threads) r ≡ Err refusal
        → spawn_told (SpawnEvent name argument) (length s.machine.threads) r ≡ refused_after [] refusal
    by (Ok left) is = cc
    by (Err other) is = cc

pub told_stepped : (s : Watched) (thread n : ℕ) → is_some (running_at s.machine.threads thread) ≡ true
    → told_of s (Step thread n) [] ≡ step_told s.machine thread (thread_steps s.machine thread n)
unfolding told_of
told_stepped s thread n runs = rw runs refl

pub told_step_refused : (s : Watched) (thread n : ℕ) → is_some (running_at s.machine.threads thread) ≡ false
    → told_of s (Step thread n) [] ≡ refused_after [] (NoThread thread)
unfolding told_of
told_step_refused s thread n runs = rw runs refl

pub told_turns : (s : Watched) (quantum n : ℕ)
    → told_of s (RoundRobin quantum n) [] ≡ turns_told (round_robin s.machine quantum n)
unfolding told_of
told_turns s quantum n = refl

pub told_threads : (s : Watched) → told_of s Threads [] ≡ replied [] (threads_lines s.machine.symbols s.machine.threads)
unfolding told_of
told_threads s = refl

pub told_peek : (s : Watched) (address count : ℕ)
    → told_of s (Peek address count) [] ≡ replied [] (peek_line (patched_in s.phase s.machine).pieces address count)
unfolding told_of
told_peek s address count = refl

-- what a line tells where no update is being written, and where one stands in its way
pub told_closed : (s : Watched) (told : Told) → s.phase ≡ Done → unless_open (live_of s) told ≡ told
told_closed s told done = ap (λ (phase : Phase). told_unless (open_refusal (phased s.machine phase)) told) done

pub told_open : (s : Watched) (told : Told) (refusal : Refusal) → open_refusal (live_of s) ≡ Some refusal
    → unless_open (live_of s) told ≡ refused_after [] refusal
told_open s told refusal is = ap (λ (o : Option Refusal). told_unless o told) is

-- a line that takes an update back leaves the phase
pub unless_unturned : (o : Option Refusal) (told : Told) → told.turns ≡ None → (told_unless o told).turns ≡ None
unless_unturned None told unturned = unturned
unless_unturned (Some refusal) told unturned = refl

undo_unturned : (event : Event) (r : Result (AbstractMachine × List ℕ) Refusal) → (undo_told event r).turns ≡ None
undo_unturned event (Ok left) = refl
undo_unturned event (Err refusal) = refl

pub told_undo_unturned : (s : Watched) → (told_of s Undo []).turns ≡ None
unfolding told_of
told_undo_unturned s =
    unless_unturned (open_refusal (live_of s)) (undo_told UndoEvent (undone s.machine))
    (undo_unturned UndoEvent (undone s.machine))

pub told_undo_named_unturned : (s : Watched) (name : List ℕ) → (told_of s (UndoNamed name) []).turns ≡ None
unfolding told_of
told_undo_named_unturned s name =
    unless_unturned (open_refusal (live_of s)) (undo_told (UndoNamedEvent name) (undone_named s.machine name))
    (undo_unturned (UndoNamedEvent name) (undone_named s.machine name))

-- what a line tells that takes an update back, by what the machine answers
tells_undone : (event : Event) (r : Result (AbstractMachine × List ℕ) Refusal) (now : AbstractMachine) (name : List ℕ)
    → undo_answered r ≡ Ok (happened now (Undone name)) → undo_told event r ≡ replied (event ∷ []) (undone_line name)
tells_undone event (Ok left) now name is =
    let answer : Undone left.1 ≡ Undone name = ap (λ (h : Happened). h.answer) (same_Ok _ _ is) in
    let same : left.1 ≡ name = cc in
    ap (λ (n : List ℕ). replied (event ∷ []) (undone_line n)) same
tells_undone event (Err refusal) now name is = cc

tells_refused : (event : Event) (r : Result (AbstractMachine × List ℕ) Refusal) (refusal : Refusal)
    → undo_answered r ≡ Err refusal → undo_told event r ≡ refused_after [] refusal
tells_refused event (Ok left) refusal is = cc
tells_refused event (Err other) refusal is = cc

pub told_undone : (s : Watched) (now : AbstractMachine) (name : List ℕ)
    → s.phase ≡ Done → answered s.machine UndoEvent ≡ Ok (happened now (Undone name))
    → told_of s Undo [] ≡ replied (UndoEvent ∷ []) (undone_line name)
unfolding told_of answered
told_undone s now name done is =
    told_closed s (undo_told UndoEvent (undone s.machine)) done ∙ tells_undone UndoEvent (undone s.machine) now name is

pub told_undo_refused : (s : Watched) (refusal : Refusal) → s.phase ≡ Done → answered s.machine UndoEvent ≡ Err refusal
    → told_of s Undo [] ≡ refused_after [] refusal
unfolding told_of answered
told_undo_refused s refusal done is =
    told_closed s (undo_told UndoEvent (undone s.machine)) done ∙ tells_refused UndoEvent (undone s.machine) refusal is

pub told_undone_named : (s : Watched) (now : AbstractMachine) (name : List ℕ)
    → s.phase ≡ Done → answered s.machine (UndoNamedEvent name) ≡ Ok (happened now (Undone name))
    → told_of s (UndoNamed name) [] ≡ replied (UndoNamedEvent name ∷ []) (undone_line name)
unfolding told_of answered
told_undone_named s now name done is =
    told_closed s (undo_told (UndoNamedEvent name) (undone_named s.machine name)) done
    ∙ tells_undone (UndoNamedEvent name) (undone_named s.machine name) now name is

pub told_undo_named_refused : (s : Watched) (name : List ℕ) (refusal : Refusal)
    → s.phase ≡ Done → answered s.machine (UndoNamedEvent name) ≡ Err refusal
    → told_of s (UndoNamed name) [] ≡ refused_after [] refusal
unfolding told_of answered
told_undo_named_refused s name refusal done is =
    told_closed s (undo_told (UndoNamedEvent name) (undone_named s.machine name)) done
    ∙ tells_refused (UndoNamedEvent name) (undone_named s.machine name) refusal is

pub told_list : (s : Watched) → told_of s ListUpdates [] ≡ replied [] (list_lines (map shown_update s.machine.updates))
unfolding told_of
told_list s = refl

pub told_watch : (s : Watched) → told_of s Watch [] ≡ replied [] (watch_line s.watch.verdict)
unfolding told_of
told_watch s = refl
