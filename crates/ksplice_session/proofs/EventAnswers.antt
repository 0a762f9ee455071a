-- What the machine answers to each event, and which threads run.
use Rattle.std.proofs.Common.{◌≡◌, ℕ, Bool, true, false, ◌==◌, if◌then◌else◌, nat_le, List, [], ◌∷◌, ◌++◌}
use Rattle.std.proofs.Common.{length, Option, Some, None, Result, Ok, Err, refl, sym, ◌∙◌, ap, subst}
use Rattle.std.specs.List.{slice_get}
use Rattle.std.proofs.lemmas.Option.{none-some, same_Some}
use Rattle.ks_base.specs.declared.places.Range.{Range}
use Rattle.ks_base.specs.declared.refusals.Fault.{Fault}
use Rattle.ks_base.specs.declared.refusals.Refusal.{Refusal}
use Rattle.ks_base.specs.declared.refusals.Refusal.TheVariants.{TooManyThreads, NoThread, NothingApplied, NoUpdate}
use Rattle.ks_base.specs.declared.reports.Report.{Report}
use Rattle.ks_base.specs.declared.reports.HookReport.{HookReport}
use Rattle.image_file.specs.Fields.{◌>>=◌}
use Rattle.image_memory.specs.Access.{written}
use Rattle.image_memory.specs.Contents.{Contents}
use Rattle.image_memory.specs.Fetch.{View, Unmapped, AtHome, Stray, Bytes}
use Rattle.symbol_table.specs.Symbols.{function_named}
use Rattle.ia32_decode.specs.Decode.{decoded_from}
use Rattle.ia32_step.specs.declared.types.Thread.{Thread}
use Rattle.ia32_step.specs.declared.types.Outcome.{Outcome}
use Rattle.ia32_step.specs.declared.types.Outcome.TheVariants.{Moved, Exited, Stopped}
use Rattle.ia32_step.specs.Step.{Left, context_of, exits, done, store_fault, unless_barred, change_by}
use Rattle.ia32_step.specs.Threads.{runs}
use Rattle.image_threads.specs.Program.{if_running, running_at}
use Rattle.image_threads.specs.Spawning.{started, started_at, started_on, free_stack, first_bytes, first_thread}
use Rattle.update_stack.specs.Standing.{thread_refusal}
use Rattle.update_stack.specs.PlanType.{Plan}
use Rattle.update_stack.specs.Plan.{unless}
use Rattle.update_stack.specs.AbstractMachine.{AbstractMachine, Update, contents_of, view_in, base_of}
use Rattle.update_stack.specs.Steps.{step_at, step_in, after_step, moved_by, moved, after_start, spawned}
use Rattle.update_stack.specs.Apply.{planned_in, committed, accepted, applied}
use Rattle.update_stack.specs.Hooks.{hooked}
use Rattle.update_stack.specs.Undo.{withdrawn, withdrawal_refusal}
use Rattle.update_stack.specs.Undo.{taken_back, undone_by, undone, undone_named}
use Rattle.update_stack.specs.Events.{Event, Spawn, Step, Apply, Hooks, Undo, UndoNamed, Spawned, Stepped}
use Rattle.update_stack.specs.Events.{Happened, happened, spawn_answered, step_answered, apply_answered}
use Rattle.update_stack.specs.Events.{hooks_answered, undo_answered, answered, update_taken}
use Rattle.frame_watch.specs.Frames.{Watching}
use Rattle.frame_watch.specs.Discipline.{counted, hooks_noted}
use Rattle.ksplice_session.specs.Watching.{sight_in, seen}

-- a thread that runs is one
pub running_is : (o : Option Thread) (thread : Thread) → if_running o ≡ Some thread
    → (o ≡ Some thread) × (runs thread ≡ true)
running_is None thread is = absurd (none-some thread is)
running_is (Some t) thread is = by_state (runs t) refl is
  where
    by_state : (b : Bool) → runs t ≡ b → (if b then Some t else None) ≡ Some thread
        → (Some t ≡ Some thread) × (runs thread ≡ true)
    by_state true yes_runs is = (is, subst (λ (u : Thread). runs u ≡ true) (same_Some t thread is) yes_runs)
    by_state false not_runs is = absurd (none-some thread is)

pub runs_at : (threads : List Thread) (n : ℕ) (thread : Thread) → slice_get threads n ≡ Some thread → runs thread ≡ true
    → running_at threads n ≡ Some thread
runs_at threads n thread is yes_runs =
    ap if_running is ∙ ap (λ (b : Bool). let o : Option Thread = (if b then Some thread else None) in o) yes_runs

pub rests_at : (threads : List Thread) (n : ℕ) (thread : Thread) → slice_get threads n ≡ Some thread
    → runs thread ≡ false
    → running_at threads n ≡ None
rests_at threads n thread is not_runs =
    ap if_running is ∙ ap (λ (b : Bool). let o : Option Thread = (if b then Some thread else None) in o) not_runs

-- whether a step's thread goes on
abbrev pub goes_on : Outcome → Bool
goes_on (Moved flow) = true
goes_on (Exited value) = false
goes_on (Stopped fault) = false

pub same_Ok : {X Y : Type 0} (x y : X) → (let a : Result X Y = Ok x in a) ≡ Ok y → x ≡ y
same_Ok x y is = cc

not_Ok : {X Y : Type 0} (e : Y) (y : X) → (let a : Result X Y = Err e in a) ≡ Ok y → ⊥
not_Ok e y is = cc

-- what a step leaves of its thread
pub record IsThread (thread : Thread) (left : Left) : Type 0 where
  pub number : left.thread.number ≡ thread.number
  pub stack : left.thread.stack ≡ thread.stack
  pub state : runs left.thread ≡ goes_on left.outcome

module _ (contents : Contents) (thread : Thread) (running : runs thread ≡ true) where
  by_fault : (fault : Option Fault) (change : _) → IsThread thread (unless_barred fault contents thread change)
  by_fault (Some fault) change = record { number = refl; stack = refl; state = refl }
  by_fault None change = record { number = refl; stack = refl; state = running }

  by_change : (change : Result _ Fault) → IsThread thread (done contents thread change)
  by_change (Err fault) = record { number = refl; stack = refl; state = refl }
  by_change (Ok change) = by_fault (store_fault contents change.store) change

  by_view : (base : ℕ) (met : View) → IsThread thread (step_at contents thread base met)
  by_view base Unmapped = record { number = refl; stack = refl; state = refl }
  by_view base AtHome = record { number = refl; stack = refl; state = running }
  by_view base Stray = record { number = refl; stack = refl; state = refl }
  by_view base (Bytes code) = by_change (change_by contents.pieces (context_of thread) (decoded_from code))

  by_end : (base : ℕ) (met : View) (ends : Bool)
      → IsThread thread (if ends then exits contents thread else step_at contents thread base met)
  by_end base met true = record { number = refl; stack = refl; state = refl }
  by_end base met false = by_view base met

pub left_thread : (k : AbstractMachine) (thread : Thread) → runs thread ≡ true → IsThread thread (step_in k thread)
unfolding step_in
left_thread k thread running =
    by_end (contents_of k) thread running (base_of k thread.pc) (view_in k thread.pc) (thread.pc == 0xFFFF_0000)

-- what is answered to a step
pub record HasStepped (k : AbstractMachine) (n : ℕ) (now : Happened) : Type 0 where
  pub before : Thread
  pub running : running_at k.threads n ≡ Some before
  pub machine : now.machine ≡ after_step k n (step_in k before)
  pub answer : now.answer ≡ Stepped (step_in k before).outcome

pub step_gives : (k : AbstractMachine) (n : ℕ) (now : Happened) → answered k (Step n) ≡ Ok now → HasStepped k n now
unfolding answered moved
step_gives k n now is = by_running (running_at k.threads n) refl is
  where
    by_running : (o : Option Thread) → running_at k.threads n ≡ o → step_answered (moved_by k n o) ≡ Ok now
        → HasStepped k n now
    by_running None rests is = absurd (not_Ok (NoThread n) now is)
    by_running (Some before) runs is =
        let left = happened (after_step k n (step_in k before)) (Stepped (step_in k before).outcome) in
        subst (HasStepped k n) (same_Ok left now is)
        (record { before = before; running = runs; machine = refl; answer = refl })

pub step_refused : (k : AbstractMachine) (n : ℕ) (refusal : Refusal) → answered k (Step n) ≡ Err refusal
    → running_at k.threads n ≡ None
unfolding answered moved
step_refused k n refusal is = by_running (running_at k.threads n) is
  where
    by_running : (o : Option Thread) → step_answered (moved_by k n o) ≡ Err refusal → o ≡ None
    by_running None is = refl
    by_running (Some before) is =
        let left = happened (after_step k n (step_in k before)) (Stepped (step_in k before).outcome) in
        absurd (not_Ok refusal left (sym is))

-- what is answered to a start
pub record HasStarted (k : AbstractMachine) (argument : ℕ) (now : Happened) : Type 0 where
  pub stack : Range
  pub pc : ℕ
  pub free : free_stack k.stacks k.threads ≡ Some stack
  pub machine : now.machine ≡ record k {
    pieces = written stack.low (first_bytes stack argument) k.pieces;
    threads = k.threads ++ first_thread (length k.threads) stack pc ∷ [];
  }
  pub answer : now.answer ≡ Spawned (length k.threads)

pub spawn_gives : (k : AbstractMachine) (name : List ℕ) (argument : ℕ) (now : Happened)
    → answered k (Spawn name argument) ≡ Ok now → HasStarted k argument now
unfolding answered spawned started
spawn_gives k name argument now is = by_place (function_named k.symbols name) is
  where
    on_stack : (pc : ℕ) (o : Option Range) → free_stack k.stacks k.threads ≡ o
        → spawn_answered (length k.threads) (after_start k (started_on k.pieces k.threads pc argument o)) ≡ Ok now
        → HasStarted k argument now
    on_stack pc None free is = absurd (cc)
    on_stack pc (Some stack) free is =
        subst (HasStarted k argument) (same_Ok _ now is)
        (record { stack = stack; pc = pc; free = free; machine = refl; answer = refl })

    by_count : (pc : ℕ) (full : Bool)
        → spawn_answered (length k.threads) (after_start k (if full then Err TooManyThreads
        else started_on k.pieces k.threads pc argument (free_stack k.stacks k.threads))) ≡ Ok now
        → HasStarted k argument now
    by_count pc true is = absurd (cc)
    by_count pc false is = on_stack pc (free_stack k.stacks k.threads) refl is

    by_place : (pc : Result ℕ Refusal)
        → spawn_answered (length k.threads) (after_start k (started_at k.pieces k.stacks k.threads argument pc))
        ≡ Ok now
        → HasStarted k argument now
    by_place (Err refusal) is = absurd (cc)
    by_place (Ok pc) is = by_count pc (nat_le 4096 (length k.threads)) is

-- what an update leaves, and one taken back
pub record IsUpdated (k : AbstractMachine) (now : Happened) : Type 0 where
  pub threads : now.machine.threads ≡ k.threads
  pub stacks : now.machine.stacks ≡ k.stacks
  pub scratch : now.machine.scratch ≡ k.scratch
  pub seen : (event : Event) (w : Watching) → seen k event now.machine now.answer w ≡ counted w

pub apply_gives : (k : AbstractMachine) (name pre post : List ℕ) (now : Happened)
    → answered k (Apply name pre post) ≡ Ok now
    → IsUpdated k now
unfolding answered accepted applied committed
apply_gives k name pre post now is = by_plan (planned_in k name pre post) is
  where
    by_threads : (plan : Plan) (o : Option Refusal)
        → apply_answered (unless o plan >>= λ (clear : Plan).
        let r : Result (AbstractMachine × Report) Refusal = Ok (committed k name clear, clear.report) in r) ≡ Ok now
        → IsUpdated k now
    by_threads plan (Some refusal) is = absurd (cc)
    by_threads plan None is =
        subst (IsUpdated k) (same_Ok _ now is) (record { threads = refl; stacks = refl; scratch = refl; seen = λ event w. refl })

    by_plan : (r : Result Plan Refusal)
        → apply_answered ((r >>= λ (plan : Plan). unless (thread_refusal k.pieces plan.guarded k.threads) plan)
        >>= λ (clear : Plan).
        let r : Result (AbstractMachine × Report) Refusal = Ok (committed k name clear, clear.report) in r) ≡ Ok now
        → IsUpdated k now
    by_plan (Err refusal) is = absurd (cc)
    by_plan (Ok plan) is = by_threads plan (thread_refusal k.pieces plan.guarded k.threads) is

-- after an update at which functions may be run a watch looks at all slots
pub hooks_seen : (k : AbstractMachine) (name pre post : List ℕ) (now : Happened)
    → answered k (Hooks name pre post) ≡ Ok now → (event : Event) (w : Watching)
    → seen k event now.machine now.answer w ≡ hooks_noted (sight_in now.machine) w
unfolding answered
hooks_seen k name pre post now is event w = by_result (hooked k name pre post) is
  where
    by_result : (r : Result (AbstractMachine × HookReport) Refusal) → hooks_answered r ≡ Ok now
        → seen k event now.machine now.answer w ≡ hooks_noted (sight_in now.machine) w
    by_result (Err refusal) is = absurd (cc)
    by_result (Ok left) is =
        subst (λ (h : Happened). seen k event h.machine h.answer w ≡ hooks_noted (sight_in h.machine) w)
        (same_Ok _ now is) refl

-- an update is taken back by an event
pub record IsUndone (k : AbstractMachine) (event : Event) (now : Happened) : Type 0 where
  pub update : Update
  pub taken : update_taken k event ≡ Some update
  pub left : IsUpdated k now

taken_gives : (k : AbstractMachine) (event : Event) (missing : Refusal) (now : Happened)
    → undo_answered (undone_by k missing (update_taken k event)) ≡ Ok now → IsUndone k event now
unfolding taken_back withdrawn
taken_gives k event missing now is = by_update (update_taken k event) refl is
  where
    by_refusal : (update : Update) (o : Option Refusal)
        → undo_answered (unless o update >>= λ (clear : Update).
        let r : Result (AbstractMachine × List ℕ) Refusal = Ok (withdrawn k clear, clear.name) in r) ≡ Ok now
        → IsUpdated k now
    by_refusal update (Some refusal) is = absurd (cc)
    by_refusal update None is =
        subst (IsUpdated k) (same_Ok _ now is) (record { threads = refl; stacks = refl; scratch = refl; seen = λ event w. refl })

    by_update : (o : Option Update) → update_taken k event ≡ o → undo_answered (undone_by k missing o) ≡ Ok now
        → IsUndone k event now
    by_update None taken is = absurd (cc)
    by_update (Some update) taken is =
        record { update = update; taken = taken; left = by_refusal update (withdrawal_refusal k update) is }

pub undo_gives : (k : AbstractMachine) (now : Happened) → answered k Undo ≡ Ok now → IsUndone k Undo now
unfolding answered undone
undo_gives k now is = taken_gives k Undo NothingApplied now is

pub undo_named_gives : (k : AbstractMachine) (name : List ℕ) (now : Happened) → answered k (UndoNamed name) ≡ Ok now
    → IsUndone k (UndoNamed name) now
unfolding answered undone_named
undo_named_gives k name now is = taken_gives k (UndoNamed name) (NoUpdate name) now is
