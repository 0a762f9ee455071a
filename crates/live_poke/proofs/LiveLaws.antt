-- What holds of the system after each event: of the home that is open, and of the code that isn't met.
use Rattle.std.proofs.Common.{◌≡◌, ℕ, List, [], ◌∷◌, ◌++◌, Option, Some, None, IfSome, Result, Ok, Err}
use Rattle.std.specs.Option.{option_map}
use Rattle.std.proofs.Common.{refl, sym, ◌∙◌, ap, subst, length, map}
use Rattle.ks_base.specs.declared.refusals.Refusal.{Refusal}
use Rattle.ks_base.specs.declared.reports.Report.{Report}
use Rattle.image_file.specs.Fields.{◌>>=◌}
use Rattle.image_file.specs.Reading.{Contents as Image, image_of}
use Rattle.ia32_step.specs.declared.types.Thread.{Thread}
use Rattle.image_memory.specs.declared.types.Piece.{Piece}
use Rattle.image_memory.specs.Fetch.{bytes_met}
use Rattle.image_threads.specs.Program.{running_at}
use Rattle.image_threads.specs.Spawning.{Started, started}
use Rattle.splice_jump.specs.declared.phase.Phase.{Phase}
use Rattle.splice_jump.specs.declared.phase.Phase.TheVariants.{Done, Marked, Tailed}
use Rattle.splice_jump.specs.Phases.{open_home}
use Rattle.update_plan.specs.Plan.{unless}
use Rattle.update_stack.specs.Accepted.{RetiredIsNotMet}
use Rattle.update_stack.specs.AbstractMachine.{AbstractMachine, first_machine}
use Rattle.update_stack.specs.Phases.{Phased, phased, home_replaced, ReplacedOne}
use Rattle.update_stack.specs.PhaseSteps.{PhasesLeaveViews}
use Rattle.update_stack.specs.Stacked.{IsBuilt}
use Rattle.update_stack.specs.Steps.{after_start, spawned, moved_by, moved}
use Rattle.update_stack.specs.Events.{Event, Spawn, Step, Apply, Hooks, Undo, UndoNamed, Happened, spawn_answered}
use Rattle.update_stack.specs.Events.{step_answered, answered, after_events}
use Rattle.update_stack.specs.TakenBack.{MachinesAreBuilt}
use Rattle.live_poke.specs.Poke.{poke_open, marked, tailed_from, sealed_from, OpensOne, MarksOneHome}
use Rattle.live_poke.specs.Interleaved.{LiveEvent, Whole, Mark, Tail, Seal, whole_refusal, made, kept_by, mark_made}
use Rattle.live_poke.specs.Interleaved.{live_after, live_after_all, events_by, first_live, IsLive, AlwaysLive}
use Rattle.live_poke.proofs.EventLaws.{one_goes, after_both}

-- a home that is open is the one that the newest update replaced
abbrev pub Opened : Phased → Type 0
Opened live = IfSome (open_home live.phase) (OpensOne live.machine)

-- where none is, the machine has no say
closed_opened : (k m : AbstractMachine) (phase : Phase) → open_home phase ≡ None → Opened (phased m phase)
closed_opened k m Done is = tt
closed_opened k m (Marked home) is = absurd (cc)
closed_opened k m (Tailed home) is = absurd (cc)

-- nor have its threads and its memory
with_threads : (k : AbstractMachine) (pieces : List Piece) (threads : List Thread) (o : Option ℕ)
    → IfSome o (OpensOne k) → IfSome o (OpensOne (record k { pieces = pieces; threads = threads }))
with_threads k pieces threads None opened = tt
with_threads k pieces threads (Some home) opened = record {
  update = opened.update;
  newest = opened.newest;
  reports = opened.reports;
  named = opened.named;
}

-- ---- an event of the machine
abbrev with_machine : Phased → Happened → Result Phased Refusal
with_machine closed now = Ok (record closed { machine = now.machine })

abbrev Keeps : Phased → Result Phased Refusal → Type 0
Keeps live result = Opened (kept_by live result)

by_start : (live : Phased) (name : List ℕ) (argument number : ℕ) (result : Result Started Refusal) → Opened live
    → Keeps live (spawn_answered number (after_start live.machine result) >>= with_machine live)
by_start live name argument number (Err refusal) opened = opened
by_start live name argument number (Ok after) opened =
    with_threads live.machine after.pieces after.threads (open_home live.phase) opened

by_thread : (live : Phased) (number : ℕ) (thread : Option Thread) → Opened live
    → Keeps live (step_answered (moved_by live.machine number thread) >>= with_machine live)
by_thread live number None opened = opened
by_thread live number (Some thread) opened =
    with_threads live.machine _ _ (open_home live.phase) opened

-- one that is refused while a home is open
by_made : (live : Phased) (event : Event) (result : Result Happened Refusal) → open_home live.phase ≡ None
    → Opened live → Keeps live (result >>= with_machine live)
by_made live event (Err refusal) none opened = opened
by_made live event (Ok now) none opened = closed_opened live.machine now.machine live.phase none

by_closed : (live : Phased) (event : Event) (o : Option ℕ) → open_home live.phase ≡ o → Opened live
    → Keeps live (unless (option_map (poke_open live.machine) o) live
    >>= (λ closed. answered closed.machine event >>= with_machine closed))
by_closed live event None none opened = by_made live event (answered live.machine event) none opened
by_closed live event (Some home) is opened = opened

by_event : (live : Phased) (event : Event) → Opened live
    → Keeps live (unless (whole_refusal live event) live
    >>= (λ closed. answered closed.machine event >>= with_machine closed))
unfolding answered spawned moved
by_event live (Spawn name argument) opened =
    by_start live name argument (length live.machine.threads)
    (started live.machine.symbols live.machine.pieces live.machine.stacks live.machine.threads name argument) opened
by_event live (Step thread) opened = by_thread live thread (running_at live.machine.threads thread) opened
by_event live (Apply name pre post) opened =
    by_closed live (Apply name pre post) (open_home live.phase) refl opened
by_event live (Hooks name pre post) opened =
    by_closed live (Hooks name pre post) (open_home live.phase) refl opened
by_event live Undo opened = by_closed live Undo (open_home live.phase) refl opened
by_event live (UndoNamed name) opened = by_closed live (UndoNamed name) (open_home live.phase) refl opened

-- ---- the three writes
by_mark : MarksOneHome → (live : Phased) (name pre post : List ℕ) (result : Result (Phased × Report) Refusal)
    → IsBuilt live.machine → marked live name pre post ≡ result → Opened live → Keeps live (mark_made result)
by_mark marks live name pre post (Err refusal) built is opened = opened
by_mark marks live name pre post (Ok left) built is opened =
    let it = marks live left.0 name pre post left.1 built is in
    subst (λ (p : Phase). IfSome (open_home p) (OpensOne left.0.machine)) (sym it.phase) it.opens

by_tail : (k : AbstractMachine) (phase : Phase) → Opened (phased k phase)
    → Keeps (phased k phase) (tailed_from (phased k phase) phase)
by_tail k Done opened = opened
by_tail k (Marked home) opened = opened
by_tail k (Tailed home) opened = opened

by_seal : (k : AbstractMachine) (phase : Phase) → Opened (phased k phase)
    → Keeps (phased k phase) (sealed_from (phased k phase) phase)
by_seal k Done opened = opened
by_seal k (Marked home) opened = opened
by_seal k (Tailed home) opened = tt

one_opened : MarksOneHome → (live : Phased) (event : LiveEvent) → IsBuilt live.machine → Opened live
    → Opened (live_after live event)
unfolding made
one_opened marks live (Whole event) built opened = by_event live event opened
one_opened marks live (Mark name pre post) built opened =
    by_mark marks live name pre post (marked live name pre post) built refl opened
one_opened marks live Tail built opened = by_tail live.machine live.phase opened
one_opened marks live Seal built opened = by_seal live.machine live.phase opened

-- ---- after any list of events
-- it is the only one that the update replaced
opens_at : (k : AbstractMachine) (o : Option ℕ) → IfSome o (OpensOne k) → IfSome o (ReplacedOne k)
opens_at k None opened = tt
opens_at k (Some home) opened = record {
  update = opened.update;
  newest = opened.newest;
  only = ap (map home_replaced) opened.reports.replaced ∙ ap (λ (h : ℕ). h ∷ []) opened.named;
}

module _ (marks : MarksOneHome) (machines : MachinesAreBuilt) (unmet : RetiredIsNotMet) (views : PhasesLeaveViews)
    (file : List ℕ) (image : Image) (read : image_of file ≡ Ok image) where
  from : (live : Phased) (past : List Event) (events : List LiveEvent)
      → live.machine ≡ after_events (first_machine image) past → Opened live → IsLive (live_after_all live events)
  unfolding live_after_all
  from live past [] here opened =
      let built : IsBuilt live.machine = subst IsBuilt (sym here) (machines file image past read) in
      record {
        built = built;
        opened = opened;
        replaced = λ address retired.
            ap bytes_met
            (views live.phase live.machine address built (opens_at live.machine (open_home live.phase) opened))
            ∙ unmet live.machine address built retired;
      }
  from live past (event ∷ events) here opened =
      let built : IsBuilt live.machine = subst IsBuilt (sym here) (machines file image past read) in
      let own = events_by event (made live event) in
      from (live_after live event) (past ++ own) events
      (one_goes live event
      ∙ ap (λ (k : AbstractMachine). after_events k own) here
      ∙ sym (after_both (first_machine image) past own))
      (one_opened marks live event built opened)

pub always_live : MarksOneHome → MachinesAreBuilt → RetiredIsNotMet → PhasesLeaveViews → AlwaysLive
unfolding after_events
always_live marks machines unmet views file image events read =
    from marks machines unmet views file image read (first_live image) [] events refl tt
