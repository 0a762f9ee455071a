-- The machine goes on by its own events, whatever of an update is written between them.
use Rattle.std.proofs.Common.{◌≡◌, ℕ, List, [], ◌∷◌, ◌++◌, Option, Some, None, Result, Ok, Err, refl, sym, ◌∙◌, ap}
use Rattle.std.specs.List.{slice_get}
use Rattle.std.proofs.lemmas.Grind.{fold-append}
use Rattle.ks_base.specs.declared.refusals.Refusal.{Refusal}
use Rattle.ks_base.specs.declared.reports.Report.{Report}
use Rattle.image_file.specs.Fields.{◌>>=◌}
use Rattle.splice_jump.specs.declared.phase.Phase.{Phase}
use Rattle.splice_jump.specs.declared.phase.Phase.TheVariants.{Done, Marked, Tailed}
use Rattle.update_plan.specs.Plan.{unless}
use Rattle.update_stack.specs.AbstractMachine.{AbstractMachine}
use Rattle.update_stack.specs.Apply.{applied}
use Rattle.update_stack.specs.Phases.{Phased, phased}
use Rattle.update_stack.specs.Events.{Event, Happened, apply_answered, answered, machine_after, after_event, after_events}
use Rattle.live_poke.specs.Poke.{open_refusal, change_refusal, marked, marked_at, tailed_from, sealed_from}
use Rattle.live_poke.specs.Interleaved.{LiveEvent, Whole, Mark, Tail, Seal, whole_refusal, made, kept_by, mark_made}
use Rattle.live_poke.specs.Interleaved.{live_after, live_after_all, events_by, machine_events, MachineGoesOn}

-- what an event leaves, with the machine's own
abbrev Goes : Phased → LiveEvent → Result Phased Refusal → Type 0
Goes live event result =
    (kept_by live result).machine ≡ after_events live.machine (events_by event result)

no_events : (k : AbstractMachine) → k ≡ after_events k []
unfolding after_events
no_events k = refl

-- an event that is the machine's
abbrev with_machine : Phased → Happened → Result Phased Refusal
with_machine closed now = Ok (record closed { machine = now.machine })

module _ (live : Phased) (event : Event) where
  by_answer : (result : Result Happened Refusal) → answered live.machine event ≡ result
      → Goes live (Whole event) (result >>= with_machine live)
  unfolding after_events after_event
  by_answer (Err refusal) is = refl
  by_answer (Ok now) is = sym (ap (machine_after live.machine) is)

  by_whole : (o : Option Refusal)
      → Goes live (Whole event) (unless o live >>= (λ closed. answered closed.machine event >>= with_machine closed))
  by_whole None = by_answer (answered live.machine event) refl
  by_whole (Some refusal) = no_events live.machine

-- the second and the third write
by_tail : (live : Phased) (phase : Phase) → Goes live Tail (tailed_from live phase)
by_tail live Done = no_events live.machine
by_tail live (Marked home) = no_events live.machine
by_tail live (Tailed home) = no_events live.machine

by_seal : (live : Phased) (phase : Phase) → Goes live Seal (sealed_from live phase)
by_seal live Done = no_events live.machine
by_seal live (Marked home) = no_events live.machine
by_seal live (Tailed home) = no_events live.machine

-- and the first
module _ (live : Phased) (name pre post : List ℕ) where
  abbrev last : AbstractMachine × Report → Result (Phased × Report) Refusal
  last left = Ok (phased left.0 (marked_at (slice_get left.1.replaced 0)), left.1)

  by_applied : (result : Result (AbstractMachine × Report) Refusal) → applied live.machine name pre post ≡ result
      → Goes live (Mark name pre post) (mark_made (result >>= last))
  unfolding after_events after_event answered
  by_applied (Err refusal) is = refl
  by_applied (Ok left) is = sym (ap (λ result. machine_after live.machine (apply_answered result)) is)

  by_change : (o : Option Refusal) → Goes live (Mark name pre post)
      (mark_made (unless o live.machine >>= (λ single. applied single name pre post >>= last)))
  by_change None = by_applied (applied live.machine name pre post) refl
  by_change (Some refusal) = no_events live.machine

  by_open : (o : Option Refusal) → Goes live (Mark name pre post)
      (mark_made (unless o live.machine >>= (λ closed. unless (change_refusal pre post) closed
      >>= (λ single. applied single name pre post >>= last))))
  by_open None = by_change (change_refusal pre post)
  by_open (Some refusal) = no_events live.machine

-- so one event does
pub one_goes : (live : Phased) (event : LiveEvent) → Goes live event (made live event)
unfolding made marked
one_goes live (Whole event) = by_whole live event (whole_refusal live event)
one_goes live (Mark name pre post) = by_open live name pre post (open_refusal live)
one_goes live Tail = by_tail live live.phase
one_goes live Seal = by_seal live live.phase

-- events of the machine one after another
pub after_both : (k : AbstractMachine) (events more : List Event)
    → after_events k (events ++ more) ≡ after_events (after_events k events) more
unfolding after_events
after_both k events more = fold-append after_event k events more

pub goes_on : MachineGoesOn
unfolding live_after_all machine_events
goes_on live [] = no_events live.machine
goes_on live (event ∷ events) =
    goes_on (live_after live event) events
    ∙ ap (λ (k : AbstractMachine). after_events k (machine_events (live_after live event) events))
    (one_goes live event)
    ∙ sym (after_both live.machine (events_by event (made live event))
    (machine_events (live_after live event) events))
