-- An update or an undo as a watch sees it: no thread moves, and each slot of a stack keeps what it holds.
use Rattle.std.proofs.Common.{◌≡◌, ℕ, IsTrue, List, Ok, sym, ◌∙◌, ap, subst}
use Rattle.std.proofs.lemmas.List.Elements.{All-weaker}
use Rattle.ks_base.specs.declared.reports.Report.{Report}
use Rattle.image_threads.specs.Program.{WellPlaced}
use Rattle.ia32_step.specs.Frames.{keeps_slot}
use Rattle.ia32_step.specs.declared.types.Thread.{Thread}
use Rattle.update_stack.specs.AbstractMachine.{AbstractMachine}
use Rattle.update_stack.specs.Events.{Event, Apply, Applied, Undone, happened, answered}
use Rattle.update_safety.specs.Slots.{KeepsSlots, SameThreads}
use Rattle.frame_watch.specs.Discipline.{update_noted}
use Rattle.frame_watch.specs.Frames.{Watching, keeps_slots}
use Rattle.ksplice_session.proofs.WatchedLaws.{watched}
use Rattle.ksplice_session.specs.Watching.{Watched, watched_by, watched_after}
use Rattle.ksplice_session.specs.inside.InStep.{Runs, IsInStep}
use Rattle.ksplice_session.proofs.StackLaws.{all_weaker}
use Rattle.ksplice_session.proofs.WatchLaws.{RunsIn, runs_in, slots_in, stack_listed}

pub kept_in_step : (k now : AbstractMachine) (w : Watching)
    → SameThreads k now → KeepsSlots k now → now.scratch ≡ k.scratch → WellPlaced k.stacks k.threads
    → IsInStep k w → IsInStep now (update_noted w)
kept_in_step k now w same keep scratch placed in_step = record {
  each = All-weaker
      (λ watched. RunsIn k.threads watched × IsTrue (keeps_slots k.pieces watched)) (Runs now) (λ watched p. record {
        running = subst (λ (threads : List Thread). RunsIn threads watched) (sym same.threads) p.0;
        slots = all_weaker (keeps_slot k.pieces watched.stack watched.esp)
            (keeps_slot now.pieces watched.stack watched.esp) watched.frames
            (λ frame. keep watched.stack watched.esp frame (stack_listed k.stacks k.threads watched placed p.0)) p.1;
      }) w.threads (λ i d less. (runs_in k w in_step i d less, slots_in k w in_step i d less));
  stopped = in_step.stopped;
  bare = scratch ∙ in_step.bare;
}

-- the session after an update or an undo
pub apply_watched : (s : Watched) (now : AbstractMachine) (v : Watching) (name pre post : List ℕ) (report : Report)
    → answered s.machine (Apply name pre post) ≡ Ok (happened now (Applied report)) → v ≡ update_noted s.watch
    → watched s now v ≡ watched_after s (Apply name pre post)
unfolding watched_after
apply_watched s now v name pre post report is noted =
    ap (watched s now) noted ∙ sym (ap (watched_by s (Apply name pre post)) is)

pub undo_watched : (s : Watched) (event : Event) (now : AbstractMachine) (v : Watching) (name : List ℕ)
    → answered s.machine event ≡ Ok (happened now (Undone name))
    → v ≡ update_noted s.watch → watched s now v ≡ watched_after s event
unfolding watched_after
undo_watched s event now v name is noted = ap (watched s now) noted ∙ sym (ap (watched_by s event) is)
