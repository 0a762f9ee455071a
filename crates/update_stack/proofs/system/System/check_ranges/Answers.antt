use Rattle.std.proofs.Common.{List, sym, ◌∙◌, ap, subst}
use Rattle.std.specs.List.{All}
use Rattle.image_memory.specs.Contents.{Contents}
use Rattle.ia32_step.specs.declared.types.Thread.{Thread}
use Rattle.stack_scan.specs.Standing.{HasStack, thread_refusal}
use Rattle.update_stack.specs.AbstractMachine.{AbstractMachine}
use Rattle.update_stack.proofs.FreshLaws.{all_have_stacks}
use Rattle.update_stack.proofs.SeenLaws.{program_stacks, refusal_seen}
use Rattle.update_stack.proofs.PhaseLaws.{done_holds, machine_seen}
use Rattle.update_stack.proofs.system.System.check_ranges.Goals as goal

pub check_threads-requires : goal.check_threads-requires
check_threads-requires g c =
    let inside = c.self.inside in
    let holds = done_holds inside.machine inside.arena inside.updates inside.kept c.self.view_is c.requires.done
    c.self.invariant in
    let machine = inside.machine in
    subst (λ (m : Contents). All (HasStack m.pieces) c.as_slice-threads.result.now) (sym c.space.ensures.contents)
    (subst (All (HasStack machine.contents.pieces)) (sym (c.as_slice-threads.ensures ∙ c.threads.ensures.threads))
    (all_have_stacks machine.contents.pieces machine.stacks machine.threads
    (program_stacks machine inside.arena inside.updates inside.kept holds
    c.jumps_change_their_bytes_alone.ensures.kinds c.jumps_change_their_bytes_alone.ensures.ranges)
    c.threads.ensures.placed))

pub returns : goal.returns
returns g c =
    let inside = c.self.inside in
    let holds = done_holds inside.machine inside.arena inside.updates inside.kept c.self.view_is c.requires.done
    c.self.invariant in
    let machine = inside.machine in
    let ranges = c.args.ranges.now in
    c.check_threads.ensures
    ∙ ap (λ (m : Contents). thread_refusal m.pieces ranges c.as_slice-threads.result.now) c.space.ensures.contents
    ∙ ap (λ (ts : List Thread). thread_refusal machine.contents.pieces ranges ts)
    (c.as_slice-threads.ensures ∙ c.threads.ensures.threads)
    ∙ refusal_seen machine inside.arena inside.updates inside.kept holds
    c.jumps_change_their_bytes_alone.ensures.data_bytes ranges c.threads.ensures.placed
    ∙ ap (λ (k : AbstractMachine). thread_refusal k.pieces ranges k.threads) (machine_seen c.self.view_is)
