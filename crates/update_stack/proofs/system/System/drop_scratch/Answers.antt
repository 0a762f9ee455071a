use Rattle.std.proofs.Common.{◌∙◌, ap}
use Rattle.update_stack.specs.AbstractMachine.{AbstractMachine}
use Rattle.update_stack.specs.Scratch.{unscratched}
use Rattle.update_stack.proofs.PhaseLaws.{done_again, done_holds, machine_seen}
use Rattle.update_stack.proofs.ScratchGoesLaws.{scratch_stands}
use Rattle.update_stack.proofs.system.System.drop_scratch.Goals as goal

pub take_scratch-requires : goal.take_scratch-requires
take_scratch-requires g c =
    let inside = c.self.inside in
    let range = c.in-Some.range in
    let holds = done_holds inside.machine inside.arena inside.updates inside.kept c.self.view_is c.requires.done
    c.self.invariant in
    scratch_stands c.jumps_change_their_bytes_alone.ensures.kinds c.jumps_change_their_bytes_alone.ensures.ranges
    inside.machine inside.arena inside.updates inside.kept holds range c.in-Some.is

pub invariant_of-self : goal.invariant_of-self
invariant_of-self g c =
    let inside = c.self.inside in
    let range = c.in-Some.range in
    let holds = done_holds inside.machine inside.arena inside.updates inside.kept c.self.view_is c.requires.done
    c.self.invariant in
    let gone = c.scratch_pieces_go.ensures inside.machine c.take_scratch.new.machine inside.arena inside.updates
    inside.kept range holds c.in-Some.is c.take_scratch.ensures in
    done_again _ _ inside.updates inside.kept c.self.view_is c.requires.done gone.holds

pub returns-clause-dropped : goal.returns-clause-dropped
returns-clause-dropped g c =
    let inside = c.self.inside in
    let range = c.in-Some.range in
    let holds = done_holds inside.machine inside.arena inside.updates inside.kept c.self.view_is c.requires.done
    c.self.invariant in
    let gone = c.scratch_pieces_go.ensures inside.machine c.take_scratch.new.machine inside.arena inside.updates
    inside.kept range holds c.in-Some.is c.take_scratch.ensures in
    gone.same ∙ ap (λ (k : AbstractMachine). unscratched k) (machine_seen c.self.view_is)
