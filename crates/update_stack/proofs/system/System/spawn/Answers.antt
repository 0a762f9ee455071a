use Rattle.std.proofs.Common.{◌≡◌, ◌≢◌, Ok, Err, MatchResult, subst}
use Rattle.ks_base.specs.declared.refusals.Refusal.TheVariants.{Memory}
use Rattle.update_stack.specs.AbstractMachine.{AbstractMachine}
use Rattle.update_stack.specs.Events.{Spawn, Spawned, happened, answered}
use Rattle.update_stack.specs.Systems.{machine_of}
use Rattle.update_stack.proofs.HoldsLaws.{Laws}
use Rattle.update_stack.proofs.PhaseLaws.{machine_seen, phase_stacks}
use Rattle.update_stack.proofs.PhaseSpawnLaws.{phase_spawn_holds, phase_spawn_seen}
use Rattle.update_stack.proofs.system.System.spawn.Goals as goal

pub invariant_of-self : goal.invariant_of-self
invariant_of-self g c =
    let laws : Laws = record {
      past = c.data_are_written_past_jumps.ensures.jumps;
      old = c.data_are_written_past_jumps.ensures.old;
      stays = c.code_stays_code.ensures.stays;
      valid = c.homes_stay_spliced.ensures.valid;
      spliced = c.homes_stay_spliced.ensures.written;
      there = c.code_that_stays.ensures.code;
    } in
    let inside = c.self.inside in
    phase_spawn_holds laws inside.phase inside.arena inside.updates inside.kept inside.machine c.spawn.new.self
    c.args.name.now c.args.argument c.spawn.result c.self.invariant c.threads-threads.ensures.placed.bounds
    c.spawn.ensures.started c.spawn.ensures.number c.spawn.ensures.refused

pub returns-clause-answered : goal.returns-clause-answered
returns-clause-answered g c =
    let laws : Laws = record {
      past = c.data_are_written_past_jumps.ensures.jumps;
      old = c.data_are_written_past_jumps.ensures.old;
      stays = c.code_stays_code.ensures.stays;
      valid = c.homes_stay_spliced.ensures.valid;
      spliced = c.homes_stay_spliced.ensures.written;
      there = c.code_that_stays.ensures.code;
    } in
    let inside = c.self.inside in
    let P : AbstractMachine → Type 0 = λ k. MatchResult c.spawn.result
    (λ number. answered k (Spawn c.args.name.now c.args.argument)
    ≡ Ok (happened (machine_of c.spawn.new.self inside.arena inside.updates inside.kept) (Spawned number)))
    (λ refusal. refusal ≢ Memory → answered k (Spawn c.args.name.now c.args.argument) ≡ Err refusal) in
    subst P (machine_seen c.self.view_is)
    (phase_spawn_seen laws inside.phase inside.arena inside.updates inside.kept inside.machine c.spawn.new.self
    c.args.name.now c.args.argument c.spawn.result c.self.invariant c.threads-threads.ensures.placed.bounds
    c.spawn.ensures.started c.spawn.ensures.number)

pub spawn-requires : goal.spawn-requires
spawn-requires g c =
    let inside = c.self.inside in
    phase_stacks inside.phase inside.arena inside.updates inside.kept
    c.jumps_change_their_bytes_alone.ensures.kinds c.jumps_change_their_bytes_alone.ensures.ranges inside.machine
    c.self.invariant
