use Rattle.std.proofs.Common.{sym, ◌∙◌, ap, subst}
use Rattle.image_memory.specs.Contents.{Contents}
use Rattle.saved_data.specs.Saved.{CanBePutBack}
use Rattle.update_stack.specs.AbstractMachine.{AbstractMachine}
use Rattle.update_stack.specs.PutBack.{with_saved}
use Rattle.update_stack.proofs.HoldsLaws.{Laws}
use Rattle.update_stack.proofs.PhaseLaws.{done_again, done_holds, machine_seen}
use Rattle.update_stack.proofs.PutBackLaws.{data_back, fits_below}
use Rattle.update_stack.proofs.system.System.put_back.Goals as goal

pub put_back-requires : goal.put_back-requires
put_back-requires g c =
    let laws : Laws = record {
      past = c.data_are_written_past_jumps.ensures.jumps;
      old = c.data_are_written_past_jumps.ensures.old;
      stays = c.code_stays_code.ensures.stays;
      valid = c.homes_stay_spliced.ensures.valid;
      spliced = c.homes_stay_spliced.ensures.written;
      there = c.code_that_stays.ensures.code;
    } in
    let inside = c.self.inside in
    let saved = c.args.saved.now in
    let holds = done_holds inside.machine inside.arena inside.updates inside.kept c.self.view_is c.requires.done
    c.self.invariant in
    let fit = subst (λ (k : AbstractMachine). CanBePutBack k.pieces saved) (sym (machine_seen c.self.view_is))
    c.requires.fit in
    subst (λ (contents : Contents). CanBePutBack contents.pieces saved) (sym c.space_mut.ensures.contents)
    (fits_below laws inside.arena inside.updates inside.kept c.jumps_change_their_bytes_alone.ensures.kinds
    c.jumps_change_their_bytes_alone.ensures.ranges inside.machine saved holds fit)

pub invariant_of-self : goal.invariant_of-self
invariant_of-self g c =
    let laws : Laws = record {
      past = c.data_are_written_past_jumps.ensures.jumps;
      old = c.data_are_written_past_jumps.ensures.old;
      stays = c.code_stays_code.ensures.stays;
      valid = c.homes_stay_spliced.ensures.valid;
      spliced = c.homes_stay_spliced.ensures.written;
      there = c.code_that_stays.ensures.code;
    } in
    let inside = c.self.inside in
    let saved = c.args.saved.now in
    let holds = done_holds inside.machine inside.arena inside.updates inside.kept c.self.view_is c.requires.done
    c.self.invariant in
    let fit = subst (λ (k : AbstractMachine). CanBePutBack k.pieces saved) (sym (machine_seen c.self.view_is))
    c.requires.fit in
    let back = data_back laws inside.arena inside.updates inside.kept c.jumps_change_their_bytes_alone.ensures.kinds
    c.jumps_change_their_bytes_alone.ensures.ranges inside.machine (g.S.Space.contents c.space_mut.result.now)
    (g.S.Space.contents c.put_back.new.space) (g.S.Space.room c.put_back.new.space) saved holds fit
    c.space_mut.ensures.contents c.put_back.ensures.contents (c.put_back.ensures.room ∙ c.space_mut.ensures.room) in
    done_again _ inside.arena inside.updates inside.kept c.self.view_is c.requires.done back.holds

pub returns-clause-put : goal.returns-clause-put
returns-clause-put g c =
    let laws : Laws = record {
      past = c.data_are_written_past_jumps.ensures.jumps;
      old = c.data_are_written_past_jumps.ensures.old;
      stays = c.code_stays_code.ensures.stays;
      valid = c.homes_stay_spliced.ensures.valid;
      spliced = c.homes_stay_spliced.ensures.written;
      there = c.code_that_stays.ensures.code;
    } in
    let inside = c.self.inside in
    let saved = c.args.saved.now in
    let holds = done_holds inside.machine inside.arena inside.updates inside.kept c.self.view_is c.requires.done
    c.self.invariant in
    let fit = subst (λ (k : AbstractMachine). CanBePutBack k.pieces saved) (sym (machine_seen c.self.view_is))
    c.requires.fit in
    let back = data_back laws inside.arena inside.updates inside.kept c.jumps_change_their_bytes_alone.ensures.kinds
    c.jumps_change_their_bytes_alone.ensures.ranges inside.machine (g.S.Space.contents c.space_mut.result.now)
    (g.S.Space.contents c.put_back.new.space) (g.S.Space.room c.put_back.new.space) saved holds fit
    c.space_mut.ensures.contents c.put_back.ensures.contents (c.put_back.ensures.room ∙ c.space_mut.ensures.room) in
    back.same ∙ ap (λ (k : AbstractMachine). with_saved k saved) (machine_seen c.self.view_is)
