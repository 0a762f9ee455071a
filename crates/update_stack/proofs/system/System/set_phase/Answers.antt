use Rattle.std.proofs.Common.{[], get_or, sym, ◌∙◌, ap, subst}
use Rattle.update_memory.specs.declared.types.Jump.{Jump}
use Rattle.update_stack.specs.AbstractMachine.{AbstractMachine}
use Rattle.update_stack.specs.Phases.{phased, MayBecome}
use Rattle.update_stack.specs.Systems.{machine_of}
use Rattle.update_stack.proofs.PhaseLaws.{machine_seen}
use Rattle.update_stack.proofs.PhaseWriteLaws.{read_jump, code_there, written_now}
use Rattle.update_stack.proofs.system.System.set_phase.Goals as goal

pub bounds-as_slice-0 : goal.bounds-as_slice-0
bounds-as_slice-0 g c =
    let inside = c.self.inside in
    let k = machine_of inside.machine inside.arena inside.updates inside.kept in
    let may = subst (MayBecome c.args.phase) (sym (machine_seen c.self.view_is)) c.requires.replaced in
    (read_jump k inside.kept may.home c.self.invariant.built c.self.invariant.are_kept may.replaced
    c.as_slice.result.now c.len-at.result c.index-as_slice-at.result c.as_slice-2.result.now c.as_slice.ensures
    c.len-at.ensures c.index-as_slice-at.is c.as_slice-2.ensures).some

pub restore-requires : goal.restore-requires
restore-requires g c =
    let inside = c.self.inside in
    let k = machine_of inside.machine inside.arena inside.updates inside.kept in
    let may = subst (MayBecome c.args.phase) (sym (machine_seen c.self.view_is)) c.requires.replaced in
    let keeps = read_jump k inside.kept may.home c.self.invariant.built c.self.invariant.are_kept may.replaced
    c.as_slice.result.now c.len-at.result c.index-as_slice-at.result c.as_slice-2.result.now c.as_slice.ensures
    c.len-at.ensures c.index-as_slice-at.is c.as_slice-2.ensures in
    let unread : Jump = record { home = 0; base = 0; old = [] } in
    code_there c.jumps_are_added_and_replaced.ensures.replaced inside.phase c.args.phase inside.arena inside.updates
    inside.kept inside.machine c.self.invariant may (get_or c.as_slice-2.result.now 0 unread)
    (g.S.Space.contents c.space_mut.result.now) (keeps.first unread) c.space_mut.ensures.contents

pub invariant_of-self : goal.invariant_of-self
invariant_of-self g c =
    let inside = c.self.inside in
    let k = machine_of inside.machine inside.arena inside.updates inside.kept in
    let may = subst (MayBecome c.args.phase) (sym (machine_seen c.self.view_is)) c.requires.replaced in
    let keeps = read_jump k inside.kept may.home c.self.invariant.built c.self.invariant.are_kept may.replaced
    c.as_slice.result.now c.len-at.result c.index-as_slice-at.result c.as_slice-2.result.now c.as_slice.ensures
    c.len-at.ensures c.index-as_slice-at.is c.as_slice-2.ensures in
    let unread : Jump = record { home = 0; base = 0; old = [] } in
    (written_now c.jumps_are_added_and_replaced.ensures.replaced inside.phase c.args.phase inside.arena inside.updates
    inside.kept inside.machine c.self.invariant may (get_or c.as_slice-2.result.now 0 unread)
    (g.S.Space.contents c.space_mut.result.now) (g.S.Space.contents c.restore.new.space) c.phase_bytes-bytes.result
    (g.S.Space.room c.restore.new.space) (keeps.first unread) c.space_mut.ensures.contents c.phase_bytes-bytes.ensures
    c.restore.ensures.contents (c.restore.ensures.room ∙ c.space_mut.ensures.room)).holds_now

pub returns : goal.returns
returns g c =
    let inside = c.self.inside in
    let k = machine_of inside.machine inside.arena inside.updates inside.kept in
    let may = subst (MayBecome c.args.phase) (sym (machine_seen c.self.view_is)) c.requires.replaced in
    let keeps = read_jump k inside.kept may.home c.self.invariant.built c.self.invariant.are_kept may.replaced
    c.as_slice.result.now c.len-at.result c.index-as_slice-at.result c.as_slice-2.result.now c.as_slice.ensures
    c.len-at.ensures c.index-as_slice-at.is c.as_slice-2.ensures in
    let unread : Jump = record { home = 0; base = 0; old = [] } in
    let same = (written_now c.jumps_are_added_and_replaced.ensures.replaced inside.phase c.args.phase inside.arena
    inside.updates inside.kept inside.machine c.self.invariant may (get_or c.as_slice-2.result.now 0 unread)
    (g.S.Space.contents c.space_mut.result.now) (g.S.Space.contents c.restore.new.space) c.phase_bytes-bytes.result
    (g.S.Space.room c.restore.new.space) (keeps.first unread) c.space_mut.ensures.contents c.phase_bytes-bytes.ensures
    c.restore.ensures.contents (c.restore.ensures.room ∙ c.space_mut.ensures.room)).same in
    ap (λ (m : AbstractMachine). phased m c.args.phase) (same ∙ machine_seen c.self.view_is)
