use Rattle.std.proofs.Common.{◌≡◌, List, IfSome, IsSome, Option, refl, sym, ◌∙◌, ap, subst}
use Rattle.std.proofs.lemmas.Result.{err_from_is_err_and}
use Rattle.image_memory.specs.declared.types.Piece.{Piece}
use Rattle.image_memory.specs.Contents.{Contents}
use Rattle.saved_data.specs.Saved.{CanBePutBack, writable_pieces}
use Rattle.update_stack.specs.AbstractMachine.{AbstractMachine, Update}
use Rattle.update_stack.specs.Phases.{Phased}
use Rattle.update_stack.specs.PutBack.{with_saved}
use Rattle.update_stack.specs.Undo.{withdrawn}
use Rattle.apply_hooks.proofs.HookingLaws.{apply_made, is_accepted, listed_made, listed_refused, newest_left}
use Rattle.apply_hooks.proofs.HookingLaws.{none_listed, same_phased, saved_is, scratch_stays}
use Rattle.apply_hooks.proofs.RestoredLaws.{SavesLaws, runs_come_back}
use Rattle.apply_hooks.proofs.hooking.apply_listed.Goals as goal

pub returns-in_err-report-clause-ran : goal.returns-in_err-report-clause-ran
returns-in_err-report-clause-ran g c =
    let p = err_from_is_err_and c.from_residual-in_err-report.result c.from_residual-in_err-report.ensures.1 in
    rw (p.1, p.2)
    (λ other. none_listed c.args.system.now.machine c.args.name.now c.args.pre.now c.args.post.now _
    (c.in_err-report.ensures.answered other))

pub run_hooks-requires-clause-none : goal.run_hooks-requires-clause-none
run_hooks-requires-clause-none g c =
    let k = c.args.system.now.machine in
    let made = c.apply_listing.new.self.machine in
    let report = c.in_ok-report.report in
    let applied_is = apply_made k c.args.name.now c.args.pre.now c.args.post.now made report
    c.in_ok-report.ensures.answered in
    let is = is_accepted k c.args.name.now c.args.pre.now c.args.post.now made report c.in_ok-report.hooks applied_is
    c.in_ok-report.ensures.listed in
    scratch_stays k c.args.name.now c.args.pre.now c.args.post.now made report c.in_ok-report.hooks is
    ∙ c.requires.none

pub returns-in-Ok-clause-ran : goal.returns-in-Ok-clause-ran
returns-in-Ok-clause-ran g c =
    let k = c.args.system.now.machine in
    let made = c.apply_listing.new.self.machine in
    let report = c.in_ok-report.report in
    let applied_is = apply_made k c.args.name.now c.args.pre.now c.args.post.now made report
    c.in_ok-report.ensures.answered in
    let is = is_accepted k c.args.name.now c.args.pre.now c.args.post.now made report c.in_ok-report.hooks applied_is
    c.in_ok-report.ensures.listed in
    listed_made k c.args.name.now c.args.pre.now c.args.post.now made c.run_hooks.new.system.machine report
    c.in_ok-report.hooks c.in-Ok.hooks is c.in-Ok.ensures.ran

pub withdraw-requires-clause-live : goal.withdraw-requires-clause-live
withdraw-requires-clause-live g c =
    let k = c.args.system.now.machine in
    let made = c.apply_listing.new.self.machine in
    let report = c.in_ok-report.report in
    let applied_is = apply_made k c.args.name.now c.args.pre.now c.args.post.now made report
    c.in_ok-report.ensures.answered in
    let left = c.run_hooks.new.system.machine in
    let top = c.accepted_updates_lie_on_top.ensures.accepted k made c.args.name.now c.args.pre.now c.args.post.now report
    c.machine.ensures.built applied_is in
    let newest = newest_left made left top.update c.in-Err.ensures.left top.newest in
    subst IsSome (sym newest) refl

pub put_back-requires-clause-fit : goal.put_back-requires-clause-fit
put_back-requires-clause-fit g c =
    let k = c.args.system.now.machine in
    let made = c.apply_listing.new.self.machine in
    let report = c.in_ok-report.report in
    let applied_is = apply_made k c.args.name.now c.args.pre.now c.args.post.now made report
    c.in_ok-report.ensures.answered in
    let left = c.run_hooks.new.system.machine in
    let top = c.accepted_updates_lie_on_top.ensures.accepted k made c.args.name.now c.args.pre.now c.args.post.now report
    c.machine.ensures.built applied_is in
    let newest = newest_left made left top.update c.in-Err.ensures.left top.newest in
    let w = c.withdraw.new.self.machine in
    let gone = subst (λ (o : Option Update). IfSome o (λ (u : Update). w ≡ withdrawn left u)) newest
    c.withdraw.ensures.withdrawn in
    let saves : SavesLaws =
    record { fit = c.saved_data_come_back.ensures.fit; same = c.saved_data_come_back.ensures.same } in
    let back = runs_come_back c.failed_hooks_are_taken_back.ensures saves k made left top.update c.machine.ensures.built
    top.back c.in-Err.ensures.left in
    let saved = saved_is k c.args.system.now.phase c.machine.result.now c.in_ok-saved.saved c.machine.ensures.built
    c.requires.done c.machine.ensures.stands
    (c.in_ok-saved.ensures ∙ ap (λ (contents : Contents). writable_pieces contents.pieces) c.space.ensures.contents) in
    subst (λ (m : AbstractMachine). CanBePutBack m.pieces c.in_ok-saved.saved) (sym gone)
    (subst (λ (pieces : List Piece). CanBePutBack (withdrawn left top.update).pieces pieces) (sym saved) back.fits)

pub returns-clause-ran : goal.returns-clause-ran
returns-clause-ran g c =
    let k = c.args.system.now.machine in
    let made = c.apply_listing.new.self.machine in
    let report = c.in_ok-report.report in
    let applied_is = apply_made k c.args.name.now c.args.pre.now c.args.post.now made report
    c.in_ok-report.ensures.answered in
    let is = is_accepted k c.args.name.now c.args.pre.now c.args.post.now made report c.in_ok-report.hooks applied_is
    c.in_ok-report.ensures.listed in
    λ other. listed_refused k c.args.name.now c.args.pre.now c.args.post.now made report c.in_ok-report.hooks _ is
    (c.in-Err.ensures.ran other)

pub returns-clause-scratch : goal.returns-clause-scratch
returns-clause-scratch g c =
    let k = c.args.system.now.machine in
    let made = c.apply_listing.new.self.machine in
    let report = c.in_ok-report.report in
    let applied_is = apply_made k c.args.name.now c.args.pre.now c.args.post.now made report
    c.in_ok-report.ensures.answered in
    let left = c.run_hooks.new.system.machine in
    let top = c.accepted_updates_lie_on_top.ensures.accepted k made c.args.name.now c.args.pre.now c.args.post.now report
    c.machine.ensures.built applied_is in
    let newest = newest_left made left top.update c.in-Err.ensures.left top.newest in
    let w = c.withdraw.new.self.machine in
    let gone = subst (λ (o : Option Update). IfSome o (λ (u : Update). w ≡ withdrawn left u)) newest
    c.withdraw.ensures.withdrawn in
    let saves : SavesLaws =
    record { fit = c.saved_data_come_back.ensures.fit; same = c.saved_data_come_back.ensures.same } in
    let back = runs_come_back c.failed_hooks_are_taken_back.ensures saves k made left top.update c.machine.ensures.built
    top.back c.in-Err.ensures.left in
    let saved = saved_is k c.args.system.now.phase c.machine.result.now c.in_ok-saved.saved c.machine.ensures.built
    c.requires.done c.machine.ensures.stands
    (c.in_ok-saved.ensures ∙ ap (λ (contents : Contents). writable_pieces contents.pieces) c.space.ensures.contents) in
    let whole =
    same_phased c.put_back.new.self c.args.system.now
    (c.put_back.ensures.put ∙ ap (λ (m : AbstractMachine). with_saved m c.in_ok-saved.saved) gone
    ∙ ap (with_saved (withdrawn left top.update)) saved ∙ back.same)
    (c.put_back.ensures.phase ∙ c.withdraw.ensures.phase ∙ c.in-Err.ensures.phase ∙ sym c.requires.done) in
    ap (λ (s : Phased). s.machine.scratch) whole ∙ c.requires.none

pub returns-clause-refused : goal.returns-clause-refused
returns-clause-refused g c =
    let k = c.args.system.now.machine in
    let made = c.apply_listing.new.self.machine in
    let report = c.in_ok-report.report in
    let applied_is = apply_made k c.args.name.now c.args.pre.now c.args.post.now made report
    c.in_ok-report.ensures.answered in
    let left = c.run_hooks.new.system.machine in
    let top = c.accepted_updates_lie_on_top.ensures.accepted k made c.args.name.now c.args.pre.now c.args.post.now report
    c.machine.ensures.built applied_is in
    let newest = newest_left made left top.update c.in-Err.ensures.left top.newest in
    let w = c.withdraw.new.self.machine in
    let gone = subst (λ (o : Option Update). IfSome o (λ (u : Update). w ≡ withdrawn left u)) newest
    c.withdraw.ensures.withdrawn in
    let saves : SavesLaws =
    record { fit = c.saved_data_come_back.ensures.fit; same = c.saved_data_come_back.ensures.same } in
    let back = runs_come_back c.failed_hooks_are_taken_back.ensures saves k made left top.update c.machine.ensures.built
    top.back c.in-Err.ensures.left in
    let saved = saved_is k c.args.system.now.phase c.machine.result.now c.in_ok-saved.saved c.machine.ensures.built
    c.requires.done c.machine.ensures.stands
    (c.in_ok-saved.ensures ∙ ap (λ (contents : Contents). writable_pieces contents.pieces) c.space.ensures.contents) in
    same_phased c.put_back.new.self c.args.system.now
    (c.put_back.ensures.put ∙ ap (λ (m : AbstractMachine). with_saved m c.in_ok-saved.saved) gone
    ∙ ap (with_saved (withdrawn left top.update)) saved ∙ back.same)
    (c.put_back.ensures.phase ∙ c.withdraw.ensures.phase ∙ c.in-Err.ensures.phase ∙ sym c.requires.done)
