use Rattle.std.proofs.Common.{◌≡◌, ◌∙◌, ap, Some}
use Rattle.std.specs.Option.{option_map}
use Rattle.ks_base.specs.declared.refusals.Refusal.TheVariants.{Needed}
use Rattle.update_stack.specs.Systems.{live_update}
use Rattle.update_stack.specs.Undo.{first_need_of}
use Rattle.update_stack.proofs.CoverLaws.{need_told, among_left}
use Rattle.update_stack.proofs.covering.check_needs_of.Goals as goal

pub returns-in-Some-clause-found : goal.returns-in-Some-clause-found
returns-in-Some-clause-found c known =
    let ranges = c.args.ranges.now in
    let needs = c.needs-item.result in
    let update = live_update c.args.update.now c.args.one.now in
    let told = need_told ranges update needs c.first_field.result c.first_field.ensures in
    let found : option_map (Needed update.name needs.section) c.first_field.result
    ≡ Some (Needed update.name needs.section c.in-Some.offset) =
    ap (option_map (Needed update.name needs.section)) c.in-Some.is in
    rw c.in_ok-needed_by.ensures
    (c.loop-needs.invariant
    ∙ among_left (first_need_of ranges update) c.as_slice-needs-items.result.now c.loop-needs.needs-index needs _
    c.loop-needs-test.true c.needs-item.is (told ∙ found))
