use Rattle.std.proofs.Common.{◌≡◌, ◌++◌, List, Option, take, sym, ap, ◌∙◌, subst, arith}
use Rattle.std.proofs.lemmas.List.{take_all}
use Rattle.link_post.specs.Linked.{AreNamesInOrder}
use Rattle.extract_post.specs.declared.role.Role.{Role}
use Rattle.extract_post.specs.Roles.{role_at, role_of}
use Rattle.update_pieces.specs.Parts.{NewPart}
use Rattle.update_plan.specs.Placing.{names_of, part_as, parts_of}
use Rattle.update_plan.proofs.Orders.{parts_in_order}
use Rattle.update_plan.proofs.Steps.{parts_more}
use Rattle.update_plan.proofs.parts.parts_of.Goals as goal

pub returns-clause-order : goal.returns-clause-order
returns-clause-order c =
    let extract = c.args.extract.now in
    let post = c.args.post.now in
    let slice = c.as_slice-section-items in
    let all : take c.loop-section.section-index slice.result.now ≡ post =
    take_all c.loop-section.section-index slice.result.now (omega arith) ∙ slice.ensures.sections in
    let parts : c.loop-section.parts.items ≡ parts_of extract post =
    c.loop-section.invariant ∙ ap (parts_of extract) all in
    subst (λ (parts : List NewPart). AreNamesInOrder post (names_of parts)) (sym parts)
    (parts_in_order extract post slice.ensures.distinct)

pub loop-section-preserved : goal.loop-section-preserved
loop-section-preserved c =
    let extract = c.args.extract.now in
    let sections = c.as_slice-section-items.result.now in
    let section = c.section-item.result in
    let i = c.loop-section.section-index in
    let role : c.role_at-role.result ≡ role_of extract section.name =
    c.role_at-role.ensures ∙ ap (role_at c.in_ok-roles.roles) c.as_slice.ensures ∙ c.in_ok-roles.ensures section.name in
    c.in_ok-add_part.ensures
    ∙ ap (λ parts. parts ++ part_as section c.role_at-role.result) c.loop-section.invariant
    ∙ ap (λ (role : Option Role). parts_of extract (take i sections) ++ part_as section role) role
    ∙ sym (parts_more extract sections i section (omega arith) c.section-item.is)
