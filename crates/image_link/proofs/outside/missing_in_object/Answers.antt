use Rattle.std.proofs.Common.{◌≡◌, true, false, is_some, ap, ◌∙◌, arith}
use Rattle.std.specs.List.{find, flat_map}
use Rattle.image_link.specs.Refused.{outside_names_of, outside_of}
use Rattle.image_link.specs.inside.Missing.{is_missing}
use Rattle.image_link.proofs.Finding.{found_here, found_later}
use Rattle.image_link.proofs.outside.missing_in_object.Goals as goal

pub returns-then-is_some : goal.returns-then-is_some
returns-then-is_some c =
    let p = is_missing c.args.values.now.entries in
    let some : is_some c.in_ok-found.found ≡ true = cc in
    found_here p outside_names_of c.args.sections.now c.loop-section.section-index c.section-item.result
    c.in_ok-found.found _ (omega arith) c.section-item.is c.loop-section.invariant
    (c.in_ok-found.ensures ∙ ap (λ rs. find p (flat_map outside_of rs)) c.as_slice.ensures) some

pub loop-section-preserved : goal.loop-section-preserved
loop-section-preserved c =
    let p = is_missing c.args.values.now.entries in
    let none : is_some c.in_ok-found.found ≡ false = cc in
    found_later p outside_names_of c.args.sections.now c.loop-section.section-index c.section-item.result
    c.in_ok-found.found _ (omega arith) c.section-item.is c.loop-section.invariant
    (c.in_ok-found.ensures ∙ ap (λ rs. find p (flat_map outside_of rs)) c.as_slice.ensures) none
