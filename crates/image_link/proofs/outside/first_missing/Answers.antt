use Rattle.std.proofs.Common.{◌≡◌, true, false, is_some, ap, ◌∙◌, arith}
use Rattle.std.specs.List.{find, flat_map}
use Rattle.image_link.specs.Refused.{outside_names_of}
use Rattle.image_link.specs.inside.Missing.{is_missing}
use Rattle.image_link.proofs.Finding.{found_here, found_later}
use Rattle.image_link.proofs.outside.first_missing.Goals as goal

pub returns-then-is_some : goal.returns-then-is_some
returns-then-is_some c =
    let p = is_missing c.args.values.now.entries in
    let some : is_some c.in_ok-found.found ≡ true = cc in
    found_here p (flat_map outside_names_of) c.args.objects.now c.loop-object.object-index c.object-item.result
    c.in_ok-found.found _ (omega arith) c.object-item.is c.loop-object.invariant
    (c.in_ok-found.ensures ∙ ap (λ xs. find p (flat_map outside_names_of xs)) c.as_slice.ensures.sections) some

pub loop-object-preserved : goal.loop-object-preserved
loop-object-preserved c =
    let p = is_missing c.args.values.now.entries in
    let none : is_some c.in_ok-found.found ≡ false = cc in
    found_later p (flat_map outside_names_of) c.args.objects.now c.loop-object.object-index c.object-item.result
    c.in_ok-found.found _ (omega arith) c.object-item.is c.loop-object.invariant
    (c.in_ok-found.ensures ∙ ap (λ xs. find p (flat_map outside_names_of xs)) c.as_slice.ensures.sections) none
