use Rattle.std.proofs.Common.{◌≡◌, ◌+◌, ◌<◌, ◌≤◌, ◌∷◌, [], ◌++◌, drop, length, refl, ap, ◌∙◌, arith, subst}
use Rattle.std.specs.List.{fold}
use Rattle.std.proofs.lemmas.List.{take_all}
use Rattle.image_link.specs.Places.{ends_after, laid_from, last_ends, lengths_of}
use Rattle.image_link.specs.inside.Laying.{seen}
use Rattle.image_link.specs.inside.Linkable.{AreLinkable, IsLinkable}
use Rattle.image_link.proofs.Growth.{lengths_of_all}
use Rattle.image_link.proofs.Laying.{all_more, ends_more, laid_more, laid_all}
use Rattle.image_link.proofs.placing.lay_out.Goals as goal

pub returns-in-None-clause-none : goal.returns-in-None-clause-none
returns-in-None-clause-none c =
    let k = c.loop-object.object-index in
    let object = c.object-item.result in
    let before = seen c.loop-object.ends in
    let rest = drop (k + 1) c.args.objects.now in
    let too_long : 16777216 < lengths_of (ends_after before object) =
    rw c.in-None.is at c.in_ok-places_of.ensures.none in
    let grows : lengths_of (ends_after before object) ≤ lengths_of (fold ends_after (ends_after before object) rest) =
    lengths_of_all (ends_after before object) rest in
    let is : fold ends_after (ends_after before object) rest ≡ last_ends c.args.objects.now =
    ends_more ends_after before _ _ c.args.objects.now k object (omega arith) c.object-item.is refl c.loop-object.invariant.ends in
    let e = ap lengths_of is in
    omega (arith, too_long, grows, e)

pub loop-object-preserved : goal.loop-object-preserved
loop-object-preserved c =
    let k = c.loop-object.object-index in
    let object = c.object-item.result in
    let objects = c.args.objects.now in
    let before = seen c.loop-object.ends in
    let after = seen c.in-Some.behind in
    let so_far = c.loop-object.laid.items in
    let within : k < length objects = omega arith in
    let places = rw c.in-Some.is at c.in_ok-places_of.ensures.places in
    let behind = rw c.in-Some.is at c.in_ok-places_of.ensures.ends in
    record {
      laid =
          ap (λ xs. xs ++ laid_from after (drop (k + 1) objects))
          (c.in_ok-push-in-Some.ensures.items ∙ ap (λ one. so_far ++ one ∷ []) c.new.ensures)
          ∙ laid_more so_far _ before after objects k object c.in-Some.placement within c.object-item.is places behind
          c.loop-object.invariant.laid;
      ends = ends_more ends_after before after _ objects k object within c.object-item.is behind
          c.loop-object.invariant.ends;
      short = rw c.in-Some.is at c.in_ok-places_of.ensures.short;
      linkable = all_more IsLinkable objects k object within c.object-item.is c.loop-object.invariant.linkable
          (rw c.in-Some.is at c.in_ok-places_of.ensures.linkable);
    }

pub returns-clause-laid : goal.returns-clause-laid
returns-clause-laid c =
    laid_all c.loop-object.laid.items _ (seen c.loop-object.ends) c.args.objects.now c.loop-object.object-index
    (omega arith) c.loop-object.invariant.laid

pub returns-clause-linkable : goal.returns-clause-linkable
returns-clause-linkable c =
    subst AreLinkable (take_all c.loop-object.object-index c.args.objects.now (omega arith))
    c.loop-object.invariant.linkable
