use Rattle.std.proofs.Common.{◌≡◌, ◌+◌, ◌<◌, ◌++◌, drop, length, refl, ap, sym, subst, ◌∙◌, arith}
use Rattle.image_link.specs.Places.{behind, ends_after, lengths_of, next_base, places_from}
use Rattle.image_link.specs.inside.Filling.{AreAllPlaced}
use Rattle.image_link.specs.inside.Laying.{seen}
use Rattle.image_link.proofs.Growth.{lengths_after}
use Rattle.image_link.proofs.Laying.{ends_more, names_of_places, places_all, places_more}
use Rattle.image_link.proofs.placing.places_of.Goals as goal

pub returns-in-None-clause-none : goal.returns-in-None-clause-none
returns-in-None-clause-none c =
    let k = c.loop-section.section-index in
    let section = c.section-item.result in
    let sections = c.as_slice-section-items.result.now in
    let before = seen c.loop-section.ends in
    let rest = drop (k + 1) sections in
    let within : k < length sections = omega arith in
    let too_long : 16777216 < lengths_of (behind before section) = rw c.in-None.is at c.in_ok-add_place.ensures.none in
    let grows = lengths_after (behind before section) rest in
    let is : ends_after (behind before section) rest ≡ ends_after (seen c.args.first) sections =
    ends_more behind before _ _ sections k section within c.section-item.is refl c.loop-section.invariant.ends in
    let same = ap lengths_of (is ∙ ap (ends_after (seen c.args.first)) c.as_slice-section-items.ensures.sections) in
    omega (arith, too_long, grows, same)

pub loop-section-preserved : goal.loop-section-preserved
loop-section-preserved c =
    let k = c.loop-section.section-index in
    let section = c.section-item.result in
    let sections = c.as_slice-section-items.result.now in
    let before = seen c.loop-section.ends in
    let after = seen c.in-Some.behind in
    let so_far = c.loop-section.placement in
    let within : k < length sections = omega arith in
    let place_is = rw c.in-Some.is at c.in_ok-add_place.ensures.place in
    let ends_are = rw c.in-Some.is at c.in_ok-add_place.ensures.ends in
    record {
      places =
          ap (λ xs. xs ++ places_from after (drop (k + 1) sections)) place_is
          ∙ places_more so_far _ before after sections k (next_base before section) section within c.section-item.is
          refl ends_are c.loop-section.invariant.places;
      ends = ends_more behind before after _ sections k section within c.section-item.is ends_are
          c.loop-section.invariant.ends;
      short = rw c.in-Some.is at c.in_ok-add_place.ensures.short;
    }

pub returns-clause-places : goal.returns-clause-places
returns-clause-places c =
    let sections = c.as_slice-section-items.result.now in
    places_all c.loop-section.placement _ (seen c.loop-section.ends) sections c.loop-section.section-index (omega arith)
    c.loop-section.invariant.places
    ∙ ap (places_from (seen c.args.first)) c.as_slice-section-items.ensures.sections

pub returns-clause-all : goal.returns-clause-all
returns-clause-all c =
    let sections = c.as_slice-section-items.result.now in
    let are = places_all c.loop-section.placement _ (seen c.loop-section.ends) sections c.loop-section.section-index
    (omega arith) c.loop-section.invariant.places
    ∙ ap (places_from (seen c.args.first)) c.as_slice-section-items.ensures.sections in
    subst (AreAllPlaced c.args.object.now) (sym are) (names_of_places (seen c.args.first) c.args.object.now)
