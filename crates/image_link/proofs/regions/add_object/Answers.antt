use Rattle.std.proofs.Common.{◌≡◌, ◌+◌, ◌∷◌, [], ◌++◌, length, sym, subst, take, ℕ, length-append}
use Rattle.std.specs.Iterator.Adapters.{zip_first, zip_second}
use Rattle.std.specs.Slice.Iter.{iter_rest}
use Rattle.std.proofs.lemmas.Slice.Zip.{zip_turn}
use Rattle.std.specs.List.{flat_map, fold, zip}
use Rattle.image_link.specs.Regions.{gap_of}
use Rattle.image_link.specs.inside.Joining.{with_filled}
use Rattle.image_link.proofs.Joins.{chosen_more, chosen_part}
use Rattle.image_link.proofs.regions.add_object.Goals as goal

pub loop-section-preserved : goal.loop-section-preserved
loop-section-preserved c =
    let kind = c.args.kind in
    let laid = c.args.laid.now in
    let values = c.args.values.now.entries in
    let k = length c.loop-section.yielded in
    let section = c.in-Some.section.now in
    let place = c.in-Some.place.now in
    let from = c.into_iter-section-iterator.result in
    let sections : iter_rest (zip_first from) ≡ laid.object = cc in
    let places : iter_rest (zip_second from) ≡ laid.places = cc in
    let turn = zip_turn laid.object laid.places c.loop-section.yielded from c.loop-section.section-iterator c.next.new.self
    c.next.result sections places c.loop-section.yielded_by (c.in-Some.section, c.in-Some.place) c.in-Some.is
    c.next.ensures.steps in
    let long : length (c.loop-section.yielded ++ (c.in-Some.section, c.in-Some.place) ∷ []) ≡ k + 1 =
    length-append c.loop-section.yielded ((c.in-Some.section, c.in-Some.place) ∷ []) in
    subst (λ (n : ℕ). c.add_section.new.region ≡ fold (with_filled (gap_of kind)) c.args.region.now
    (flat_map (chosen_part kind laid values) (take n (zip laid.object laid.places)))) (sym long)
    (chosen_more kind laid values c.args.region.now c.loop-section.region c.add_section.new.region laid.object laid.places
    k section place turn.0 turn.1 (turn.2 section) (turn.3 place) c.loop-section.invariant c.in_ok-add_section.ensures)
