-- The range is found, since it is one of those that are left.
use Rattle.std.proofs.Common.{◌≡◌, ◌∙◌, List, drop, Some, sym, subst, ap}
use Rattle.std.specs.List.{Contains}
use Rattle.ks_base.specs.declared.places.Range.{Range}
use Rattle.image_memory.specs.Changes.{without_first}
use Rattle.image_memory.specs.laws.ChangeLaws.{first_place, first_is, removed_first, front_passed, removed_behind}
use Rattle.image_memory.proofs.spare.SpareRanges.take_first.Goals as goal

pub unreachable-requires : goal.unreachable-requires
unreachable-requires c =
    let P : List Range → Type 0 = λ rs. Contains rs c.args.range in
    let found = first_is c.args.range c.left.result.now (subst P (sym c.left.ensures) c.requires) in
    c.in_default.not-Some _ (c.place_of.ensures ∙ found)

pub returns-then-at-eq0-clause-left : goal.returns-then-at-eq0-clause-left
returns-then-at-eq0-clause-left c =
    let taken = c.self.inside.taken in
    let ranges = c.self.inside.ranges.items in
    let left : c.left.result.now ≡ drop taken ranges = c.left.ensures ∙ sym c.self.view_is in
    let P : List Range → Type 0 = λ rs. Contains rs c.args.range in
    let there = subst P (sym c.self.view_is) c.requires in
    let at : first_place c.args.range (drop taken ranges) ≡ Some 0 =
    ap (first_place c.args.range) (sym left) ∙ sym c.place_of.ensures ∙ c.in-Some.is ∙ ap Some c.if-at-eq0.true in
    sym (front_passed taken ranges) ∙ removed_first c.args.range (drop taken ranges) 0 there at
    ∙ ap (without_first c.args.range) c.self.view_is

pub returns-else-at-eq0-clause-left : goal.returns-else-at-eq0-clause-left
returns-else-at-eq0-clause-left c =
    let taken = c.self.inside.taken in
    let ranges = c.self.inside.ranges.items in
    let left : c.left.result.now ≡ drop taken ranges = c.left.ensures ∙ sym c.self.view_is in
    let P : List Range → Type 0 = λ rs. Contains rs c.args.range in
    let there = subst P (sym c.self.view_is) c.requires in
    let at : first_place c.args.range (drop taken ranges) ≡ Some c.in-Some.at =
    ap (first_place c.args.range) (sym left) ∙ sym c.place_of.ensures ∙ c.in-Some.is in
    ap (drop taken) c.remove.ensures.items
    ∙ removed_behind taken c.in-Some.at ranges ∙ removed_first c.args.range (drop taken ranges) c.in-Some.at there at
    ∙ ap (without_first c.args.range) c.self.view_is
