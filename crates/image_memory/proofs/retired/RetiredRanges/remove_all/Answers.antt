-- What isn't empty is kept, which still ascends.
use Rattle.std.proofs.Common.{◌≡◌, ◌∙◌, List, rules, arith, sym, ap, subst, not, length, map, get_or}
use Rattle.std.specs.List.{filter, Contains}
use Rattle.std.proofs.lemmas.Fn.{filter_same}
use Rattle.std.proofs.lemmas.List.{with_items_is}
use Rattle.image_memory.specs.Ranges.{Ascends, is_one_of}
use Rattle.image_memory.specs.Contents.{Retired, fence_range}
use Rattle.image_memory.specs.Changes.{without_ranges}
use Rattle.image_memory.specs.declared.types.Fence.{Fence}
use Rattle.image_memory.specs.laws.ChangeLaws.{Ascends-filter}
use Rattle.image_memory.proofs.EmptyLaws.{is_full}
use Rattle.image_memory.proofs.retired.RetiredRanges.remove_all.Goals as goal

kept : (c : goal.After-retain) → c.retain.new.self.items ≡ without_ranges c.args.ranges.now c.self.inside.fences.items
kept c =
    let fences = c.self.inside.fences in
    let value = c.as_mut_slice.ensures.value in
    filter_same _ _ _ (λ x b f' k. search rules) _ _ c.retain.ensures.filtered
    ∙ (ap (filter is_full) (with_items_is fences c.make_empty.new.fences
    (c.make_empty.auto.fences ∙ (ap length value ∙ sym fences.ok.0)))
    ∙ (c.make_empty.ensures ∙ ap (without_ranges c.args.ranges.now) value))

ascend : (c : goal.After-retain) → Ascends fence_range 0 c.retain.new.self.items
ascend c =
    subst (λ (fs : List Fence). Ascends fence_range 0 fs) (sym (kept c))
    (Ascends-filter fence_range (λ (fence : Fence). not (is_one_of c.args.ranges.now fence.range)) 0
    c.self.inside.fences.items c.self.invariant.0)

pub make_empty-requires-clause-there : goal.make_empty-requires-clause-there
make_empty-requires-clause-there c k d l =
    subst (λ (fs : List Fence). Contains (map fence_range fs) (get_or c.args.ranges.now k d))
    (sym (c.as_mut_slice.ensures.value ∙ ap (λ (r : Retired). r.fences) c.self.view_is)) (c.requires k d l)

pub invariant_of-self : goal.invariant_of-self
invariant_of-self c = (ascend c, omega (arith, c.self.invariant.1))

pub returns-clause-fences : goal.returns-clause-fences
returns-clause-fences c = kept c ∙ ap (λ (r : Retired). without_ranges c.args.ranges.now r.fences) c.self.view_is

pub returns-clause-ascend : goal.returns-clause-ascend
returns-clause-ascend c = ascend c
