use Rattle.std.proofs.Common.{◌≤◌, ℕ, List, subst}
use Rattle.ks_base.specs.declared.places.Range.{Range}
use Rattle.image_memory.specs.Ranges.{meets}
use Rattle.update_retired.specs.inside.Counts.{all_ranges, how_many}
use Rattle.update_retired.proofs.OverlapLaws.{overlap_none}
use Rattle.update_retired.proofs.overlapping.overlap.Goals as goal

pub returns-then-most_met-own_count : goal.returns-then-most_met-own_count
returns-then-most_met-own_count c =
    let old = c.args.old.now in
    let olds = c.args.olds.now in
    let retired = c.args.retired.now in
    let most = c.most_met.result in
    overlap_none old olds retired most c.requires.listed
    (subst (λ (r : Range). how_many (meets r) (all_ranges olds retired) ≤ most) c.retired_range-range.ensures
    (subst (λ (xs : List Range). how_many (meets c.retired_range-range.result) xs ≤ most) c.requires.bounds
    c.most_met.ensures))
    (subst (λ (n : ℕ). most ≤ n) c.own_count.ensures c.if-most_met-own_count.true)
