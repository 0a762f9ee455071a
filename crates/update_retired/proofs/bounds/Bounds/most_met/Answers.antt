use Rattle.std.proofs.Common.{◌≤◌, ◌+◌, ℕ, List, nat_lt, ◌∙◌, sym, ap, subst}
use Rattle.ks_base.specs.declared.places.Range.{Range}
use Rattle.image_memory.specs.Ranges.{meets}
use Rattle.update_retired.specs.inside.Counts.{how_many}
use Rattle.update_retired.proofs.CountLaws.{most_met}
use Rattle.update_retired.proofs.bounds.Bounds.most_met.Goals as goal

pub returns : goal.returns
returns c =
    let range = c.args.range in
    let begun = c.below-begun.ensures
    ∙ ap (λ (b : ℕ). how_many (λ (n : ℕ). nat_lt n b) c.as_slice.result.now) c.from.ensures
    ∙ ap (λ (xs : List ℕ). how_many (λ (n : ℕ). nat_lt n range.high) xs) c.as_slice.ensures.value in
    let over = c.below-over.ensures
    ∙ ap (λ (b : ℕ). how_many (λ (n : ℕ). nat_lt n (b + 1)) c.as_slice-2.result.now) c.from-2.ensures
    ∙ ap (λ (xs : List ℕ). how_many (λ (n : ℕ). nat_lt n (range.low + 1)) xs) c.as_slice-2.ensures.value in
    let most = most_met range c.self.inside.ranges.now c.self.inside.lows.items c.self.inside.highs.items
    c.below-begun.result c.below-over.result c.self.invariant.2 c.self.invariant.3 begun over in
    subst (λ (xs : List Range). how_many (meets range) xs ≤ c.saturating_sub.result) c.self.view_is
    (subst (λ (n : ℕ). how_many (meets range) c.self.inside.ranges.now ≤ n) (sym c.saturating_sub.ensures) most)
