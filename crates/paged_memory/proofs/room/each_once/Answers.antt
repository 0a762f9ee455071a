-- Sorting moves numbers, and of those that are alike one stays.
use Rattle.std.proofs.Common.{eqb, List, ℕ, subst, sym}
use Rattle.std.specs.List.{Contains}
use Rattle.std.specs.List.Sorted.{IsStrictlyIncreasing}
use Rattle.std.proofs.lemmas.List.Filters.{dedup_is}
use Rattle.std.proofs.lemmas.List.Kept.{Contains-dedup_nat, Contains-from_dedup}
use Rattle.std.proofs.lemmas.List.Sorted.{Contains-permutation, IsPermutation-sym}
use Rattle.std.proofs.lemmas.Map.Keys.{IsStrictlyIncreasing-dedup}
use Rattle.paged_memory.proofs.room.each_once.Goals as goal

pub returns-clause-rise : goal.returns-clause-rise
returns-clause-rise c =
    let sorted = c.sort_unstable.new.self.items in
    let left = dedup_is eqb sorted c.dedup.new.self.items c.dedup.ensures.filtered in
    subst IsStrictlyIncreasing (sym left) (IsStrictlyIncreasing-dedup sorted c.sort_unstable.ensures.sorted)

pub returns-clause-has : goal.returns-clause-has
returns-clause-has c = λ number there.
    let sorted = c.sort_unstable.new.self.items in
    let left = dedup_is eqb sorted c.dedup.new.self.items c.dedup.ensures.filtered in
    let P = λ (ys : List ℕ). Contains ys number in
    subst P (sym left) (Contains-dedup_nat sorted number
    (Contains-permutation c.args.numbers.items sorted number c.sort_unstable.ensures.permutation there))

pub returns-clause-only : goal.returns-clause-only
returns-clause-only c = λ number there.
    let sorted = c.sort_unstable.new.self.items in
    let left = dedup_is eqb sorted c.dedup.new.self.items c.dedup.ensures.filtered in
    let P = λ (ys : List ℕ). Contains ys number in
    Contains-permutation sorted c.args.numbers.items number
    (IsPermutation-sym c.args.numbers.items sorted c.sort_unstable.ensures.permutation)
    (Contains-from_dedup eqb sorted number (subst P left there))
