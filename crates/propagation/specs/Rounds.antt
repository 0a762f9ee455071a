-- Which items are left where one is to be chosen for each section, when those are excluded that don't match, or clash
-- with one that is forced.
use Rattle.std.specs.Prelude.{ℕ, zero, suc, Bool, not, ◌||◌, List, length}
use Rattle.std.specs.List.{filter, list_any, list_all}

-- How items stand to one another: whether two are of one section, whether two are the same one, whether an item can be
-- chosen at all, and whether two can't be chosen together.
pub record Rules (X : Type 0) : Type 0 where
  pub same_section : X → X → Bool
  pub same : X → X → Bool
  pub matches : X → Bool
  pub clashes : X → X → Bool

-- An item is forced where all others of its section are excluded: where no other one of its section is left. It may be
-- excluded itself.
abbrev pub is_forced : {X : Type 0} → Rules X → List X → X → Bool
is_forced rules left x = list_all (λ y. not (rules.same_section y x) || rules.same y x) left

abbrev pub forced_among : {X : Type 0} → Rules X → List X → List X → List X
forced_among rules all left = filter (is_forced rules left) all

abbrev pub clashes_with_one : {X : Type 0} → Rules X → List X → X → Bool
clashes_with_one rules forced x = list_any (rules.clashes x) forced

abbrev pub without_clashes : {X : Type 0} → Rules X → List X → List X → List X
without_clashes rules forced left = filter (λ x. not (clashes_with_one rules forced x)) left

-- The items that aren't excluded in a round: in round 0 those that match, and in the next round those of them that
-- don't clash with a forced one.
unfoldable pub left_in : {X : Type 0} → Rules X → ℕ → List X → List X
left_in rules zero all = filter rules.matches all
left_in rules (suc round) all =
    without_clashes rules (forced_among rules all (left_in rules round all)) (left_in rules round all)

-- those of the round that is numbered as there are items; no later round excludes more
unfoldable pub remaining : {X : Type 0} → Rules X → List X → List X
remaining rules all = left_in rules (length all) all

-- the forced ones of that round
unfoldable pub forced : {X : Type 0} → Rules X → List X → List X
forced rules all = forced_among rules all (remaining rules all)

-- whether an item is among some
abbrev pub is_among : {X : Type 0} → Rules X → List X → X → Bool
is_among rules items x = list_any (rules.same x) items
