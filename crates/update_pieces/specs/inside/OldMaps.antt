-- A map from the names of sections to old functions.
use Rattle.std.specs.Prelude.{◌≡◌, ℕ, List, Option}
use Rattle.std.specs.Ordering.{nat_cmp}
use Rattle.std.specs.Option.{option_copied}
use Rattle.std.specs.Cmp.Lexicographic.{slice_cmp}
use Rattle.std.specs.BTreeMap.{BTreeMap, get_by}
use denote.Ref.{Bor}
use Rattle.update_retired.specs.declared.types.OldFunction.{OldFunction}
use Rattle.update_pieces.specs.Reports.{old_named}

-- the function that a map has at a name
abbrev pub old_at : BTreeMap (Bor (List ℕ)) (Bor OldFunction) → List ℕ → Option OldFunction
old_at by_section name = option_copied (get_by (λ k. slice_cmp nat_cmp name k.now) by_section)

-- a map has at each name the first function of that section
pub record AreFirst (by_section : BTreeMap (Bor (List ℕ)) (Bor OldFunction)) (olds : List OldFunction) : Type 0 where
  pub each : (q : List ℕ) → old_at by_section q ≡ old_named olds q
