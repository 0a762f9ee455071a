-- A map from the names of sections to what an update does with their functions.
use Rattle.std.specs.Prelude.{◌≡◌, ℕ, List, unwrap_or}
use Rattle.std.specs.Ordering.{nat_cmp}
use Rattle.std.specs.Cmp.Lexicographic.{slice_cmp}
use Rattle.std.specs.BTreeMap.{BTreeMap, get_by}
use denote.Ref.{Bor}
use Rattle.extract_post.specs.declared.types.Extract.{Extract}
use Rattle.update_retired.specs.declared.types.Fate.{Fate}
use Rattle.update_retired.specs.declared.types.Fate.TheVariants.{Kept}
use Rattle.update_plan.specs.Olds.{fate_of}

-- what a map says of the function that is the section of a name
abbrev pub fate_at : BTreeMap (Bor (List ℕ)) Fate → List ℕ → Fate
fate_at fates name = unwrap_or (get_by (λ k. slice_cmp nat_cmp name k.now) fates) Kept

-- a map says of each name what an extract makes of it
pub record AreFates (fates : BTreeMap (Bor (List ℕ)) Fate) (extract : Extract) : Type 0 where
  pub each : (q : List ℕ) → fate_at fates q ≡ fate_of extract q
