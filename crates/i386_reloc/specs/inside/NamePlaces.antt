-- A map from the names of sections to their places.
use Rattle.std.specs.Prelude.{◌≡◌, ℕ, List, length, Option}
use Rattle.std.specs.Ordering.{nat_cmp}
use Rattle.std.specs.Cmp.Lexicographic.{slice_cmp}
use Rattle.std.specs.BTreeMap.{BTreeMap, get_by, btree_map_len}
use denote.Ref.{Bor}
use Rattle.i386_reloc.specs.declared.types.NormalSection.{NormalSection}
use Rattle.i386_reloc.specs.Places.{place_named}

-- what a map has at a name
abbrev pub named : BTreeMap (Bor (List ℕ)) ℕ → List ℕ → Option ℕ
named places name = get_by (λ k. slice_cmp nat_cmp name k.now) places

-- a map from names to places
pub record HasPlaces (sections : List NormalSection) (places : BTreeMap (Bor (List ℕ)) ℕ) : Type 0 where
  pub len : btree_map_len places ≡ length sections
  pub each : (q : List ℕ) → named places q ≡ place_named sections q
