-- The search for two choices that clash, where nothing is left of their sections.
use Rattle.std.specs.Prelude.{◌≡◌, ◌<◌, ℕ, Bool, true, false, not, ◌&&◌, ◌==◌, List}
use Rattle.std.specs.Prelude.{[], ◌∷◌, map, Contains, Option, Some, None, slice_get}
use Rattle.std.specs.List.{list_any}
use Rattle.propagation.specs.declared.choice.Choice.{Choice}
use Rattle.propagation.specs.Choices.{clash}
use Rattle.propagation.specs.inside.Engine.{list_at, is_left}
use Rattle.propagation.specs.inside.State.{At, IsLeft}

abbrev pub clash_at : Choice → Option Choice → Bool
clash_at c None = false
clash_at c (Some other) = clash c other

-- whether a choice clashes with one of those at some places
abbrev pub is_struck : List Choice → List ℕ → Choice → Bool
is_struck choices by c = list_any (λ place. clash_at c (slice_get choices place)) by

-- no marked choice is of the section of one at some places
abbrev pub AreApart : List Choice → List Bool → List ℕ → Type 0
AreApart choices marks by =
    (place : ℕ) (c : Choice) → Contains by place → At choices place c
    → (other : ℕ) (x : Choice) → At choices other x → IsLeft marks other → x.section ≡ c.section → ⊥

abbrev pub AreMarkedMatching : List Choice → List Bool → Type 0
AreMarkedMatching choices marks =
    (place : ℕ) (c : Choice) → At choices place c → IsLeft marks place → c.matches ≡ true

-- none of the marked choices is struck, or the first one that is stands at a place
pub data FirstStruck (choices : List Choice) (marks : List Bool) (by : List ℕ) : Option ℕ → Type 0 where
  NotAny : ((place : ℕ) (c : Choice) → At choices place c → IsLeft marks place → is_struck choices by c ≡ false)
      → FirstStruck choices marks by None
  First : (place : ℕ) → IsLeft marks place → ((c : Choice) → At choices place c → is_struck choices by c ≡ true)
      → ((before : ℕ) (c : Choice) → before < place → At choices before c
      → IsLeft marks before → is_struck choices by c ≡ false) → FirstStruck choices marks by (Some place)

-- a choice that can be chosen, of a section of which nothing is left; `alive` marks the others
abbrev pub is_stuck : List Bool → Choice → Bool
is_stuck alive c = c.matches && not (is_left alive c.section)

abbrev pub is_stuck_in : List Bool → ℕ → Choice → Bool
is_stuck_in alive section c = is_stuck alive c && c.section == section

abbrev pub is_stuck_out : List Bool → ℕ → Choice → Bool
is_stuck_out alive section c = is_stuck alive c && not (c.section == section)

-- the search in two sections
pub data Between (choices : List Choice) (whole : List (List ℕ)) (alive : List Bool) (one two : ℕ) : Option (ℕ × ℕ)
    → Type 0 where
  NoFirst : FirstStruck choices (map (is_stuck_in alive one) choices) (list_at whole two) None
      → Between choices whole alive one two None
  NoSecond : (first : ℕ) → FirstStruck choices (map (is_stuck_in alive one) choices) (list_at whole two) (Some first)
      → FirstStruck choices (map (is_stuck_in alive two) choices) (first ∷ []) None
      → Between choices whole alive one two None
  Both : (first second : ℕ) → FirstStruck choices (map (is_stuck_in alive one) choices) (list_at whole two) (Some first)
      → FirstStruck choices (map (is_stuck_in alive two) choices) (first ∷ []) (Some second)
      → Between choices whole alive one two (Some (first, second))

-- the search in a section and all others
pub data Around (choices : List Choice) (whole : List (List ℕ)) (alive : List Bool) (one : ℕ) : Option (ℕ × ℕ)
    → Type 0 where
  NoOther : FirstStruck choices (map (is_stuck_out alive one) choices) (list_at whole one) None
      → Around choices whole alive one None
  Other : (place : ℕ) (c : Choice) (found : Option (ℕ × ℕ))
      → FirstStruck choices (map (is_stuck_out alive one) choices) (list_at whole one) (Some place) → At choices place c
      → Between choices whole alive one c.section found → Around choices whole alive one found
