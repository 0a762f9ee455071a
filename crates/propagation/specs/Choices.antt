-- Choices for sections, whose claims and demands are numbers.
use Rattle.std.specs.Prelude.{◌≡◌, ◌<◌, ◌⊎◌, ℕ, Bool, not, ◌&&◌, ◌||◌, ◌==◌, List, map, All, Option, Some, None}
use Rattle.std.specs.List.{filter, list_any, range_with_len, slice_get, Contains}
use Rattle.std.specs.List.Sorted.{IsStrictlyIncreasing}
use Rattle.propagation.specs.declared.choice.Claim.{Claim}
use Rattle.propagation.specs.declared.choice.Demand.{Demand}
use Rattle.propagation.specs.declared.choice.Choice.{Choice}
use Rattle.propagation.specs.Rounds.{Rules}

abbrev pub same_section : Choice → Choice → Bool
same_section a b = a.section == b.section

abbrev pub same_choice : Choice → Choice → Bool
same_choice a b = same_section a b && a.home == b.home

abbrev pub can_be_chosen : Choice → Bool
can_be_chosen a = a.matches

-- two claims that give one unknown two values
abbrev pub contradict : Claim → Claim → Bool
contradict a b = a.unknown == b.unknown && not (a.value == b.value)

abbrev pub claims_clash : Choice → Choice → Bool
claims_clash a b = list_any (λ claim. list_any (contradict claim) b.claims) a.claims

-- whether a choice is of the section that a demand is made on, and doesn't meet it
abbrev pub is_unmet : Choice → Demand → Bool
is_unmet b demand = demand.section == b.section && not (list_any (λ number. number == demand.number) b.met)

abbrev pub demands_clash : Choice → Choice → Bool
demands_clash a b = list_any (is_unmet b) a.demands

-- Two choices for different sections, which both can be chosen, clash where their claims give one unknown two values,
-- or one doesn't meet a demand of the other.
unfoldable pub clash : Choice → Choice → Bool
clash a b =
    not (same_section a b) && can_be_chosen a && can_be_chosen b
    && (claims_clash a b || demands_clash a b || demands_clash b a)

abbrev pub choice_rules : Rules Choice
choice_rules = record { same_section = same_section; same = same_choice; matches = can_be_chosen; clashes = clash }

-- claims of which no two give one unknown two values
abbrev pub Agree : List Claim → Type 0
Agree claims = (a b : Claim) → Contains claims a → Contains claims b → a.unknown ≡ b.unknown → a.value ≡ b.value

-- A choice's claims agree, and the demands that it meets ascend.
pub record IsChoice (choice : Choice) : Type 0 where
  pub agree : Agree choice.claims
  pub ascend : IsStrictlyIncreasing choice.met

-- A choice comes before another: its section does, or it is of the same one and its home is lower.
abbrev pub ComesBefore : Choice → Choice → Type 0
ComesBefore a b = (a.section < b.section) ⊎ ((a.section ≡ b.section) × (a.home < b.home))

-- choices by section, and in each by home, none twice
pub record AreChoices (choices : List Choice) : Type 0 where
  pub each : All IsChoice choices
  pub order : (i j : ℕ) (a b : Choice) → i < j → slice_get choices i ≡ Some a → slice_get choices j ≡ Some b
      → ComesBefore a b

abbrev pub is_of : ℕ → Choice → Bool
is_of section choice = choice.section == section

-- the choices of each of so many sections
abbrev pub by_section : ℕ → List Choice → List (List Choice)
by_section count choices = map (λ section. filter (is_of section) choices) (range_with_len 0 count)

abbrev pub pair_with : Choice → Option Choice → Option (Choice × Choice)
pair_with a None = None
pair_with a (Some b) = Some (a, b)

abbrev pub pair_of : Option Choice → Option Choice → Option (Choice × Choice)
pair_of None b = None
pair_of (Some a) b = pair_with a b

-- the two choices at two places
abbrev pub pair_at : List Choice → ℕ × ℕ → Option (Choice × Choice)
pair_at choices places = pair_of (slice_get choices places.0) (slice_get choices places.1)
