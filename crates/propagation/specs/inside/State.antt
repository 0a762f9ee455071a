-- What holds of the state between two steps.
use Rattle.std.specs.Prelude.{◌≡◌, ◌⊎◌, ◌<◌, ◌≤◌, ◌+◌, ◌-◌, ℕ, Bool, true, false, cond, List, [], ◌∷◌, ◌++◌, length}
use Rattle.std.specs.Prelude.{Contains, Option, Some, slice_get, slice_set, slice_index, slice_index_or, sum_by, fold}
use Rattle.propagation.specs.declared.choice.Claim.{Claim}
use Rattle.propagation.specs.declared.choice.Demand.{Demand}
use Rattle.propagation.specs.declared.choice.Choice.{Choice}
use Rattle.propagation.specs.declared.tables.Entry.{Entry}
use Rattle.propagation.specs.Rounds.{remaining}
use Rattle.propagation.specs.Choices.{choice_rules, clash}
use Rattle.propagation.specs.inside.Engine.{Marking, Engine, list_at, is_known, is_left}
use Rattle.propagation.specs.inside.Engine.{is_other, meets, carried_at, said_below, members_at}

-- a choice stands at a place
abbrev pub At : List Choice → ℕ → Choice → Type 0
At choices place c = slice_get choices place ≡ Some c

abbrev pub IsLeft : List Bool → ℕ → Type 0
IsLeft left place = is_left left place ≡ true

-- ---- tables
-- The claims of what is left stand in the table, and the table has none that isn't made. What is left claims of an
-- unknown the value that it was given.
pub record KeepsClaims
    (choices : List Choice) (left : List Bool) (table : List (List Entry)) (known : List (Option ℕ)) : Type 0 where
  pub complete : (place : ℕ) (c : Choice) (claim : Claim) → At choices place c → IsLeft left place → Contains
      c.claims claim → Contains (list_at table claim.unknown) (record { choice = place; value = claim.value })
  pub sound : (unknown : ℕ) (entry : Entry) → Contains (list_at table unknown) entry → (c : Choice)
      → At choices entry.choice c → Contains c.claims (record { unknown = unknown; value = entry.value })
  pub fixed : (unknown value : ℕ) → is_known known unknown value ≡ true → (place : ℕ) (c : Choice) (claim : Claim)
      → At choices place c → IsLeft left place → Contains c.claims claim → claim.unknown ≡ unknown → claim.value ≡ value

-- What is left stands in its section's list, which has choices of this section alone. What is left of a section meets a
-- demand that it was asked.
pub record KeepsMembers
    (choices : List Choice) (left : List Bool) (table : List (List ℕ)) (known : List (Option ℕ)) : Type 0 where
  pub complete : (place : ℕ) (c : Choice) → At choices place c → IsLeft left place
      → Contains (list_at table c.section) place
  pub sound : (section place : ℕ) → Contains (list_at table section) place → (c : Choice) → At choices place c
      → c.section ≡ section
  pub asked : (number section : ℕ) → is_known known number section ≡ true → (place : ℕ) (c : Choice)
      → At choices place c → IsLeft left place → c.section ≡ section → meets c number ≡ true

-- The demands of what is left on other sections stand in both tables, and that of their makers has none that isn't
-- made.
pub record KeepsDemands
    (choices : List Choice) (left : List Bool) (listed : List (List ℕ)) (table : List (List Entry)) : Type 0 where
  pub numbers : (place : ℕ) (c : Choice) (demand : Demand) → At choices place c → IsLeft left place
      → Contains c.demands demand → (demand.section ≡ c.section → ⊥)
      → Contains (list_at listed demand.section) demand.number
  pub makers : (place : ℕ) (c : Choice) (demand : Demand)
      → At choices place c → IsLeft left place → Contains c.demands demand → (demand.section ≡ c.section → ⊥)
      → Contains (list_at table demand.number) (record { choice = place; value = demand.section })
  pub sound : (number : ℕ) (entry : Entry)
      → Contains (list_at table number) entry → (c : Choice) → At choices entry.choice c
      → Contains c.demands (record { section = entry.value; number = number }) × (entry.value ≡ c.section → ⊥)

-- ---- marks
abbrev pub waits : Marking → ℕ → Bool
waits m section = slice_index_or m.queued section false

-- the section of each choice waits
abbrev pub AllWait : List Choice → Marking → Type 0
AllWait choices m = (place : ℕ) (c : Choice) → At choices place c → waits m c.section ≡ true

-- There is a mark for each choice and for each section, and the sections that are marked wait.
pub record KeepsMarks (choices : List Choice) (m : Marking) : Type 0 where
  pub size : length m.left ≡ length choices
  pub sections : (place : ℕ) (c : Choice) → At choices place c → c.section < length m.queued
  pub queue : (section : ℕ) → waits m section ≡ true → Contains m.queue section

pub record Keeps (choices : List Choice) (engine : Engine) : Type 0 where
  pub marks : KeepsMarks choices engine.marking
  pub claims : KeepsClaims choices engine.marking.left engine.claims engine.fixed
  pub members : KeepsMembers choices engine.marking.left engine.members engine.asked
  pub demands : KeepsDemands choices engine.marking.left engine.numbers engine.makers

-- how many are left and wait: no more than so many steps are still to come
abbrev pub weight : Marking → ℕ
weight m = sum_by (λ mark. cond mark 1 0) m.left + length m.queue

-- a section is taken from those that wait
pub record Popped (section : ℕ) (old new : Marking) : Type 0 where
  pub left : new.left ≡ old.left
  pub queue : old.queue ≡ new.queue ++ section ∷ []
  pub queued : new.queued ≡ slice_set old.queued section false

-- ---- sections
-- what is left of a choice's section is this choice alone
abbrev pub IsAlone : List Choice → List Bool → Choice → Type 0
IsAlone choices left c =
    (place : ℕ) (other : Choice) → At choices place other → IsLeft left place → other.section ≡ c.section → other ≡ c

-- nothing that is left clashes with a choice
abbrev pub IsClosed : List Choice → List Bool → Choice → Type 0
IsClosed choices left c =
    (place : ℕ) (other : Choice) → At choices place other → IsLeft left place → clash other c ≡ false

-- The prefix of a list that ends with the last choice, among the first ones, that is left and isn't at a place.
pub record IsEnd (left : List Bool) (list : List ℕ) (bound except end : ℕ) : Type 0 where
  pub within : end ≤ bound
  pub found : 0 < end → is_other left except (slice_index list (end - 1)) ≡ true
  pub past : (k : ℕ) → end ≤ k → k < bound → is_other left except (slice_index list k) ≡ false

-- A list has lost choices that aren't left, so that its last one is left, and the one before it.
pub record IsNarrowed (left : List Bool) (old new : List ℕ) : Type 0 where
  pub kept : (place : ℕ) → Contains old place → IsLeft left place → Contains new place
  pub from : (place : ℕ) → Contains new place → Contains old place
  pub last : 0 < length new → IsLeft left (slice_index new (length new - 1))
  pub other : 1 < length new
      → is_other left (slice_index new (length new - 1)) (slice_index new (length new - 2)) ≡ true

-- what is carried out of a section with these choices, by what is left of them: all where none is left, or the only one
abbrev pub carried_of : List ℕ → List ℕ → List ℕ
carried_of whole [] = whole
carried_of whole (place ∷ []) = place ∷ []
carried_of whole (place ∷ other ∷ rest) = []

-- A section was looked at.
pub record IsSettled (choices : List Choice) (whole : List (List ℕ)) (section : ℕ) (old new : Engine) : Type 0 where
  pub list : List ℕ
  pub narrowed : IsNarrowed old.marking.left (list_at old.members section) list
  pub is : new ≡ fold (carried_at choices)
      (record old { members = slice_set old.members section list }) (carried_of (list_at whole section) list)

-- a table has each choice at its section
abbrev pub IsWhole : List Choice → List (List ℕ) → Type 0
IsWhole choices whole =
    (section : ℕ) → list_at whole section ≡ said_below (members_at choices section) (length choices)

-- What is left has all that remains in the end, and can be chosen. What is alone in its section is closed, or its
-- section waits.
pub record State (choices : List Choice) (engine : Engine) : Type 0 where
  pub keeps : Keeps choices engine
  pub matching : (place : ℕ) (c : Choice) → At choices place c → IsLeft engine.marking.left place → c.matches ≡ true
  pub sound : (place : ℕ) (c : Choice) → At choices place c → Contains (remaining choice_rules choices) c
      → IsLeft engine.marking.left place
  pub closed : (place : ℕ) (c : Choice) → At choices place c → c.matches ≡ true → IsAlone choices engine.marking.left c
      → (waits engine.marking c.section ≡ true) ⊎ IsClosed choices engine.marking.left c
