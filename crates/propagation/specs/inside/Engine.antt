-- What propagation keeps: the marks of the choices that are left, the sections that wait, and tables of what choices
-- say.
use Rattle.std.specs.Prelude.{◌≡◌, ◌<◌, ℕ, zero, suc, Bool, true, false, not, ◌&&◌, ◌||◌, ◌==◌, List}
use Rattle.std.specs.Prelude.{[], ◌∷◌, ◌++◌, map, slice_set, Option, Some, None, if◌then◌else◌}
use Rattle.std.specs.List.{Contains, slice_index_or, slice_get, filter, fold, list_any}
use Rattle.std.specs.List.Sorted.{IsStrictlyIncreasing}
use Rattle.propagation.specs.declared.choice.Claim.{Claim}
use Rattle.propagation.specs.declared.choice.Demand.{Demand}
use Rattle.propagation.specs.declared.choice.Choice.{Choice}
use Rattle.propagation.specs.declared.tables.Entry.{Entry}

-- ---- lists by number
-- the list of a number
abbrev pub list_at : {X : Type 0} → List (List X) → ℕ → List X
list_at table key = slice_index_or table key []

abbrev pub is_value : Option ℕ → ℕ → Bool
is_value None wanted = false
is_value (Some value) wanted = value == wanted

-- whether a number is known to have a value
abbrev pub is_known : List (Option ℕ) → ℕ → ℕ → Bool
is_known known key wanted = is_value (slice_index_or known key None) wanted

-- ---- marks
-- Which choices are left, the sections that wait, and which sections these are.
pub record Marking : Type 0 where
  pub left : List Bool
  pub queue : List ℕ
  pub queued : List Bool

abbrev pub is_left : List Bool → ℕ → Bool
is_left left choice = slice_index_or left choice false

-- a section made to wait, where it doesn't yet
abbrev pub waiting : Marking → ℕ → Marking
waiting m section =
    if slice_index_or m.queued section false
    then m else record { left = m.left; queue = m.queue ++ section ∷ []; queued = slice_set m.queued section true }

-- a choice excluded, whose section is then to be looked at
abbrev pub excluded_of : Marking → ℕ → ℕ → Marking
excluded_of m choice section =
    if is_left m.left choice then waiting
    (record { left = slice_set m.left choice false; queue = m.queue; queued = m.queued }) section else m

abbrev pub excluded_from : Marking → ℕ → Option Choice → Marking
excluded_from m choice None = m
excluded_from m choice (Some c) = excluded_of m choice c.section

-- the choice at a place excluded
abbrev pub excluded : List Choice → Marking → ℕ → Marking
excluded choices m choice = excluded_from m choice (slice_get choices choice)

abbrev pub excluded_each : List Choice → Marking → List ℕ → Marking
excluded_each choices m victims = fold (excluded choices) m victims

-- ---- what is kept of choices
pub record Engine : Type 0 where
  pub marking : Marking
  -- by unknown, the choices that claim a value of it
  pub claims : List (List Entry)
  -- by unknown, the value that a claim that was carried out gave it last
  pub fixed : List (Option ℕ)
  -- by section, its choices
  pub members : List (List ℕ)
  -- by section, the numbers of the demands that are made on it
  pub numbers : List (List ℕ)
  -- by the number of a demand, the choices that make it, each with the section on which it does
  pub makers : List (List Entry)
  -- by the number of a demand, the section of which it was asked last
  pub asked : List (Option ℕ)

-- the entries' choices that say another value
abbrev pub saying_other : ℕ → List Entry → List ℕ
saying_other value entries = map (λ e. e.choice) (filter (λ e. not (e.value == value)) entries)

-- the entries' choices that say this value
abbrev pub saying : ℕ → List Entry → List ℕ
saying value entries = map (λ e. e.choice) (filter (λ e. e.value == value) entries)

abbrev pub entries_left : List Bool → List Entry → List Entry
entries_left left entries = filter (λ e. is_left left e.choice) entries

-- a claim carried out: the choices that claim another value of its unknown are excluded
unfoldable pub fixing : List Choice → Engine → Claim → Engine
fixing choices e claim =
    let m = excluded_each choices e.marking (saying_other claim.value (list_at e.claims claim.unknown)) in
    record e {
      marking = m;
      claims = slice_set e.claims claim.unknown (entries_left m.left (list_at e.claims claim.unknown));
      fixed = slice_set e.fixed claim.unknown (Some claim.value);
    }

-- the same, where it wasn't carried out last
unfoldable pub claimed : List Choice → Engine → Claim → Engine
claimed choices e claim =
    if is_known e.fixed claim.unknown claim.value then e else fixing choices e claim

abbrev pub meets : Choice → ℕ → Bool
meets c number = list_any (λ other. other == number) c.met

-- the demands that a choice meets ascend
abbrev pub Ascends : Choice → Type 0
Ascends c = IsStrictlyIncreasing c.met

abbrev pub fails : ℕ → Option Choice → Bool
fails number None = true
fails number (Some c) = not (meets c number)

-- a demand carried out: the choices of its section that don't meet it are excluded
unfoldable pub asking : List Choice → Engine → Demand → Engine
asking choices e demand =
    let m =
    excluded_each choices e.marking
    (filter (λ choice. fails demand.number (slice_get choices choice)) (list_at e.members demand.section)) in
    record e {
      marking = m;
      members = slice_set e.members demand.section (filter (is_left m.left) (list_at e.members demand.section));
      asked = slice_set e.asked demand.number (Some demand.section);
    }

-- the same, where it isn't made on the section of the choice that makes it, and wasn't carried out last
unfoldable pub asked_by : ℕ → List Choice → Engine → Demand → Engine
asked_by own choices e demand =
    if demand.section == own || is_known e.asked demand.number demand.section then e else asking choices e demand

-- the choices that make a demand on a section are excluded
abbrev pub refusing : List Choice → ℕ → Engine → ℕ → Engine
refusing choices section e number =
    record e { marking = excluded_each choices e.marking (saying section (list_at e.makers number)) }

-- the demands on a choice's section that it doesn't meet carried out
unfoldable pub meeting : List Choice → Engine → Choice → Engine
meeting choices e c =
    let after =
    fold (refusing choices c.section) e (filter (λ number. not (meets c number)) (list_at e.numbers c.section)) in
    record after { numbers = slice_set after.numbers c.section (filter (meets c) (list_at e.numbers c.section)) }

-- a choice that must be chosen carried out: those that clash with it are excluded
unfoldable pub carried_out : List Choice → Engine → Choice → Engine
carried_out choices e c =
    meeting choices (fold (asked_by c.section choices) (fold (claimed choices) e c.claims) c.demands) c

abbrev pub carried_if : List Choice → Engine → Option Choice → Engine
carried_if choices e None = e
carried_if choices e (Some c) = if c.matches then carried_out choices e c else e

-- the choice at a place carried out, where it can be chosen
unfoldable pub carried_at : List Choice → Engine → ℕ → Engine
carried_at choices e choice = carried_if choices e (slice_get choices choice)

-- ---- what the tables hold at first
-- what a function gives of the numbers below one, in order
abbrev pub said_below : {X : Type 0} → (ℕ → List X) → ℕ → List X
said_below f zero = []
said_below f (suc n) = said_below f n ++ f n

-- the claims on an unknown
abbrev pub claims_of : ℕ → ℕ → List Claim → List Entry
claims_of unknown place claims =
    map (λ claim. record { choice = place; value = claim.value }) (filter (λ claim. claim.unknown == unknown) claims)

abbrev pub claims_from : ℕ → ℕ → Option Choice → List Entry
claims_from unknown place None = []
claims_from unknown place (Some c) = claims_of unknown place c.claims

abbrev pub claims_at : List Choice → ℕ → ℕ → List Entry
claims_at choices unknown place = claims_from unknown place (slice_get choices place)

-- the demands with a number that are made on other sections than their own
abbrev pub demands_of : ℕ → ℕ → ℕ → List Demand → List Entry
demands_of number place own demands =
    map (λ demand. record { choice = place; value = demand.section })
    (filter (λ demand. demand.number == number && not (demand.section == own)) demands)

abbrev pub demands_from : ℕ → ℕ → Option Choice → List Entry
demands_from number place None = []
demands_from number place (Some c) = demands_of number place c.section c.demands

abbrev pub demands_at : List Choice → ℕ → ℕ → List Entry
demands_at choices number place = demands_from number place (slice_get choices place)

-- a place where two sections are the same
abbrev pub place_if : ℕ → ℕ → ℕ → List ℕ
place_if section own place = if section == own then place ∷ [] else []

abbrev pub member_from : ℕ → ℕ → Option Choice → List ℕ
member_from section place None = []
member_from section place (Some c) = place_if section c.section place

abbrev pub members_at : List Choice → ℕ → ℕ → List ℕ
members_at choices section place = member_from section place (slice_get choices place)

-- what is known of numbers stands in a table
abbrev pub AreListed : List (Option ℕ) → List (List ℕ) → Type 0
AreListed listed table =
    (number section : ℕ) → is_known listed number section ≡ true → Contains (list_at table section) number

-- a table's lists grow
abbrev pub Grows : List (List ℕ) → List (List ℕ) → Type 0
Grows old new = (section number : ℕ) → Contains (list_at old section) number → Contains (list_at new section) number

-- A table has the numbers of the demands that are made on other sections than a given one.
abbrev pub HasDemands : ℕ → List Demand → List (List ℕ) → Type 0
HasDemands own demands table =
    (demand : Demand)
    → Contains demands demand → (demand.section ≡ own → ⊥) → Contains (list_at table demand.section) demand.number

-- A table has the numbers of the demands that the first choices make on other sections than their own.
abbrev pub HasNumbers : List Choice → ℕ → List (List ℕ) → Type 0
HasNumbers choices count table =
    (place : ℕ) (c : Choice) → place < count → slice_get choices place ≡ Some c → HasDemands c.section c.demands table

-- ---- how many of a section are left
-- whether a choice is left and isn't at a place
abbrev pub is_other : List Bool → ℕ → ℕ → Bool
is_other left except choice = is_left left choice && not (choice == except)
