-- Where new sections are placed: each at the lowest free address, so that they take none of another's.
use Rattle.std.specs.Prelude.{◌≡◌, ◌⊎◌, ℕ, ◌+◌, ◌-◌, ◌*◌, ◌/◌, ◌%◌, ◌≤◌, ◌<◌, nat_lt, nat_le, min}
use Rattle.std.specs.Prelude.{max, if◌then◌else◌, Bool, List, [], ◌∷◌, ◌++◌, Option, Some, None}
use Rattle.std.specs.Prelude.{option_map, fold, Result, Ok, Err}
use Rattle.std.specs.List.{flat_map, find, reduce, list_any, All, AllZip}
use Rattle.ks_base.specs.declared.places.Range.{Range}
use Rattle.ks_base.specs.declared.refusals.Refusal.{Refusal}
use Rattle.ks_base.specs.declared.refusals.Refusal.TheVariants.{NoRoom}
use Rattle.i386_reloc.specs.Normal.{same_bytes}
use Rattle.image_memory.specs.Ranges.{MeetsNone, from_to, lies_in}
use Rattle.link_post.specs.declared.types.SectionSize.{SectionSize}
use Rattle.link_post.specs.declared.types.Placed.{Placed}

-- a range, where it isn't empty
abbrev pub unless_empty : Range → List Range
unless_empty range = if nat_lt range.low range.high then range ∷ [] else []

-- what is left of a range below and above another
abbrev pub cut : Range → Range → List Range
cut taken range =
    unless_empty (from_to range.low (min range.high taken.low))
    ++ unless_empty (from_to (max range.low taken.high) range.high)

-- what is left of free ranges where another was taken; an empty one takes nothing
abbrev pub without : List Range → Range → List Range
without free taken = if nat_lt taken.low taken.high then flat_map (cut taken) free else free

-- A section begins at a multiple of 16 and of its alignment: both are powers of two, or the alignment is 0.
abbrev pub boundary : SectionSize → ℕ
boundary section = max 16 section.align

abbrev pub round_up : (address unit : ℕ) → ℕ
round_up address unit = (address + (unit - 1)) / unit * unit

-- the lowest address of a range at which a section may begin
abbrev pub start_in : SectionSize → Range → ℕ
start_in section range = round_up range.low (boundary section)

-- that address, where the section's bytes lie in the range from there
abbrev pub fitting : SectionSize → Range → List ℕ
fitting section range =
    if nat_le (start_in section range + section.size) range.high then start_in section range ∷ [] else []

-- the lowest address of all free ranges at which it fits
abbrev pub lowest : SectionSize → List Range → Option ℕ
lowest section free = reduce min (flat_map (fitting section) free)

abbrev pub placed_at : SectionSize → ℕ → Placed
placed_at section base = record { section = section.name; base = base }

-- the addresses that a section takes from a base on
abbrev pub extent : SectionSize → ℕ → Range
extent section base = from_to base (base + section.size)

abbrev pub after_placed : Placed → Result (List Placed) Refusal → Result (List Placed) Refusal
after_placed first (Err refusal) = Err refusal
after_placed first (Ok rest) = Ok (first ∷ rest)

-- a section at its place, and the rest in what is free then
abbrev pub placed_by : SectionSize → List Range → (List Range → Result (List Placed) Refusal) → Option ℕ
    → Result (List Placed) Refusal
placed_by section free rest None = Err (NoRoom section.size)
placed_by section free rest (Some base) =
    after_placed (placed_at section base) (rest (without free (extent section base)))

-- The places of sections in their order, or that the first that fits nowhere has none.
unfoldable pub placed : List SectionSize → List Range → Result (List Placed) Refusal
placed [] free = Ok []
placed (section ∷ sections) free = placed_by section free (placed sections) (lowest section free)

-- where the section of a name was placed
abbrev pub base_in : List Placed → List ℕ → Option ℕ
base_in placement name = option_map (λ one. one.base) (find (λ one. same_bytes one.section name) placement)

-- all bytes of a range lie in one of some ranges
abbrev pub LiesInOne : List Range → Range → Type 0
LiesInOne [] range = ⊥
LiesInOne (free ∷ rest) range = ((free.low ≤ range.low) × (range.high ≤ free.high)) ⊎ LiesInOne rest range

-- a place of a section: at a multiple of its boundary, with all its bytes in one of the free ranges
pub record IsPlace (free : List Range) (section : SectionSize) (place : Placed) : Type 0 where
  pub named : place.section ≡ section.name
  pub multiple : place.base % boundary section ≡ 0
  pub within : LiesInOne free (extent section place.base)

-- a section's name
abbrev pub name_of : SectionSize → List ℕ
name_of section = section.name

-- the addresses that sections take at their places
abbrev pub extents : List SectionSize → List Placed → List Range
extents [] places = []
extents (section ∷ sections) [] = []
extents (section ∷ sections) (place ∷ places) = extent section place.base ∷ extents sections places

-- no two of some ranges share an address
abbrev pub AreApart : List Range → Type 0
AreApart [] = Unit {0}
AreApart (range ∷ ranges) = MeetsNone (λ other. other) range ranges × AreApart ranges

-- places of sections, one for each in their order, of which no two share an address
pub record ArePlaces (free : List Range) (sections : List SectionSize) (places : List Placed) : Type 0 where
  pub each : AllZip (IsPlace free) sections places
  pub apart : AreApart (extents sections places)

-- a section may begin at an address: a multiple of its boundary, with all its bytes in one of the free ranges
pub record FitsAt (free : List Range) (section : SectionSize) (address : ℕ) : Type 0 where
  pub multiple : address % boundary section ≡ 0
  pub within : LiesInOne free (extent section address)

-- it may begin there, and at no lower address
pub record IsLowest (free : List Range) (section : SectionSize) (base : ℕ) : Type 0 where
  pub fits : FitsAt free section base
  pub least : (address : ℕ) → FitsAt free section address → base ≤ address

-- there is no address at which it may begin
abbrev pub FitsNowhere : List Range → SectionSize → Type 0
FitsNowhere free section = (address : ℕ) → FitsAt free section address → ⊥

-- Places of sections, one for each in their order: each has its section's name, and is the lowest in what those
-- before it leave of the free ranges.
abbrev pub ArePlacedLow : List Range → List SectionSize → List Placed → Type 0
ArePlacedLow free [] [] = Unit {0}
ArePlacedLow free [] (place ∷ places) = ⊥
ArePlacedLow free (section ∷ sections) [] = ⊥
ArePlacedLow free (section ∷ sections) (place ∷ places) =
    (place.section ≡ section.name) × IsLowest free section place.base
    × ArePlacedLow (without free (extent section place.base)) sections places

-- A section fits nowhere in what those before it leave, each of which has its lowest place; the refusal has its size.
pub record FindsNoRoom (free : List Range) (sections : List SectionSize) (refusal : Refusal) : Type 0 where
  pub before : List SectionSize
  pub section : SectionSize
  pub after : List SectionSize
  pub places : List Placed
  pub parts : sections ≡ before ++ section ∷ after
  pub low : ArePlacedLow free before places
  pub nowhere : FitsNowhere (fold without free (extents before places)) section
  pub told : refusal ≡ NoRoom section.size

-- whether an address is one of some ranges'
abbrev pub is_one_of : ℕ → List Range → Bool
is_one_of address ranges = list_any (lies_in address) ranges

-- each of some ranges ends below where those after it begin, so that no two touch
abbrev pub NeverTouch : List Range → Type 0
NeverTouch [] = Unit {0}
NeverTouch (range ∷ ranges) = All (λ later. range.high < later.low) ranges × NeverTouch ranges
