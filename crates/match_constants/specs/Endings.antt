-- What is known of the bytes before the ends of an object's texts.
use Rattle.std.specs.Prelude.{◌≡◌, ℕ, suc, ◌+◌, ◌-◌, ◌<◌, ◌≤◌, List, length, All, slice_index}
use Rattle.std.specs.Prelude.{slice_index_or}
use Rattle.i386_reloc.specs.declared.types.NormalSection.{NormalSection}
use Rattle.i386_reloc.specs.Places.{bytes_at}
use Rattle.match_constants.specs.declared.endings.End.{End}
use Rattle.match_constants.specs.declared.endings.Level.{Level}
use Rattle.match_constants.specs.declared.endings.Endings.{Endings}

-- as many bytes before an end are those before another
pub record Agree (object : List NormalSection) (x y : End) (count : ℕ) : Type 0 where
  pub in_first : count ≤ x.end
  pub in_second : count ≤ y.end
  pub each : (i : ℕ) → i < count → slice_index (bytes_at object x.place) (x.end - suc i)
      ≡ slice_index (bytes_at object y.place) (y.end - suc i)

-- the end of a number; past the last one, the beginning of the first section
abbrev pub end_at : List End → ℕ → End
end_at ends i = slice_index_or ends i (record { place = 0; end = 0 })

-- what the ends share that are a step apart
pub record Share (object : List NormalSection) (ends : List End) (step : ℕ) (counts : List ℕ) : Type 0 where
  pub each : (i : ℕ) → i < length counts →
      Agree object (end_at ends i) (end_at ends (i + step)) (slice_index counts i)

abbrev pub IsLevel : List NormalSection → List End → Level → Type 0
IsLevel object ends level = Share object ends level.step level.shared.items

-- all levels say so
abbrev pub AreEndings : List NormalSection → Endings → Type 0
AreEndings object endings = All (IsLevel object endings.ends.items) endings.levels.items
