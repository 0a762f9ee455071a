-- What is known of the bytes before addresses.
use Rattle.std.specs.Prelude.{◌≡◌, ℕ, suc, ◌-◌, ◌<◌, ◌≤◌, true, List, Some, slice_index}
use Rattle.std.specs.Ordering.{nat_cmp}
use Rattle.std.specs.BTreeMap.{get}
use Rattle.i386_reloc.specs.declared.types.NormalSection.{NormalSection}
use Rattle.i386_reloc.specs.Places.{bytes_at}
use Rattle.image_memory.specs.declared.types.Piece.{Piece}
use Rattle.match_constants.specs.declared.texts.Known.{Known}
use Rattle.match_constants.specs.declared.texts.KnownTexts.{KnownTexts}
use Rattle.match_constants.specs.Constants.{is_byte, constant_at}

-- As many bytes before an end in a list are those of read-only memory before an address.
pub record StandBefore (pieces : List Piece) (bytes : List ℕ) (end address count : ℕ) : Type 0 where
  pub in_bytes : count ≤ end
  pub in_memory : count ≤ address
  pub each : (i : ℕ) → i < count → is_byte (slice_index bytes (end - suc i)) (constant_at pieces (address - suc i))
      ≡ true

-- so many bytes before an end stand before an address
abbrev pub IsKnown : List NormalSection → List Piece → ℕ → Known → Type 0
IsKnown object pieces address known =
    StandBefore pieces (bytes_at object known.end.place) known.end.end address known.count

-- of all that is kept
pub record AreKnown (object : List NormalSection) (pieces : List Piece) (known : KnownTexts) : Type 0 where
  pub each : (address : ℕ) (here : Known) → get nat_cmp known.before address ≡ Some here →
      IsKnown object pieces address here
