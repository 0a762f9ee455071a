-- How many bytes before an address stand.
use Rattle.std.specs.Prelude.{◌≡◌, ℕ, suc, ◌-◌, ◌<◌, ◌≤◌, false, List, slice_index}
use Rattle.image_memory.specs.declared.types.Piece.{Piece}
use Rattle.match_constants.specs.Constants.{is_byte, constant_at}
use Rattle.match_constants.specs.Texts.{StandBefore}

-- the greatest such number up to a bound
pub record StandFor (pieces : List Piece) (bytes : List ℕ) (end address bound count : ℕ) : Type 0 where
  pub stand : StandBefore pieces bytes end address count
  pub within : count ≤ bound
  pub differs : count < bound → is_byte (slice_index bytes (end - suc count)) (constant_at pieces (address - suc count))
      ≡ false
