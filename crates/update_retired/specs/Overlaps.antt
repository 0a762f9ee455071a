-- Why code stands in the way of an update.
use Rattle.std.specs.Prelude.{◌≡◌, ◌<◌, Bool, false, not, ◌&&◌, nat_lt, if◌then◌else◌, List, ◌++◌, map, Option, None}
use Rattle.std.specs.Prelude.{option_map}
use Rattle.std.specs.List.{find, filter, All, AllPairs}
use Rattle.ks_base.specs.declared.places.Range.{Range}
use Rattle.ks_base.specs.declared.refusals.Refusal.{Refusal}
use Rattle.ks_base.specs.declared.refusals.Refusal.TheVariants.{TooSmall, Overlap}
use Rattle.i386_reloc.specs.Below.{first_of}
use Rattle.i386_reloc.specs.Normal.{same_bytes}
use Rattle.i386_reloc.specs.Refused.{first_among, refused_where}
use Rattle.image_memory.specs.Ranges.{meets, MeetsNone}
use Rattle.image_memory.specs.Contents.{Contents}
use Rattle.image_memory.specs.Fetch.{jump_length}
use Rattle.symbol_table.specs.declared.symbols.Symbol.{Symbol}
use Rattle.update_retired.specs.declared.types.OldFunction.{OldFunction}
use Rattle.update_retired.specs.Room.{room}
use Rattle.update_retired.specs.Retired.{body_range, is_retired, retired_range, takes_jump}

-- a first version that is replaced has no room for the jump
abbrev pub room_refusal : Contents → List Symbol → OldFunction → Option Refusal
room_refusal contents symbols old =
    refused_where (takes_jump old && nat_lt (room contents symbols old.home old.length) jump_length)
    (TooSmall old.section (room contents symbols old.home old.length))

-- the bodies of the functions of other sections, in their order
abbrev pub is_other : OldFunction → OldFunction → Bool
is_other old other = not (same_bytes other.section old.section)

abbrev pub other_bodies : OldFunction → List OldFunction → List Range
other_bodies old olds = map body_range (filter (is_other old) olds)

-- a range meets the first of some others that it meets; the two lows
abbrev pub overlap_with : Range → List Range → Option Refusal
overlap_with range others = option_map (λ other. Overlap range.low other.low) (find (meets range) others)

-- What is to be retired of a function meets another function's body, in their order, or else a range that is retired
-- already, of which the oldest comes first.
abbrev pub overlap_refusal : List Range → List OldFunction → OldFunction → Option Refusal
overlap_refusal retired olds old =
    if is_retired old.fate then overlap_with (retired_range old) (other_bodies old olds ++ retired) else None

-- Both are looked for in the functions' order, an overlap where each jump has room.
unfoldable pub code_refusal : Contents → List Symbol → List Range → List OldFunction → Option Refusal
code_refusal contents symbols retired olds =
    first_of (first_among (room_refusal contents symbols) olds) (first_among (overlap_refusal retired olds) olds)

-- Ranges that aren't empty and of which no two meet; and none meets one of those that are retired already.
pub record LieApart (ranges retired : List Range) : Type 0 where
  pub full : All (λ range. range.low < range.high) ranges
  pub apart : AllPairs (λ a b. meets a b ≡ false) ranges
  pub from_retired : All (λ range. MeetsNone (λ (other : Range). other) range retired) ranges
