-- Free ranges in blocks, each with the greatest room that it has at each boundary.
use Rattle.std.specs.Prelude.{ℕ, ◌-◌, Bool, max, List, [], ◌∷◌, map}
use Rattle.std.specs.List.{fold, list_any}
use Rattle.ks_base.specs.declared.places.Range.{Range}
use Rattle.link_post.specs.declared.types.SectionSize.{SectionSize}
use Rattle.link_post.specs.Places.{round_up}
use Rattle.link_post.specs.inside.Rooms.{fits}

-- the boundaries that sections have
abbrev pub boundaries : List ℕ
boundaries = 16 ∷ 32 ∷ 64 ∷ 128 ∷ 256 ∷ 512 ∷ 1024 ∷ 2048 ∷ 4096 ∷ []

-- how many bytes of a range lie at or above its first multiple of a boundary
unfoldable pub room_in : ℕ → Range → ℕ
room_in unit range = range.high - round_up range.low unit

-- the most of some ranges
abbrev pub most_room : List Range → ℕ → ℕ
most_room ranges unit = fold max 0 (map (room_in unit) ranges)

-- whether a section fits in one of some ranges
abbrev pub has_fit : SectionSize → List Range → Bool
has_fit section ranges = list_any (fits section) ranges
