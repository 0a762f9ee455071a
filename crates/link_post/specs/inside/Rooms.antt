-- The first of some ranges in which a section fits, and what is left of them.
use Rattle.std.specs.Prelude.{ℕ, ◌+◌, Bool, nat_lt, nat_le, if◌then◌else◌, List}
use Rattle.std.specs.Prelude.{[], ◌∷◌, ◌++◌, Option, Some, None, Result, Ok, Err}
use Rattle.ks_base.specs.declared.places.Range.{Range}
use Rattle.ks_base.specs.declared.refusals.Refusal.{Refusal}
use Rattle.image_memory.specs.Ranges.{from_to}
use Rattle.link_post.specs.declared.types.SectionSize.{SectionSize}
use Rattle.link_post.specs.declared.types.Placed.{Placed}
use Rattle.link_post.specs.Places.{unless_empty, start_in}

abbrev pub own : Range → Range
own range = range

abbrev pub fits : SectionSize → Range → Bool
fits section range = nat_le (start_in section range + section.size) range.high

-- what is left of a range in which a section was placed
abbrev pub left_of : SectionSize → Range → List Range
left_of section range =
    if nat_lt 0 section.size
    then unless_empty (from_to range.low (start_in section range))
    ++ unless_empty (from_to (start_in section range + section.size) range.high)
    else range ∷ []

abbrev pub first_start : SectionSize → List Range → Option ℕ
first_start section [] = None
first_start section (range ∷ ranges) =
    if fits section range then Some (start_in section range) else first_start section ranges

abbrev pub after_first : SectionSize → List Range → List Range
after_first section [] = []
after_first section (range ∷ ranges) =
    if fits section range then left_of section range ++ ranges else range ∷ after_first section ranges

-- places before others
abbrev pub preceded : List Placed → Result (List Placed) Refusal → Result (List Placed) Refusal
preceded places (Err refusal) = Err refusal
preceded places (Ok rest) = Ok (places ++ rest)
