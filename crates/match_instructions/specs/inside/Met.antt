-- The running code as the code of this crate reads it.
use Rattle.std.specs.Prelude.{◌≡◌, ℕ, ◌-◌, ◌^◌, ◌<◌, ◌++◌, List, map, length}
use Rattle.std.specs.List.{filter}
use Rattle.image_memory.specs.Contents.{Contents}
use Rattle.match_instructions.specs.Instructions.{Instruction, place_of, is_left_out, kept_of, end_of, through_kept}
use Rattle.match_instructions.specs.RunCode.{run_code, run_body}
use Rattle.match_instructions.specs.Places.{Places, places_of, AreBelow}

-- places, and those of further instructions
abbrev pub followed_by : Places → List Instruction → Places
followed_by p is =
    record { kept = p.kept ++ map place_of (kept_of is); padding = p.padding ++ map place_of (filter is_left_out is) }

-- what is left of the run body of n kept instructions from a place on, where so many are listed
abbrev pub rest_of_body : Contents → ℕ → Places → ℕ → List Instruction
rest_of_body contents n p place = through_kept (n - length p.kept) (run_code contents place)

-- The places up to one are those of the run body of n kept instructions from a base on; the others follow there.
pub record Lists (contents : Contents) (base n : ℕ) (p : Places) (place : ℕ) : Type 0 where
  pub whole : places_of (run_body contents base n) ≡ followed_by p (rest_of_body contents n p place)
  pub last : end_of base (run_body contents base n) ≡ end_of place (rest_of_body contents n p place)
  pub below : AreBelow place p
  pub low : place < 2 ^ 32
