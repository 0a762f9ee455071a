-- Lists of instructions, of an object's section or of the running program, and what a place among them stands for.
use Rattle.std.specs.Prelude.{ℕ, zero, suc, ◌+◌, ◌%◌, ◌^◌, Bool, not, ◌==◌, nat_le, if◌then◌else◌, List, [], ◌∷◌}
use Rattle.std.specs.Prelude.{Option, Some, None}
use Rattle.std.specs.Option.{option_map, unwrap_or}
use Rattle.std.specs.List.{filter, list_any, position}
use Rattle.i386_reloc.specs.declared.types.Ref.{Ref}
use Rattle.ia32_decode.specs.declared.types.Decoded.{Decoded}
use Rattle.ia32_decode.specs.declared.types.Branch.{Branch}
use Rattle.ia32_decode.specs.Branches.{branch_of}

-- An instruction in its list: its place, which is an offset in a section or an address; what its bytes spell; these
-- bytes; the references whose fields begin in it, none in the running program; and whether it is kept. The others are
-- padding.
pub record Instruction : Type 0 where
  pub place : ℕ
  pub decoded : Decoded
  pub bytes : List ℕ
  pub references : List Ref
  pub kept : Bool

abbrev pub is_kept : Instruction → Bool
is_kept i = i.kept

abbrev pub is_left_out : Instruction → Bool
is_left_out i = not i.kept

abbrev pub place_of : Instruction → ℕ
place_of i = i.place

-- the place after an instruction
abbrev pub after : Instruction → ℕ
after i = i.place + i.decoded.length

-- the place after the last of some instructions that follow one another from a place on
abbrev pub end_of : ℕ → List Instruction → ℕ
end_of place [] = place
end_of place (i ∷ is) = end_of (after i) is

abbrev pub listed_on : Option Instruction → (ℕ → List Instruction) → List Instruction
listed_on None rest = []
listed_on (Some i) rest = i ∷ rest (after i)

-- at most n instructions, one after another from a place on, up to the first place at which there is none
unfoldable pub listed : (ℕ → Option Instruction) → ℕ → ℕ → List Instruction
listed there zero place = []
listed there (suc n) place = listed_on (there place) (listed there n)

-- the kept instructions, which are numbered from 0
abbrev pub kept_of : List Instruction → List Instruction
kept_of is = filter is_kept is

-- a list up to its n-th kept instruction, this one with it
unfoldable pub through_kept : ℕ → List Instruction → List Instruction
through_kept zero is = []
through_kept (suc n) [] = []
through_kept (suc n) (i ∷ is) = i ∷ through_kept (if i.kept then n else suc n) is

abbrev pub begins_at : ℕ → Instruction → Bool
begins_at place i = i.place == place

-- What a place stands for: where an instruction begins there, kept or padding, the number of the first kept one at or
-- after it.
unfoldable pub stands_for : List Instruction → ℕ → Option ℕ
stands_for is place =
    if list_any (begins_at place) is then position (λ i. nat_le place i.place) (kept_of is) else None

-- the direct branch that an instruction is
abbrev pub direct_branch : Instruction → Option Branch
direct_branch i = branch_of i.decoded

abbrev pub displacement_of : Branch → ℕ
displacement_of branch = branch.displacement

-- how far it goes, nothing where there is none
abbrev pub displacement_in : Option Branch → ℕ
displacement_in branch = unwrap_or (option_map displacement_of branch) 0

-- where a direct branch goes: its displacement is counted from the place after it
abbrev pub target_of : Instruction → ℕ
target_of i = (after i + displacement_in (direct_branch i)) % 2 ^ 32
