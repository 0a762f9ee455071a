-- A code section of an object beside the running code of a function that it may be.
use Rattle.std.specs.Prelude.{ℕ, suc, Bool, false, ◌||◌, ◌==◌, nat_le, List, [], ◌∷◌, length, Option, Some, None}
use Rattle.i386_reloc.specs.declared.types.NormalSection.{NormalSection}
use Rattle.image_memory.specs.Contents.{Contents}
use Rattle.symbol_table.specs.declared.symbols.Symbol.{Symbol}
use Rattle.match_instructions.specs.Instructions.{Instruction, kept_of, stands_for}
use Rattle.match_instructions.specs.PreCode.{pre_code}
use Rattle.match_instructions.specs.RunCode.{run_body}

-- What may be the function that a code section of an object is: the object, the section and its place among the
-- object's sections, the memory and the symbols of the running program, the address of the function's first version,
-- and where its newest begins.
pub record Candidate : Type 0 where
  pub object : List NormalSection
  pub place : ℕ
  pub section : NormalSection
  pub contents : Contents
  pub symbols : List Symbol
  pub home : ℕ
  pub base : ℕ

-- the instructions of the section
abbrev pub pre_list : Candidate → List Instruction
pre_list c = pre_code c.section

-- the running ones beside them, as many kept ones, or as far as they go
abbrev pub run_list : Candidate → List Instruction
run_list c = run_body c.contents c.base (length (kept_of (pre_list c)))

-- instructions that are compared, and their number
pub record Pair : Type 0 where
  pub index : ℕ
  pub pre : Instruction
  pub run : Instruction

unfoldable pub pairs_from : ℕ → List Instruction → List Instruction → List Pair
pairs_from index [] rs = []
pairs_from index (p ∷ ps) [] = []
pairs_from index (p ∷ ps) (r ∷ rs) = record { index = index; pre = p; run = r } ∷ pairs_from (suc index) ps rs

-- the kept instructions in pairs, as far as the run list goes
abbrev pub pairs : Candidate → List Pair
pairs c = pairs_from 0 (kept_of (pre_list c)) (kept_of (run_list c))

abbrev pub is_number : ℕ → Option ℕ → Bool
is_number k None = false
is_number k (Some number) = number == k

-- whether an address stands for a number in a list of so many kept instructions; each number past them counts as
-- agreeing
abbrev pub has_number : ℕ → Option ℕ → Option ℕ → Bool
has_number count there None = false
has_number count there (Some k) = nat_le count k || is_number k there

-- the instructions of a section's code, and those of a running body
pub record Body : Type 0 where
  pub pre : List Instruction
  pub run : List Instruction

abbrev pub body_of : Candidate → Body
body_of c = record { pre = pre_list c; run = run_list c }

-- Whether an address stands in a running body for the number of an offset. Where the run list breaks off, a number that
-- is that of the break or a later one counts as agreeing; in a whole body there is no such number.
abbrev pub is_number_of : Body → ℕ → ℕ → Bool
is_number_of body offset address =
    has_number (length (kept_of body.run)) (stands_for body.run address) (stands_for body.pre offset)

unfoldable pub same_number : Candidate → ℕ → ℕ → Bool
same_number c offset address = is_number_of (body_of c) offset address
