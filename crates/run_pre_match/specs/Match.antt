-- What a match is, with no order in which anything is found: the home for the section itself, and one value for each
-- function, data section, read-only section and outside name to which its code refers, itself or by read-only sections,
-- under which all of it agrees with the running code. It is said of sections that can be matched (Landing).
use Rattle.std.specs.Prelude.{◌≡◌, ◌≢◌, ◌⊎◌, IsTrue, ℕ, Bool, true, false, List, length, Option, Some, None, IsSomeAnd}
use Rattle.std.specs.List.{All, Contains, slice_get}
use Rattle.i386_reloc.specs.declared.types.Ref.{Ref}
use Rattle.i386_reloc.specs.declared.types.NormalSection.{NormalSection}
use Rattle.symbol_table.specs.Symbols.{global_addresses}
use Rattle.ia32_decode.specs.declared.types.Branch.{Branch}
use Rattle.ia32_decode.specs.Branches.{same_kind}
use Rattle.run_pre_match.specs.declared.goals.Goal.{Goal}
use Rattle.run_pre_match.specs.declared.goals.Goal.TheVariants.{Entry, Inside, Variable, Constant, Outside, Text}
use Rattle.run_pre_match.specs.declared.goals.Given.{Given}
use Rattle.symbol_table.specs.declared.values.Unknown.{Unknown}
use Rattle.run_pre_match.specs.declared.types.Claim.{Claim}
use Rattle.run_pre_match.specs.declared.types.Interior.{Interior}
use Rattle.run_pre_match.specs.declared.types.Matched.{Matched}
use Rattle.match_instructions.specs.Instructions.{kept_of, stands_for, direct_branch, target_of}
use Rattle.match_instructions.specs.Landing.{has_no_reference}
use Rattle.run_pre_match.specs.Candidate.{Candidate, Pair, pre_list, run_list, pairs}
use Rattle.run_pre_match.specs.Goals.{interior_address}
use Rattle.match_constants.specs.Constants.{stand_at, stand_but_for_fields}
use Rattle.run_pre_match.specs.WideForms.{form_bytes, is_full}
use Rattle.run_pre_match.specs.Differences.{prefix_bytes, opcode_bytes, blanked_form}
use Rattle.run_pre_match.specs.Found.{given_in_pair, given_in_constant}
use Rattle.run_pre_match.specs.Matched.{name_at, unknown_of}

-- a value for each goal that has one
abbrev pub Valuation : Type 0
Valuation = Goal → Option ℕ

-- whether all references to a goal give it one value; texts and interiors are tested one by one
abbrev pub is_valued : Goal → Bool
is_valued (Entry place) = true
is_valued (Variable place) = true
is_valued (Constant place) = true
is_valued (Outside name) = true
is_valued (Inside place offset) = false
is_valued (Text place offset text) = false

-- an offset of the section and an address in the running body stand for the same number
pub record StandForOne (c : Candidate) (offset address : ℕ) : Type 0 where
  pub number : ℕ
  pub by_offset : stands_for (pre_list c) offset ≡ Some number
  pub by_address : stands_for (run_list c) address ≡ Some number

-- Instructions agree but for what references say. Two direct branches have equal prefixes and one kind, and where the
-- object's has no reference their targets stand for the same number. Two others have wide forms with equal prefixes and
-- opcodes, and with equal bytes where zeros are put in the fields of references; and the running one, as it stands, has
-- four bytes in each of these. (Equal bytes have equal prefixes and opcodes where no reference stands on these.)
abbrev pub AgreeAs : Candidate → Pair → Option Branch → Option Branch → Type 0
AgreeAs c pair (Some pre) (Some run) =
    IsTrue (same_kind pre.kind run.kind)
    × (prefix_bytes pair.pre ≡ prefix_bytes pair.run)
    × (IsTrue (has_no_reference pair.pre) → StandForOne c (target_of pair.pre) (target_of pair.run))
AgreeAs c pair None None =
    (opcode_bytes pair.pre ≡ opcode_bytes pair.run)
    × (blanked_form pair ≡ form_bytes pair.pre)
    × All (λ r. IsTrue (is_full pair.pre pair.run r)) pair.pre.references
AgreeAs c pair (Some pre) None = ⊥
AgreeAs c pair None (Some run) = ⊥

abbrev pub Agree : Candidate → Pair → Type 0
Agree c pair = AgreeAs c pair (direct_branch pair.pre) (direct_branch pair.run)

-- The fields that count, with the values that they give: those of the code, and those of each read-only section to
-- which a field that counts goes, read at the section's value.
pub data IsField (c : Candidate) (v : Valuation) : Given → Type 0 where
  InCode : (pair : Pair) (r : Ref) → Contains (pairs c) pair → Contains pair.pre.references r →
      IsField c v (given_in_pair c pair r)
  InConstant : (field : Given) (place base : ℕ) (section : NormalSection) (r : Ref) →
      IsField c v field → field.goal ≡ Constant place → v (Constant place) ≡ Some base →
      slice_get c.object place ≡ Some section → Contains section.refs r → IsField c v (given_in_constant c base r)

-- What a value asks besides: an outside name's is listed for a global symbol of that name, an address of the own
-- interior stands for the number of its offset, and a text, with its zero, stands at the value in read-only memory. A
-- read-only section lies whole in read-only memory at the value, its bytes outside of its fields being those there.
abbrev pub IsMet : Candidate → Goal → ℕ → Type 0
IsMet c (Entry place) value = Unit {0}
IsMet c (Variable place) value = Unit {0}
IsMet c (Outside name) value = Contains (global_addresses c.symbols name) value
IsMet c (Inside place offset) value = place ≡ c.place → StandForOne c offset (interior_address value offset)
IsMet c (Text place offset text) value = IsTrue (stand_at c.contents.pieces value text (length text))
IsMet c (Constant place) value =
    IsSomeAnd (slice_get c.object place)
    (λ section. IsTrue (stand_but_for_fields c.contents.pieces value section.refs section.bytes (length section.bytes)))

-- a field that counts goes to a goal
pub record IsMeant (c : Candidate) (v : Valuation) (goal : Goal) : Type 0 where
  pub field : Given
  pub counts : IsField c v field
  pub goes_there : field.goal ≡ goal

-- the section's code and what runs agree under a valuation
pub record Match (c : Candidate) (v : Valuation) : Type 0 where
  -- there are as many kept instructions, and they agree one by one
  pub whole : length (kept_of (run_list c)) ≡ length (kept_of (pre_list c))
  pub code : All (Agree c) (pairs c)
  -- the section itself has the home, and each goal the value that each field gives it; nothing else has a value
  pub home : v (Entry c.place) ≡ Some c.home
  pub one_value : (field : Given) → IsField c v field → IsTrue (is_valued field.goal) → v field.goal ≡ Some field.value
  pub no_more : (goal : Goal) (value : ℕ) → v goal ≡ Some value →
      IsTrue (is_valued goal) × ((goal ≡ Entry c.place) ⊎ IsMeant c v goal)
  -- what the values ask besides is met
  pub met : (field : Given) → IsField c v field → IsMet c field.goal field.value

-- Code and fields agree under a valuation, which may give a value to more than the fields tell: a match but for
-- `no_more`.
pub record Agrees (c : Candidate) (v : Valuation) : Type 0 where
  pub whole : length (kept_of (run_list c)) ≡ length (kept_of (pre_list c))
  pub code : All (Agree c) (pairs c)
  pub home : v (Entry c.place) ≡ Some c.home
  pub one_value : (field : Given) → IsField c v field → IsTrue (is_valued field.goal) → v field.goal ≡ Some field.value
  pub met : (field : Given) → IsField c v field → IsMet c field.goal field.value

-- a claim says the value of a goal of which it speaks
pub record IsSaid (c : Candidate) (v : Valuation) (claim : Claim) : Type 0 where
  pub goal : Goal
  pub speaks : unknown_of c goal ≡ Some claim.unknown
  pub value : v goal ≡ Some claim.value

-- a value is claimed of something
pub record IsClaimed (claims : List Claim) (about : Unknown) (value : ℕ) : Type 0 where
  pub claim : Claim
  pub made : Contains claims claim
  pub speaks : claim.unknown ≡ about
  pub says : claim.value ≡ value

-- an interior is what a field gives that goes into another code section
pub record IsNamed (c : Candidate) (interior : Interior) (field : Given) : Type 0 where
  pub place : ℕ
  pub goes : field.goal ≡ Inside place interior.offset
  pub other : place ≢ c.place
  pub section : interior.section ≡ name_at c place
  pub address : interior.address ≡ interior_address field.value interior.offset

-- What is said of a match: the values that its valuation gives but for those of read-only sections, none left out and
-- no other, and the interiors of other code sections to which its fields go. Places says where claims and interiors
-- stand, and Matched in which order they are reported.
pub record Says (c : Candidate) (v : Valuation) (m : Matched) : Type 0 where
  pub claims : All (IsSaid c v) m.claims
  pub all_claims : (goal : Goal) (about : Unknown) (value : ℕ) → unknown_of c goal ≡ Some about →
      v goal ≡ Some value → IsClaimed m.claims about value
  pub interiors : All (λ interior. (field : Given) × IsField c v field × IsNamed c interior field) m.interiors
  pub all_interiors : (field : Given) (place offset : ℕ) → IsField c v field → field.goal ≡ Inside place offset →
      place ≢ c.place → (interior : Interior) × Contains m.interiors interior × IsNamed c interior field
