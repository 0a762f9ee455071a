-- The code of a section of an object that stands in memory, at an address, with other numbers in the fields of its
-- references.
use Rattle.std.specs.Prelude.{◌≡◌, ℕ, ◌+◌, ◌%◌, ◌^◌, ◌<◌, ◌≤◌, Bool, true, false, ◌||◌, List, length, take, drop}
use Rattle.std.specs.Prelude.{slice_index, Option, Some, None}
use Rattle.std.specs.List.{All, Contains, list_all, list_any}
use Rattle.i386_reloc.specs.declared.types.Form.{Form}
use Rattle.i386_reloc.specs.declared.types.Form.TheVariants.{Absolute, Relative}
use Rattle.i386_reloc.specs.declared.types.Ref.{Ref}
use Rattle.i386_reloc.specs.declared.types.NormalSection.{NormalSection}
use Rattle.image_memory.specs.Contents.{Contents}
use Rattle.image_memory.specs.Fetch.{Bytes, view_at}
use Rattle.ia32_decode.specs.Encoding.{dword_in}
use Rattle.match_constants.specs.Constants.{covers}
use Rattle.match_instructions.specs.Instructions.{Instruction, direct_branch, kept_of, stands_for}
use Rattle.match_instructions.specs.Landing.{has_no_reference, undecoded_offset}
use Rattle.match_instructions.specs.PreCode.{pre_code}
use Rattle.match_instructions.specs.RunCode.{run_instruction_at}
use Rattle.run_pre_match.specs.Candidate.{Candidate, Pair, pairs, pre_list, run_list}
use Rattle.run_pre_match.specs.Found.{held_with}
use Rattle.run_pre_match.specs.Match.{Agree}

-- bytes are a section's but for the fields of its references
pub record AreBytesOf (section : NormalSection) (bytes : List ℕ) : Type 0 where
  pub size : length bytes ≡ section.size
  pub whole : length section.bytes ≡ section.size
  pub same : (k : ℕ) → k < section.size → list_any (covers k) section.refs ≡ false
      → slice_index bytes k ≡ slice_index section.bytes k

-- a section has zeros in the fields of its references
pub record HasBlankFields (section : NormalSection) : Type 0 where
  pub zeros : (k : ℕ) → k < section.size → list_any (covers k) section.refs ≡ true → slice_index section.bytes k ≡ 0

-- what is fetched at an address begins with the bytes that stand there, at most 15 of them
pub record IsFetched (contents : Contents) (address : ℕ) (bytes : List ℕ) : Type 0 where
  pub window : List ℕ
  pub view : view_at contents address ≡ Bytes window
  pub begins : take (length bytes) window ≡ take 15 bytes

-- bytes stand at a base as code that is in use
pub record StandAsCode (contents : Contents) (base : ℕ) (bytes : List ℕ) : Type 0 where
  pub low : base + length bytes ≤ 0xFFFF_0000
  pub fetched : (k : ℕ) → k < length bytes → IsFetched contents (base + k) (drop k bytes)

-- An instruction on which a reference stands is no padding where it runs. (In an object its field may hold zero, as in
-- `lea sym(%esi),%esi`.)
abbrev pub is_met_kept : Option Instruction → Bool
is_met_kept None = true
is_met_kept (Some i) = i.kept

abbrev pub stays_kept : Contents → ℕ → Instruction → Bool
stays_kept contents base i = has_no_reference i || is_met_kept (run_instruction_at contents (base + i.place))

-- the code of a candidate's section can be matched, has zeros in the fields of its references, stands at the candidate's
-- base with these filled, and is kept there where a reference stands on it
pub record IsLinkedCode (c : Candidate) (bytes : List ℕ) : Type 0 where
  pub decodes : undecoded_offset c.object c.section ≡ None
  pub blank : HasBlankFields c.section
  pub filled : AreBytesOf c.section bytes
  pub stands : StandAsCode c.contents c.base bytes
  pub kept : list_all (stays_kept c.contents c.base) (pre_code c.section) ≡ true

-- `S + A` of a field that holds `S + A` or `S + A - P`, at an offset of bytes that stand at a base
abbrev pub held_by : Form → (base offset word : ℕ) → ℕ
held_by Absolute base offset word = word
held_by Relative base offset word = (word + (base + offset)) % 2 ^ 32

-- what a pair's references say is what their fields hold
abbrev pub HoldsItsFields : Candidate → List ℕ → Pair → Type 0
HoldsItsFields c bytes pair = (r : Ref) → Contains pair.pre.references r
    → held_with (direct_branch pair.pre) pair r ≡ held_by r.form c.base r.offset (dword_in bytes r.offset)

-- The running code is the section's, instruction by instruction: as many are kept, they agree, their references hold what
-- stands in the fields, and each place stands for the number of its offset.
pub record RunsAlike (c : Candidate) (bytes : List ℕ) : Type 0 where
  pub whole : length (kept_of (run_list c)) ≡ length (kept_of (pre_list c))
  pub code : All (Agree c) (pairs c)
  pub held : All (HoldsItsFields c bytes) (pairs c)
  pub numbers : (offset k : ℕ) → stands_for (pre_list c) offset ≡ Some k
      → stands_for (run_list c) (c.base + offset) ≡ Some k

-- Linked code runs alike.
abbrev pub LinkedCodeRunsAlike : Type 0
LinkedCodeRunsAlike = (c : Candidate) (bytes : List ℕ) → IsLinkedCode c bytes → RunsAlike c bytes
