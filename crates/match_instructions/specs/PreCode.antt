-- The instructions of a code section of an object, and the references that stand on their fields.
use Rattle.std.specs.Prelude.{ℕ, ◌+◌, Bool, false, not, ◌&&◌, ◌||◌, ◌==◌, nat_le, nat_lt, List, take, drop, Option}
use Rattle.std.specs.Prelude.{Some, None, is_some, is_none}
use Rattle.std.specs.Option.{option_map}
use Rattle.std.specs.List.{filter, list_any, list_all}
use Rattle.i386_reloc.specs.declared.types.Form.{Form}
use Rattle.i386_reloc.specs.declared.types.Form.TheVariants.{Absolute, Relative}
use Rattle.i386_reloc.specs.declared.types.Ref.{Ref}
use Rattle.i386_reloc.specs.declared.types.NormalSection.{NormalSection}
use Rattle.ia32_decode.specs.declared.types.Field.{Field}
use Rattle.ia32_decode.specs.declared.types.Decoded.{Decoded}
use Rattle.ia32_decode.specs.declared.types.Branch.{Branch}
use Rattle.ia32_decode.specs.Decode.{decoded_from}
use Rattle.ia32_decode.specs.Padding.{is_padding_of}
use Rattle.match_instructions.specs.Instructions.{Instruction, direct_branch, listed}

-- whether a field is the four bytes from a place on, in an instruction that begins at another
abbrev pub is_field_at : ℕ → ℕ → Option Field → Bool
is_field_at begin at None = false
is_field_at begin at (Some field) = begin + field.offset == at && field.width == 4

-- whether a reference stands on a displacement, an address or an immediate of four bytes
abbrev pub stands_on_field : ℕ → Decoded → Ref → Bool
stands_on_field offset d r = is_field_at offset r.offset d.fields.disp || is_field_at offset r.offset d.fields.imm

abbrev pub begins_from : ℕ → Ref → Bool
begins_from offset r = nat_le offset r.offset

abbrev pub begins_before : ℕ → Ref → Bool
begins_before offset r = nat_lt r.offset offset

abbrev pub begins_in : ℕ → ℕ → Ref → Bool
begins_in offset n r = begins_from offset r && begins_before (offset + n) r

-- the references whose fields begin in n bytes from an offset on
abbrev pub references_in : List Ref → ℕ → ℕ → List Ref
references_in refs offset n = filter (begins_in offset n) refs

-- the section's code: as many bytes as its size
abbrev pub code_bytes : NormalSection → List ℕ
code_bytes section = take section.size section.bytes

-- Padding is left out, but not where a reference stands on a field of it: `lea sym(%esi),%esi` has a zero displacement
-- in an object.
abbrev pub is_kept_with : ℕ → Decoded → List Ref → Bool
is_kept_with offset d refs = not (is_padding_of d) || list_any (stands_on_field offset d) refs

abbrev pub pre_instruction_with : NormalSection → ℕ → Decoded → List Ref → Instruction
pre_instruction_with section offset d refs = record {
  place = offset;
  decoded = d;
  bytes = take d.length (drop offset (code_bytes section));
  references = refs;
  kept = is_kept_with offset d refs;
}

abbrev pub pre_instruction : NormalSection → ℕ → Decoded → Instruction
pre_instruction section offset d = pre_instruction_with section offset d (references_in section.refs offset d.length)

-- the instruction at an offset
unfoldable pub pre_instruction_at : NormalSection → ℕ → Option Instruction
pre_instruction_at section offset =
    option_map (pre_instruction section offset) (decoded_from (drop offset (code_bytes section)))

-- the instructions from offset 0 on; each has at least one byte
unfoldable pub pre_code : NormalSection → List Instruction
pre_code section = listed (pre_instruction_at section) section.size 0

-- A relative reference may stand on the displacement of a direct branch, an absolute one on a field of any other
-- instruction.
abbrev pub fits_form : Form → Option Branch → Bool
fits_form Relative branch = is_some branch
fits_form Absolute branch = is_none branch

abbrev pub may_stand : Instruction → Ref → Bool
may_stand i r = stands_on_field i.place i.decoded r && fits_form r.form (direct_branch i)

abbrev pub may_all_stand : Instruction → Bool
may_all_stand i = list_all (may_stand i) i.references
