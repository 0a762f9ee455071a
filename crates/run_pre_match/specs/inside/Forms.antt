-- What is kept of a wide form, and where references have their fields in it.
use Rattle.std.specs.Prelude.{ℕ, ◌+◌, Bool, ◌&&◌, nat_le, nat_lt, List, take}
use Rattle.i386_reloc.specs.declared.types.Ref.{Ref}
use Rattle.ia32_decode.specs.declared.types.Fields.{Fields}
use Rattle.match_instructions.specs.Instructions.{Instruction}
use Rattle.run_pre_match.specs.WideForms.{field_for, offset_in}
use Rattle.run_pre_match.specs.declared.forms.Form.{Form}
use Rattle.run_pre_match.specs.declared.forms.Form.TheVariants.{Own, Made}

abbrev pub bytes_in : Form → List ℕ
bytes_in (Own bytes fields) = bytes.now
bytes_in (Made wide) = take wide.length wide.bytes

abbrev pub fields_in : Form → Fields
fields_in (Own bytes fields) = fields
fields_in (Made wide) = wide.fields

-- where the field of a reference begins, in an instruction whose parts stand so
abbrev pub begin_in : Instruction → Fields → Ref → ℕ
begin_in i fields r = i.place + offset_in (field_for i r fields)

-- whether this field covers a place
abbrev pub covers_in : Instruction → Fields → ℕ → Ref → Bool
covers_in i fields place r = nat_le (begin_in i fields r) place && nat_lt place (begin_in i fields r + 4)
