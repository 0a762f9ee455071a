-- Instructions in their wide forms, as they are compared where they aren't direct branches: a number may stand in one
-- byte in one of them and in four in the other. And the fields of both that belong to a reference.
use Rattle.std.specs.Prelude.{ℕ, ◌+◌, Bool, false, not, ◌==◌, if◌then◌else◌, List, map, Option, Some, None}
use Rattle.i386_reloc.specs.declared.types.Ref.{Ref}
use Rattle.ia32_decode.specs.declared.types.Field.{Field}
use Rattle.ia32_decode.specs.declared.types.Fields.{Fields}
use Rattle.ia32_decode.specs.Wide.{wide_bytes, wide_fields}
use Rattle.match_instructions.specs.Instructions.{Instruction}
use Rattle.match_instructions.specs.PreCode.{is_field_at}

-- the bytes of an instruction's wide form, and where its parts stand in it
abbrev pub form_bytes : Instruction → List ℕ
form_bytes i = wide_bytes i.bytes i.decoded

abbrev pub form_fields : Instruction → Fields
form_fields i = wide_fields i.bytes i.decoded

-- The field that belongs to a reference of an object's instruction: of fields laid out alike, as those of the wide form
-- or of the running instruction, the displacement where the reference stands on the displacement, and the immediate
-- otherwise.
abbrev pub field_for : Instruction → Ref → Fields → Option Field
field_for i r fields = if is_field_at i.place r.offset i.decoded.fields.disp then fields.disp else fields.imm

abbrev pub offset_in : Option Field → ℕ
offset_in None = 0
offset_in (Some field) = field.offset

-- a reference as it stands in the wide form of its instruction
abbrev pub moved : Instruction → Ref → Ref
moved i r = record r { offset = i.place + offset_in (field_for i r (form_fields i)) }

abbrev pub moved_references : Instruction → List Ref
moved_references i = map (moved i) i.references

-- whether a field has four bytes
abbrev pub has_four : Option Field → Bool
has_four None = false
has_four (Some field) = field.width == 4

-- whether the running instruction, as it stands, has four bytes where a reference of the object's has its field
abbrev pub is_full : Instruction → Instruction → Ref → Bool
is_full pre run r = has_four (field_for pre r run.decoded.fields)

abbrev pub is_cut : Instruction → Instruction → Ref → Bool
is_cut pre run r = not (is_full pre run r)
