-- An instruction in whose fields of four bytes other numbers stand, as a linker puts them there.
use Rattle.std.specs.Prelude.{◌≡◌, ℕ, ◌+◌, ◌<◌, ◌≤◌, Bool, false, ◌&&◌, ◌||◌, ◌==◌, nat_le, nat_lt, List, length}
use Rattle.std.specs.Prelude.{Option, Some, None}
use Rattle.ia32_decode.specs.declared.types.Field.{Field}
use Rattle.ia32_decode.specs.declared.types.Fields.{Fields}
use Rattle.ia32_decode.specs.declared.types.Decoded.{Decoded}
use Rattle.ia32_decode.specs.declared.types.Branch.{Branch}
use Rattle.ia32_decode.specs.Branches.{branch_of}
use Rattle.ia32_decode.specs.Decode.{decoded_from}
use Rattle.ia32_decode.specs.Encoding.{byte_in, dword_in}
use Rattle.ia32_decode.specs.Wide.{wide_head, wide_addressing}

-- whether byte k of an instruction stands in a field of four bytes
abbrev pub is_in_field : Option Field → ℕ → Bool
is_in_field None k = false
is_in_field (Some field) k = field.width == 4 && nat_le field.offset k && nat_lt k (field.offset + 4)

abbrev pub is_in_fields : Fields → ℕ → Bool
is_in_fields fields k = is_in_field fields.disp k || is_in_field fields.imm k

-- another window has the bytes of an instruction, but for those in its fields of four bytes
pub record DiffersInFields (window other : List ℕ) (d : Decoded) : Type 0 where
  pub whole : d.length ≤ length other
  pub same : (k : ℕ) → k < d.length → is_in_fields d.fields k ≡ false → byte_in other k ≡ byte_in window k

-- two instructions are direct branches of one kind with equal prefixes, or both are none
abbrev pub SameBranch : Option Branch → Option Branch → Type 0
SameBranch None None = Unit {0}
SameBranch (Some a) (Some b) = (a.kind ≡ b.kind) × (a.prefixes ≡ b.prefixes)
SameBranch (Some a) None = ⊥
SameBranch None (Some b) = ⊥

-- how far a direct branch goes stands in its field, where that has four bytes
abbrev pub GoesByField : List ℕ → Option Field → Option Branch → Type 0
GoesByField window (Some field) (Some branch) = field.width ≡ 4 → branch.displacement ≡ dword_in window field.offset
GoesByField window field branch = Unit {0}

-- an instruction is another one but for the numbers in its fields: it has its length, its fields at their places, its
-- prefixes, its opcode and addressing bytes, also in the wide form, and is a direct branch of its kind
pub record IsFilled (window other : List ℕ) (d e : Decoded) : Type 0 where
  pub length : e.length ≡ d.length
  pub fields : e.fields ≡ d.fields
  pub prefixes : e.prefixes ≡ d.prefixes
  pub branch : SameBranch (branch_of d) (branch_of e)
  pub goes : GoesByField other e.fields.imm (branch_of e)
  pub head : wide_head other e ≡ wide_head window d
  pub addressing : wide_addressing other e ≡ wide_addressing window d

-- such an instruction stands in a window
pub record DecodesAlike (window other : List ℕ) (d : Decoded) : Type 0 where
  pub found : Decoded
  pub decoded : decoded_from other ≡ Some found
  pub filled : IsFilled window other d found

-- An instruction is decoded alike where its fields of four bytes hold other numbers.
abbrev pub FieldsDecodeAlike : Type 0
FieldsDecodeAlike = (window other : List ℕ) (d : Decoded) → decoded_from window ≡ Some d
    → DiffersInFields window other d → DecodesAlike window other d
