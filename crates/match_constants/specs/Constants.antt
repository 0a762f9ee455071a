-- Read-only memory: what lies there.
use Rattle.std.specs.Prelude.{ℕ, zero, suc, ◌+◌, Bool, true, false, ◌&&◌, ◌||◌, ◌==◌, nat_le, nat_lt, List, Option}
use Rattle.std.specs.Prelude.{Some, None, is_some, slice_index}
use Rattle.std.specs.List.{list_any}
use Rattle.i386_reloc.specs.declared.types.Ref.{Ref}
use Rattle.image_memory.specs.declared.types.Kind.{Kind}
use Rattle.image_memory.specs.declared.types.Kind.TheVariants.{Code, ReadOnly, Writable}
use Rattle.image_memory.specs.declared.types.Piece.{Piece}
use Rattle.image_memory.specs.Contents.{look_at}

-- whether a test holds of each number below another
unfoldable pub all_below : (ℕ → Bool) → ℕ → Bool
all_below test zero = true
all_below test (suc n) = all_below test n && test n

-- the byte that is seen, where it stands in read-only memory
abbrev pub constant_in : Kind → ℕ → Option ℕ
constant_in Code byte = None
constant_in ReadOnly byte = Some byte
constant_in Writable byte = None

abbrev pub constant_byte : Option (Kind × ℕ) → Option ℕ
constant_byte None = None
constant_byte (Some (kind, byte)) = constant_in kind byte

-- the byte of read-only memory at an address
abbrev pub constant_at : List Piece → ℕ → Option ℕ
constant_at pieces address = constant_byte (look_at pieces address)

abbrev pub is_byte : ℕ → Option ℕ → Bool
is_byte wanted None = false
is_byte wanted (Some byte) = byte == wanted

-- whether n bytes from an address on lie in read-only memory
abbrev pub lie_in_constants : List Piece → ℕ → ℕ → Bool
lie_in_constants pieces address n = all_below (λ i. is_some (constant_at pieces (address + i))) n

-- whether n bytes stand from an address on in read-only memory
abbrev pub stand_at : List Piece → ℕ → List ℕ → ℕ → Bool
stand_at pieces address bytes n = all_below (λ i. is_byte (slice_index bytes i) (constant_at pieces (address + i))) n

-- whether the field of a reference covers a place in its section
abbrev pub covers : ℕ → Ref → Bool
covers place r = nat_le r.offset place && nat_lt place (r.offset + 4)

-- whether a byte of a section stands, or any in its place where a field covers it
abbrev pub is_byte_or_field : List Ref → List ℕ → ℕ → Option ℕ → Bool
is_byte_or_field refs bytes i None = false
is_byte_or_field refs bytes i (Some byte) = byte == slice_index bytes i || list_any (covers i) refs

-- whether n bytes of a section stand from an address on in read-only memory, but for the fields of references
abbrev pub stand_but_for_fields : List Piece → ℕ → List Ref → List ℕ → ℕ → Bool
stand_but_for_fields pieces address refs bytes n =
    all_below (λ i. is_byte_or_field refs bytes i (constant_at pieces (address + i))) n
