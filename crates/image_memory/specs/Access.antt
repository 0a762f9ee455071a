-- Reads and writes of data.
use Rattle.std.specs.Prelude.{ℕ, zero, suc, ◌+◌, ◌-◌, List, [], ◌∷◌, map, length, slice_index, if◌then◌else◌}
use Rattle.std.specs.Prelude.{Option, Some, None}
use Rattle.std.specs.Option.{option_map, option_or, unwrap_or}
use Rattle.std.specs.Int.{w32, from_le_bytes}
use Rattle.image_memory.specs.Ranges.{lies_in}
use Rattle.image_memory.specs.Contents.{Contents, holding, byte_in}
use Rattle.image_memory.specs.declared.types.Kind.{Kind}
use Rattle.image_memory.specs.declared.types.Kind.TheVariants.{Code, ReadOnly, Writable}
use Rattle.image_memory.specs.declared.types.Piece.{Piece}
use Rattle.image_memory.specs.declared.types.Access.{Access}
use Rattle.image_memory.specs.declared.types.Access.TheVariants.{Read, Write}
use Rattle.ks_base.specs.declared.refusals.Fault.{Fault}
use Rattle.ks_base.specs.declared.refusals.Fault.TheVariants.{Unmapped, CodeAccess, ReadOnlyWrite}

abbrev pub kind_of : Piece → Kind
kind_of piece = piece.kind

-- why a byte of a piece of a kind, or of no piece, can't be read
abbrev pub unreadable : Option Kind → Option Fault
unreadable None = Some Unmapped
unreadable (Some Code) = Some CodeAccess
unreadable (Some ReadOnly) = None
unreadable (Some Writable) = None

-- why it can't be written
abbrev pub unwritable : Option Kind → Option Fault
unwritable None = Some Unmapped
unwritable (Some Code) = Some CodeAccess
unwritable (Some ReadOnly) = Some ReadOnlyWrite
unwritable (Some Writable) = None

-- why it can't be read or written
abbrev pub access_fault : Access → Option Kind → Option Fault
access_fault Read kind = unreadable kind
access_fault Write kind = unwritable kind

-- why the byte at an address can't be read
abbrev pub read_fault : List Piece → ℕ → Option Fault
read_fault pieces address = unreadable (option_map kind_of (holding pieces address))

-- why the byte at an address can't be written
abbrev pub write_fault : List Piece → ℕ → Option Fault
write_fault pieces address = unwritable (option_map kind_of (holding pieces address))

-- the fault of the first bad byte of n bytes from an address on, by a test of each byte
unfoldable pub first_fault : (ℕ → Option Fault) → ℕ → ℕ → Option Fault
first_fault fault_at address zero = None
first_fault fault_at address (suc n) = option_or (first_fault fault_at address n) (fault_at (address + n))

-- the byte at an address, 0 where no piece holds it
abbrev pub byte_at : List Piece → ℕ → ℕ
byte_at pieces address = unwrap_or (option_map (byte_in address) (holding pieces address)) 0

-- the n bytes from an address on
unfoldable pub bytes_at : List Piece → ℕ → ℕ → List ℕ
bytes_at pieces address zero = []
bytes_at pieces address (suc n) = byte_at pieces address ∷ bytes_at pieces (address + 1) n

-- the number that the four bytes from an address on spell, the lowest byte first
abbrev pub dword_at : List Piece → ℕ → ℕ
dword_at pieces address = from_le_bytes w32 (bytes_at pieces address 4)

-- what stands at an address where b stood, after bytes were written from start on
abbrev pub new_byte : ℕ → List ℕ → ℕ → ℕ → ℕ
new_byte start bytes address b =
    if lies_in address (record { low = start; high = start + length bytes })
    then slice_index bytes (address - start)
    else b

-- what stands from an address on, after bytes were written from start on
unfoldable pub overlaid : ℕ → List ℕ → ℕ → List ℕ → List ℕ
overlaid start bytes address [] = []
overlaid start bytes address (b ∷ bs) = new_byte start bytes address b ∷ overlaid start bytes (address + 1) bs

abbrev pub overlaid_piece : ℕ → List ℕ → Piece → Piece
overlaid_piece start bytes piece = record piece { bytes = overlaid start bytes piece.base piece.bytes }

-- the pieces after bytes were written from start on: each address of a piece that is one of those
-- written has its new byte, and every other one the byte that it had
abbrev pub written : ℕ → List ℕ → List Piece → List Piece
written start bytes pieces = map (overlaid_piece start bytes) pieces

abbrev pub after_write : Contents → ℕ → List ℕ → Contents
after_write contents start bytes = record contents { pieces = written start bytes contents.pieces }
