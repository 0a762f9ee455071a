-- What calls and returns leave, and the rule that frames keep.
use Rattle.std.specs.Prelude.{◌≡◌, ℕ, ◌+◌, ◌%◌, Bool, not, ◌&&◌, ◌==◌, nat_le}
use Rattle.std.specs.Prelude.{List, is_some, Option, Result, Ok, Err, None}
use Rattle.ks_base.specs.declared.places.Range.{Range}
use Rattle.ks_base.specs.declared.refusals.Fault.{Fault}
use Rattle.image_memory.specs.declared.types.Piece.{Piece}
use Rattle.image_memory.specs.declared.types.Window.{Window}
use Rattle.image_memory.specs.Contents.{Contents}
use Rattle.image_memory.specs.Fetch.{fetched, window_at}
use Rattle.image_memory.specs.Access.{first_fault, read_fault, dword_at}
use Rattle.ia32_decode.specs.declared.types.Decoded.{Decoded}
use Rattle.ia32_decode.specs.Decode.{decoded_from}
use Rattle.ia32_step.specs.declared.types.Thread.{Thread}
use Rattle.ia32_step.specs.declared.types.Frame.{Frame}
use Rattle.ia32_step.specs.Changes.{above, below}
use Rattle.ia32_step.specs.Step.{Left}
use Rattle.ia32_step.specs.Threads.{esp_of}

abbrev pub decoded_in : Result Window Fault → Option Decoded
decoded_in (Err fault) = None
decoded_in (Ok window) = decoded_from (fetched window)

-- the instruction that is fetched at an address
abbrev pub instruction_at : Contents → ℕ → Option Decoded
instruction_at contents pc = decoded_in (window_at contents pc)

-- A call lowers ESP by 4, modulo 2^32; there the address after the instruction stands, and can be read.
pub record IsCalled (thread : Thread) (call : Decoded) (after : Left) : Type 0 where
  pub esp : esp_of after.thread ≡ below (esp_of thread) 4
  pub readable : first_fault (read_fault after.contents.pieces) (esp_of after.thread) 4 ≡ None
  pub pushed : dword_at after.contents.pieces (esp_of after.thread) ≡ above thread.pc call.length

-- A return goes on at the address that stood where ESP pointed.
abbrev pub IsReturned : List Piece → Thread → Left → Type 0
IsReturned pieces thread after = after.thread.pc ≡ dword_at pieces (esp_of thread)

-- whether four bytes from an address on can be read and spell a number
abbrev pub holds_dword : List Piece → (address value : ℕ) → Bool
holds_dword pieces address value =
    not (is_some (first_fault (read_fault pieces) address 4)) && (dword_at pieces address == value)

-- whether a frame's slot is a multiple of 4, lies at or above ESP and inside the stack
unfoldable pub is_slot : Range → (esp slot : ℕ) → Bool
is_slot stack esp slot =
    (slot % 4 == 0) && (nat_le esp slot && (nat_le stack.low slot && nat_le (slot + 4) stack.high))

-- The slot rule: the slot is such a one, and holds the frame's address.
unfoldable pub keeps_slot : List Piece → Range → (esp : ℕ) → Frame → Bool
keeps_slot pieces stack esp frame =
    is_slot stack esp frame.slot && holds_dword pieces frame.slot frame.address
