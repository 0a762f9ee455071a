-- What is met and what is fetched at an address.
use Rattle.std.specs.Prelude.{◌≡◌, ℕ, ◌-◌, ◌≤◌, Bool, true, false, ◌⊎◌, List, [], ◌++◌, length}
use Rattle.std.specs.Prelude.{take, drop, map, replicate, nat_lt, unwrap_or, if◌then◌else◌}
use Rattle.std.specs.Prelude.{Option, Some, None, Result, Ok, Err}
use Rattle.std.specs.List.{find, list_any}
use Rattle.ks_base.specs.declared.places.Range.{Range}
use Rattle.image_memory.specs.Ranges.{lies_in}
use Rattle.image_memory.specs.Contents.{Contents, fence_range, holding, spliced_at}
use Rattle.image_memory.specs.declared.types.Fence.{Fence}
use Rattle.image_memory.specs.declared.types.Kind.{Kind}
use Rattle.image_memory.specs.declared.types.Kind.TheVariants.{Code, ReadOnly, Writable}
use Rattle.image_memory.specs.declared.types.Piece.{Piece}
use Rattle.image_memory.specs.declared.types.Window.{Window}
use Rattle.ks_base.specs.declared.refusals.Fault.{Fault}
use Rattle.ks_base.specs.declared.refusals.Fault.TheVariants as faults

abbrev pub is_code : Kind → Bool
is_code Code = true
is_code ReadOnly = false
is_code Writable = false

abbrev pub code_in : ℕ → Option Piece → Option (List ℕ)
code_in pc None = None
code_in pc (Some piece) = if is_code piece.kind then Some (drop (pc - piece.base) piece.bytes) else None

-- the bytes from pc to the end of the code piece that holds it
abbrev pub code_from : List Piece → ℕ → Option (List ℕ)
code_from pieces pc = code_in pc (holding pieces pc)

-- so many bytes from an address on lie in one code piece
abbrev pub HasCode : List Piece → ℕ → ℕ → Type 0
HasCode pieces address count = count ≤ length (unwrap_or (code_from pieces address) [])

-- what a thread meets at an address
pub data View : Type 0 where
  -- no code piece holds the address
  Unmapped : View
  -- the home of a replaced function, which goes on at its newest version; in memory a jump stands there
  AtHome : View
  -- any other address of a retired range
  Stray : View
  -- the code from there on: at most 15 bytes, which end at the piece's end and before the next retired range
  Bytes : (bytes : List ℕ) → View

-- code up to the next retired range
abbrev pub cut_before : ℕ → Option Range → List ℕ → List ℕ
cut_before pc None code = code
cut_before pc (Some range) code = take (range.low - pc) code

-- the code from pc on: at most 15 bytes, which end at the piece's end and before the next retired range
abbrev pub window_of : List Range → ℕ → List ℕ → List ℕ
window_of retired pc code = take 15 (cut_before pc (find (λ range. nat_lt pc range.low) retired) code)

abbrev pub seen_in : (ℕ → Bool) → List Range → ℕ → Option (List ℕ) → View
seen_in is_home retired pc None = Unmapped
seen_in is_home retired pc (Some code) =
    if is_home pc then AtHome
    else (if list_any (lies_in pc) retired then Stray else Bytes (window_of retired pc code))

-- The first that fits: no code piece holds pc; pc is the home of a replaced function; pc lies in a retired range, of
-- which there are these, ascending; the code from pc on.
unfoldable pub view : (ℕ → Bool) → List Range → List Piece → ℕ → View
view is_home retired pieces pc = seen_in is_home retired pc (code_from pieces pc)

-- whether there is a window: the jump at a home, or code
abbrev pub has_window : View → Bool
has_window Unmapped = false
has_window AtHome = true
has_window Stray = false
has_window (Bytes code) = true

-- the code that is met, if there is any
abbrev pub bytes_met : View → Option (List ℕ)
bytes_met Unmapped = None
bytes_met AtHome = None
bytes_met Stray = None
bytes_met (Bytes bytes) = Some bytes

-- the view of a memory at pc
abbrev pub view_at : Contents → ℕ → View
view_at contents pc = view (spliced_at contents.fences) (map fence_range contents.fences) contents.pieces pc

-- how many bytes the jump at a spliced home has: E9, and a displacement of four (Intel SDM volume 2, JMP rel32)
abbrev pub jump_length : ℕ
jump_length = 5

-- outside the retired ranges, so many bytes of whatever code is there are fetched
abbrev pub CutsCode : List Fence → ℕ → ℕ → Type 0
CutsCode fences pc count = (code : List ℕ) → window_of (map fence_range fences) pc code ≡ take count code

-- How many bytes of the code at pc are fetched at most, as far as retired ranges go: those of the jump at a spliced
-- home; none at another address of a retired range; elsewhere as many as the window has.
abbrev pub IsLimit : List Fence → ℕ → Option ℕ → Type 0
IsLimit fences pc None = (spliced_at fences pc ≡ false) × (list_any (lies_in pc) (map fence_range fences) ≡ true)
IsLimit fences pc (Some count) = ((spliced_at fences pc ≡ true) × (count ≡ jump_length))
    ⊎ ((spliced_at fences pc ≡ false) × (list_any (lies_in pc) (map fence_range fences) ≡ false)
    × CutsCode fences pc count)

-- the bytes of the jump at a spliced home, as far as its piece goes
abbrev pub jump_at : List Piece → ℕ → List ℕ
jump_at pieces home = take jump_length (unwrap_or (code_from pieces home) [])

-- at most 15 bytes as a window, and the bytes of a window
abbrev pub shown : List ℕ → Window
shown bytes = record { bytes = bytes ++ replicate (15 - length bytes) 0; length = length bytes }

abbrev pub fetched : Window → List ℕ
fetched window = take window.length window.bytes

-- what is fetched where a view is met: at a spliced home its jump
abbrev pub window_for : View → List ℕ → Result Window Fault
window_for Unmapped jump = Err faults.Unmapped
window_for AtHome jump = Ok (shown jump)
window_for Stray jump = Err faults.Stray
window_for (Bytes bytes) jump = Ok (shown bytes)

-- the window at pc
unfoldable pub window_at : Contents → ℕ → Result Window Fault
window_at contents pc = window_for (view_at contents pc) (jump_at contents.pieces pc)

-- What a window tells of the view that it was fetched at: it is the code that is met, or at a spliced home the bytes of
-- the jump; where nothing is fetched, the fault names what is met.
abbrev pub Tells : View → List ℕ → Result Window Fault → Type 0
Tells view jump (Ok window) = (view ≡ Bytes (fetched window)) ⊎ ((view ≡ AtHome) × (fetched window ≡ jump))
Tells view jump (Err fault) = ((view ≡ Unmapped) × (fault ≡ faults.Unmapped))
    ⊎ ((view ≡ Stray) × (fault ≡ faults.Stray))

-- what is fetched at pc tells of the view there
abbrev pub TellsView : Contents → ℕ → Result Window Fault → Type 0
TellsView contents pc result = Tells (view_at contents pc) (jump_at contents.pieces pc) result
