-- Whether a thread stands in one of some ranges of code: the places in which it may have an address of them, and the
-- first of these whose value lies in one.
use Rattle.std.specs.Prelude.{◌≡◌, ℕ, zero, suc, ◌+◌, ◌-◌, ◌*◌, ◌/◌, ◌%◌, ◌≤◌, Bool, ◌||◌}
use Rattle.std.specs.Prelude.{nat_lt, if◌then◌else◌, List, [], ◌∷◌, ◌++◌, map, slice_index}
use Rattle.std.specs.Prelude.{Option, Some, None, Result, Ok, Err}
use Rattle.std.specs.Option.{option_map, option_or}
use Rattle.std.specs.List.{find, list_any, Any}
use Rattle.ks_base.specs.declared.places.Range.{Range}
use Rattle.ks_base.specs.declared.refusals.Place.{Place}
use Rattle.ks_base.specs.declared.refusals.Place.TheVariants.{Pc, Register, Stack}
use Rattle.ks_base.specs.declared.refusals.Refusal.{Refusal}
use Rattle.ks_base.specs.declared.refusals.Refusal.TheVariants as refusal
use Rattle.ks_base.specs.declared.refusals.Standing.{Standing}
use Rattle.image_memory.specs.declared.types.Kind.TheVariants.{Writable}
use Rattle.image_memory.specs.declared.types.Piece.{Piece}
use Rattle.image_memory.specs.Ranges.{lies_in}
use Rattle.image_memory.specs.Contents.{piece_range}
use Rattle.image_memory.specs.Access.{dword_at}
use Rattle.ia32_step.specs.declared.types.State.{State}
use Rattle.ia32_step.specs.declared.types.State.TheVariants.{Running, Exited, Stopped}
use Rattle.ia32_step.specs.declared.types.Thread.{Thread}
use Rattle.ia32_step.specs.Threads.{esp_of}
use Rattle.stack_scan.specs.declared.types.StackOut.{StackOut}

-- a range lies in a writable piece
pub record LiesInWritable (range : Range) (piece : Piece) : Type 0 where
  pub kind : piece.kind ≡ Writable
  pub low : piece.base ≤ range.low
  pub high : range.high ≤ (piece_range piece).high

-- the bounds of a stack are multiples of 4, and it lies in one writable piece
pub record IsStack (pieces : List Piece) (stack : Range) : Type 0 where
  pub low : stack.low % 4 ≡ 0
  pub high : stack.high % 4 ≡ 0
  pub held : Any (LiesInWritable stack) pieces

-- a thread has a stack where it runs
abbrev pub HasStack : List Piece → Thread → Type 0
HasStack pieces thread = thread.state ≡ Running → IsStack pieces thread.stack

-- the numbers of the registers that are looked at: EAX, ECX, EDX, EBX, EBP, ESI and EDI
abbrev pub looked_at : List ℕ
looked_at = 0 ∷ 1 ∷ 2 ∷ 3 ∷ 5 ∷ 6 ∷ 7 ∷ []

abbrev pub in_register : List ℕ → ℕ → Place × ℕ
in_register registers number = (Register number, slice_index registers number)

abbrev pub on_stack : List Piece → ℕ → Place × ℕ
on_stack pieces address = (Stack address, dword_at pieces address)

-- the addresses of n dwords from one on
unfoldable pub addresses : (start n : ℕ) → List ℕ
addresses start zero = []
addresses start (suc n) = start ∷ addresses (start + 4) n

-- the addresses of the dwords from ESP, rounded down to a multiple of 4, up to the stack's high bound
abbrev pub stack_addresses : (esp high : ℕ) → List ℕ
stack_addresses esp high = addresses (esp / 4 * 4) ((high - esp / 4 * 4) / 4)

-- the places in their order, each with its value: pc, the registers but ESP, the stack upwards
abbrev pub places : List Piece → Thread → List (Place × ℕ)
places pieces thread =
    (Pc, thread.pc)
    ∷ map (in_register thread.registers) looked_at
    ++ map (on_stack pieces) (stack_addresses (esp_of thread) thread.stack.high)

-- whether an address is one of some ranges'
abbrev pub in_one : List Range → ℕ → Bool
in_one ranges address = list_any (lies_in address) ranges

-- the first of some places whose value lies in one of some ranges
abbrev pub first_place : List Range → List (Place × ℕ) → Option (Place × ℕ)
first_place ranges seen = find (λ place. in_one ranges place.1) seen

abbrev pub standing_at : ℕ → Place × ℕ → Standing
standing_at number seen = record { thread = number; place = seen.0; value = seen.1 }

abbrev pub stack_out : Thread → StackOut
stack_out thread = record { thread = thread.number; esp = esp_of thread }

abbrev pub is_stack_out : Thread → Bool
is_stack_out thread = nat_lt (esp_of thread) thread.stack.low || nat_lt thread.stack.high (esp_of thread)

abbrev pub stands_by : State → List Piece → List Range → Thread → Result (Option Standing) StackOut
stands_by Running pieces ranges thread =
    if is_stack_out thread then Err (stack_out thread)
    else Ok (option_map (standing_at thread.number) (first_place ranges (places pieces thread)))
stands_by (Exited value) pieces ranges thread = Ok None
stands_by (Stopped fault) pieces ranges thread = Ok None

-- Where a running thread stands in one of the ranges, or that its ESP is below its stack's low bound or above its high
-- one. A thread that has ended stands nowhere.
abbrev pub stands : List Piece → List Range → Thread → Result (Option Standing) StackOut
stands pieces ranges thread = stands_by thread.state pieces ranges thread

-- why a change of the ranges is refused for what is found of one thread
abbrev pub standing_refused : Result (Option Standing) StackOut → Option Refusal
standing_refused (Err out) = Some (refusal.StackOut out.thread out.esp)
standing_refused (Ok standing) = option_map (λ found. refusal.Busy found) standing

-- Why it is refused for what is found of the first of some threads, in their order, that stands in one of the ranges or
-- whose ESP is outside its stack.
unfoldable pub thread_refusal : List Piece → List Range → List Thread → Option Refusal
thread_refusal pieces ranges [] = None
thread_refusal pieces ranges (thread ∷ threads) =
    option_or (standing_refused (stands pieces ranges thread)) (thread_refusal pieces ranges threads)
