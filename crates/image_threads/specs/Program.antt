-- What a running program is: its memory, symbols, stacks and threads.
use Rattle.std.specs.Prelude.{◌≡◌, ℕ, suc, ◌+◌, ◌%◌, ◌≤◌, List, [], ◌∷◌, map}
use Rattle.std.specs.Prelude.{Contains, Option, Some, None, if◌then◌else◌}
use Rattle.std.specs.List.{All, filter, slice_get}
use Rattle.ks_base.specs.declared.places.Range.{Range}
use Rattle.image_memory.specs.Contents.{Contents, Room}
use Rattle.image_memory.specs.Ranges.{Ascends}
use Rattle.symbol_table.specs.Table.{Table}
use Rattle.image_file.specs.Rules.{own_range}
use Rattle.ia32_step.specs.declared.types.Thread.{Thread}
use Rattle.ia32_step.specs.Threads.{runs}

pub record Program : Type 0 where
  pub contents : Contents
  pub room : Room
  pub table : Table
  pub stacks : List Range
  pub threads : List Thread

abbrev pub if_running : Option Thread → Option Thread
if_running None = None
if_running (Some thread) = if runs thread then Some thread else None

-- the running thread of a number; threads are numbered from 0 in their order
abbrev pub running_at : List Thread → ℕ → Option Thread
running_at threads n = if_running (slice_get threads n)

abbrev pub number_of : Thread → ℕ
number_of thread = thread.number

-- the numbers of the running threads, ascending
abbrev pub running_numbers : List Thread → List ℕ
running_numbers threads = map number_of (filter runs threads)

-- the threads are numbered from n on
abbrev pub AreNumbered : ℕ → List Thread → Type 0
AreNumbered n [] = Unit {0}
AreNumbered n (thread ∷ rest) = (thread.number ≡ n) × AreNumbered (suc n) rest

-- a stack begins and ends at multiples of 16, and has 32 bytes or more
pub record IsStackRange (stack : Range) : Type 0 where
  pub low : stack.low % 16 ≡ 0
  pub high : stack.high % 16 ≡ 0
  pub tall : stack.low + 32 ≤ stack.high

-- The stacks ascend and don't meet; each thread has one of them, and no two running threads have the same.
pub record WellPlaced (stacks : List Range) (threads : List Thread) : Type 0 where
  pub bounds : All IsStackRange stacks
  pub ascend : Ascends own_range 0 stacks
  pub listed : All (λ thread. Contains stacks thread.stack) threads
  pub apart : (i j : ℕ) (a b : Thread)
      → running_at threads i ≡ Some a → running_at threads j ≡ Some b → a.stack ≡ b.stack → i ≡ j
