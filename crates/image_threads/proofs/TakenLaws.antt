-- Why a stack is taken exactly where the thread of one of the running numbers has it.
use Rattle.std.proofs.Common.{◌≡◌, ℕ, zero, suc, ◌+◌, true, false, ◌&&◌, ◌||◌, cond, List, [], ◌∷◌, map, refl, arith}
use Rattle.std.specs.List.{filter, list_any, slice_get}
use Rattle.ks_base.specs.declared.places.Range.{Range}
use Rattle.ia32_step.specs.declared.types.Thread.{Thread}
use Rattle.ia32_step.specs.Threads.{runs}
use Rattle.image_threads.specs.Program.{number_of, running_numbers, AreNumbered}
use Rattle.image_memory.specs.Ranges.{are_same}
use Rattle.image_threads.specs.Spawning.{is_taken, has_stack}

-- the numbers of the threads from the number m on
taken_from : (all : List Thread) (stack : Range) (m : ℕ) (threads : List Thread) → AreNumbered m threads
    → ((i : ℕ) → slice_get all (m + i) ≡ slice_get threads i)
    → list_any (has_stack all stack) (running_numbers threads) ≡ is_taken threads stack
taken_from all stack m [] h there = refl
taken_from all stack m (x ∷ xs) h there =
    let later = taken_from all stack
    (suc m) xs h.1 (λ i. let same : suc m + i ≡ m + suc i = omega arith in rw same (there (suc i))) in
    let number : x.number ≡ m + zero = omega (arith, h.0) in
    let first : has_stack all stack x.number ≡ are_same x.stack stack = rw (number, there zero) refl in
    elim (runs x) as (λ b. list_any (has_stack all stack) (map number_of (cond b (x ∷ filter runs xs) (filter runs xs)))
    ≡ ((b && are_same x.stack stack) || is_taken xs stack)) [
      | true ↦ rw (first, later) refl
      | false ↦ later
    ]

pub taken_by_running : (threads : List Thread) (running : List ℕ) (stack : Range)
    → AreNumbered 0 threads → running ≡ running_numbers threads
    → list_any (has_stack threads stack) running ≡ is_taken threads stack
taken_by_running threads running stack h same =
    rw same (taken_from threads stack 0 threads h (λ i. let same : 0 + i ≡ i = omega arith in rw same refl))
