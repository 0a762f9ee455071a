-- The running threads' numbers rise, and what halving finds among them.
use Rattle.std.proofs.Common.{◌≡◌, ℕ, zero, suc, ◌≤◌, Bool, true, false, cond, List, [], ◌∷◌, map, length}
use Rattle.std.proofs.Common.{Option, Some, None, Bor, refl, sym, arith}
use Rattle.std.specs.Option.{option_copied}
use Rattle.std.specs.List.{All, AllWithin, filter, find, slice_get}
use Rattle.std.specs.List.Sorted.{IsNonDecreasing}
use Rattle.std.specs.Slice.{IsItemAt}
use Rattle.std.proofs.lemmas.List.Elements.{All-nil, All-cons, All-weaker}
use Rattle.std.proofs.lemmas.Option.{slice_get_past, slice_get_read}
use Rattle.ia32_step.specs.declared.types.Thread.{Thread}
use Rattle.ia32_step.specs.Threads.{runs}
use Rattle.image_threads.specs.Program.{number_of, running_numbers, AreNumbered}

-- no number is below the one that the threads are numbered from
from_above : (m : ℕ) (threads : List Thread) → AreNumbered m threads → All (λ n. m ≤ n) (running_numbers threads)
from_above m [] h = All-nil (λ n. m ≤ n)
from_above m (x ∷ xs) h =
    let first = h.0 in
    let later = All-weaker (λ n. suc m ≤ n) (λ n. m ≤ n) (λ n above. omega arith) (running_numbers xs)
    (from_above (suc m) xs h.1) in
    elim (runs x) as (λ b. All (λ n. m ≤ n) (map number_of (cond b (x ∷ filter runs xs) (filter runs xs)))) [
      | true ↦ All-cons (λ n. m ≤ n) x.number (running_numbers xs) (omega arith) later
      | false ↦ later
    ]

rise_on : (n : ℕ) (ns : List ℕ) → All (λ k. n ≤ k) ns → IsNonDecreasing ns → IsNonDecreasing (n ∷ ns)
rise_on n ns above rise zero zero d l m = omega arith
rise_on n ns above rise zero (suc j) d l m = above j d (omega arith)
rise_on n ns above rise (suc i) zero d l m = absurd (omega arith)
rise_on n ns above rise (suc i) (suc j) d l m = rise i j d (omega arith) (omega arith)

pub numbers_rise : (m : ℕ) (threads : List Thread) → AreNumbered m threads → IsNonDecreasing (running_numbers threads)
numbers_rise m [] h = λ i j d l m. absurd (omega arith)
numbers_rise m (x ∷ xs) h =
    let first = h.0 in
    let above = All-weaker (λ n. suc m ≤ n) (λ n. x.number ≤ n) (λ n above. omega arith) (running_numbers xs)
    (from_above (suc m) xs h.1) in
    let later = numbers_rise (suc m) xs h.1 in
    elim (runs x) as (λ b. IsNonDecreasing (map number_of (cond b (x ∷ filter runs xs) (filter runs xs)))) [
      | true ↦ rise_on x.number (running_numbers xs) above later
      | false ↦ later
    ]

-- what stands where the numbers that fail a test end is the first that passes
pub found_at : (p : ℕ → Bool) (ns : List ℕ) (i : ℕ) → AllWithin (λ n. p n ≡ false) ns 0 i
    → AllWithin (λ n. p n ≡ true) ns i (length ns) → slice_get ns i ≡ find p ns
found_at p [] i fail pass = refl
found_at p (n ∷ ns) zero fail pass = rw (pass zero n (omega arith) (omega arith)) refl
found_at p (n ∷ ns) (suc i) fail pass =
    rw (fail zero n (omega arith) (omega arith))
    (found_at p ns i (λ k d l m. fail (suc k) d (omega arith) (omega arith))
    (λ k d l m. pass (suc k) d (omega arith) (omega arith)))

-- the number at a place, where it is read through a reference
pub number_copied : (ns : List ℕ) (i : ℕ) (item : Option (Bor ℕ)) → IsItemAt ns i item
    → option_copied item ≡ slice_get ns i
number_copied ns i None is = sym (slice_get_past ns i is.3)
number_copied ns i (Some n) is = sym (slice_get_read ns (length ns) i n.now refl is.3.0 is.1)
