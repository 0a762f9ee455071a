-- What starting a thread, and putting one in another's place, does to the running threads' numbers.
use Rattle.std.proofs.Common.{◌≡◌, ℕ, zero, suc, ◌+◌, ◌≤◌, ◌<◌, Bool, true, false, not, ◌==◌, cond}
use Rattle.std.proofs.Common.{List, [], ◌∷◌, ◌++◌, map, length, set, if◌then◌else◌, IsSome, IfSome}
use Rattle.std.proofs.Common.{Option, Some, None, refl, sym, ◌∙◌, ap, arith, length-append}
use Rattle.std.proofs.Math.ListN.{length-set}
use Rattle.std.specs.List.{filter, slice_get}
use Rattle.std.proofs.lemmas.Bool.Decides.{nat_tests}
use Rattle.std.proofs.lemmas.List.{set-get_or}
use Rattle.std.proofs.lemmas.Option.{get_or_from_slice_get}
use Rattle.ia32_step.specs.declared.types.Thread.{Thread}
use Rattle.ia32_step.specs.Threads.{runs}
use Rattle.image_threads.specs.Program.{if_running, running_at, number_of, running_numbers, AreNumbered}

pub numbered_on : (m : ℕ) (threads : List Thread) (t : Thread)
    → AreNumbered m threads → t.number ≡ m + length threads → AreNumbered m (threads ++ t ∷ [])
numbered_on m [] t h e = (omega arith, tt)
numbered_on m (x ∷ xs) t h e = (h.0, numbered_on (suc m) xs t h.1 (omega arith))

pub running_on : (threads : List Thread) (t : Thread)
    → runs t ≡ true → running_numbers (threads ++ t ∷ []) ≡ running_numbers threads ++ t.number ∷ []
running_on [] t h = rw h refl
running_on (x ∷ xs) t h =
    elim (runs x) as (λ b. map number_of (cond b (x ∷ filter runs (xs ++ t ∷ [])) (filter runs (xs ++ t ∷ [])))
    ≡ map number_of (cond b (x ∷ filter runs xs) (filter runs xs)) ++ t.number ∷ []) [
      | true ↦ ap (λ (ns : List ℕ). x.number ∷ ns) (running_on xs t h)
      | false ↦ running_on xs t h
    ]

-- the number of the thread that is found at a number
pub number_found : (m : ℕ) (threads : List Thread) (i : ℕ) (x : Thread)
    → AreNumbered m threads → slice_get threads i ≡ Some x → x.number ≡ m + i
number_found m [] i x h e = cc
number_found m (y ∷ ys) zero x h e =
    let same : y ≡ x = cc in
    let first = h.0 in
    rw (← same) (omega arith)
number_found m (y ∷ ys) (suc i) x h e =
    let later = number_found (suc m) ys i x h.1 e in
    omega arith

pub numbered_set : (m : ℕ) (threads : List Thread) (i : ℕ) (t : Thread)
    → AreNumbered m threads → t.number ≡ m + i → AreNumbered m (set threads i t)
numbered_set m [] i t h e = tt
numbered_set m (y ∷ ys) zero t h e = (omega arith, h.1)
numbered_set m (y ∷ ys) (suc i) t h e = (h.0, numbered_set (suc m) ys i t h.1 (omega arith))

-- a running thread in the place of one of the same number
pub running_set : (m : ℕ) (threads : List Thread) (i : ℕ) (x t : Thread)
    → AreNumbered m threads → slice_get threads i ≡ Some x → runs x ≡ true
    → t.number ≡ m + i → runs t ≡ true → running_numbers (set threads i t) ≡ running_numbers threads
running_set m [] i x t h e r n s = cc
running_set m (y ∷ ys) zero x t h e r n s =
    let same : y ≡ x = cc in
    let also : runs y ≡ true = rw same r in
    let first = h.0 in
    let number : t.number ≡ y.number = omega arith in
    rw (s, also) (ap (λ (k : ℕ). k ∷ running_numbers ys) number)
running_set m (y ∷ ys) (suc i) x t h e r n s =
    let later = running_set (suc m) ys i x t h.1 e r (omega arith) s in
    elim (runs y) as (λ b. map number_of (cond b (y ∷ filter runs (set ys i t)) (filter runs (set ys i t)))
    ≡ map number_of (cond b (y ∷ filter runs ys) (filter runs ys))) [
      | true ↦ ap (λ (ns : List ℕ). y.number ∷ ns) later
      | false ↦ later
    ]

abbrev pub is_other : ℕ → ℕ → Bool
is_other k n = not (n == k)

others_stay : (k m : ℕ) (threads : List Thread) → AreNumbered m threads → k < m
    → filter (is_other k) (running_numbers threads) ≡ running_numbers threads
others_stay k m [] h l = refl
others_stay k m (y ∷ ys) h l =
    let later = others_stay k (suc m) ys h.1 (omega arith) in
    let first = h.0 in
    let other : is_other k y.number ≡ true = grind (arith, nat_tests) in
    elim (runs y) as (λ b. filter (is_other k) (map number_of (cond b (y ∷ filter runs ys) (filter runs ys)))
    ≡ map number_of (cond b (y ∷ filter runs ys) (filter runs ys))) [
      | true ↦ rw other (ap (λ (ns : List ℕ). y.number ∷ ns) later)
      | false ↦ later
    ]

-- a thread that runs no more in the place of one of the same number
pub running_less : (m : ℕ) (threads : List Thread) (i k : ℕ) (x t : Thread)
    → AreNumbered m threads → slice_get threads i ≡ Some x → runs x ≡ true
    → k ≡ m + i → runs t ≡ false → running_numbers (set threads i t) ≡ filter (is_other k) (running_numbers threads)
running_less m [] i k x t h e r n s = cc
running_less m (y ∷ ys) zero k x t h e r n s =
    let same : y ≡ x = cc in
    let also : runs y ≡ true = rw same r in
    let first = h.0 in
    let itself : is_other k y.number ≡ false = grind (arith, nat_tests) in
    let later = others_stay k (suc m) ys h.1 (omega arith) in
    rw (s, also, itself, later) refl
running_less m (y ∷ ys) (suc i) k x t h e r n s =
    let later = running_less (suc m) ys i k x t h.1 e r (omega arith) s in
    let first = h.0 in
    let other : is_other k y.number ≡ true = grind (arith, nat_tests) in
    elim (runs y) as (λ b. map number_of (cond b (y ∷ filter runs (set ys i t)) (filter runs (set ys i t)))
    ≡ filter (is_other k) (map number_of (cond b (y ∷ filter runs ys) (filter runs ys)))) [
      | true ↦ rw other (ap (λ (ns : List ℕ). y.number ∷ ns) later)
      | false ↦ later
    ]

-- where a running thread is found
pub record IsRunning (threads : List Thread) (n : ℕ) : Type 0 where
  pub thread : Thread
  pub there : slice_get threads n ≡ Some thread
  pub running : runs thread ≡ true

pub is_running_at : (threads : List Thread) (n : ℕ) → IsSome (running_at threads n) → IsRunning threads n
is_running_at threads n h =
    elim (slice_get threads n) as (λ o. IsSome (if_running o) → slice_get threads n ≡ o → IsRunning threads n) [
      | None ↦ λ none e. cc
      | Some x ↦
          λ some e. elim (runs x) as (λ b. IsSome (if b then Some x else None) → runs x ≡ b → IsRunning threads n) [
            | true ↦ λ _ r. record { thread = x; there = e; running = r }
            | false ↦ λ none r. cc
          ] some refl
    ] h refl

-- the threads, the running ones' numbers beside them, and how many there may be
abbrev pub AreListed : List Thread → List ℕ → Type 0
AreListed threads running = AreNumbered 0 threads × ((running ≡ running_numbers threads) × (length threads ≤ 4096))

pub listed_on : (threads later : List Thread) (running also : List ℕ) (t : Thread)
    → AreListed threads running → length threads < 4096
    → t.number ≡ length threads
    → runs t ≡ true → later ≡ threads ++ t ∷ [] → also ≡ running ++ t.number ∷ [] → AreListed later also
listed_on threads later running also t h few number r grown on =
    let numbered = numbered_on 0 threads t h.0 (omega arith) in
    let numbers = running_on threads t r in
    let before = h.1.0 in
    rw grown (numbered, (rw (on, before) (sym numbers), omega (arith, length-append threads (t ∷ []))))

-- a running thread in the place of the running one of its number
pub listed_running : (threads : List Thread) (running : List ℕ) (n : ℕ) (t : Thread)
    → AreListed threads running → IsSome (running_at threads n) → t.number ≡ n
    → runs t ≡ true → AreListed (set threads n t) running
listed_running threads running n t h some is r =
    let at = is_running_at threads n some in
    let numbers = running_set 0 threads n at.thread t h.0 at.there at.running (omega arith) r in
    let long = length-set threads n t in
    let few = h.1.1 in
    (numbered_set 0 threads n t h.0 (omega arith), (h.1.0 ∙ sym numbers, omega arith))

-- and one that runs no more
pub listed_ended : (threads : List Thread) (running less : List ℕ) (n : ℕ) (t : Thread)
    → AreListed threads running → IsSome (running_at threads n) → t.number ≡ n
    → runs t ≡ false → less ≡ filter (is_other n) running → AreListed (set threads n t) less
listed_ended threads running less n t h some is r e =
    let at = is_running_at threads n some in
    let numbers = running_less 0 threads n n at.thread t h.0 at.there at.running (omega arith) r in
    let long = length-set threads n t in
    let few = h.1.1 in (
      numbered_set 0 threads n t h.0 (omega arith),
      (e ∙ ap (filter (is_other n)) h.1.0 ∙ sym numbers, omega arith),
    )

pub number_at : (threads : List Thread) (n : ℕ) (found : Option Thread)
    → AreNumbered 0 threads → found ≡ slice_get threads n
    → IfSome found (λ t. t.number ≡ n)
number_at threads n None h e = tt
number_at threads n (Some t) h e =
    let number = number_found 0 threads n t h (sym e) in
    omega arith

-- what stands at a number put there again
pub set_back : (threads : List Thread) (n : ℕ) (t : Thread) → slice_get threads n ≡ Some t → set threads n t ≡ threads
set_back threads n t at = ap (set threads n) (sym (get_or_from_slice_get threads n t t at)) ∙ set-get_or threads n t
