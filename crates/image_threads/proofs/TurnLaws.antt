-- Why the thread whose turn it is runs.
use Rattle.std.proofs.Common.{◌≡◌, ℕ, suc, ◌-◌, ◌≤◌, true, false, ◌&&◌, ◌==◌, nat_lt, cond, List, [], ◌∷◌, map}
use Rattle.std.proofs.Common.{if◌then◌else◌, IsSome, IfSome, Contains, is_some, Option, Some, None, refl, arith}
use Rattle.std.specs.Option.{option_map, option_or}
use Rattle.std.specs.List.{All, filter, find}
use Rattle.std.proofs.lemmas.List.Elements.{All-nil, All-cons, All-head, All-weaker, All-contains}
use Rattle.ia32_step.specs.declared.types.Thread.{Thread}
use Rattle.image_threads.specs.declared.turns.Turn.{Turn}
use Rattle.ia32_step.specs.Threads.{runs}
use Rattle.image_threads.specs.Program.{running_at, number_of, running_numbers, AreNumbered}
use Rattle.image_threads.specs.Turning.{Schedule, begun, longer, first_turn, turn_after, turn_from, next_turn}
use Rattle.image_threads.specs.laws.StackLaws.{found_in}

abbrev RunsAt : ℕ → List Thread → ℕ → Type 0
RunsAt m threads n = (m ≤ n) × IsSome (running_at threads (n - m))

-- the number of each running thread finds it
each_runs : (m : ℕ) (threads : List Thread) → AreNumbered m threads → All (RunsAt m threads) (running_numbers threads)
each_runs m [] h = All-nil (RunsAt m [])
each_runs m (x ∷ xs) h =
    let later =
    All-weaker (RunsAt (suc m) xs) (RunsAt m (x ∷ xs)) shifted (running_numbers xs) (each_runs (suc m) xs h.1) in
    elim (runs x)
    as (λ b. runs x ≡ b → All (RunsAt m (x ∷ xs)) (map number_of (cond b (x ∷ filter runs xs) (filter runs xs)))) [
      | true ↦ λ r. All-cons (RunsAt m (x ∷ xs)) x.number (running_numbers xs) (first r) later
      | false ↦ λ _. later
    ] refl
  where
    first : runs x ≡ true → RunsAt m (x ∷ xs) x.number
    first r =
        let number = h.0 in
        let here : x.number - m ≡ 0 = omega arith in
        (omega arith, rw (here, r) refl)

    shifted : (n : ℕ) → RunsAt (suc m) xs n → RunsAt m (x ∷ xs) n
    shifted n p =
        let above = p.0 in
        let there : n - m ≡ suc (n - suc m) = omega arith in
        (omega arith, rw there p.1)

running_run : (threads : List Thread)
    → AreNumbered 0 threads → All (λ n. IsSome (running_at threads n)) (running_numbers threads)
running_run threads h =
    All-weaker (RunsAt 0 threads) (λ (n : ℕ). IsSome (running_at threads n))
    (λ n p. let same : n - 0 ≡ n = omega arith in rw same at p.1) (running_numbers threads) (each_runs 0 threads h)

first_has : (P : ℕ → Type 0) (numbers : List ℕ) → All P numbers → IfSome (first_turn numbers) (λ turn. P turn.thread)
first_has P [] h = tt
first_has P (n ∷ ns) h = All-head P n ns h

later_has : (P : ℕ → Type 0) (numbers : List ℕ) (k : ℕ)
    → All P numbers → IfSome (turn_after numbers k) (λ turn. P turn.thread)
later_has P numbers k h =
    elim (find (nat_lt k) numbers)
    as (λ o. IfSome o (Contains numbers)
    → IfSome (option_or (option_map begun o) (first_turn numbers)) (λ turn. P turn.thread)) [
      | None ↦ λ _. first_has P numbers h
      | Some n ↦ λ there. All-contains P numbers n h there
    ] (found_in (nat_lt k) numbers)

from_has : (threads : List Thread) (quantum : ℕ) (last : Option Turn) → AreNumbered 0 threads
    → IfSome (turn_from threads quantum last) (λ turn. IsSome (running_at threads turn.thread))
from_has threads quantum None h =
    first_has (λ n. IsSome (running_at threads n)) (running_numbers threads) (running_run threads h)
from_has threads quantum (Some last) h =
    let other =
    later_has (λ n. IsSome (running_at threads n)) (running_numbers threads) last.thread (running_run threads h) in
    elim (is_some (running_at threads last.thread))
    as (λ b. is_some (running_at threads last.thread) ≡ b
    → IfSome
    (if b && nat_lt last.had quantum then Some (longer last) else turn_after (running_numbers threads) last.thread)
    (λ turn. IsSome (running_at threads turn.thread))) [
      | true ↦ λ e. elim (nat_lt last.had quantum)
          as (λ b. IfSome (if b then Some (longer last) else turn_after (running_numbers threads) last.thread)
          (λ turn. IsSome (running_at threads turn.thread))) [ true ↦ e | false ↦ other ]
      | false ↦ λ _. other
    ] refl

turn_has : (schedule : Schedule) (threads : List Thread) → AreNumbered 0 threads
    → IfSome (next_turn schedule threads) (λ turn. IsSome (running_at threads turn.thread))
unfolding next_turn
turn_has schedule threads h =
    elim (schedule.left == 0)
    as (λ b. IfSome (if b then None else turn_from threads schedule.quantum schedule.turn)
    (λ turn. IsSome (running_at threads turn.thread))) [
      | true ↦ tt
      | false ↦ from_has threads schedule.quantum schedule.turn h
    ]

-- the thread whose turn it is runs
pub turn_runs : (schedule : Schedule) (threads : List Thread) (turn : Turn)
    → AreNumbered 0 threads → next_turn schedule threads ≡ Some turn
    → IsSome (running_at threads turn.thread)
turn_runs schedule threads turn h e = rw e at (turn_has schedule threads h)
