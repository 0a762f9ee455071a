-- A turn as a whole is the steps of its thread one after another, and the threads of turns are those of a schedule by which
-- each turn is one step.
use Rattle.std.proofs.Common.{◌≡◌, ℕ, zero, suc, ◌+◌, ◌-◌, ◌<◌, ◌≤◌, ◌&&◌, ◌==◌, nat_lt, min, Bool, true, false}
use Rattle.std.proofs.Common.{if◌then◌else◌, is_some, IfSome, List, [], ◌∷◌, ◌++◌, length, Option, Some, None}
use Rattle.std.proofs.Common.{refl, sym, ◌∙◌, ap, subst, arith}
use Rattle.std.specs.Option.{option_map, option_or}
use Rattle.std.specs.List.{slice_get, find}
use Rattle.std.proofs.lemmas.Bool.Decides.{nat_tests}
use Rattle.std.proofs.lemmas.Option.{same_Some}
use Rattle.ia32_step.specs.declared.types.Thread.{Thread}
use Rattle.image_threads.specs.Program.{running_at, running_numbers}
use Rattle.image_threads.specs.Turning.{Schedule, begun, first_turn, turn_from, turn_after, next_turn, after_turn}
use Rattle.image_threads.specs.Turning.{longer, thread_of}
use Rattle.image_threads.specs.declared.turns.Turn.{Turn}
use Rattle.update_stack.specs.AbstractMachine.{AbstractMachine}
use Rattle.update_stack.specs.Events.{Event, Step, after_event, after_events}
use Rattle.ksplice_session.specs.Running.{thread_steps, turn_steps, taken}
use Rattle.ksplice_session.specs.inside.WholeTurns.{IsOrder, ended, steps_after}
use Rattle.ksplice_session.specs.Watching.{Watched, watched_after_all}
use Rattle.ksplice_session.proofs.RunLaws.{Goes, goes_far, thread_on, thread_done, thread_ends_at}
use Rattle.ksplice_session.proofs.WatchedLaws.{machine_after_all}

-- a turn that has had so many steps more
abbrev lengthened : ℕ → Turn → Turn
lengthened steps turn = record turn { had = turn.had + steps }

-- what is left of the steps after some of a turn that goes on
abbrev left_of : (quantum l : ℕ) → Turn → AbstractMachine → List Event → List Event
left_of quantum l turn k events =
    turn_steps quantum (l - length events) (Some (lengthened (length events) turn)) (after_events k events)

-- where none is made
none_left : (quantum l : ℕ) (turn : Turn) (k : AbstractMachine) (events : List Event) → events ≡ []
    → turn_steps quantum l (Some turn) k ≡ events ++ left_of quantum l turn k events
unfolding after_events
none_left quantum l turn k events is =
    let same : turn.had ≡ turn.had + 0 = omega arith in
    let all : l ≡ l - 0 = omega arith in
    rw is (ap (λ (n : ℕ). turn_steps quantum n (Some turn) k) all
    ∙ ap (λ (h : ℕ). turn_steps quantum (l - 0) (Some (let t : Turn = record turn { had = h } in t)) k) same)

-- the next step of a turn that goes on
first_on : (quantum l : ℕ) (turn : Turn) (k : AbstractMachine) → is_some (running_at k.threads turn.thread) ≡ true
    → turn.had < quantum
    → turn_steps quantum (suc l) (Some turn) k
    ≡ Step turn.thread ∷ turn_steps quantum l (Some (longer turn)) (after_event k (Step turn.thread))
unfolding turn_steps
first_on quantum l turn k runs fewer =
    let less : nat_lt turn.had quantum ≡ true = grind (arith, nat_tests) in
    rw (runs, less) refl

-- what is left after the first step and some more
shifted : (quantum l : ℕ) (turn : Turn) (k : AbstractMachine) (later : List Event)
    → left_of quantum l (longer turn) (after_event k (Step turn.thread)) later
    ≡ left_of quantum (suc l) turn k (Step turn.thread ∷ later)
unfolding after_events
shifted quantum l turn k later =
    let n = length later in
    let now = after_events (after_event k (Step turn.thread)) later in
    let had : turn.had + 1 + n ≡ turn.had + suc n = omega arith in
    let left : l - n ≡ suc l - suc n = omega arith in
    ap (λ (h : ℕ). turn_steps quantum (l - n) (Some (let t : Turn = record turn { had = h } in t)) now) had
    ∙ ap (λ (i : ℕ). turn_steps quantum i (Some (lengthened (suc n) turn)) now) left

-- the steps of a turn that goes on are those of its thread
batch : (m quantum l : ℕ) (turn : Turn) (k : AbstractMachine) → m ≤ quantum - turn.had → m ≤ l
    → turn_steps quantum l (Some turn) k
    ≡ thread_steps k turn.thread m ++ left_of quantum l turn k (thread_steps k turn.thread m)
batch zero quantum l turn k fewer within =
    none_left quantum l turn k (thread_steps k turn.thread 0) (thread_done k turn.thread 0 refl)
batch (suc m) quantum zero turn k fewer within = absurd (omega arith)
batch (suc m) quantum (suc l) turn k fewer within =
    by (batch m quantum l (longer turn) (after_event k (Step turn.thread)) (omega arith) (omega arith))
    (is_some (running_at k.threads turn.thread)) refl
  where
    next : AbstractMachine
    next = after_event k (Step turn.thread)

    later : List Event
    later = thread_steps next turn.thread m

    by : turn_steps quantum l (Some (longer turn)) next ≡ later ++ left_of quantum l (longer turn) next later
        → (b : Bool) → is_some (running_at k.threads turn.thread) ≡ b
        → turn_steps quantum (suc l) (Some turn) k
        ≡ thread_steps k turn.thread (suc m) ++ left_of quantum (suc l) turn k (thread_steps k turn.thread (suc m))
    by more true runs =
        let P : List Event → Type 0 = λ es.
        turn_steps quantum (suc l) (Some turn) k ≡ es ++ left_of quantum (suc l) turn k es in
        subst P (sym (thread_on k next turn.thread (suc m) m refl runs refl))
        (first_on quantum l turn k runs (omega arith)
        ∙ ap (λ (es : List Event). Step turn.thread ∷ es) more
        ∙ ap (λ (es : List Event). Step turn.thread ∷ (later ++ es)) (shifted quantum l turn k later))
    by more false ended =
        none_left quantum (suc l) turn k (thread_steps k turn.thread (suc m))
        (thread_ends_at k turn.thread (suc m) ended)

-- no more than so many steps of a thread
pub few_steps : (n : ℕ) (k : AbstractMachine) (thread : ℕ) → length (thread_steps k thread n) ≤ n
few_steps zero k thread = let none : length (thread_steps k thread 0) ≡ 0 = ap length (thread_done k thread 0 refl) in
    omega (arith, none)
few_steps (suc n) k thread =
    elim (is_some (running_at k.threads thread)) as (λ b. is_some (running_at k.threads thread) ≡ b
    → length (thread_steps k thread (suc n)) ≤ suc n) [
      | true ↦ λ runs.
          let on = ap length (thread_on k (after_event k (Step thread)) thread (suc n) n refl runs refl) in
          let rest = few_steps n (after_event k (Step thread)) thread in
          omega (arith, on, rest)
      | false ↦ λ ended.
          let none : length (thread_steps k thread (suc n)) ≡ 0 = ap length (thread_ends_at k thread (suc n) ended) in
          omega (arith, none)
    ] refl

-- where fewer steps were made than might have been, the thread has ended
ended_after : (m : ℕ) (k : AbstractMachine) (thread : ℕ) → length (thread_steps k thread m) < m
    → is_some (running_at (after_events k (thread_steps k thread m)).threads thread) ≡ false
unfolding after_events
ended_after zero k thread less = absurd (omega arith)
ended_after (suc m) k thread less =
    by (ended_after m (after_event k (Step thread)) thread) (is_some (running_at k.threads thread)) refl
  where
    next : AbstractMachine
    next = after_event k (Step thread)

    Ended : List Event → Type 0
    Ended es = is_some (running_at (after_events k es).threads thread) ≡ false

    by : (length (thread_steps next thread m) < m
        → is_some (running_at (after_events next (thread_steps next thread m)).threads thread) ≡ false)
        → (b : Bool) → is_some (running_at k.threads thread) ≡ b → Ended (thread_steps k thread (suc m))
    by more true runs =
        let on = thread_on k next thread (suc m) m refl runs refl in
        let long : length (thread_steps k thread (suc m)) ≡ suc (length (thread_steps next thread m)) = ap length on in
        subst Ended (sym on) (more (omega (arith, less, long)))
    by more false ends = subst Ended (sym (thread_ends_at k thread (suc m) ends)) ends

-- ---- which thread has the next turn
never : (b : Bool) → (b && false) ≡ false
never true = refl
never false = refl

over_with : (threads : List Thread) (quantum : ℕ) (turn : Turn)
    → (is_some (running_at threads turn.thread) && nat_lt turn.had quantum) ≡ false
    → turn_from threads quantum (Some turn) ≡ turn_after (running_numbers threads) turn.thread
over_with threads quantum turn is =
    ap (λ (b : Bool). if b then Some (longer turn) else turn_after (running_numbers threads) turn.thread) is

-- the turn after one that has had all its steps
after_all : (threads : List Thread) (quantum : ℕ) (turn : Turn) → quantum ≤ turn.had
    → turn_from threads quantum (Some turn) ≡ turn_after (running_numbers threads) turn.thread
after_all threads quantum turn all =
    let enough : nat_lt turn.had quantum ≡ false = grind (arith, nat_tests) in
    over_with threads quantum turn
    (ap (λ (b : Bool). is_some (running_at threads turn.thread) && b) enough
    ∙ never (is_some (running_at threads turn.thread)))

-- and the one after a turn whose thread has ended
after_end : (threads : List Thread) (quantum : ℕ) (turn : Turn) → is_some (running_at threads turn.thread) ≡ false
    → turn_from threads quantum (Some turn) ≡ turn_after (running_numbers threads) turn.thread
after_end threads quantum turn ends =
    over_with threads quantum turn (ap (λ (b : Bool). b && nat_lt turn.had quantum) ends)

found : (order : Schedule) (threads : List Thread) (m : ℕ) → order.left ≡ suc m
    → next_turn order threads ≡ turn_from threads order.quantum order.turn
unfolding next_turn
found order threads m left =
    let some : (order.left == 0) ≡ false = rw left (not_zero m) in
    ap (λ (b : Bool). if b then None else turn_from threads order.quantum order.turn) some
  where
    not_zero : (m : ℕ) → (suc m == 0) ≡ false
    not_zero m = grind (arith, nat_tests)

next_in_order : (order : Schedule) (threads : List Thread) (quantum m : ℕ) → IsOrder order → order.left ≡ suc m
    → next_turn order threads ≡ turn_from threads quantum (option_map (ended quantum) order.turn)
next_in_order order threads quantum m is left =
    found order threads m left
    ∙ ap (λ (q : ℕ). turn_from threads q order.turn) is.single ∙ by order.turn is.some
  where
    by : (o : Option Turn) → IfSome o (λ turn. 1 ≤ turn.had)
        → turn_from threads 1 o ≡ turn_from threads quantum (option_map (ended quantum) o)
    by None some = refl
    by (Some turn) some =
        after_all threads 1 turn some ∙ sym (after_all threads quantum (ended quantum turn) (omega arith))

-- it begins
begins_first : (running : List ℕ) (turn : Turn) → first_turn running ≡ Some turn → turn ≡ begun turn.thread
begins_first running turn is = by (slice_get running 0) is
  where
    by : (o : Option ℕ) → option_map begun o ≡ Some turn → turn ≡ begun turn.thread
    by None is = absurd (cc)
    by (Some n) is = let same : begun n ≡ turn = same_Some (begun n) turn is in
        sym same ∙ ap begun (ap thread_of same)

begins_after : (running : List ℕ) (n : ℕ) (turn : Turn) → turn_after running n ≡ Some turn → turn ≡ begun turn.thread
begins_after running n turn is = by (find (nat_lt n) running) is
  where
    by : (o : Option ℕ) → option_or (option_map begun o) (first_turn running) ≡ Some turn → turn ≡ begun turn.thread
    by None is = begins_first running turn is
    by (Some n) is = let same : begun n ≡ turn = same_Some (begun n) turn is in
        sym same ∙ ap begun (ap thread_of same)

turn_begins : (threads : List Thread) (quantum : ℕ) (o : Option Turn) (turn : Turn)
    → turn_from threads quantum (option_map (ended quantum) o) ≡ Some turn → turn ≡ begun turn.thread
turn_begins threads quantum None turn is = begins_first (running_numbers threads) turn is
turn_begins threads quantum (Some last) turn is =
    begins_after (running_numbers threads) last.thread turn
    (sym (after_all threads quantum (ended quantum last) (omega arith)) ∙ is)

thread_found : (o : Option Turn) (thread : ℕ) → option_map thread_of o ≡ Some thread
    → ((turn : Turn) → o ≡ Some turn → turn ≡ begun turn.thread) → o ≡ Some (begun thread)
thread_found None thread is begins = cc
thread_found (Some turn) thread is begins =
    let same : turn.thread ≡ thread = same_Some turn.thread thread is in
    ap Some (begins turn refl ∙ ap begun same)

-- by its number the thread of the next turn is found
pub next_begun : (order : Schedule) (threads : List Thread) (m thread : ℕ) → IsOrder order → order.left ≡ suc m
    → option_map thread_of (next_turn order threads) ≡ Some thread → next_turn order threads ≡ Some (begun thread)
next_begun order threads m thread is left has =
    thread_found (next_turn order threads) thread has (λ turn found.
    turn_begins threads 1 order.turn turn (sym (next_in_order order threads 1 m is left) ∙ found))

pub none_next : (order : Schedule) (k : AbstractMachine) (quantum m n : ℕ) → IsOrder order → order.left ≡ suc m
    → option_map thread_of (next_turn order k.threads) ≡ None → steps_after quantum n order.turn k ≡ []
unfolding turn_steps
none_next order k quantum m zero is left none = refl
none_next order k quantum m (suc n) is left none =
    ap (taken k (turn_steps quantum n))
    (sym (next_in_order order k.threads quantum m is left) ∙ no_thread (next_turn order k.threads) none)
  where
    no_thread : (o : Option Turn) → option_map thread_of o ≡ None → o ≡ None
    no_thread None none = refl
    no_thread (Some turn) none = cc

pub none_after : (quantum n : ℕ) (o : Option Turn) (k : AbstractMachine) → n ≡ 0 → steps_after quantum n o k ≡ []
unfolding turn_steps
none_after quantum n o k none = rw none refl

-- ---- a turn that is over
over_steps : (quantum n : ℕ) (a b : Turn) (k : AbstractMachine)
    → (1 ≤ n → turn_from k.threads quantum (Some a) ≡ turn_from k.threads quantum (Some b))
    → turn_steps quantum n (Some a) k ≡ turn_steps quantum n (Some b) k
unfolding turn_steps
over_steps quantum zero a b k same = refl
over_steps quantum (suc n) a b k same = ap (taken k (turn_steps quantum n)) (same (omega arith))

first_of_turn : (quantum l : ℕ) (o : Option Turn) (k : AbstractMachine) (thread : ℕ)
    → turn_from k.threads quantum (option_map (ended quantum) o) ≡ Some (begun thread)
    → steps_after quantum (suc l) o k
    ≡ Step thread ∷ turn_steps quantum l (Some (begun thread)) (after_event k (Step thread))
unfolding turn_steps
first_of_turn quantum l o k thread is = ap (taken k (turn_steps quantum l)) is

-- the steps that are left are those of the thread whose turn it is, and those of the turns after that
module _ (quantum l : ℕ) (k : AbstractMachine) (thread : ℕ) (some : 1 ≤ quantum)
    (runs : is_some (running_at k.threads thread) ≡ true) where
  abbrev next : AbstractMachine
  next = after_event k (Step thread)

  abbrev more : ℕ
  more = min quantum (suc l) - 1

  abbrev later : List Event
  later = thread_steps next thread more

  all_steps : thread_steps k thread (min quantum (suc l)) ≡ Step thread ∷ later
  all_steps = thread_on k next thread (min quantum (suc l)) more (omega arith) runs refl

  over : turn_steps quantum (l - length later) (Some (lengthened (length later) (begun thread))) (after_events next later)
      ≡ steps_after quantum (l - length later) (Some (begun thread)) (after_events next later)
  over =
      over_steps quantum (l - length later) (lengthened (length later) (begun thread)) (ended quantum (begun thread))
      (after_events next later) (λ left. by left (nat_lt (length later) more) refl)
    where
      threads : List Thread
      threads = (after_events next later).threads

      by : 1 ≤ l - length later → (b : Bool) → nat_lt (length later) more ≡ b
          → turn_from threads quantum (Some (lengthened (length later) (begun thread)))
          ≡ turn_from threads quantum (Some (ended quantum (begun thread)))
      by left true fewer =
          let less : length later < more = grind (arith, nat_tests) in
          let ends = ended_after more next thread less in
          after_end threads quantum (lengthened (length later) (begun thread)) ends
          ∙ sym (after_end threads quantum (ended quantum (begun thread)) ends)
      by left false all =
          let most : more ≤ length later = grind (arith, nat_tests) in
          let few = few_steps more next thread in
          after_all threads quantum (lengthened (length later) (begun thread)) (omega (arith, left, most, few, some))
          ∙ sym (after_all threads quantum (ended quantum (begun thread)) (omega arith))

  pub turn_goes : (o : Option Turn)
      → turn_from k.threads quantum (option_map (ended quantum) o) ≡ Some (begun thread)
      → steps_after quantum (suc l) o k
      ≡ thread_steps k thread (min quantum (suc l))
      ++ steps_after quantum (suc l - length (thread_steps k thread (min quantum (suc l)))) (Some (begun thread))
      (after_events k (thread_steps k thread (min quantum (suc l))))
  unfolding after_events
  turn_goes o is =
      let n = length later in
      let less : l - n ≡ suc l - suc n = omega arith in
      let P : List Event → Type 0 = λ es. steps_after quantum (suc l) o k
      ≡ es ++ steps_after quantum (suc l - length es) (Some (begun thread)) (after_events k es) in
      subst P (sym all_steps)
      (first_of_turn quantum l o k thread is
      ∙ ap (λ (es : List Event). Step thread ∷ es)
      (batch more quantum l (begun thread) next (omega (arith, some)) (omega arith))
      ∙ ap (λ (es : List Event). Step thread ∷ (later ++ es)) over
      ∙ ap (λ (i : ℕ). Step thread ∷ (later ++ steps_after quantum i (Some (begun thread)) (after_events next later)))
      less)

-- what is left after a turn's steps were made
pub record TurnOn (first : Watched) (all : List Event) (made count quantum n : ℕ) (now : Watched) (old new : Schedule)
    : Type 0 where
  pub order : IsOrder new
  pub left : new.left + 1 ≡ old.left
  pub some : 1 ≤ n
  pub few : made + n ≤ count
  pub goes : Goes first all (made + n) now (steps_after quantum (count - (made + n)) new.turn now.machine)

pub turn_on : (first : Watched) (all : List Event) (made count quantum n m : ℕ) (s now : Watched) (old new : Schedule)
    (thread : ℕ) → 1 ≤ quantum → made < count → IsOrder old → old.left ≡ suc m
    → Goes first all made s (steps_after quantum (count - made) old.turn s.machine)
    → option_map thread_of (next_turn old s.machine.threads) ≡ Some thread
    → is_some (running_at s.machine.threads thread) ≡ true
    → new ≡ after_turn old (next_turn old s.machine.threads)
    → n ≡ length (thread_steps s.machine thread (min quantum (count - made)))
    → now ≡ watched_after_all s (thread_steps s.machine thread (min quantum (count - made)))
    → TurnOn first all made count quantum n now old new
turn_on first all made count quantum n m s now old new thread some fewer is left goes has runs next long after =
    let k = s.machine in
    let l = count - (made + 1) in
    let there : count - made ≡ suc l = omega (arith, fewer) in
    let found = next_begun old k.threads m thread is left has in
    let new_is : new ≡ after_turn old (Some (begun thread)) = next ∙ ap (after_turn old) found in
    let turn_is : new.turn ≡ Some (begun thread) = ap (λ (o : Schedule). o.turn) new_is in
    let events = thread_steps k thread (min quantum (count - made)) in
    let turned = turn_goes quantum l k thread some runs old.turn
    (sym (next_in_order old k.threads quantum m is left) ∙ found) in
    let P : ℕ → Type 0 = λ c. steps_after quantum c old.turn k
    ≡ thread_steps k thread (min quantum c)
    ++ steps_after quantum (c - length (thread_steps k thread (min quantum c))) (Some (begun thread))
    (after_events k (thread_steps k thread (min quantum c))) in
    let split = subst P (sym there) turned in
    let machine : now.machine ≡ after_events k events =
    ap (λ (w : Watched). w.machine) after ∙ machine_after_all s events in
    let rest : count - made - length events ≡ count - (made + n) = omega (arith, long) in
    let later : steps_after quantum (count - made - length events) (Some (begun thread)) (after_events k events)
    ≡ steps_after quantum (count - (made + n)) new.turn now.machine =
    ap (λ (i : ℕ). steps_after quantum i (Some (begun thread)) (after_events k events)) rest
    ∙ ap (λ (o : Option Turn). steps_after quantum (count - (made + n)) o (after_events k events)) (sym turn_is)
    ∙ ap (λ (a : AbstractMachine). steps_after quantum (count - (made + n)) new.turn a) (sym machine) in
    let one : n ≡ suc (length (thread_steps (after_event k (Step thread)) thread (min quantum (suc l) - 1))) =
    long ∙ ap (λ (c : ℕ). length (thread_steps k thread (min quantum c))) there
    ∙ ap length (all_steps quantum l k thread some runs) in
    let few = few_steps (min quantum (count - made)) k thread in
    record {
      order = record {
        single = ap (λ (o : Schedule). o.quantum) new_is ∙ is.single;
        some = subst (λ (o : Option Turn). IfSome o (λ turn. 1 ≤ turn.had)) (sym turn_is) (omega arith);
      };
      left = let less : new.left ≡ old.left - 1 = ap (λ (o : Schedule). o.left) new_is in omega (arith, left, less);
      some = omega (arith, one);
      few = omega (arith, long, few, fewer);
      goes = goes_far first all made n s now events (steps_after quantum (count - made) old.turn k)
          (steps_after quantum (count - (made + n)) new.turn now.machine)
          (split ∙ ap (λ (es : List Event). events ++ es) later) long after goes;
    }
