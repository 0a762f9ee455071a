-- Why the stacks and the threads stay well placed.
use Rattle.std.proofs.Common.{◌≡◌, ℕ, zero, suc, Bool, true, false, ◌&&◌, ◌||◌, if◌then◌else◌, ◌⊎◌, inl, inr, List, []}
use Rattle.std.proofs.Common.{◌∷◌, ◌++◌, length, set, Contains, Option, Some, None, refl, sym, subst, ap, ◌∙◌, arith}
use Rattle.std.specs.List.{slice_get}
use Rattle.std.proofs.lemmas.Bool.Decides.{nat_tests}
use Rattle.std.proofs.lemmas.List.Elements.{All-get_or, All-push, All-set}
use Rattle.std.proofs.lemmas.Option.{get_or_from_slice_get, slice_get_within}
use Rattle.ks_base.specs.declared.places.Range.{Range}
use Rattle.ia32_step.specs.declared.types.Thread.{Thread}
use Rattle.ia32_step.specs.Threads.{runs}
use Rattle.image_threads.specs.Program.{if_running, running_at, WellPlaced}
use Rattle.image_memory.specs.Ranges.{are_same}
use Rattle.image_threads.specs.Spawning.{is_taken}

running_is : (found : Option Thread) (a : Thread) → if_running found ≡ Some a → (found ≡ Some a) × (runs a ≡ true)
running_is None a h = cc
running_is (Some x) a h =
    elim (runs x) as (λ b. runs x ≡ b → (if b then Some x else None) ≡ Some a → (Some x ≡ Some a) × (runs a ≡ true)) [
      | true ↦ λ r e. (e, let same : x ≡ a = cc in rw (← same) r)
      | false ↦ λ _ e. cc
    ] refl h

-- a stack that isn't taken is no running thread's
not_taken : (threads : List Thread) (stack : Range) (i : ℕ) (a : Thread)
    → is_taken threads stack ≡ false → running_at threads i ≡ Some a
    → a.stack ≡ stack → ⊥
not_taken [] stack i a free there same = cc
not_taken (x ∷ xs) stack zero a free there same =
    let found = running_is (Some x) a there in
    let is : x ≡ a = let e = found.0 in cc in
    let itself : are_same a.stack stack ≡ true = rw same (grind (arith, nat_tests)) in
    let taken : is_taken (x ∷ xs) stack ≡ true = rw (is, found.1, itself) refl in
    cc
not_taken (x ∷ xs) stack (suc i) a free there same =
    not_taken xs stack i a (later (runs x && are_same x.stack stack) (is_taken xs stack) free) there same
  where
    later : (p q : Bool) → (p || q) ≡ false → q ≡ false
    later true q h = cc
    later false q h = h

-- who runs once a thread was added
running_on : (threads : List Thread) (t : Thread) (i : ℕ) (a : Thread) → running_at (threads ++ t ∷ []) i ≡ Some a
    → (running_at threads i ≡ Some a) ⊎ ((i ≡ length threads) × (a ≡ t))
running_on [] t zero a there = inr (refl, let e = (running_is (Some t) a there).0 in cc)
running_on [] t (suc i) a there = cc
running_on (x ∷ xs) t zero a there = inl there
running_on (x ∷ xs) t (suc i) a there =
    elim (running_on xs t i a there) [
      | inl before ↦ inl before
      | inr new ↦ inr (ap suc new.0, new.1)
    ]

pub placed_on : (stacks : List Range) (threads : List Thread) (t : Thread)
    → WellPlaced stacks threads → Contains stacks t.stack
    → is_taken threads t.stack ≡ false → WellPlaced stacks (threads ++ t ∷ [])
placed_on stacks threads t placed there free = record {
  bounds = placed.bounds;
  ascend = placed.ascend;
  listed = All-push (λ (thread : Thread). Contains stacks thread.stack) threads t placed.listed there;
  apart = λ i j a b p q same. elim (running_on threads t i a p) [
    | inl before ↦ elim (running_on threads t j b q) [
      | inl other ↦ placed.apart i j a b before other same
      | inr new ↦ absurd (not_taken threads t.stack i a free before (same ∙ ap (λ (x : Thread). x.stack) new.1))
    ]
    | inr new ↦ elim (running_on threads t j b q) [
      | inl other ↦ absurd (not_taken threads t.stack j b free other (sym same ∙ ap (λ (x : Thread). x.stack) new.1))
      | inr too ↦ new.0 ∙ sym too.0
    ]
  ];
}

-- who ran before a thread took a running one's place
record Ran (threads : List Thread) (i : ℕ) (stack : Range) : Type 0 where
  thread : Thread
  there : running_at threads i ≡ Some thread
  same : thread.stack ≡ stack

ran : (threads : List Thread) (n : ℕ) (old t : Thread) (i : ℕ) (a : Thread)
    → running_at threads n ≡ Some old → t.stack ≡ old.stack
    → running_at (set threads n t) i ≡ Some a → Ran threads i a.stack
ran [] n old t i a was same now = cc
ran (x ∷ xs) zero old t zero a was same now =
    let is : t ≡ a = let e = (running_is (Some t) a now).0 in cc in
    record { thread = old; there = was; same = sym same ∙ ap (λ (y : Thread). y.stack) is }
ran (x ∷ xs) zero old t (suc i) a was same now = record { thread = a; there = now; same = refl }
ran (x ∷ xs) (suc n) old t zero a was same now = record { thread = a; there = now; same = refl }
ran (x ∷ xs) (suc n) old t (suc i) a was same now =
    let before = ran xs n old t i a was same now in
    record { thread = before.thread; there = before.there; same = before.same }

pub placed_set : (stacks : List Range) (threads : List Thread) (n : ℕ) (old t : Thread) → WellPlaced stacks threads
    → running_at threads n ≡ Some old → t.stack ≡ old.stack → WellPlaced stacks (set threads n t)
placed_set stacks threads n old t placed was same =
    let P : Thread → Type 0 = λ thread. Contains stacks thread.stack in
    let at = (running_is (slice_get threads n) old was).0 in
    let had : P old = subst P (get_or_from_slice_get threads n old old at)
    (All-get_or P threads n old (slice_get_within threads n old at) placed.listed) in
    record {
      bounds = placed.bounds;
      ascend = placed.ascend;
      listed = All-set P threads n t (rw same had) placed.listed;
      apart = λ i j a b p q e.
          let one = ran threads n old t i a was same p in
          let other = ran threads n old t j b was same q in
          placed.apart i j one.thread other.thread one.there other.there (one.same ∙ (e ∙ sym other.same));
    }
