-- How many things of a list pass a test, where those that pass come first.
use Rattle.std.proofs.Common.{◌≡◌, ℕ, zero, suc, ◌≤◌, ◌<◌, Bool, true, false, cond, List, [], ◌∷◌, length, get_or}
use Rattle.std.proofs.Common.{refl, ap, sym, ◌∙◌, arith, ◌⊎◌, inl, inr, Some, None, nat_lt, map, ◌≢◌}
use Rattle.std.proofs.Math.ListN.{set}
use Rattle.std.proofs.lemmas.List.{same_lists, length-map, get_or-map, length-set, get_or-set_other}
use Rattle.std.proofs.lemmas.Grind.{get_or-set_at}
use Rattle.std.specs.List.{filter, position, position_or_len}
use Rattle.std.proofs.lemmas.List.Sums.{fails_before_first}
use Rattle.std.proofs.lemmas.Bool.Decides.{nat_tests}

module _ {X : Type 0} (p : X → Bool) where
  -- what passes comes first
  abbrev pub Falls : List X → Type 0
  Falls xs = (i j : ℕ) (d : X) → i < j → j < length xs → p (get_or xs j d) ≡ true → p (get_or xs i d) ≡ true

  pub falls_on : (x : X) (xs : List X) → Falls (x ∷ xs) → Falls xs
  falls_on x xs falls i j d l m h = falls (suc i) (suc j) d (omega arith) (omega arith) h

  -- after one that fails all do
  pub fails_on : (x : X) (xs : List X) → Falls (x ∷ xs) → p x ≡ false → (k : ℕ) (d : X) → k < length xs
      → p (get_or xs k d) ≡ false
  fails_on x xs falls e k d l = by_test (p (get_or xs k d)) refl
    where
      by_test : (b : Bool) → p (get_or xs k d) ≡ b → p (get_or xs k d) ≡ false
      by_test false is = is
      by_test true is = let first = falls 0 (suc k) d (omega arith) (omega arith) is in absurd (cc)

  pub none_pass : (xs : List X) → ((k : ℕ) (d : X) → k < length xs → p (get_or xs k d) ≡ false)
      → length (filter p xs) ≡ 0
  none_pass [] fail = refl
  none_pass (x ∷ xs) fail =
      rw (fail 0 x (omega arith)) (none_pass xs (λ k d l. fail (suc k) d (omega arith)))

  pub passed : (xs : List X) → Falls xs → (k : ℕ) (d : X) → k < length (filter p xs) → p (get_or xs k d) ≡ true
  passed [] falls k d l = absurd (omega arith)
  passed (x ∷ xs) falls k d l = by_test (λ n m. passed xs (falls_on x xs falls) n d m) (p x) refl l k refl
    where
      by_test : ((n : ℕ) → n < length (filter p xs) → p (get_or xs n d) ≡ true) → (b : Bool) → p x ≡ b
          → k < length (cond b (x ∷ filter p xs) (filter p xs)) → (n : ℕ) → k ≡ n
          → p (get_or (x ∷ xs) n d) ≡ true
      by_test rest true e m zero is = e
      by_test rest true e m (suc n) is = rest n (omega arith)
      by_test rest false e m n is =
          let none = none_pass xs (fails_on x xs falls e) in
          absurd (omega (arith, none))

  pub failed : (xs : List X) → Falls xs → (k : ℕ) (d : X) → length (filter p xs) ≤ k → k < length xs
      → p (get_or xs k d) ≡ false
  failed [] falls k d l m = absurd (omega arith)
  failed (x ∷ xs) falls k d l m = by_test (λ n o q. failed xs (falls_on x xs falls) n d o q) (p x) refl l k refl
    where
      by_test : ((n : ℕ) → length (filter p xs) ≤ n → n < length xs → p (get_or xs n d) ≡ false) → (b : Bool) → p x ≡ b
          → length (cond b (x ∷ filter p xs) (filter p xs)) ≤ k → (n : ℕ) → k ≡ n → p (get_or (x ∷ xs) n d) ≡ false
      by_test rest true e o zero is = absurd (omega arith)
      by_test rest true e o (suc n) is = rest n (omega arith) (omega arith)
      by_test rest false e o zero is = e
      by_test rest false e o (suc n) is = fails_on x xs falls e n d (omega arith)

  -- where those before a place pass and the others fail, the place is how many pass
  pub parted : (xs : List X) (n : ℕ) → n ≤ length xs → ((k : ℕ) (d : X) → k < n → k < length xs → p (get_or xs k d) ≡ true)
      → ((k : ℕ) (d : X) → n ≤ k → k < length xs → p (get_or xs k d) ≡ false) → length (filter p xs) ≡ n
  parted [] n bound pass fail = omega arith
  parted (x ∷ xs) zero bound pass fail = none_pass (x ∷ xs) (λ k d l. fail k d (omega arith) l)
  parted (x ∷ xs) (suc n) bound pass fail =
      rw (pass 0 x (omega arith) (omega arith)) (ap suc (parted xs n (omega arith)
      (λ k d l m. pass (suc k) d (omega arith) (omega arith))
      (λ k d l m. fail (suc k) d (omega arith) (omega arith))))

  pub length-filter-le : (xs : List X) → length (filter p xs) ≤ length xs
  length-filter-le [] = omega arith
  length-filter-le (x ∷ xs) =
      let rest = length-filter-le xs in
      elim (p x) as (λ b. length (cond b (x ∷ filter p xs) (filter p xs)) ≤ length (x ∷ xs)) [
        | true ↦ omega arith
        | false ↦ omega arith
      ]

  -- what is looked for and isn't found fails everywhere
  pub position-None : (xs : List X) → position p xs ≡ None → (k : ℕ) (d : X) → k < length xs → p (get_or xs k d) ≡ false
  position-None xs none k d l =
      fails_before_first p xs k d (behind (position_or_len p xs) (length xs) none l)
    where
      behind : (m n : ℕ) → cond (nat_lt m n) (Some m) None ≡ None → k < n → k < m
      behind m n is l = elim (nat_lt m n) as (λ b. cond b (Some m) None ≡ None → nat_lt m n ≡ b → k < m) [
        | true ↦ λ no e. absurd (cc)
        | false ↦ λ yes e. grind (arith, nat_tests)
      ] is refl

-- things of which those before a place were changed, and the others would stay
pub map_is : {X : Type 0} (f : X → X) (ps qs : List X) (i : ℕ) → length qs ≡ length ps
    → ((k : ℕ) (d : X) → k < i → get_or qs k d ≡ f (get_or ps k d))
    → ((k : ℕ) (d : X) → i ≤ k → get_or qs k d ≡ get_or ps k d)
    → ((k : ℕ) (d : X) → i ≤ k → k < length ps → f (get_or ps k d) ≡ get_or ps k d)
    → qs ≡ map f ps
map_is f ps qs i same done rest later =
    same_lists qs (map f ps) (same ∙ sym (length-map ps f)) (λ k d l.
    let m : k < length ps = omega (arith, same) in
    elim (before_or_from k i) [
      | inl b ↦ done k d b ∙ sym (get_or-map f ps k d d m)
      | inr h ↦ rest k d h ∙ (sym (later k d h m) ∙ sym (get_or-map f ps k d d m))
    ])
  where
    before_or_from : (k i : ℕ) → (k < i) ⊎ (i ≤ k)
    before_or_from k i = grind arith

-- things of which one was changed, and the others would stay
pub set_is : {X : Type 0} (f : X → X) (xs : List X) (i : ℕ) (y : X) → i < length xs → ((d : X) → y ≡ f (get_or xs i d))
    → ((k : ℕ) (d : X) → (k < i) ⊎ (i < k) → k < length xs → f (get_or xs k d) ≡ get_or xs k d)
    → set xs i y ≡ map f xs
set_is f xs i y l here others =
    same_lists (set xs i y) (map f xs) (length-set xs i y ∙ sym (length-map xs f)) (λ k d m'.
    let m : k < length xs = rw (length-set xs i y) at m' in
    elim (place k i) [
      | inl is ↦
          get_or-set_at xs i k y d is l
          ∙ (here d ∙ (sym (ap (λ n. f (get_or xs n d)) is) ∙ sym (get_or-map f xs k d d m)))
      | inr side ↦
          get_or-set_other xs i k y d (apart k i side)
          ∙ (sym (others k d side m) ∙ sym (get_or-map f xs k d d m))
    ])
  where
    place : (k i : ℕ) → (k ≡ i) ⊎ ((k < i) ⊎ (i < k))
    place k i = grind arith

    apart : (k i : ℕ) → (k < i) ⊎ (i < k) → k ≢ i
    apart k i (inl l) e = omega arith
    apart k i (inr l) e = omega arith

-- what stands at a place, whatever is answered past the end
pub same_at : {X : Type 0} (xs : List X) (i : ℕ) (d e : X) → i < length xs → get_or xs i d ≡ get_or xs i e
same_at [] i d e l = absurd (omega arith)
same_at (x ∷ xs) zero d e l = refl
same_at (x ∷ xs) (suc i) d e l = same_at xs i d e (omega arith)
