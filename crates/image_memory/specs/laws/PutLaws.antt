-- Laws of things in order when one is put among them, for the crates above.
use Rattle.std.proofs.Common.{◌≡◌, ℕ, ◌≤◌, ◌<◌, true, false, arith, nat_lt, zero, suc, Bool, cond, List, [], ◌∷◌}
use Rattle.std.proofs.Common.{length, get_or, refl, ap}
use Rattle.std.proofs.lemmas.Bool.Decides.{nat_tests}
use Rattle.std.specs.List.{insert, list_any, All, Contains}
use Rattle.std.proofs.lemmas.List.Elements.{All-cons, All-head, All-tail}
use Rattle.std.proofs.lemmas.Bool.{or_parts}
use Rattle.ks_base.specs.declared.places.Range.{Range}
use Rattle.image_memory.specs.Ranges.{Ascends, meets, MeetsNone, put_in}

-- whether an address lies below another, by what is known of them
pub not_above : (pc low : ℕ) → low ≤ pc → nat_lt pc low ≡ false
not_above pc low h = grind (arith, nat_tests)

pub is_above : (pc low : ℕ) → pc < low → nat_lt pc low ≡ true
is_above pc low h = grind (arith, nat_tests)

goes_before : (a b : Range) → nat_lt a.low b.low ≡ true → b.low < b.high → meets a b ≡ false → a.high ≤ b.low
goes_before a b first full apart = grind (arith, nat_tests)

goes_behind : (a b : Range) → nat_lt a.low b.low ≡ false → a.low < a.high → meets a b ≡ false → b.high ≤ a.low
goes_behind a b first full apart = grind (arith, nat_tests)

module _ {X : Type 0} (range : X → Range) where
  -- a thing put at the place after all that begin at or below it
  pub insert_is_put : (x : X) (xs : List X) (n : ℕ) → n ≤ length xs
      → ((k : ℕ) (d : X) → k < n → (range (get_or xs k d)).low ≤ (range x).low)
      → ((k : ℕ) (d : X) → n ≤ k → k < length xs → (range x).low < (range (get_or xs k d)).low)
      → insert xs n x ≡ put_in range x xs
  insert_is_put x [] zero bound before after = refl
  insert_is_put x [] (suc n) bound before after = absurd (omega arith)
  insert_is_put x (y ∷ ys) zero bound before after = rw (is_above _ _ (after 0 y (omega arith) (omega arith))) refl
  insert_is_put x (y ∷ ys) (suc n) bound before after =
      rw (not_above _ _ (before 0 y (omega arith)))
      (ap (λ (zs : List X). y ∷ zs) (insert_is_put x ys n (omega arith)
      (λ k d l. before (suc k) d (omega arith))
      (λ k d l m. after (suc k) d (omega arith) (omega arith))))

  -- what holds of a thing and of others holds of all of them then
  pub All-put : (P : X → Type 0) (x : X) (xs : List X) → P x → All P xs → All P (put_in range x xs)
  All-put P x [] h all = All-cons P x [] h all
  All-put P x (y ∷ ys) h all =
      elim (nat_lt (range x).low (range y).low) as (λ b. All P (cond b (x ∷ y ∷ ys) (y ∷ put_in range x ys))) [
        | true ↦ All-cons P x (y ∷ ys) h all
        | false ↦ All-cons P y (put_in range x ys) (All-head P y ys all) (All-put P x ys h (All-tail P y ys all))
      ]

  -- things that ascend still do when one is put among them that meets none
  pub Ascends-put : (floor : ℕ) (x : X) (xs : List X) → floor ≤ (range x).low → (range x).low < (range x).high
      → MeetsNone range (range x) xs → Ascends range floor xs → Ascends range floor (put_in range x xs)
  Ascends-put floor x [] low full apart up = (low, full, tt)
  Ascends-put floor x (y ∷ ys) low full apart up =
      let parts = or_parts (meets (range x) (range y)) (list_any (λ z. meets (range x) (range z)) ys) apart in
      let here = parts.0 in
      let rest = parts.1 in
      elim (nat_lt (range x).low (range y).low)
      as (λ b. nat_lt (range x).low (range y).low ≡ b → Ascends range floor
      (cond b (x ∷ y ∷ ys) (y ∷ put_in range x ys))) [
        | true ↦ λ e. (low, full, (goes_before (range x) (range y) e up.1 here, up.1, up.2))
        | false ↦ λ e. (
          up.0,
          up.1,
          Ascends-put (range y).high x ys
              (goes_behind (range x) (range y) e full here) full rest up.2,
        )
      ] refl

  -- what is there stays there
  pub there_still : (x y : X) (xs : List X) (k : ℕ) → k < length xs → get_or xs k y ≡ y
      → Contains (put_in range x xs) y
  there_still x y [] k l is = absurd (omega arith)
  there_still x y (z ∷ zs) zero l is = by_order (nat_lt (range x).low (range z).low)
    where
      by_order : (b : Bool) → Contains (cond b (x ∷ z ∷ zs) (z ∷ put_in range x zs)) y
      by_order true = (1, omega arith, is)
      by_order false = (0, omega arith, is)
  there_still x y (z ∷ zs) (suc k) l is =
      by_order (nat_lt (range x).low (range z).low) (there_still x y zs k (omega arith) is)
    where
      by_order : (b : Bool) → Contains (put_in range x zs) y
          → Contains (cond b (x ∷ z ∷ zs) (z ∷ put_in range x zs)) y
      by_order true rest = (suc (suc k), omega arith, is)
      by_order false rest = let m = rest.1 in (suc rest.0, omega arith, rest.2)

  -- so all that some things hold is held when one is put among them
  pub Contains-put : (x y : X) (xs : List X) → Contains xs y → Contains (put_in range x xs) y
  Contains-put x y xs at = there_still x y xs at.0 at.1 at.2
