-- A fold whose steps commute comes to the same in whichever order its items are.
use Rattle.std.proofs.Common.{◌≡◌, ℕ, zero, suc, ◌<◌, List, [], ◌∷◌, length, get_or, set, fold, swap, refl, sym, ap}
use Rattle.std.proofs.Common.{◌∙◌, arith, ◌⊎◌, inl, inr, subst}
use Rattle.std.specs.List.Sorted.{IsPermutation}
use Rattle.std.proofs.lemmas.Bool.{cases_order}
use Rattle.std.proofs.lemmas.List.{set-get_or}
use Rattle.std.proofs.lemmas.List.Sorted.{IsPermutation-keeps}

module _ {X S : Type 0} (f : S → X → S) (commute : (s : S) (x y : X) → f (f s x) y ≡ f (f s y) x) where
  -- an item before a list and one in it are exchanged
  first_exchanged : (s : S) (xs : List X) (j : ℕ) (x y : X) → j < length xs
      → fold f (f s x) (set xs j y) ≡ fold f (f s y) (set xs j x)
  first_exchanged s [] j x y less = absurd (omega arith)
  first_exchanged s (z ∷ zs) zero x y less = ap (λ (t : S). fold f t zs) (commute s x y)
  first_exchanged s (z ∷ zs) (suc j) x y less =
      ap (λ (t : S). fold f t (set zs j y)) (commute s x z)
      ∙ first_exchanged (f s z) zs j x y (omega arith)
      ∙ ap (λ (t : S). fold f t (set zs j x)) (commute s z y)

  -- two items of a list
  exchanged : (s : S) (xs : List X) (i j : ℕ) (x y : X) → (i < j) ⊎ (j < i) → i < length xs → j < length xs
      → fold f s (set (set xs i x) j y) ≡ fold f s (set (set xs i y) j x)
  exchanged s [] i j x y differ a b = absurd (omega arith)
  exchanged s (z ∷ zs) zero zero x y differ a b = absurd (grind arith)
  exchanged s (z ∷ zs) zero (suc j) x y differ a b = first_exchanged s zs j x y (omega arith)
  exchanged s (z ∷ zs) (suc i) zero x y differ a b = sym (first_exchanged s zs i x y (omega arith))
  exchanged s (z ∷ zs) (suc i) (suc j) x y differ a b =
      exchanged (f s z) zs i j x y (grind arith) (omega arith) (omega arith)

  put_back : (s : S) (xs : List X) (i j : ℕ) (d : X)
      → fold f s (set (set xs i (get_or xs i d)) j (get_or xs j d)) ≡ fold f s xs
  put_back s xs i j d =
      ap (λ (ys : List X). fold f s (set ys j (get_or xs j d))) (set-get_or xs i d)
      ∙ ap (fold f s) (set-get_or xs j d)

  swapped : (s : S) (xs : List X) (i j : ℕ) → i < length xs → j < length xs → fold f s (swap xs i j) ≡ fold f s xs
  swapped s [] i j a b = absurd (omega arith)
  swapped s (d ∷ ys) i j a b =
      let xs = d ∷ ys in
      elim (cases_order i j) [
        | inl same ↦ subst (λ (k : ℕ). fold f s (swap xs i k) ≡ fold f s xs) same (put_back s xs i i d)
        | inr differ ↦ exchanged s xs i j (get_or xs j d) (get_or xs i d) differ a b ∙ put_back s xs i j d
      ]

  pub order_has_none : (s : S) (xs ys : List X) → IsPermutation xs ys → fold f s ys ≡ fold f s xs
  order_has_none s xs ys same =
      IsPermutation-keeps xs (λ l. fold f s l ≡ fold f s xs) refl (λ l i j a b h. swapped s l i j a b ∙ h) ys same
