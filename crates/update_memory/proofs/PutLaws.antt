-- What holds of things when one more is put among them.
use Rattle.std.proofs.Common.{◌≡◌, suc, Bool, true, false, cond, nat_lt, List, [], ◌∷◌, map}
use Rattle.std.proofs.Common.{get_or, refl, arith}
use Rattle.std.specs.List.{list_any, All, AllPairs, Contains}
use Rattle.std.proofs.lemmas.Bool.Decides.{nat_tests}
use Rattle.std.proofs.lemmas.Bool.{or_parts}
use Rattle.ks_base.specs.declared.places.Range.{Range}
use Rattle.image_memory.specs.Ranges.{meets, MeetsNone, put_in}

meets_back : (a b : Range) → meets a b ≡ false → meets b a ≡ false
meets_back a b h = grind (arith, nat_tests)

module _ {X : Type 0} (range : X → Range) where
  -- a range that meets none of some things and not the one that is put among them
  pub MeetsNone-put : (own : Range) (x : X) (xs : List X) → meets own (range x) ≡ false → MeetsNone range own xs
      → MeetsNone range own (put_in range x xs)
  MeetsNone-put own x [] here apart = rw here refl
  MeetsNone-put own x (y ∷ ys) here apart =
      by_order (nat_lt (range x).low (range y).low)
      (MeetsNone-put own x ys here
      (or_parts (meets own (range y)) (list_any (λ z. meets own (range z)) ys) apart).1)
    where
      by_order : (b : Bool) → MeetsNone range own (put_in range x ys)
          → MeetsNone range own (cond b (x ∷ y ∷ ys) (y ∷ put_in range x ys))
      by_order true rest = rw here apart
      by_order false rest =
          let first = (or_parts (meets own (range y)) (list_any (λ z. meets own (range z)) ys) apart).0 in rw first rest

  -- ranges of things that lie apart, of one another and of others, when the first of them was put among the others
  pub still_clear : (x : X) (more xs : List X) → AllPairs (λ a b. meets a b ≡ false) (map range (x ∷ more))
      → All (λ own. MeetsNone range own xs) (map range (x ∷ more))
      → All (λ own. MeetsNone range own (put_in range x xs)) (map range more)
  still_clear x more xs apart clear k d l =
      MeetsNone-put (get_or (map range more) k d) x xs
      (meets_back (range x) (get_or (map range more) k d) (apart 0 (suc k) d (omega arith) (omega arith)))
      (clear (suc k) d (omega arith))

  -- and what was put is there
  pub there_now : (x : X) (xs : List X) → Contains (put_in range x xs) x
  there_now x [] = (0, omega arith, refl)
  there_now x (z ∷ zs) = by_order (nat_lt (range x).low (range z).low) (there_now x zs)
    where
      by_order : (b : Bool) → Contains (put_in range x zs) x
          → Contains (cond b (x ∷ z ∷ zs) (z ∷ put_in range x zs)) x
      by_order true rest = (0, omega arith, refl)
      by_order false rest = let m = rest.1 in (suc rest.0, omega arith, rest.2)

-- the rest of things that lie apart
pub pairs_tail : {X : Type 0} (R : X → X → Type 0) (x : X) (xs : List X) → AllPairs R (x ∷ xs) → AllPairs R xs
pairs_tail R x xs h i j d first l = h (suc i) (suc j) d (omega arith) (omega arith)
