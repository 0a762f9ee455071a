-- The end and the total of things that each have a range, with one more at their end.
use Rattle.std.proofs.Common.{◌≡◌, ℕ, ◌+◌, ◌-◌, ◌≤◌, ◌<◌, List, [], ◌∷◌, ◌++◌, refl, subst, arith}
use Rattle.std.specs.List.{All}
use Rattle.std.proofs.lemmas.List.Elements.{All-head, All-tail}
use Rattle.ks_base.specs.declared.places.Range.{Range}
use Rattle.image_memory.specs.Ranges.{Ascends}
use Rattle.image_file.specs.Rules.{end_of, total_of}

module _ {X : Type 0} (range : X → Range) where
  pub end_of-push : (floor : ℕ) (xs : List X) (x : X) → end_of range floor (xs ++ x ∷ []) ≡ (range x).high
  end_of-push floor [] x = refl
  end_of-push floor (y ∷ ys) x = end_of-push (range y).high ys x

  pub total_of-push : (xs : List X) (x : X) →
      total_of range (xs ++ x ∷ []) ≡ total_of range xs + ((range x).high - (range x).low)
  total_of-push [] x = omega arith
  total_of-push (y ∷ ys) x = let h = total_of-push ys x in omega arith

  pub Ascends-push : (floor : ℕ) (xs : List X) (x : X) → Ascends range floor xs →
      end_of range floor xs ≤ (range x).low → (range x).low < (range x).high → Ascends range floor (xs ++ x ∷ [])
  Ascends-push floor [] x up low full = (low, full, tt)
  Ascends-push floor (y ∷ ys) x up low full = (up.0, up.1, Ascends-push (range y).high ys x up.2 low full)

  -- what stands between the things before it and those after it
  pub ends_below : (floor : ℕ) (before : List X) (x : X) (after : List X) →
      Ascends range floor (before ++ x ∷ after) → end_of range floor before ≤ (range x).low
  ends_below floor [] x after up = up.0
  ends_below floor (y ∷ ys) x after up = ends_below (range y).high ys x after up.2

  pub total_below : (before : List X) (x : X) (after : List X) →
      total_of range before + ((range x).high - (range x).low) ≤ total_of range (before ++ x ∷ after)
  total_below [] x after = omega arith
  total_below (y ∷ ys) x after = let h = total_below ys x after in omega arith

All_between : {X : Type 0} (P : X → Type 0) (before : List X) (x : X) (after : List X) → All P (before ++ x ∷ after) →
    P x
All_between P [] x after h = All-head P x after h
All_between P (y ∷ ys) x after h = All_between P ys x after (All-tail P y (ys ++ x ∷ after) h)

pub All_here : {X : Type 0} (P : X → Type 0) (xs before : List X) (x : X) (after : List X) →
    xs ≡ before ++ x ∷ after → All P xs → P x
All_here {X} P xs before x after parts h = All_between P before x after (subst (λ (ys : List X). All P ys) parts h)
