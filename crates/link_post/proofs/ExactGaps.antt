-- What is left of free ranges holds each address that is free and wasn't taken, and gaps of one range don't touch.
use Rattle.std.proofs.Common.{◌≡◌, ℕ, ◌<◌, ◌≤◌, min, max, Bool, true, false, not, ◌&&◌, ◌||◌, List, [], ◌∷◌}
use Rattle.std.proofs.Common.{◌++◌, map, All, refl, sym, ap, ◌∙◌, arith, inl, inr, append_assoc, nat_lt}
use Rattle.std.proofs.Common.{flat_map, fold}
use Rattle.std.specs.List.{list_any}
use Rattle.std.proofs.Math.Bool.{and-or_distrib_right}
use Rattle.std.proofs.lemmas.Bool.{ltb-true, ltb-false, cases_Bool}
use Rattle.std.proofs.lemmas.Bool.Decides.{nat_tests}
use Rattle.std.proofs.lemmas.List.Elements.{All-nil, All-append}
use Rattle.std.proofs.lemmas.List.Folds.{list_any-append}
use Rattle.ks_base.specs.declared.places.Range.{Range}
use Rattle.image_memory.specs.Ranges.{from_to, lies_in}
use Rattle.link_post.specs.Places.{cut, without, is_one_of, NeverTouch}
use Rattle.link_post.proofs.CutLaws.{part}
use Rattle.link_post.proofs.GapLaws.{each_part, each_cut}

-- ---- which addresses are left
or_none : (b : Bool) → (b || false) ≡ b
or_none true = refl
or_none false = refl

in_part : (a low high : ℕ) → is_one_of a (part low high) ≡ lies_in a (from_to low high)
in_part a low high = elim (cases_Bool (nat_lt low high)) [
  | inl some ↦ rw some (or_none (lies_in a (from_to low high)))
  | inr none ↦
      let le : high ≤ low = ltb-false low high none in
      rw none (grind (arith, nat_tests, le))
]

in_parts : (a : ℕ) (t g : Range) → t.low < t.high
    → (lies_in a (from_to g.low (min g.high t.low)) || lies_in a (from_to (max g.low t.high) g.high))
    ≡ (lies_in a g && not (lies_in a t))
in_parts a t g full = grind (arith, nat_tests, full)

in_cut : (a : ℕ) (t g : Range) → t.low < t.high → is_one_of a (cut t g) ≡ (lies_in a g && not (lies_in a t))
in_cut a t g full =
    list_any-append (lies_in a) (part g.low (min g.high t.low)) (part (max g.low t.high) g.high)
    ∙ ap (λ b. b || is_one_of a (part (max g.low t.high) g.high)) (in_part a g.low (min g.high t.low))
    ∙ ap (λ b. lies_in a (from_to g.low (min g.high t.low)) || b) (in_part a (max g.low t.high) g.high)
    ∙ in_parts a t g full

in_all_cut : (a : ℕ) (t : Range) (free : List Range) → t.low < t.high
    → is_one_of a (flat_map (cut t) free) ≡ (is_one_of a free && not (lies_in a t))
in_all_cut a t [] full = refl
in_all_cut a t (g ∷ free) full =
    list_any-append (lies_in a) (cut t g) (flat_map (cut t) free)
    ∙ ap (λ b. b || is_one_of a (flat_map (cut t) free)) (in_cut a t g full)
    ∙ ap (λ b. (lies_in a g && not (lies_in a t)) || b) (in_all_cut a t free full)
    ∙ sym (and-or_distrib_right (lies_in a g) (is_one_of a free) (not (lies_in a t)))

in_empty : (a : ℕ) (t : Range) → t.high ≤ t.low → lies_in a t ≡ false
in_empty a t none = grind (arith, nat_tests, none)

and_all : (b : Bool) → b ≡ (b && not false)
and_all true = refl
and_all false = refl

in_left : (a : ℕ) (free : List Range) (t : Range)
    → is_one_of a (without free t) ≡ (is_one_of a free && not (lies_in a t))
in_left a free t = elim (cases_Bool (nat_lt t.low t.high)) [
  | inl full ↦ rw full (in_all_cut a t free (ltb-true t.low t.high full))
  | inr none ↦
      rw none (and_all (is_one_of a free)
      ∙ ap (λ b. is_one_of a free && not b) (sym (in_empty a t (ltb-false t.low t.high none))))
]

one_more : (b c d : Bool) → ((b && not c) && not d) ≡ (b && not (c || d))
one_more true true d = refl
one_more true false d = refl
one_more false c d = refl

pub exactly_left : (a : ℕ) (free ts : List Range)
    → is_one_of a (fold without free ts) ≡ (is_one_of a free && not (is_one_of a ts))
exactly_left a free [] = and_all (is_one_of a free)
exactly_left a free (t ∷ ts) =
    exactly_left a (without free t) ts
    ∙ ap (λ b. b && not (is_one_of a ts)) (in_left a free t)
    ∙ one_more (is_one_of a free) (lies_in a t) (is_one_of a ts)

any_of_mapped : {X Y : Type 0} (p : Y → Bool) (f : X → Y) (xs : List X)
    → list_any p (map f xs) ≡ list_any (λ x. p (f x)) xs
any_of_mapped p f [] = refl
any_of_mapped p f (x ∷ xs) = ap (λ b. p (f x) || b) (any_of_mapped p f xs)

pub left_of_things : {X : Type 0} (range : X → Range) (a : ℕ) (free : List Range) (xs : List X)
    → is_one_of a (fold without free (map range xs))
    ≡ (is_one_of a free && not (list_any (λ x. lies_in a (range x)) xs))
left_of_things range a free xs =
    exactly_left a free (map range xs)
    ∙ ap (λ b. is_one_of a free && not b) (any_of_mapped (lies_in a) range xs)

-- ---- what lies between
with_part : (low high : ℕ) (gs : List Range) → All (λ h. high < h.low) gs → NeverTouch gs
    → NeverTouch (part low high ++ gs)
with_part low high gs above apart = elim (cases_Bool (nat_lt low high)) [
  | inl some ↦ rw some (above, apart)
  | inr none ↦ rw none apart
]

cut_apart : (t : Range) (gs : List Range) → t.low < t.high → NeverTouch gs → NeverTouch (flat_map (cut t) gs)
cut_apart t [] full apart = tt
cut_apart t (g ∷ gs) full apart =
    let rest = flat_map (cut t) gs in
    let low = min g.high t.low in
    let upper = part (max g.low t.high) g.high in
    let above : All (λ h. g.high < h.low) rest =
    each_cut (λ h. g.high < h.low) (λ h. g.high < h.low) t (λ h b. b) (λ h b. omega arith) gs apart.0 in
    let below : All (λ h. low < h.low) rest =
    each_cut (λ h. g.high < h.low) (λ h. low < h.low) t (λ h b. omega arith) (λ h b. omega arith) gs apart.0 in
    let own_parts : All (λ h. low < h.low) upper =
    each_part (λ h. low < h.low) (max g.low t.high) g.high (omega arith) in
    rw append_assoc (with_part g.low low (upper ++ rest) (All-append (λ h. low < h.low) upper rest own_parts below)
    (with_part (max g.low t.high) g.high rest above (cut_apart t gs full apart.1)))

left_apart : (free : List Range) (t : Range) → NeverTouch free → NeverTouch (without free t)
left_apart free t apart = elim (cases_Bool (nat_lt t.low t.high)) [
  | inl full ↦ rw full (cut_apart t free (ltb-true t.low t.high full) apart)
  | inr none ↦ rw none apart
]

all_apart : (free ts : List Range) → NeverTouch free → NeverTouch (fold without free ts)
all_apart free [] apart = apart
all_apart free (t ∷ ts) apart = all_apart (without free t) ts (left_apart free t apart)

pub between_gaps : (range : Range) (ts : List Range) → NeverTouch (fold without (range ∷ []) ts)
between_gaps range ts = all_apart (range ∷ []) ts (All-nil (λ later. range.high < later.low), tt)
