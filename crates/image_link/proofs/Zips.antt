-- Sections at their places, one after another.
use Rattle.std.proofs.Common.{◌≡◌, ℕ, ◌+◌, ◌<◌, List, [], ◌∷◌, ◌++◌, length, get_or, take}
use Rattle.std.proofs.Common.{min, sym, ap, ◌∙◌, arith}
use Rattle.std.specs.List.{flat_map, zip}
use Rattle.std.proofs.lemmas.List.{take_more, take_all}
use Rattle.std.proofs.lemmas.List.Concat.{flat_map-append}
use Rattle.std.proofs.lemmas.Slice.Zip.{length-zip, get_or-zip}
use Rattle.std.proofs.Common.{append_assoc, append-nil}

nil_behind : {X : Type 0} (xs : List X) → xs ++ [] ≡ xs
nil_behind xs = append-nil xs

-- what each pair gives, one pair more
pub flat_more : {A B C : Type 0} (f : A × B → List C) (xs : List A) (ys : List B) (k : ℕ) (x : A) (y : B)
    → k < length xs → k < length ys → x ≡ get_or xs k x → y ≡ get_or ys k y
    → flat_map f (take (k + 1) (zip xs ys)) ≡ flat_map f (take k (zip xs ys)) ++ f (x, y)
flat_more f xs ys k x y in_xs in_ys is_x is_y =
    let long : k < length (zip xs ys) = omega (arith, length-zip xs ys) in
    let pair : get_or (zip xs ys) k (x, y) ≡ (x, y) =
    get_or-zip xs ys k (x, y) in_xs in_ys ∙ sym (λ i. (is_x i, is_y i)) in
    ap (flat_map f) (take_more (zip xs ys) k (x, y) long ∙ ap (λ p. take k (zip xs ys) ++ p ∷ []) pair)
    ∙ flat_map-append f (take k (zip xs ys)) ((x, y) ∷ [])
    ∙ ap (λ zs. flat_map f (take k (zip xs ys)) ++ zs) (nil_behind (f (x, y)))

pub zipped_all : {A B : Type 0} (xs : List A) (ys : List B) (k : ℕ) → k ≡ min (length xs) (length ys)
    → take k (zip xs ys) ≡ zip xs ys
zipped_all xs ys k is = take_all k (zip xs ys) (omega (arith, length-zip xs ys))

pub ahead : {X C : Type 0} (f : X → List C) (xs : List X) (k : ℕ) (x : X) → k < length xs → x ≡ get_or xs k x
    → flat_map f (take (k + 1) xs) ≡ flat_map f (take k xs) ++ f x
ahead f xs k x within is =
    ap (flat_map f) (take_more xs k x within ∙ ap (λ y. take k xs ++ y ∷ []) (sym is))
    ∙ flat_map-append f (take k xs) (x ∷ []) ∙ ap (λ ys. flat_map f (take k xs) ++ ys) (nil_behind (f x))

pub joined_more : {A B C : Type 0} (f : A × B → List C) (first before after : List C) (xs : List A) (ys : List B) (k : ℕ)
    (x : A) (y : B) → k < length xs → k < length ys → x ≡ get_or xs k x → y ≡ get_or ys k y
    → before ≡ first ++ flat_map f (take k (zip xs ys)) → after ≡ before ++ f (x, y)
    → after ≡ first ++ flat_map f (take (k + 1) (zip xs ys))
joined_more f first before after xs ys k x y in_xs in_ys is_x is_y so_far step =
    step ∙ ap (λ zs. zs ++ f (x, y)) so_far ∙ append_assoc first (flat_map f (take k (zip xs ys))) (f (x, y))
    ∙ sym (ap (λ zs. first ++ zs) (flat_more f xs ys k x y in_xs in_ys is_x is_y))
