-- What a function gives first, item by item.
use Rattle.std.proofs.Common.{◌≡◌, ℕ, suc, ◌+◌, ◌<◌, List, [], ◌∷◌, length, get_or, take, drop}
use Rattle.std.proofs.Common.{map, ◌++◌, Option, Some, None, refl, sym, ap, ◌∙◌, add-one}
use Rattle.std.specs.Option.{option_or}
use Rattle.std.proofs.Math.Seq.{drop-cons, drop-length}
use Rattle.std.proofs.lemmas.List.{map_more}
use Rattle.propagation.specs.Conflicts.{first_some}

pub first_here : {X Y : Type 0} (f : X → Option Y) (x : X) (xs : List X) (y : Y) → f x ≡ Some y
    → first_some f (x ∷ xs) ≡ Some y
unfolding first_some
first_here f x xs y is = ap (λ o. option_or o (first_some f xs)) is

pub first_later : {X Y : Type 0} (f : X → Option Y) (x : X) (xs : List X) → f x ≡ None
    → first_some f (x ∷ xs) ≡ first_some f xs
unfolding first_some
first_later f x xs none = ap (λ o. option_or o (first_some f xs)) none

pub first_nowhere : {X Y : Type 0} (f : X → Option Y) → first_some f [] ≡ None
unfolding first_some
first_nowhere f = refl

pub drop_next : {X : Type 0} (xs : List X) (i : ℕ) (x : X) → i < length xs → x ≡ get_or xs i x
    → drop i xs ≡ x ∷ drop (i + 1) xs
drop_next xs i x lt is = drop-cons xs i x lt ∙ ap (λ y. y ∷ drop (suc i) xs) (sym is)
    ∙ ap (λ n. x ∷ drop n xs) (sym (add-one i))

-- nothing is given for the item of an index, nor for those before it
pub none_more : {X Y : Type 0} (f : X → Option Y) (xs : List X) (i : ℕ) (x : X) → i < length xs → x ≡ get_or xs i x
    → f x ≡ None
    → first_some f xs ≡ first_some f (drop i xs) → first_some f xs ≡ first_some f (drop (i + 1) xs)
none_more f xs i x lt is none so_far =
    so_far ∙ ap (λ l. first_some f l) (drop_next xs i x lt is) ∙ first_later f x (drop (i + 1) xs) none

pub some_there : {X Y : Type 0} (f : X → Option Y) (xs : List X) (i : ℕ) (x : X) (y : Y) → i < length xs
    → x ≡ get_or xs i x → f x ≡ Some y
    → first_some f xs ≡ first_some f (drop i xs) → first_some f xs ≡ Some y
some_there f xs i x y lt is here so_far =
    so_far ∙ ap (λ l. first_some f l) (drop_next xs i x lt is) ∙ first_here f x (drop (i + 1) xs) y here

pub none_at_all : {X Y : Type 0} (f : X → Option Y) (xs : List X) (i : ℕ) → i ≡ length xs
    → first_some f xs ≡ first_some f (drop i xs) → first_some f xs ≡ None
none_at_all f xs i all so_far =
    so_far ∙ ap (λ n. first_some f (drop n xs)) all ∙ ap (λ l. first_some f l) (drop-length xs) ∙ first_nowhere f

-- one more item of a list that a function gives item by item
pub map_next : {X Y : Type 0} (f : X → Y) (xs : List X) (ys now : List Y) (i : ℕ) (d x : X) (y : Y) → i < length xs
    → x ≡ get_or xs i d → y ≡ f x
    → ys ≡ map f (take i xs) → now ≡ ys ++ y ∷ [] → now ≡ map f (take (i + 1) xs)
map_next f xs ys now i d x y lt is gives so_far pushed =
    pushed ∙ ap (λ l. l ++ y ∷ []) so_far ∙ ap (λ z. map f (take i xs) ++ z ∷ []) (gives ∙ ap f is)
    ∙ sym (map_more f xs i d lt)
