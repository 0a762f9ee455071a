-- The first of what several items give, one item more.
use Rattle.std.proofs.Common.{◌≡◌, ℕ, ◌+◌, ◌<◌, Bool, true, false, List, length, get_or, drop, is_some}
use Rattle.std.proofs.Common.{Option, Some, None, refl, sym, ap, ◌∙◌}
use Rattle.std.specs.Option.{option_or}
use Rattle.std.specs.List.{find, flat_map}
use Rattle.std.proofs.lemmas.List.Folds.{find-append}
use Rattle.image_link.proofs.Laying.{item_ahead}

parted : {X Y : Type 0} (p : Y → Bool) (f : X → List Y) (xs : List X) (k : ℕ) (x : X) → k < length xs
    → x ≡ get_or xs k x
    → find p (flat_map f (drop k xs)) ≡ option_or (find p (f x)) (find p (flat_map f (drop (k + 1) xs)))
parted p f xs k x within is =
    ap (λ ys. find p (flat_map f ys)) (item_ahead xs k x within is)
    ∙ find-append p (f x) (flat_map f (drop (k + 1) xs))

first_of : {Y : Type 0} (o rest : Option Y) → is_some o ≡ true → option_or o rest ≡ o
first_of None rest some = absurd cc
first_of (Some y) rest some = refl

second_of : {Y : Type 0} (o rest : Option Y) → is_some o ≡ false → option_or o rest ≡ rest
second_of None rest none = refl
second_of (Some y) rest none = absurd cc

pub found_here : {X Y : Type 0} (p : Y → Bool) (f : X → List Y) (xs : List X) (k : ℕ) (x : X) (found all : Option Y)
    → k < length xs → x ≡ get_or xs k x → all ≡ find p (flat_map f (drop k xs)) → found ≡ find p (f x)
    → is_some found ≡ true → found ≡ all
found_here p f xs k x found all within is so_far here some =
    let rest = find p (flat_map f (drop (k + 1) xs)) in
    sym (first_of found rest some) ∙ ap (λ o. option_or o rest) here ∙ sym (parted p f xs k x within is) ∙ sym so_far

pub found_later : {X Y : Type 0} (p : Y → Bool) (f : X → List Y) (xs : List X) (k : ℕ) (x : X) (found all : Option Y)
    → k < length xs → x ≡ get_or xs k x → all ≡ find p (flat_map f (drop k xs)) → found ≡ find p (f x)
    → is_some found ≡ false → all ≡ find p (flat_map f (drop (k + 1) xs))
found_later p f xs k x found all within is so_far here none =
    let rest = find p (flat_map f (drop (k + 1) xs)) in
    so_far ∙ parted p f xs k x within is ∙ sym (ap (λ o. option_or o rest) here) ∙ second_of found rest none
