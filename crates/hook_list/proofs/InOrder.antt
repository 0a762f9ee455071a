-- Entries one after another: those from one on, and those of a list that isn't broken.
use Rattle.std.proofs.Common.{◌≡◌, ◌<◌, ℕ, zero, suc, ◌+◌, ◌-◌, Bool, List, [], ◌∷◌, map, cond}
use Rattle.std.proofs.Common.{true, false, Option, Some, None, Bor, is_some, is_none, length, refl, arith, ap, ◌∙◌, sym}
use Rattle.std.specs.List.{find, filter_map, cons_option, range_with_len, slice_get}
use Rattle.std.specs.Option.{option_and_then, option_copied}
use Rattle.std.proofs.lemmas.Option.{slice_get-get_or}
use Rattle.std.proofs.lemmas.List.FromFn.{length-map-range_with_len, get_or-map-range_with_len}

-- the first that passes among the numbers from one on: that one, or the first among those behind it
pub find_from : (test : ℕ → Bool) (f : ℕ → ℕ) (i n : ℕ) → i < n
    → find test (map f (range_with_len i (n - i)))
    ≡ cond (test (f i)) (Some (f i)) (find test (map f (range_with_len (i + 1) (n - (i + 1)))))
find_from test f i n lt = let e : n - i ≡ suc (n - (i + 1)) = omega arith in rw e refl

-- the number at a place
pub number_at : (f : ℕ → ℕ) (n i : ℕ) → i < n → slice_get (map f (range_with_len 0 n)) i ≡ Some (f i)
number_at f n i lt =
    slice_get-get_or (map f (range_with_len 0 n)) i 0 (omega (arith, length-map-range_with_len f 0 n))
    ∙ ap Some (get_or-map-range_with_len f 0 n i i 0 lt (omega arith))

rest_has : {X : Type 0} (o : Option X) (x : ℕ) (rest : Option ℕ) → cond (is_none o) (Some x) rest ≡ None → rest ≡ None
rest_has None x rest e = absurd cc
rest_has (Some y) x rest e = e

one_longer : {X : Type 0} (o : Option X) (x : ℕ) (rest : Option ℕ) (ys : List X) (n : ℕ)
    → cond (is_none o) (Some x) rest ≡ None → length ys ≡ n → length (cons_option o ys) ≡ suc n
one_longer None x rest ys n e same = absurd cc
one_longer (Some y) x rest ys n e same = ap suc same

-- where each number has one, there are as many
pub length_all : {X : Type 0} (g : ℕ → Option X) (xs : List ℕ)
    → find (λ x. is_none (g x)) xs ≡ None → length (filter_map g xs) ≡ length xs
length_all g [] e = refl
length_all g (x ∷ xs) e =
    one_longer (g x) x (find (λ y. is_none (g y)) xs) (filter_map g xs) (length xs) e
    (length_all g xs (rest_has (g x) x (find (λ y. is_none (g y)) xs) e))

first_of_all : {X : Type 0} (o : Option X) (x : ℕ) (rest : Option ℕ) (ys : List X)
    → cond (is_none o) (Some x) rest ≡ None → slice_get (cons_option o ys) 0 ≡ o
first_of_all None x rest ys e = absurd cc
first_of_all (Some y) x rest ys e = refl

later_of_all : {X : Type 0} (o : Option X) (x : ℕ) (rest : Option ℕ) (ys : List X) (n : ℕ)
    → cond (is_none o) (Some x) rest ≡ None → slice_get (cons_option o ys) (suc n) ≡ slice_get ys n
later_of_all None x rest ys n e = absurd cc
later_of_all (Some y) x rest ys n e = refl

-- and each stands where its number does
pub get_all : {X : Type 0} (g : ℕ → Option X) (xs : List ℕ) (n : ℕ)
    → find (λ x. is_none (g x)) xs ≡ None → slice_get (filter_map g xs) n ≡ option_and_then g (slice_get xs n)
get_all g [] n e = refl
get_all g (x ∷ xs) zero e = first_of_all (g x) x (find (λ y. is_none (g y)) xs) (filter_map g xs) e
get_all g (x ∷ xs) (suc n) e =
    later_of_all (g x) x (find (λ y. is_none (g y)) xs) (filter_map g xs) n e
    ∙ get_all g xs n (rest_has (g x) x (find (λ y. is_none (g y)) xs) e)

-- what is read through a reference is there where the reference is
pub is_there : {X : Type 0} (o : Option (Bor X)) (e : Option X) → option_copied o ≡ e → is_some o ≡ true
    → is_none e ≡ false
is_there None e same is = absurd cc
is_there (Some x) e same is = rw (sym same) refl
