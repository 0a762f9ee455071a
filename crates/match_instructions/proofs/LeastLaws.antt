-- The least of numbers, of two lists and of the parts of one.
use Rattle.std.proofs.Common.{◌≡◌, ℕ, ◌+◌, ◌<◌, Bool, true, false, cond, List, [], ◌∷◌, ◌++◌, length, map, take, get_or}
use Rattle.std.proofs.Common.{Option, Some, None, refl, sym, ap, ◌∙◌, min, arith}
use Rattle.std.specs.List.{filter, fold}
use Rattle.std.proofs.lemmas.List.Elements.{filter_more}
use Rattle.match_instructions.specs.Instructions.{Instruction, place_of}
use Rattle.match_instructions.specs.inside.Least.{least, lesser, noted}

min_assoc : (x y z : ℕ) → min (min x y) z ≡ min x (min y z)
min_assoc x y z = omega arith

fold_min : (x y : ℕ) (ys : List ℕ) → fold min (min x y) ys ≡ min x (fold min y ys)
fold_min x y [] = refl
fold_min x y (z ∷ zs) = ap (λ m. fold min m zs) (min_assoc x y z) ∙ fold_min x (min y z) zs

least_first : (x : ℕ) (xs : List ℕ) → least (x ∷ xs) ≡ lesser (Some x) (least xs)
least_first x [] = refl
least_first x (y ∷ ys) = ap Some (fold_min x y ys)

lesser_assoc : (a b c : Option ℕ) → lesser (lesser a b) c ≡ lesser a (lesser b c)
lesser_assoc None b c = refl
lesser_assoc (Some x) None c = refl
lesser_assoc (Some x) (Some y) None = refl
lesser_assoc (Some x) (Some y) (Some z) = ap Some (min_assoc x y z)

pub lesser_none : (a : Option ℕ) → lesser a None ≡ a
lesser_none None = refl
lesser_none (Some x) = refl

pub least_append : (xs ys : List ℕ) → least (xs ++ ys) ≡ lesser (least xs) (least ys)
least_append [] ys = refl
least_append (x ∷ xs) ys =
    least_first x (xs ++ ys)
    ∙ ap (lesser (Some x)) (least_append xs ys)
    ∙ sym (lesser_assoc (Some x) (least xs) (least ys))
    ∙ ap (λ m. lesser m (least ys)) (sym (least_first x xs))

-- an instruction of some goes from those that are left to those that were met
by_cases : (b : Bool) (place : ℕ) (rest : List ℕ) (met : Option ℕ) →
    lesser met (least (cond b (place ∷ rest) rest)) ≡ lesser (noted b place met) (least rest)
by_cases true place rest met =
    ap (lesser met) (least_first place rest) ∙ sym (lesser_assoc met (Some place) (least rest))
by_cases false place rest met = refl

map_cond : (b : Bool) (i : Instruction) (is : List Instruction) →
    map place_of (cond b (i ∷ is) is) ≡ cond b (place_of i ∷ map place_of is) (map place_of is)
map_cond true i is = refl
map_cond false i is = refl

pub noted_instruction : (p : Instruction → Bool) (i : Instruction) (rest : List Instruction) (met : Option ℕ) →
    lesser met (least (map place_of (filter p (i ∷ rest))))
    ≡ lesser (noted (p i) (place_of i) met) (least (map place_of (filter p rest)))
noted_instruction p i rest met =
    ap (λ xs. lesser met (least xs)) (map_cond (p i) i (filter p rest))
    ∙ by_cases (p i) (place_of i) (map place_of (filter p rest)) met

-- and a number of a list
noted_last : (b : Bool) (x : ℕ) (met : List ℕ) → least (met ++ cond b (x ∷ []) []) ≡ noted b x (least met)
noted_last true x met = least_append met (x ∷ [])
noted_last false x met = least_append met [] ∙ lesser_none (least met)

pub noted_number : (p : ℕ → Bool) (xs : List ℕ) (k d : ℕ) → k < length xs →
    least (filter p (take (k + 1) xs)) ≡ noted (p (get_or xs k d)) (get_or xs k d) (least (filter p (take k xs)))
noted_number p xs k d within =
    ap least (filter_more p xs k d within) ∙ noted_last (p (get_or xs k d)) (get_or xs k d) (filter p (take k xs))
