-- Lists that are compared some elements at a time.
use Rattle.std.proofs.Common.{◌≡◌, ℕ, suc, ◌+◌, ◌-◌, ◌*◌, ◌^◌, ◌%◌, ◌≤◌, Bool, true, false, cond, ◌&&◌, nat_eq}
use Rattle.std.proofs.Common.{List, [], ◌∷◌, ◌++◌, length, drop, map, w8, refl, sym, ap, ap₂, ◌∙◌, arith, pow-suc, mul_comm}
use Rattle.std.proofs.Math.Nat.{one-le-pow}
use Rattle.std.specs.Cmp.Lexicographic.{pointwise}
use Rattle.std.proofs.lemmas.Bool.Decides.{nat_tests}
use Rattle.std.proofs.lemmas.Simd.{tops_compared, mask_l-mod, length-chunk, chunk-drop, length-zip2}
use lib.Lanes.{chunk, zip2, mask_l, top}

one_more : (b : Bool) (m n : ℕ) → 1 ≤ n → nat_eq (cond b 1 0 + 2 * m) (2 * n - 1) ≡ (b && nat_eq m (n - 1))
one_more true m n some = grind (arith, nat_tests)
one_more false m n some = grind (arith, nat_tests)

-- each lane is set just where the two are alike
pub all_set : (xs ys : List ℕ) → length xs ≡ length ys
    → nat_eq (mask_l (zip2 nat_eq xs ys)) (2 ^ length xs - 1) ≡ pointwise nat_eq xs ys
all_set [] [] e = refl
all_set [] (y ∷ ys) e = absurd (omega arith)
all_set (x ∷ xs) [] e = absurd (omega arith)
all_set (x ∷ xs) (y ∷ ys) e =
    let rest = all_set xs ys (omega arith) in
    let twice : 2 ^ suc (length xs) ≡ 2 * 2 ^ length xs = pow-suc 2 (length xs) ∙ mul_comm (2 ^ length xs) 2 in
    let some : 1 ≤ 2 ^ length xs = one-le-pow (length xs) 2 (omega arith) in
    ap (λ (n : ℕ). nat_eq (mask_l (zip2 nat_eq (x ∷ xs) (y ∷ ys))) (n - 1)) twice
    ∙ (one_more (nat_eq x y) (mask_l (zip2 nat_eq xs ys)) (2 ^ length xs) some
    ∙ ap (λ (b : Bool). nat_eq x y && b) rest)

-- two parts before two others, where the first are of one length
pub pointwise-append : (us vs xs ys : List ℕ) → length us ≡ length vs
    → pointwise nat_eq (us ++ xs) (vs ++ ys) ≡ (pointwise nat_eq us vs && pointwise nat_eq xs ys)
pointwise-append [] [] xs ys e = refl
pointwise-append [] (v ∷ vs) xs ys e = absurd (omega arith)
pointwise-append (u ∷ us) [] xs ys e = absurd (omega arith)
pointwise-append (u ∷ us) (v ∷ vs) xs ys e =
    ap (λ (b : Bool). nat_eq u v && b) (pointwise-append us vs xs ys (omega arith)) ∙ regroup (nat_eq u v) _ _
  where
    regroup : (a b c : Bool) → (a && (b && c)) ≡ ((a && b) && c)
    regroup true b c = refl
    regroup false b c = refl

-- what is left of two lists, by the next n elements and what is left behind them
pub next_and_rest : (i n : ℕ) (xs ys : List ℕ) → i + n ≤ length xs → i + n ≤ length ys
    → pointwise nat_eq (drop i xs) (drop i ys)
    ≡ (pointwise nat_eq (chunk i n xs) (chunk i n ys) && pointwise nat_eq (drop (i + n) xs) (drop (i + n) ys))
next_and_rest i n xs ys l m =
    let long = length-chunk i n xs l ∙ sym (length-chunk i n ys m) in
    ap₂ (pointwise nat_eq) (chunk-drop i n xs) (chunk-drop i n ys)
    ∙ pointwise-append (chunk i n xs) (chunk i n ys) (drop (i + n) xs) (drop (i + n) ys) long

-- what a mask of n lanes tells of two lists of n
pub mask_decides : (n : ℕ) (xs ys : List ℕ) → length xs ≡ n → length ys ≡ n → n ≤ 64
    → nat_eq (mask_l (map (top 7) (zip2 (λ a b. cond (nat_eq a b) 255 0) xs ys)) % 2 ^ 64) (2 ^ n - 1)
    ≡ pointwise nat_eq xs ys
mask_decides n xs ys long same few =
    let set = zip2 nat_eq xs ys in
    let lanes = tops_compared w8 nat_eq xs ys in
    let short : length set ≤ 64 = omega (arith, length-zip2 nat_eq xs ys (long ∙ sym same)) in
    ap (λ (ms : List Bool). nat_eq (mask_l ms % 2 ^ 64) (2 ^ n - 1)) lanes
    ∙ (ap (λ (m : ℕ). nat_eq m (2 ^ n - 1)) (mask_l-mod set 64 short)
    ∙ (ap (λ (k : ℕ). nat_eq (mask_l set) (2 ^ k - 1)) (sym long)
    ∙ all_set xs ys (long ∙ sym same)))
