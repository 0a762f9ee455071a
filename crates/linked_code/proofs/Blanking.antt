-- Bytes with zeros in the fields of references: where a field stands, where none does, and the numbers of wide forms.
use Rattle.std.proofs.Common.{◌≡◌, ℕ, suc, ◌+◌, ◌<◌, ◌≤◌, Bool, true, false, not, ◌&&◌, ◌||◌, cond, List, [], ◌∷◌}
use Rattle.std.proofs.Common.{◌++◌, length, take, drop, map, nat_le, nat_lt, refl, sym, ap, ◌∙◌, arith}
use Rattle.std.specs.List.{list_any, AllByRecursion}
use Rattle.std.proofs.lemmas.Bool.Decides.{nat_tests}
use Rattle.std.proofs.lemmas.List.{length-take, length-drop, get_or-take, get_or-drop, ext_get_or}
use Rattle.i386_reloc.specs.declared.types.Ref.{Ref}
use Rattle.ia32_decode.specs.Encoding.{byte_in}
use Rattle.ia32_decode.specs.Wide.{widened}
use Rattle.match_constants.specs.Constants.{covers}
use Rattle.run_pre_match.specs.Differences.{blanked}

-- ---- blanked bytes
pub blanked_append : (refs : List Ref) (p : ℕ) (xs ys : List ℕ) →
    blanked refs p (xs ++ ys) ≡ blanked refs p xs ++ blanked refs (p + length xs) ys
unfolding blanked
blanked_append refs p [] ys = ap (λ k. blanked refs k ys) (omega arith)
blanked_append refs p (x ∷ xs) ys =
    let e : suc p + length xs ≡ p + suc (length xs) = omega arith in
    ap (λ (bs : List ℕ). cond (list_any (covers p) refs) 0 x ∷ bs)
    (blanked_append refs (suc p) xs ys ∙ ap (λ k. blanked refs (suc p) xs ++ blanked refs k ys) e)

pub blanked_nowhere : (refs : List Ref) (p : ℕ) (xs : List ℕ) →
    ((k : ℕ) → k < length xs → list_any (covers (p + k)) refs ≡ false) → blanked refs p xs ≡ xs
unfolding blanked
blanked_nowhere refs p [] none = refl
blanked_nowhere refs p (x ∷ xs) none =
    let zero_more : p + 0 ≡ p = omega arith in
    let here : list_any (covers p) refs ≡ false =
    sym (ap (λ k. list_any (covers k) refs) zero_more) ∙ none 0 (omega arith) in
    rw here (ap (λ (bs : List ℕ). x ∷ bs) (blanked_nowhere refs (suc p) xs (λ k lt.
    let e : suc p + k ≡ p + suc k = omega arith in
    ap (λ n. list_any (covers n) refs) e ∙ none (suc k) (omega arith))))

pub blanked_everywhere : (refs : List Ref) (p : ℕ) (xs ys : List ℕ) → length xs ≡ length ys →
    ((k : ℕ) → k < length xs → list_any (covers (p + k)) refs ≡ true) →
    ((k : ℕ) → k < length ys → byte_in ys k ≡ 0) → blanked refs p xs ≡ ys
unfolding blanked
blanked_everywhere refs p [] [] same all zeros = refl
blanked_everywhere refs p [] (y ∷ ys) same all zeros = absurd (omega arith)
blanked_everywhere refs p (x ∷ xs) [] same all zeros = absurd (omega arith)
blanked_everywhere refs p (x ∷ xs) (y ∷ ys) same all zeros =
    let zero_more : p + 0 ≡ p = omega arith in
    let here : list_any (covers p) refs ≡ true =
    sym (ap (λ k. list_any (covers k) refs) zero_more) ∙ all 0 (omega arith) in
    let first : y ≡ 0 = zeros 0 (omega arith) in
    let rest : blanked refs (suc p) xs ≡ ys = blanked_everywhere refs (suc p) xs ys (omega arith) (λ k lt.
    let e : suc p + k ≡ p + suc k = omega arith in
    ap (λ n. list_any (covers n) refs) e ∙ all (suc k) (omega arith)) (λ k lt. zeros (suc k) (omega arith)) in
    rw (here, rest, first) refl

length_blanked : (refs : List Ref) (p : ℕ) (xs : List ℕ) → length (blanked refs p xs) ≡ length xs
unfolding blanked
length_blanked refs p [] = refl
length_blanked refs p (x ∷ xs) = ap suc (length_blanked refs (suc p) xs)

-- of bytes in two parts
pub blanked_parts : (refs : List Ref) (p : ℕ) (xs ys us vs : List ℕ) → blanked refs p xs ≡ us →
    blanked refs (p + length us) ys ≡ vs → blanked refs p (xs ++ ys) ≡ us ++ vs
blanked_parts refs p xs ys us vs first second =
    let long : length us ≡ length xs = sym (ap length first) ∙ length_blanked refs p xs in
    blanked_append refs p xs ys
    ∙ ap (λ k. blanked refs p xs ++ blanked refs (p + k) ys) (sym long)
    ∙ ap (λ (zs : List ℕ). zs ++ blanked refs (p + length us) ys) first
    ∙ ap (λ (zs : List ℕ). us ++ zs) second

-- ---- fields that begin at one of two places
abbrev pub is_within : ℕ → ℕ → Bool
is_within at k = nat_le at k && nat_lt k (at + 4)

first_hit : (a b x y : Bool) → (x || ((a && x) || (b && y))) ≡ (((true || a) && x) || ((false || b) && y))
first_hit a b true y = refl
first_hit true b false y = refl
first_hit false b false y = refl

second_hit : (a b x y : Bool) → (y || ((a && x) || (b && y))) ≡ (((false || a) && x) || ((true || b) && y))
second_hit a b x true = sym (one (a && x))
  where
    one : (t : Bool) → (t || true) ≡ true
    one true = refl
    one false = refl
second_hit a true x false = refl
second_hit a false x false = refl

covered_first : (p at k : ℕ) (r : Ref) → r.offset ≡ p + at → covers (p + k) r ≡ is_within at k
covered_first p at k r is = rw is (both (shifted_le p at k) (shifted_lt p at k))
  where
    both : {a b x y : Bool} → a ≡ x → b ≡ y → (a && b) ≡ (x && y)
    both e f = cc

    shifted_le : (p at k : ℕ) → nat_le (p + at) (p + k) ≡ nat_le at k
    shifted_le p at k = grind (arith, nat_tests)

    shifted_lt : (p at k : ℕ) → nat_lt (p + k) (p + at + 4) ≡ nat_lt k (at + 4)
    shifted_lt p at k = grind (arith, nat_tests)

-- references that are moved to one of two places
pub covered_by : (on : Ref → Bool) (move : Ref → Ref) (p x y k : ℕ) (refs : List Ref) →
    AllByRecursion (λ r. (move r).offset ≡ p + cond (on r) x y) refs →
    list_any (covers (p + k)) (map move refs)
    ≡ ((list_any on refs && is_within x k) || (list_any (λ r. not (on r)) refs && is_within y k))
covered_by on move p x y k [] all = refl
covered_by on move p x y k (r ∷ rs) all =
    let later = covered_by on move p x y k rs all.1 in
    either (on r) refl (list_any on rs) (list_any (λ r. not (on r)) rs) later
  where
    either : (t : Bool) → on r ≡ t → (a b : Bool) →
        list_any (covers (p + k)) (map move rs) ≡ ((a && is_within x k) || (b && is_within y k)) →
        (covers (p + k) (move r) || list_any (covers (p + k)) (map move rs))
        ≡ (((on r || a) && is_within x k) || ((not (on r) || b) && is_within y k))
    either true is a b later =
        let at : (move r).offset ≡ p + x = all.0 ∙ ap (λ t. p + cond t x y) is in
        rw (is, covered_first p x k (move r) at, later) (first_hit a b (is_within x k) (is_within y k))
    either false is a b later =
        let at : (move r).offset ≡ p + y = all.0 ∙ ap (λ t. p + cond t x y) is in
        rw (is, covered_first p y k (move r) at, later) (second_hit a b (is_within x k) (is_within y k))

-- ---- numbers
-- the bytes of a number, widened or not
abbrev pub number : List ℕ → (wide : Bool) (count at n : ℕ) → List ℕ
number w wide count at n = cond wide (widened count (take n (drop at w))) (take n (drop at w))

widened_four : (count : ℕ) (xs : List ℕ) → length xs ≡ 4 → widened count xs ≡ xs
widened_four count [] is = refl
widened_four count (x ∷ []) is = absurd (omega arith)
widened_four count (x ∷ y ∷ xs) is = refl

pub length_part : (w : List ℕ) (at n : ℕ) → at + n ≤ length w → length (take n (drop at w)) ≡ n
length_part w at n fits = omega (arith, length-take n (drop at w), length-drop at w)

pub byte_part : (w : List ℕ) (at n k : ℕ) → k < n → byte_in (take n (drop at w)) k ≡ byte_in w (at + k)
byte_part w at n k lt = get_or-take n (drop at w) k 0 lt ∙ get_or-drop at w k 0

pub number_four : (w : List ℕ) (wide : Bool) (count at n : ℕ) → at + n ≤ length w → n ≡ 4 →
    number w wide count at n ≡ take n (drop at w)
number_four w true count at n fits four =
    widened_four count (take n (drop at w)) (length_part w at n fits ∙ four)
number_four w false count at n fits four = refl

part_same : (v w : List ℕ) (at n : ℕ) → at + n ≤ length v → length w ≡ length v →
    ((k : ℕ) → k < n → byte_in w (at + k) ≡ byte_in v (at + k)) → take n (drop at w) ≡ take n (drop at v)
part_same v w at n fits long same =
    let a : length (take n (drop at w)) ≡ n = length_part w at n (omega arith) in
    let b : length (take n (drop at v)) ≡ n = length_part v at n fits in
    ext_get_or 0 (take n (drop at w)) (take n (drop at v)) (a ∙ sym b) (λ k lt.
    byte_part w at n k (omega arith) ∙ same k (omega arith) ∙ sym (byte_part v at n k (omega arith)))

-- a number with zeros where a field of a reference stands on it
pub blanked_number : (refs : List Ref) (p : ℕ) (v w : List ℕ) (wide : Bool) (count at n : ℕ) (hit : Bool) →
    at + n ≤ length v → length w ≡ length v → (hit ≡ true → n ≡ 4) →
    ((k : ℕ) → k < length (number v wide count at n) → list_any (covers (p + k)) refs ≡ hit) →
    ((k : ℕ) → k < n → hit ≡ false → byte_in w (at + k) ≡ byte_in v (at + k)) →
    ((k : ℕ) → k < n → hit ≡ true → byte_in v (at + k) ≡ 0) →
    blanked refs p (number w wide count at n) ≡ number v wide count at n
blanked_number refs p v w wide count at n false fits long four covered same zeros =
    let parts : number w wide count at n ≡ number v wide count at n =
    ap (λ (xs : List ℕ). cond wide (widened count xs) xs) (part_same v w at n fits long (λ k lt. same k lt refl)) in
    ap (blanked refs p) parts ∙ blanked_nowhere refs p (number v wide count at n) covered
blanked_number refs p v w wide count at n true fits long four covered same zeros =
    let one = number_four v wide count at n fits (four refl) in
    let other = number_four w wide count at n (omega arith) (four refl) in
    let a : length (take n (drop at w)) ≡ n = length_part w at n (omega arith) in
    let b : length (take n (drop at v)) ≡ n = length_part v at n fits in
    let c : length (number v wide count at n) ≡ n = ap length one ∙ b in
    ap (blanked refs p) other
    ∙ blanked_everywhere refs p (take n (drop at w)) (take n (drop at v)) (a ∙ sym b)
    (λ k lt. covered k (omega arith))
    (λ k lt. byte_part v at n k (omega arith) ∙ zeros k (omega arith) refl)
    ∙ sym one
