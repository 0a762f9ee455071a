-- Laws of lists in blocks.
use Rattle.std.proofs.Common.{◌≡◌, ℕ, suc, zero, ◌+◌, ◌-◌, ◌*◌, ◌^◌, ◌/◌, ◌%◌, ◌<◌, ◌≤◌, Bool, false, List, []}
use Rattle.std.proofs.Common.{◌∷◌, ◌++◌, length, get_or, take, drop, sym, ◌∙◌, ap, subst, inl, inr, arith}
use Rattle.std.specs.Int.{w64}
use Rattle.std.specs.Int.Count.{count_trailing_zeros, under}
use Rattle.std.specs.List.{between}
use Rattle.std.specs.List.Sorted.{IsSortedWithin, IsSortedBy}
use Rattle.std.proofs.lemmas.Bool.{cases_lt}
use Rattle.std.proofs.Math.Nat.{pow-suc}
use Rattle.std.proofs.lemmas.Nat.{pow_pos, one_shl}
use Rattle.std.proofs.lemmas.Nat.Bits.{bit_at-trailing_zeros}
use Rattle.std.proofs.lemmas.List.{take-append-drop, drop-drop, drop_all, length-drop, append-nil}
use Rattle.std.proofs.lemmas.List.{length-take-le, length-append, get_or_append_left, get_or-take}
use Rattle.std.proofs.lemmas.List.{get_or-append_right, length_push, take_at}
use Rattle.std.proofs.lemmas.List.Edits.{get_or-between, length-between}
use borrow.Rule.Slice.PartMut.{put_mid}
use Rattle.symbol_table.specs.inside.Blocks.{block_begin, InBlocks}

-- ---- where blocks begin
twice : (t : ℕ) → 2 ^ suc t ≡ 2 * 2 ^ t
twice t = omega (arith, pow-suc 2 t)

-- the lowest digit 1 is no more than the number
lowest_step : (r q t : ℕ) → r < 2 → 0 < r + 2 * q → (0 < q → 2 ^ t ≤ q) → 2 ^ under r t ≤ r + 2 * q
lowest_step zero q t digit pos low = (let le = low (omega arith) in omega (arith, twice t))
lowest_step (suc r) q t digit pos low = omega arith

pub lowest_le : (k n : ℕ) → 0 < n → n < 2 ^ k → 2 ^ count_trailing_zeros k n ≤ n
unfolding count_trailing_zeros
lowest_le zero n pos less = absurd (omega arith)
lowest_le (suc k) n pos less =
    let parts : n ≡ n % 2 + 2 * (n / 2) = omega arith in
    let P : ℕ → Type 0 = λ m. 2 ^ under (n % 2) (count_trailing_zeros k (n / 2)) ≤ m in
    subst P (sym parts) (lowest_step (n % 2) (n / 2) (count_trailing_zeros k (n / 2)) (omega arith) (omega arith)
    (λ some. lowest_le k (n / 2) some (omega (arith, twice k))))

nested_step : (r q t s p u : ℕ) → r < 2 → s < 2 → (r + 2 * q) - 2 ^ under r t < s + 2 * p → s + 2 * p < r + 2 * q →
    (q - 2 ^ t < p → p < q → q - 2 ^ t ≤ p - 2 ^ u) → (r + 2 * q) - 2 ^ under r t ≤ (s + 2 * p) - 2 ^ under s u
nested_step (suc r) q t s p u r_digit s_digit above below inner = absurd (omega arith)
nested_step zero q t (suc s) p u r_digit s_digit above below inner = omega (arith, twice t)
nested_step zero q t zero p u r_digit s_digit above below inner =
    (let le = inner (omega (arith, twice t)) (omega arith) in omega (arith, twice t, twice u))

nested_in : (k m j : ℕ) → m < 2 ^ k → m - 2 ^ count_trailing_zeros k m < j → j < m →
    m - 2 ^ count_trailing_zeros k m ≤ j - 2 ^ count_trailing_zeros k j
unfolding count_trailing_zeros
nested_in zero m j less above below = absurd (omega arith)
nested_in (suc k) m j less above below =
    let m_parts : m % 2 + 2 * (m / 2) ≡ m = omega arith in
    let j_parts : j % 2 + 2 * (j / 2) ≡ j = omega arith in
    let t = count_trailing_zeros k (m / 2) in
    let u = count_trailing_zeros k (j / 2) in
    let P : ℕ → Type 0 = λ x. x - 2 ^ under (m % 2) t ≤ (j % 2 + 2 * (j / 2)) - 2 ^ under (j % 2) u in
    let Q : ℕ → Type 0 = λ x. m - 2 ^ under (m % 2) t ≤ x - 2 ^ under (j % 2) u in
    let R : ℕ → Type 0 = λ x. x - 2 ^ under (m % 2) t < j % 2 + 2 * (j / 2) in
    let S : ℕ → Type 0 = λ x. m - 2 ^ under (m % 2) t < x in
    subst Q j_parts (subst P m_parts
    (nested_step (m % 2) (m / 2) t (j % 2) (j / 2) u (omega arith) (omega arith)
    (subst R (sym m_parts) (subst S (sym j_parts) above)) (omega arith)
    (λ a b. nested_in k (m / 2) (j / 2) (omega (arith, twice k)) a b)))

-- a block that ends within the last block begins in it
pub nested : (m j : ℕ) → m < 2 ^ 64 → block_begin m < j → j < m → block_begin m ≤ block_begin j
nested m j less above below = nested_in 64 m j less above below

pub block_begin_below : (end : ℕ) → 0 < end → block_begin end < end
block_begin_below end pos = (let one = pow_pos (count_trailing_zeros 64 end) in omega arith)

-- the shift that makes the last block's length
pub shifted : (end : ℕ) → 0 < end → end < 2 ^ 64 →
    (1 * 2 ^ count_trailing_zeros 64 end) % 2 ^ 64 ≡ 2 ^ count_trailing_zeros 64 end
shifted end pos fits = one_shl (count_trailing_zeros 64 end) 64 (bit_at-trailing_zeros w64 end pos fits).0

-- ---- one item more
pub in_blocks_more : {X : Type 0} (less : X → X → Bool) (xs ys : List X) → length ys ≡ length xs + 1 →
    length ys < 2 ^ 64 → ((k : ℕ) (d : X) → k < block_begin (length ys) → get_or ys k d ≡ get_or xs k d) →
    InBlocks less xs → IsSortedWithin less ys (block_begin (length ys)) (length ys) → InBlocks less ys
in_blocks_more less xs ys one_more fits front old last end within k d above below =
    let begin = block_begin (length ys) in
    elim (cases_lt begin end) as (λ _. less (get_or ys (k + 1) d) (get_or ys k d) ≡ false) [
      | inl later ↦ elim (cases_lt end (length ys)) as (λ _. less (get_or ys (k + 1) d) (get_or ys k d) ≡ false) [
        | inl inner ↦ (let low = nested (length ys) end fits later inner in last k d (omega arith) (omega arith))
        | inr whole ↦
            let e : end ≡ length ys = omega arith in
            let P : ℕ → Type 0 = λ n. block_begin n ≤ k in
            last k d (subst P e above) (omega arith)
      ]
      | inr before ↦
          let start = block_begin_below (length ys) (omega arith) in
          ap (λ x. less x (get_or ys k d)) (front (k + 1) d (omega arith))
          ∙ ap (λ x. less (get_or xs (k + 1) d) x) (front k d (omega arith)) ∙ old end (omega arith) k d above below
    ]

-- a block is in order
pub block_sorted : {X : Type 0} (less : X → X → Bool) (xs : List X) (end : ℕ) → InBlocks less xs → end ≤ length xs →
    IsSortedBy less (between (block_begin end) end xs)
block_sorted less xs end blocks within k d low below =
    let begin = block_begin end in
    let len : length (between begin end xs) ≡ end - begin = length-between xs begin end within in
    let e : begin + (k + 1) ≡ (begin + k) + 1 = omega arith in
    ap (λ x. less x (get_or (between begin end xs) k d))
    (get_or-between xs begin end (k + 1) d (omega (arith, len)) ∙ ap (λ i. get_or xs i d) e)
    ∙ ap (λ x. less (get_or xs (begin + k + 1) d) x) (get_or-between xs begin end k d (omega (arith, len)))
    ∙ blocks end within (begin + k) d (omega arith) (omega (arith, len))

-- what is in order as a whole is in blocks
pub in_blocks_sorted : {X : Type 0} (less : X → X → Bool) (xs : List X) → IsSortedBy less xs → InBlocks less xs
in_blocks_sorted less xs up end within k d above below = up k d (omega arith) (omega arith)

-- what is left from a block on is the block and what is left after it
pub drop_between : {X : Type 0} (xs : List X) (begin end : ℕ) → begin ≤ end →
    drop begin xs ≡ between begin end xs ++ drop end xs
drop_between xs begin end order =
    let e : begin + (end - begin) ≡ end = omega arith in
    sym (take-append-drop (end - begin) (drop begin xs))
    ∙ ap (λ ys. between begin end xs ++ ys) (drop-drop (end - begin) begin xs ∙ ap (λ n. drop n xs) e)

pub block_sorted_at : {X : Type 0} (less : X → X → Bool) (xs : List X) (begin end : ℕ) → begin ≡ block_begin end →
    InBlocks less xs → end ≤ length xs → IsSortedBy less (between begin end xs)
block_sorted_at less xs begin end is blocks within =
    let P : ℕ → Type 0 = λ n. IsSortedBy less (between n end xs) in
    subst P (sym is) (block_sorted less xs end blocks within)

-- ---- the last block put in order
put_to_end : {X : Type 0} (begin : ℕ) (xs ys : List X) → put_mid begin (length xs - begin) xs ys ≡ take begin xs ++ ys
put_to_end begin xs ys =
    let none : drop (length xs - begin) (drop begin xs) ≡ [] =
    drop_all (length xs - begin) (drop begin xs) (omega (arith, length-drop begin xs)) in
    ap (λ rest. take begin xs ++ (ys ++ rest)) none ∙ ap (λ rest. take begin xs ++ rest) (append-nil ys)

blocks_joined : {X : Type 0} (less : X → X → Bool) (xs ys : List X) → 0 < length xs → length xs < 2 ^ 64 →
    length ys ≡ length xs - block_begin (length xs) → IsSortedBy less ys → InBlocks less (take (length xs - 1) xs) →
    InBlocks less (take (block_begin (length xs)) xs ++ ys)
blocks_joined less xs ys some fits len_ys up blocks =
    let begin = block_begin (length xs) in
    let below : begin < length xs = block_begin_below (length xs) some in
    let front = take begin xs in
    let len_front : length front ≡ begin = length-take-le begin xs (omega arith) in
    let len : length (front ++ ys) ≡ length xs = omega (arith, length-append front ys, len_front, len_ys) in
    let len_rest : length (take (length xs - 1) xs) ≡ length xs - 1 = length-take-le (length xs - 1) xs (omega arith) in
    let Q : ℕ → Type 0 = λ n. IsSortedWithin less (front ++ ys) (block_begin n) n in
    let S : ℕ → Type 0 = λ n. (k : ℕ) (d : _) → k < block_begin n
    → get_or (front ++ ys) k d ≡ get_or (take (length xs - 1) xs) k d in
    in_blocks_more less (take (length xs - 1) xs) (front ++ ys) (omega (arith, len, len_rest)) (omega (arith, len))
    (subst S (sym len) (λ k d l. get_or_append_left front ys d k (omega (arith, len_front)) ∙ get_or-take begin xs k d l
    ∙ sym (get_or-take (length xs - 1) xs k d (omega arith))))
    blocks
    (subst Q (sym len) (λ k d low high.
    let e : (k + 1) - begin ≡ (k - begin) + 1 = omega arith in
    ap (λ x. less x (get_or (front ++ ys) k d)) (get_or-append_right front ys begin (k + 1) d len_front (omega arith)
    ∙ ap (λ i. get_or ys i d) e)
    ∙ ap (λ x. less (get_or ys (k - begin + 1) d) x) (get_or-append_right front ys begin k d len_front low)
    ∙ up (k - begin) d (omega arith) (omega (arith, len_ys))))

pub blocks_from_last : {X : Type 0} (less : X → X → Bool) (xs ys : List X) (begin : ℕ) → 0 < length xs →
    length xs < 2 ^ 64 → begin ≡ block_begin (length xs) → length ys ≡ length xs - begin → IsSortedBy less ys →
    InBlocks less (take (length xs - 1) xs) → InBlocks less (put_mid begin (length xs - begin) xs ys)
blocks_from_last less xs ys begin some fits is len_ys up blocks =
    let P : List _ → Type 0 = InBlocks less in
    let R : ℕ → Type 0 = λ n. InBlocks less (take n xs ++ ys) in
    subst P (sym (put_to_end begin xs ys))
    (subst R (sym is) (blocks_joined less xs ys some fits (len_ys ∙ ap (λ n. length xs - n) is) up blocks))

-- the list before one item more
pub before_push : {X : Type 0} (less : X → X → Bool) (xs : List X) (x : X) → InBlocks less xs →
    InBlocks less (take (length (xs ++ x ∷ []) - 1) (xs ++ x ∷ []))
before_push less xs x blocks =
    let e : length xs ≡ length (xs ++ x ∷ []) - 1 = omega (arith, length_push xs x) in
    let P : List _ → Type 0 = InBlocks less in
    subst P (sym (take_at xs (x ∷ []) _ e)) blocks
