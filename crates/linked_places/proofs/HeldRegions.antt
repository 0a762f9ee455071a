-- Bytes that stand one after another in a region: each from its base on.
use Rattle.std.proofs.Common.{◌≡◌, ℕ, ◌+◌, ◌-◌, ◌<◌, ◌≤◌, List, [], ◌∷◌, ◌++◌, length, get_or, drop, replicate}
use Rattle.std.proofs.Common.{sym, ap, subst, ◌∙◌, arith, inl, inr, append_assoc, length-drop, length-append}
use Rattle.std.proofs.lemmas.List.{length-replicate, get_or-drop, get_or_append_left, drop-drop}
use Rattle.std.proofs.Math.Seq.{drop-append_seam}
use Rattle.image_link.specs.Linked.{Filled, joined}
use Rattle.linked_places.proofs.Members.{Has}

-- each begins at or behind the end of those before it, and all end at or before an address
abbrev pub Stacked : (low high : ℕ) → List Filled → Type 0
Stacked low high [] = low ≤ high
Stacked low high (one ∷ rest) = (low ≤ one.base) × Stacked (one.base + length one.bytes) high rest

stacked_lower : (low mid high : ℕ) (xs : List Filled) → low ≤ mid → Stacked mid high xs → Stacked low high xs
stacked_lower low mid high [] le up = omega (arith, le, up)
stacked_lower low mid high (one ∷ rest) le up = (let above = up.0 in omega (arith, le, above), up.1)

pub stacked_append : (low mid high : ℕ) (xs ys : List Filled) → Stacked low mid xs → Stacked mid high ys
    → Stacked low high (xs ++ ys)
stacked_append low mid high [] ys first rest = stacked_lower low mid high ys first rest
stacked_append low mid high (one ∷ xs) ys first rest =
    (first.0, stacked_append (one.base + length one.bytes) mid high xs ys first.1 rest)

-- ---- the bytes of a region
pub region_ends : (gap low high : ℕ) (xs : List Filled) → Stacked low high xs → low + length (joined gap low xs) ≤ high
unfolding joined
region_ends gap low high [] up = omega (arith, up)
region_ends gap low high (one ∷ rest) up =
    let above = up.0 in
    let later = region_ends gap (one.base + length one.bytes) high rest up.1 in
    let first = length-append (replicate (one.base - low) gap ++ one.bytes)
    (joined gap (one.base + length one.bytes) rest) in
    let second = length-append (replicate (one.base - low) gap) one.bytes in
    let third = length-replicate (one.base - low) gap in
    omega (arith, above, later, first, second, third)

-- the bytes of one stand from its base on, and others behind them
pub record Stands (gap low : ℕ) (xs : List Filled) (one : Filled) : Type 0 where
  pub above : low ≤ one.base
  pub more : List ℕ
  pub from : drop (one.base - low) (joined gap low xs) ≡ one.bytes ++ more

drop_past : (xs ys : List ℕ) (n d : ℕ) → length xs ≡ n → drop (n + d) (xs ++ ys) ≡ drop d ys
drop_past xs ys n d long =
    sym (drop-drop d n (xs ++ ys))
    ∙ ap (drop d) (ap (λ m. drop m (xs ++ ys)) (sym long) ∙ drop-append_seam xs ys)

first_stands : (gap low : ℕ) (one : Filled) (rest : List Filled) → low ≤ one.base → Stands gap low (one ∷ rest) one
unfolding joined
first_stands gap low one rest above =
    let gaps = replicate (one.base - low) gap in
    let later = joined gap (one.base + length one.bytes) rest in
    record {
      above = above;
      more = later;
      from =
          ap (drop (one.base - low)) (append_assoc gaps one.bytes later)
          ∙ ap (λ n. drop n (gaps ++ (one.bytes ++ later))) (sym (length-replicate (one.base - low) gap))
          ∙ drop-append_seam gaps (one.bytes ++ later);
    }

later_stands : (gap low : ℕ) (one other : Filled) (rest : List Filled) → low ≤ one.base
    → Stands gap (one.base + length one.bytes) rest other → Stands gap low (one ∷ rest) other
unfolding joined
later_stands gap low one other rest above stands =
    let behind = stands.above in
    let gaps = replicate (one.base - low) gap in
    let far : other.base - low
    ≡ one.base - low + length one.bytes + (other.base - (one.base + length one.bytes)) = omega arith in
    let long : length (gaps ++ one.bytes) ≡ one.base - low + length one.bytes =
    length-append gaps one.bytes ∙ ap (λ n. n + length one.bytes) (length-replicate (one.base - low) gap) in
    record {
      above = omega arith;
      more = stands.more;
      from =
          ap (λ n. drop n (gaps ++ one.bytes ++ joined gap (one.base + length one.bytes) rest)) far
          ∙ drop_past (gaps ++ one.bytes) (joined gap (one.base + length one.bytes) rest)
          (one.base - low + length one.bytes) (other.base - (one.base + length one.bytes)) long
          ∙ stands.from;
    }

pub each_stands : (gap low high : ℕ) (xs : List Filled) (one : Filled) → Stacked low high xs → Has xs one
    → Stands gap low xs one
each_stands gap low high [] one up has = absurd has
each_stands gap low high (x ∷ xs) one up (inl is) =
    subst (λ y. Stands gap low (x ∷ xs) y) is (first_stands gap low x xs up.0)
each_stands gap low high (x ∷ xs) one up (inr rest) =
    later_stands gap low x one xs up.0 (each_stands gap (x.base + length x.bytes) high xs one up.1 rest)

-- so they lie in the region, and each is read there
pub lies_within : (gap low : ℕ) (xs : List Filled) (one : Filled) (k : ℕ) → Stands gap low xs one → k < length one.bytes
    → one.base + k < low + length (joined gap low xs)
lies_within gap low xs one k stands within =
    let above = stands.above in
    let long = ap length stands.from in
    let dropped = length-drop (one.base - low) (joined gap low xs) in
    let both = length-append one.bytes stands.more in
    omega (arith, above, long, dropped, both, within)

pub byte_there : (gap low : ℕ) (xs : List Filled) (one : Filled) (k : ℕ) → Stands gap low xs one → k < length one.bytes
    → get_or (joined gap low xs) (one.base + k - low) 0 ≡ get_or one.bytes k 0
byte_there gap low xs one k stands within =
    let above = stands.above in
    let far : one.base + k - low ≡ one.base - low + k = omega arith in
    ap (λ n. get_or (joined gap low xs) n 0) far
    ∙ sym (get_or-drop (one.base - low) (joined gap low xs) k 0)
    ∙ ap (λ (l : List ℕ). get_or l k 0) stands.from
    ∙ get_or_append_left one.bytes stands.more 0 k within

-- and so is what stands from there on
pub rest_there : (gap low : ℕ) (xs : List Filled) (one : Filled) (k : ℕ) (stands : Stands gap low xs one)
    → drop (one.base + k - low) (joined gap low xs) ≡ drop k (one.bytes ++ stands.more)
rest_there gap low xs one k stands =
    let above = stands.above in
    let far : one.base + k - low ≡ one.base - low + k = omega arith in
    ap (λ n. drop n (joined gap low xs)) far
    ∙ sym (drop-drop k (one.base - low) (joined gap low xs))
    ∙ ap (drop k) stands.from
