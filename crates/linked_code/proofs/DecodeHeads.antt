-- Windows that begin with the same bytes begin with the same prefixes and opcode.
use Rattle.std.proofs.Common.{◌≡◌, ℕ, suc, take, ◌+◌, ◌<◌, ◌≤◌, List, length, get_or, cond, Option, Some, None, nat_lt}
use Rattle.std.proofs.Common.{refl, ap, sym, subst, ◌∙◌, arith, true, false, Bool, not, length-take}
use Rattle.std.specs.Prelude.{◌==◌, unwrap_or}
use Rattle.std.specs.List.{position, position_or_len}
use Rattle.std.proofs.lemmas.Bool.{le-leb}
use Rattle.std.proofs.lemmas.List.{get_or-take, ext_get_or}
use Rattle.std.proofs.lemmas.List.Quantifiers.{position-Some}
use Rattle.std.proofs.lemmas.List.Sums.{position_or_len_is}
use Rattle.ia32_decode.specs.declared.types.Prefixes.{Prefixes}
use Rattle.linked_code.proofs.DecodeTable.{Head}
use Rattle.ia32_decode.specs.Encoding.{byte_in, is_prefix, prefix_count, prefixes_of, head_of, head_after}

-- w begins with the first n bytes of v
pub record BeginAlike (v w : List ℕ) (n : ℕ) : Type 0 where
  pub same : (i : ℕ) → i < n → byte_in w i ≡ byte_in v i
  pub from : n ≤ length v
  pub to : n ≤ length w

pub fronts : (v w : List ℕ) (n k : ℕ) → BeginAlike v w n → k ≤ n → take k w ≡ take k v
fronts v w n k a few =
    let from : n ≤ length v = a.from in
    let to : n ≤ length w = a.to in
    ext_get_or 0 (take k w) (take k v) (omega (arith, length-take k w, length-take k v))
    (λ i below. inside i (omega (arith, length-take k w, below)))
  where
    inside : (i : ℕ) → i < k → get_or (take k w) i 0 ≡ get_or (take k v) i 0
    inside i below =
        get_or-take k w i 0 below ∙ a.same i (omega arith) ∙ sym (get_or-take k v i 0 below)

abbrev is_other : ℕ → Bool
is_other byte = not (is_prefix byte)

-- as many prefixes stand at the start, where there are fewer than n
count_same : (v w : List ℕ) (n : ℕ) → BeginAlike v w n → prefix_count v < n → prefix_count w ≡ prefix_count v
unfolding prefix_count
count_same v w n a few = by_place (position is_other v) refl few
  where
    by_place : (o : Option ℕ) → position is_other v ≡ o → unwrap_or o (length v) < n
        → unwrap_or (position is_other w) (length w) ≡ unwrap_or o (length v)
    by_place None is few = let from : n ≤ length v = a.from in absurd (omega arith)
    by_place (Some p) is few =
        let to : n ≤ length w = a.to in
        let facts : (p < length v) × (is_other (get_or v p 0) ≡ true)
        × ((k : ℕ) → k < p → is_other (get_or v k 0) ≡ false) = position-Some is_other v p 0 is in
        let place : position_or_len is_other w ≡ p =
        position_or_len_is is_other w p 0 (omega arith)
        (λ k below. ap is_other (a.same k (omega arith)) ∙ facts.2 k below)
        (λ _. ap is_other (a.same p few) ∙ facts.1) in
        ap (λ k. unwrap_or (cond (nat_lt k (length w)) (Some k) None) (length w)) place
        ∙ ap (λ b. unwrap_or (cond b (Some p) None) (length w)) (le-leb (suc p) (length w) (omega arith))

-- the opcode behind p prefixes, by its first byte and the byte after
abbrev opcode_by : Prefixes → ℕ → ℕ → ℕ → Head
opcode_by prefixes p b c =
    cond (b == 0x0F) (record { prefixes = prefixes; escaped = true; opcode = c; end = p + 2 })
    (record { prefixes = prefixes; escaped = false; opcode = b; end = p + 1 })

head_is : (w : List ℕ) (prefixes : Prefixes) (p : ℕ)
    → head_after w prefixes p ≡ opcode_by prefixes p (byte_in w p) (byte_in w (p + 1))
unfolding head_after
head_is w prefixes p = refl

opcode_prefixes : (prefixes : Prefixes) (p b c : ℕ) → (opcode_by prefixes p b c).prefixes ≡ prefixes
opcode_prefixes prefixes p b c = by (b == 0x0F) _ _ refl refl
  where
    by : (t : Bool) (x y : Head) → x.prefixes ≡ prefixes → y.prefixes ≡ prefixes
        → (cond {A = Head} t x y).prefixes ≡ prefixes
    by true x y first second = first
    by false x y first second = second

opcode_passes : (prefixes : Prefixes) (p b c : ℕ) → p < (opcode_by prefixes p b c).end
opcode_passes prefixes p b c =
    by (b == 0x0F) (record { prefixes = prefixes; escaped = true; opcode = c; end = p + 2 })
    (record { prefixes = prefixes; escaped = false; opcode = b; end = p + 1 }) (omega arith) (omega arith)
  where
    by : (t : Bool) (x y : Head) → p < x.end → p < y.end → p < (cond {A = Head} t x y).end
    by true x y first second = first
    by false x y first second = second

-- an opcode of two bytes ends behind both, and that of one byte doesn't rest on the byte after
opcode_same : (t : Bool) (prefixes : Prefixes) (p b c k n : ℕ) → (b == 0x0F) ≡ t
    → (opcode_by prefixes p b c).end ≤ n → (p + 1 < n → k ≡ c)
    → opcode_by prefixes p b k ≡ opcode_by prefixes p b c
opcode_same true prefixes p b c k n is fits same =
    ap (opcode_by prefixes p b) (same (next (subst (λ e. e ≤ n) (rw is) fits)))
  where
    next : p + 2 ≤ n → p + 1 < n
    next h = omega arith
opcode_same false prefixes p b c k n is fits same = rw is

count_is : (front : List ℕ) (p : ℕ) → (prefixes_of front p).count ≡ p
unfolding prefixes_of
count_is front p = refl

-- the opcode ends behind the prefixes
pub head_passes : (w : List ℕ) → (head_of w).prefixes.count < (head_of w).end
head_passes w =
    let p : ℕ = prefix_count w in
    let prefixes : Prefixes = prefixes_of (take p w) p in
    let b : ℕ = byte_in w p in
    let c : ℕ = byte_in w (p + 1) in
    subst (λ (h : Head). h.prefixes.count < h.end) (sym (head_is w prefixes p))
    (subst (λ k. k < (opcode_by prefixes p b c).end)
    (sym (ap (λ (x : Prefixes). x.count) (opcode_prefixes prefixes p b c) ∙ count_is (take p w) p))
    (opcode_passes prefixes p b c))

pub head_same : (v w : List ℕ) (n : ℕ) → BeginAlike v w n → (head_of v).end ≤ n → head_of w ≡ head_of v
head_same v w n a fits =
    let p : ℕ = prefix_count v in
    let prefixes : Prefixes = prefixes_of (take p v) p in
    let b : ℕ = byte_in v p in
    let c : ℕ = byte_in v (p + 1) in
    let ends : (opcode_by prefixes p b c).end ≤ n = subst (λ (h : Head). h.end ≤ n) (head_is v prefixes p) fits in
    let few : p < n = under (opcode_passes prefixes p b c) ends in
    ap (λ k. head_after w (prefixes_of (take k w) k) k) (count_same v w n a few)
    ∙ ap (λ bytes. head_after w (prefixes_of bytes p) p) (fronts v w n p a (omega arith))
    ∙ head_is w prefixes p
    ∙ ap (λ k. opcode_by prefixes p k (byte_in w (p + 1))) (a.same p few)
    ∙ opcode_same (b == 0x0F) prefixes p b c (byte_in w (p + 1)) n refl ends (a.same (p + 1))
    ∙ sym (head_is v prefixes p)
  where
    under : {x y z : ℕ} → x < y → y ≤ z → x < z
    under p q = omega arith
