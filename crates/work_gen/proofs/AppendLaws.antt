-- Lists that are written item by item.
use Rattle.std.proofs.Common.{◌≡◌, ℕ, suc, zero, ◌+◌, List, [], ◌∷◌, ◌++◌, map, replicate, append_assoc, ap, sym, ◌∙◌}
use Rattle.std.proofs.Common.{zero-add, add-zero, arith}
use Rattle.std.specs.List.{flat_map, range_with_len}
use Rattle.std.proofs.lemmas.List.{append-nil, flat_map_more}
use Rattle.std.proofs.lemmas.List.FromFn.{map-range_with_len_more}
use Rattle.std.proofs.lemmas.Grind.{replicate_next}

range_last : (a n : ℕ) → range_with_len a (suc n) ≡ range_with_len a n ++ (a + n) ∷ []
range_last a zero = ap (λ k. k ∷ []) (sym (add-zero a))
range_last a (suc n) =
    let e : (a + 1) + n ≡ a + suc n = omega arith in
    ap (λ l. a ∷ l) (range_last (a + 1) n ∙ ap (λ k. range_with_len (a + 1) n ++ k ∷ []) e)

pub range_more : (n : ℕ) → range_with_len 0 (n + 1) ≡ range_with_len 0 n ++ n ∷ []
range_more n =
    let next : n + 1 ≡ suc n = omega arith in
    ap (range_with_len 0) next ∙ range_last 0 n ∙ ap (λ k. range_with_len 0 n ++ k ∷ []) (zero-add n)

-- what a function gives of each number below a bound, and of the bound
pub flat_more : (f : ℕ → List ℕ) (o : List ℕ) (n : ℕ) → (o ++ flat_map f (range_with_len 0 n)) ++ f n
    ≡ o ++ flat_map f (range_with_len 0 (n + 1))
flat_more f o n =
    flat_map_more f o (range_with_len 0 n) n ∙ ap (λ ns. o ++ flat_map f ns) (sym (range_more n))

pub map_more : {X : Type 0} (f : ℕ → X) (o : List X) (n : ℕ) → (o ++ map f (range_with_len 0 n)) ++ f n ∷ []
    ≡ o ++ map f (range_with_len 0 (n + 1))
map_more f o n =
    append_assoc o (map f (range_with_len 0 n)) (f n ∷ [])
    ∙ ap (λ xs. o ++ xs) (sym (map-range_with_len_more f 0 n n (omega arith)))

pub copies_more : (o : List ℕ) (byte n : ℕ) → (o ++ replicate n byte) ++ byte ∷ [] ≡ o ++ replicate (n + 1) byte
copies_more o byte n =
    append_assoc o (replicate n byte) (byte ∷ []) ∙ ap (λ xs. o ++ xs) (sym (replicate_next n byte))

pub ruleset count_laws = (flat_more, map_more, copies_more)

pub ruleset append_laws = (append_assoc, append-nil)

-- three texts, the last of which has the end of one line and another line
pub regroup_lines : (o a n s f t r : List ℕ)
    → ((o ++ a) ++ n) ++ ((s ++ f) ++ (t ++ r)) ≡ o ++ (a ++ ((((n ++ s) ++ f) ++ t) ++ r))
regroup_lines o a n s f t r = simp append_assoc
