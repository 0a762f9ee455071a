-- Bytes before two ends, a block at a time.
use Rattle.std.proofs.Common.{◌≡◌, ℕ, ◌+◌, ◌-◌, ◌<◌, ◌≤◌, Bool, true, List}
use Rattle.std.proofs.Common.{take, drop, get_or, sym, ◌∙◌, ap, ⊎_elim, arith}
use Rattle.std.specs.Cmp.Lexicographic.{bytes_decides}
use Rattle.std.proofs.lemmas.Bool.{cases_lt}
use Rattle.std.proofs.lemmas.List.{get_or-take, get_or-drop}
use Rattle.i386_reloc.specs.Normal.{same_bytes}
use Rattle.section_equal.specs.inside.Texts.{Agree}

-- equal parts have equal bytes
pub block_equal : (old new : List ℕ) (i j n m : ℕ) (same : Bool)
    → same ≡ same_bytes (take n (drop i old)) (take m (drop j new)) → 64 ≤ n → 64 ≤ m → same ≡ true → (k : ℕ) → k < 64
    → get_or old (i + k) 0 ≡ get_or new (j + k) 0
block_equal old new i j n m same is in_n in_m yes_same k lt =
    let e : take n (drop i old) ≡ take m (drop j new) =
    (bytes_decides (take n (drop i old)) (take m (drop j new))).0 (sym is ∙ yes_same) in
    sym (get_or-take n (drop i old) k 0 (omega arith) ∙ get_or-drop i old k 0)
    ∙ ap (λ t. get_or t k 0) e
    ∙ get_or-take m (drop j new) k 0 (omega arith)
    ∙ get_or-drop j new k 0

-- one more block is equal
pub block_agree : (old new : List ℕ) (old_end new_end count i j : ℕ) → Agree old new old_end new_end count
    → i + (count + 64) ≡ old_end → j + (count + 64) ≡ new_end
    → ((k : ℕ) → k < 64 → get_or old (i + k) 0 ≡ get_or new (j + k) 0) → Agree old new old_end new_end (count + 64)
block_agree old new old_end new_end count i j agree at_i at_j block =
    record {
      in_old = omega arith;
      in_new = omega arith;
      each = λ a b lt le same.
          ⊎_elim
          (λ (front : a < i + 64).
          let at_a : i + (a - i) ≡ a = omega arith in
          let at_b : j + (a - i) ≡ b = omega arith in
          sym (ap (λ x. get_or old x 0) at_a) ∙ block (a - i) (omega arith) ∙ ap (λ x. get_or new x 0) at_b)
          (λ (back : i + 64 ≤ a). agree.each a b lt (omega arith) same)
          (cases_lt a (i + 64));
    }
