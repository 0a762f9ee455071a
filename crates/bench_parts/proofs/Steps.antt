-- What one step of the walk adds to what was met.
use Rattle.std.proofs.Common.{◌≡◌, ℕ, suc, ◌+◌, ◌-◌, ◌<◌, ◌≤◌, List, [], ◌∷◌, length}
use Rattle.std.proofs.Common.{take, drop, Some, None, sym, ap, subst, ◌∙◌, arith}
use Rattle.std.proofs.lemmas.List.{take_rest, length-drop}
use Rattle.ia32_decode.specs.declared.types.Decoded.{Decoded}
use Rattle.ia32_decode.specs.Decode.{decoded_from}
use Rattle.bench_parts.specs.Meets.{Meets}

-- what is met of the rest comes after what was met so far, and each has a byte of its own
abbrev pub MetBefore : List ℕ → List ℕ → ℕ → ℕ → Type 0
MetBefore bytes rest i u = ((m n : ℕ) → Meets rest m n → Meets bytes (i + m) (u + n))
    × (i + u + length rest ≤ length bytes)

-- a slice from an offset on
abbrev behind : List ℕ → ℕ → List ℕ
behind rest n = take (length rest - n) (drop n rest)

shorter : (rest : List ℕ) (n : ℕ) → length (behind rest n) ≡ length rest - n
shorter rest n = ap length (take_rest rest n) ∙ length-drop n rest

pub instruction_met : (bytes rest : List ℕ) (i u : ℕ) (d : Decoded) → MetBefore bytes rest i u
    → Some d ≡ decoded_from rest → 0 < d.length → d.length ≤ length rest
    → MetBefore bytes (behind rest d.length) (i + 1) u
instruction_met bytes rest i u d before is some within =
    let bound : i + u + length rest ≤ length bytes = before.1 in (
      λ m n met.
          let later : Meets (drop d.length rest) m n = subst (λ (xs : List ℕ). Meets xs m n)
          (take_rest rest d.length) met in
          let count : i + suc m ≡ i + 1 + m = omega arith in
          subst (λ k. Meets bytes k (u + n)) count (before.0 (suc m) n (Meets.decodes rest d m n (sym is) later)),
      omega (arith, shorter rest d.length, bound),
    )

pub byte_passed : (bytes rest : List ℕ) (i u : ℕ) → MetBefore bytes rest i u → None ≡ decoded_from rest
    → 0 < length rest → MetBefore bytes (behind rest 1) i (u + 1)
byte_passed bytes [] i u before is some = absurd (omega arith)
byte_passed bytes (b ∷ bs) i u before is some =
    let bound : i + u + length (b ∷ bs) ≤ length bytes = before.1 in (
      λ m n met.
          let later : Meets bs m n = subst (λ (xs : List ℕ). Meets xs m n) (take_rest (b ∷ bs) 1) met in
          let count : u + suc n ≡ u + 1 + n = omega arith in
          subst (λ k. Meets bytes (i + m) k) count (before.0 m (suc n) (Meets.passes b bs m n (sym is) later)),
      omega (arith, shorter (b ∷ bs) 1, bound),
    )

pub all_met : (bytes rest : List ℕ) (i u : ℕ) → MetBefore bytes rest i u → length rest ≡ 0 → Meets bytes i u
all_met bytes [] i u before none =
    let left : i + 0 ≡ i = omega arith in
    let right : u + 0 ≡ u = omega arith in
    subst (λ k. Meets bytes k u) left (subst (λ k. Meets bytes (i + 0) k) right (before.0 0 0 Meets.ends))
all_met bytes (b ∷ bs) i u before none = absurd (omega arith)
