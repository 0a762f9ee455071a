-- A window that doesn't begin with a prefix has none, and an opcode that is listed is none, nor is it 0F.
use Rattle.std.proofs.Common.{◌≡◌, ℕ, List, [], ◌∷◌, Bool, true, false, refl, ap, sym, ◌∙◌, arith}
use Rattle.std.proofs.lemmas.Grind.{common_steps}
use Rattle.std.specs.Prelude.{◌==◌, ◌||◌}
use Rattle.std.proofs.lemmas.Bool.{eqb-true}
use Rattle.ia32_decode.specs.declared.opcode_table.Line.TheVariants.{NoLine}
use Rattle.ia32_decode.specs.declared.heads.Head.{Head}
use Rattle.ia32_decode.specs.Table.{line_of, row}
use Rattle.ia32_decode.specs.Encoding.{byte_in, is_prefix, prefix_count, prefixes_of, head_after, head_of}

pub none_counted : (w : List ℕ) → is_prefix (byte_in w 0) ≡ false → prefix_count w ≡ 0
unfolding prefix_count
none_counted [] other = refl
none_counted (x ∷ xs) other = rw other (grind (arith, common_steps))

pub head_of_plain : (w : List ℕ) → is_prefix (byte_in w 0) ≡ false → head_of w ≡ head_after w (prefixes_of [] 0) 0
head_of_plain w other = rw (none_counted w other)

-- the last of some bytes, or one of those before it
either : (b k : ℕ) (before same : Bool) → b == k ≡ same → before || same ≡ true → line_of false k ≡ NoLine
    → (before ≡ true → line_of false b ≡ NoLine) → line_of false b ≡ NoLine
either b k true same is any at others = others refl
either b k false true is any at others = ap (line_of false) (eqb-true b k is) ∙ at
either b k false false is any at others = others any

prefix_unlisted : (b : ℕ) → is_prefix b ≡ true → line_of false b ≡ NoLine
unfolding line_of row
prefix_unlisted b any =
    either b 0x65 _ _ refl any refl
    (λ any. either b 0x64 _ _ refl any refl (λ any. either b 0x3E _ _ refl any refl (λ any.
    either b 0x36 _ _ refl any refl
    (λ any. either b 0x2E _ _ refl any refl (λ any. either b 0x26 _ _ refl any refl (λ any.
    either b 0xF3 _ _ refl any refl
    (λ any. either b 0xF2 _ _ refl any refl (λ any. either b 0xF0 _ _ refl any refl (λ any.
    ap (line_of false) (eqb-true b 0x66 any) ∙ refl)))))))))

pub listed_plain : (b : ℕ) → (line_of false b ≡ NoLine → ⊥) → is_prefix b ≡ false
listed_plain b listed = by_answer (is_prefix b) refl
  where
    by_answer : (answer : Bool) → is_prefix b ≡ answer → answer ≡ false
    by_answer true is = absurd (listed (prefix_unlisted b is))
    by_answer false is = refl

-- an opcode that is listed doesn't stand after 0F
listed_alone : (b : ℕ) → (line_of false b ≡ NoLine → ⊥) → b == 0x0F ≡ false
unfolding line_of row
listed_alone b listed = by_answer (b == 0x0F) refl
  where
    by_answer : (answer : Bool) → b == 0x0F ≡ answer → answer ≡ false
    by_answer true is = absurd (listed (ap (line_of false) (eqb-true b 0x0F is) ∙ refl))
    by_answer false is = refl

pub head_of_listed : (w : List ℕ) (b : ℕ) → b ≡ byte_in w 0 → (line_of false b ≡ NoLine → ⊥)
    → head_of w ≡ record { prefixes = prefixes_of [] 0; escaped = false; opcode = b; end = 1 }
unfolding head_after
head_of_listed w b first listed =
    head_of_plain w (ap is_prefix (sym first) ∙ listed_plain b listed)
    ∙ rw (ap (λ k. k == 0x0F) (sym first) ∙ listed_alone b listed) (ap (λ (k : ℕ). at_start k) (sym first))
  where
    at_start : ℕ → Head
    at_start k = record { prefixes = prefixes_of [] 0; escaped = false; opcode = k; end = 1 }
