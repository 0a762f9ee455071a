-- The names of a work's functions, and of their sections, are distinct.
use Rattle.std.proofs.Common.{◌≡◌, ℕ, ◌-◌, ◌<◌, ◌==◌, Bool, true, false, nat_eq, nat_lt, if◌then◌else◌}
use Rattle.std.proofs.Common.{List, [], ◌∷◌, drop, map, codes, refl, ap, sym, ◌∙◌, arith}
use Rattle.std.specs.Int.Digits.{digits_of, number_from_digits}
use Rattle.std.proofs.lemmas.Bool.{and_parts, eqb-true}
use Rattle.std.proofs.lemmas.Bool.Decides.{nat_tests}
use Rattle.std.proofs.lemmas.Int.Digits.{number_digits_of}
use Rattle.ks_base.specs.Text.{hex_digit, digits_text, number_text}
use Rattle.i386_reloc.specs.Normal.{same_bytes}
use Rattle.work_gen.specs.Functions.{function_name}
use Rattle.work_gen.specs.Objects.{section_name}

-- the digit of a character
abbrev digit_of : ℕ → ℕ
digit_of c = if nat_lt c 58 then c - 48 else c - 87

digit_back : (d : ℕ) → digit_of (hex_digit d) ≡ d
digit_back d = grind (arith, nat_tests)

digits_back : (ds : List ℕ) → map digit_of (map hex_digit ds) ≡ ds
digits_back [] = refl
digits_back (d ∷ ds) = rw (digit_back d, digits_back ds) refl

text_back : (is_0 : Bool) (n : ℕ) → (n == 0) ≡ is_0
    → number_from_digits 10 (map digit_of (if is_0 then codes "0" else map hex_digit (digits_of 10 n))) ≡ n
text_back true n e = sym (eqb-true n 0 e)
text_back false n e =
    ap (number_from_digits 10) (digits_back (digits_of 10 n)) ∙ number_digits_of 10 n (omega arith)

number_back : (n : ℕ) → number_from_digits 10 (map digit_of (number_text n)) ≡ n
unfolding number_text digits_text
number_back n = text_back (n == 0) n refl

same_number : (m n : ℕ) → number_text m ≡ number_text n → m ≡ n
same_number m n e =
    sym (number_back m) ∙ ap (λ text. number_from_digits 10 (map digit_of text)) e ∙ number_back n

all_same : (xs ys : List ℕ) → same_bytes xs ys ≡ true → xs ≡ ys
all_same [] [] e = refl
all_same [] (y ∷ ys) e = absurd cc
all_same (x ∷ xs) [] e = absurd cc
all_same (x ∷ xs) (y ∷ ys) e =
    let parts = and_parts (nat_eq x y) (same_bytes xs ys) e in
    let first : x ≡ y = eqb-true x y parts.0 in
    let rest : xs ≡ ys = all_same xs ys parts.1 in
    rw (first, rest) refl

false_by : (b : Bool) → (b ≡ true → ⊥) → b ≡ false
false_by true fails = absurd (fails refl)
false_by false fails = refl

same_section : (m n : ℕ) → section_name m ≡ section_name n → m ≡ n
unfolding section_name function_name
same_section m n e = same_number m n (ap (drop 7) e)

pub names_apart : (m n : ℕ) → m < n → same_bytes (section_name m) (section_name n) ≡ false
names_apart m n below =
    false_by (same_bytes (section_name m) (section_name n)) (λ e.
    let same = same_section m n (all_same (section_name m) (section_name n) e) in omega (arith, same, below))
