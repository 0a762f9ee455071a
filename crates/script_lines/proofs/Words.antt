-- Each word of a line that is plain is printable, and each printable word is ASCII.
use Rattle.std.proofs.Common.{◌≡◌, refl, sym, ℕ, suc, ◌≤◌, ◌<◌, true, false}
use Rattle.std.proofs.Common.{not, cond, List, [], ◌∷◌, length, arith}
use Rattle.std.specs.Prelude.{filter, nat_le}
use Rattle.std.specs.List.{slice_split, onto_first, list_all}
use Rattle.std.proofs.lemmas.Bool.{and_parts, and_from, false≢true, leb-true}
use Rattle.std.proofs.lemmas.Bool.Decides.{nat_tests}
use Rattle.std.specs.List.{All}
use Rattle.std.specs.Str.{IsUtf8}
use Rattle.std.proofs.lemmas.List.Elements.{All-nil, All-cons}
use Rattle.std.proofs.lemmas.Str.{IsUtf8-from_ascii}
use Rattle.std.proofs.lemmas.Str.Ascii.{IsAscii-from_all}
use Rattle.script_lines.specs.Lines.{is_empty, is_space, is_printable, is_word_byte, is_plain, words_of, IsPrintable}

-- each of some words
abbrev pub Each : (List ℕ → Type 0) → List (List ℕ) → Type 0
Each P [] = Unit {0}
Each P (word ∷ words) = P word × Each P words

-- a part between spaces, of so many bytes at most
abbrev IsPart : ℕ → List ℕ → Type 0
IsPart most part = (length part ≤ most) × (list_all is_word_byte part ≡ true)

longer : (n : ℕ) (parts : List (List ℕ)) → Each (IsPart n) parts → Each (IsPart (suc n)) parts
longer n [] each = tt
longer n (part ∷ parts) each = ((omega (arith, each.0.0), each.0.1), longer n parts each.1)

word_byte : (byte : ℕ) → is_printable byte ≡ true → is_space byte ≡ false → is_word_byte byte ≡ true
word_byte byte printable other = grind (arith, nat_tests)

onto_part : (n byte : ℕ) (parts : List (List ℕ)) → is_word_byte byte ≡ true → Each (IsPart n) parts
    → Each (IsPart (suc n)) (onto_first byte parts)
onto_part n byte [] printable each = ((omega arith, and_from _ _ printable refl), tt)
onto_part n byte (part ∷ parts) printable each =
    ((omega (arith, each.0.0), and_from _ _ printable each.0.1), longer n parts each.1)

parts_printable : (line : List ℕ) → list_all is_printable line ≡ true
    → Each (IsPart (length line)) (slice_split is_space line)
parts_printable [] printable = ((omega arith, refl), tt)
parts_printable (byte ∷ line) printable =
    let rest = parts_printable line (and_parts (is_printable byte) _ printable).1 in
    elim (is_space byte) as (λ b. is_space byte ≡ b → Each (IsPart (suc (length line)))
    (cond b ([] ∷ slice_split is_space line) (onto_first byte (slice_split is_space line)))) [
      | true ↦ λ _. ((omega arith, refl), longer (length line) (slice_split is_space line) rest)
      | false ↦ λ other. onto_part (length line) byte (slice_split is_space line)
          (word_byte byte (and_parts (is_printable byte) _ printable).0 other) rest
    ] refl

printable_part : (n : ℕ) (part : List ℕ) → n ≤ 4096 → is_empty part ≡ false → IsPart n part → IsPrintable part
printable_part n [] few some is = absurd (false≢true (sym some))
printable_part n (byte ∷ part) few some is = record { some = omega arith; short = omega (arith, is.0); bytes = is.1 }

kept_printable : (n : ℕ) (parts : List (List ℕ)) → n ≤ 4096 → Each (IsPart n) parts
    → Each IsPrintable (filter (λ part. not (is_empty part)) parts)
kept_printable n [] few each = tt
kept_printable n (part ∷ parts) few each =
    elim (is_empty part) as (λ b. is_empty part ≡ b → Each IsPrintable
    (cond (not b) (part ∷ filter (λ q. not (is_empty q)) parts) (filter (λ q. not (is_empty q)) parts))) [
      | true ↦ λ _. kept_printable n parts few each.1
      | false ↦ λ some. (printable_part n part few some each.0, kept_printable n parts few each.1)
    ] refl

pub words_printable : (line : List ℕ) → is_plain line ≡ true → Each IsPrintable (words_of line)
words_printable line plain =
    kept_printable (length line) (slice_split is_space line)
    (leb-true (length line) 4096 (and_parts (nat_le (length line) 4096) _ plain).0)
    (parts_printable line (and_parts (nat_le (length line) 4096) _ plain).1)

byte_below : (byte : ℕ) → is_word_byte byte ≡ true → byte < 128
byte_below byte printable = grind (arith, nat_tests)

bytes_below : (word : List ℕ) → list_all is_word_byte word ≡ true → All (λ byte. byte < 128) word
bytes_below [] printable = All-nil (λ (byte : ℕ). byte < 128)
bytes_below (byte ∷ word) printable =
    let both = and_parts (is_word_byte byte) _ printable in
    All-cons (λ (byte : ℕ). byte < 128) byte word (byte_below byte both.0) (bytes_below word both.1)

pub word_is_text : (word : List ℕ) → IsPrintable word → IsUtf8 word
word_is_text word printable = IsUtf8-from_ascii word (IsAscii-from_all word (bytes_below word printable.bytes))
