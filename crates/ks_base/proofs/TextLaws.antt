-- Laws by which texts are appended piece by piece.
use Rattle.std.proofs.Common.{◌≡◌, ℕ, ◌+◌, ◌*◌, ◌/◌, ◌%◌, ◌<◌, ◌≤◌, List, [], ◌∷◌, ◌++◌}
use Rattle.std.proofs.Common.{map, append_assoc, ap, refl, sym, ◌∙◌, OnOk, Result}
use Rattle.std.specs.List.{flat_map}
use Rattle.std.proofs.lemmas.List.{map-append, append-nil}
use Rattle.std.proofs.lemmas.Int.Digits.{digits_of_step}
use Rattle.std.specs.Int.Digits.{digits_of}
use Rattle.ks_base.specs.Text.{hex_digit}
use Rattle.ks_base.specs.inside.Parts.{part_text, with_parts, parts_text}
use Rattle.ks_base.specs.declared.parts.Part.{Part}

-- the digits of a number that isn't zero are those of its quotient, and then the remainder
pub digits_push : (base n : ℕ) → 2 ≤ base → 0 < n → map hex_digit (digits_of base n) ≡ map hex_digit
    (digits_of base (n / base)) ++ hex_digit (n % base) ∷ []
digits_push base n low some =
    ap (map hex_digit) (digits_of_step base n low some)
    ∙ map-append hex_digit (digits_of base (n / base)) (n % base ∷ [])

pub ruleset digit_laws = (digits_push, append_assoc)

pub ruleset append_laws = (append_assoc)

-- the text of parts is that of each, one after another
with_flat : (text : List ℕ) (parts : List Part) → text ++ flat_map part_text parts ≡ with_parts text parts
with_flat text [] = append-nil text
with_flat text (part ∷ rest) = sym (append_assoc text (part_text part) (flat_map part_text rest))
    ∙ with_flat (text ++ part_text part) rest

pub parts_flat : (parts : List Part) → flat_map part_text parts ≡ parts_text parts
parts_flat [] = refl
parts_flat (part ∷ rest) = with_flat (part_text part) rest
