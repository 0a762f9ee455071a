-- The number that a word writes.
use Rattle.std.specs.Prelude.{ℕ, ◌^◌, ◌==◌, nat_le, nat_lt, Bool, false, ◌&&◌}
use Rattle.std.specs.Prelude.{List, [], ◌∷◌, length, drop, if◌then◌else◌}
use Rattle.std.specs.Prelude.{Option, Some, None}
use Rattle.std.specs.List.{list_all}
use Rattle.std.specs.Char.{is_digit}
use Rattle.std.specs.Str.Parse.{digits_value}

-- x, where a condition holds
abbrev pub when : {A : Type 0} → Bool → A → Option A
when holds x = if holds then Some x else None

-- what so many digits of a base write, from one to a most; letters stand for ten and above, in either case
abbrev pub numeral : ℕ → ℕ → List ℕ → Option ℕ
numeral base most digits =
    when (nat_le 1 (length digits) && nat_le (length digits) most
    && list_all (λ digit. is_digit digit base) digits
    && nat_lt (digits_value base digits) (2 ^ 32))
    (digits_value base digits)

-- whether a word begins with `0x`
abbrev pub is_hexadecimal : List ℕ → Bool
is_hexadecimal [] = false
is_hexadecimal (first ∷ []) = false
is_hexadecimal (first ∷ second ∷ digits) = first == 0x30 && second == 0x78

-- one to ten decimal digits, or `0x` and one to eight hexadecimal digits; the number is below 2^32
abbrev pub number_of : List ℕ → Option ℕ
number_of word = if is_hexadecimal word then numeral 16 8 (drop 2 word) else numeral 10 10 word
