-- How a reply writes numbers, addresses, offsets, bytes and names, as lists of ASCII codes.
use Rattle.std.specs.Prelude.{ℕ, ◌+◌, ◌/◌, ◌%◌, ◌^◌, Bool, ◌&&◌, not, List, [], ◌∷◌}
use Rattle.std.specs.Prelude.{◌++◌, map, codes, nat_lt, nat_le, ◌==◌, if◌then◌else◌}
use Rattle.std.specs.List.{flat_map}
use Rattle.std.specs.Int.Digits.{digits_of}

-- the character of a digit below 16, in lower case
abbrev pub hex_digit : ℕ → ℕ
hex_digit d = if nat_lt d 10 then 48 + d else 87 + d

-- the character of a number's hexadecimal digit at a place, the lowest place being 0
abbrev pub hex_digit_at : ℕ → ℕ → ℕ
hex_digit_at n place = hex_digit (n / 16 ^ place % 16)

-- an address or a word: `0x` and eight digits
unfoldable pub hex_text : ℕ → List ℕ
hex_text n = codes "0x" ++ map (hex_digit_at n) (7 ∷ 6 ∷ 5 ∷ 4 ∷ 3 ∷ 2 ∷ 1 ∷ 0 ∷ [])

-- a byte: two digits
unfoldable pub byte_text : ℕ → List ℕ
byte_text b = map (hex_digit_at b) (1 ∷ 0 ∷ [])

-- a number's digits in a base up to 16, the highest first and no more than are needed, `0` for zero
unfoldable pub digits_text : ℕ → ℕ → List ℕ
digits_text base n = if n == 0 then codes "0" else map hex_digit (digits_of base n)

-- an offset: `0x` and as many digits as are needed
unfoldable pub offset_text : ℕ → List ℕ
offset_text n = codes "0x" ++ digits_text 16 n

-- any other number: decimal
unfoldable pub number_text : ℕ → List ℕ
number_text n = digits_text 10 n

-- a byte of a name that stands for itself: 0x21 to 0x7E without the backslash
abbrev pub stands_for_itself : ℕ → Bool
stands_for_itself b = nat_le 0x21 b && nat_le b 0x7E && not (b == 0x5C)

-- a byte of a name, escaped as `\x` and two digits where it doesn't stand for itself
unfoldable pub shown_byte : ℕ → List ℕ
shown_byte b = if stands_for_itself b then b ∷ [] else codes "\\x" ++ byte_text b

-- a name
unfoldable pub shown_name : List ℕ → List ℕ
shown_name name = flat_map shown_byte name
