-- The lines of a script, and the words of a line.
use Rattle.std.specs.Prelude.{◌≡◌, ℕ, ◌≤◌, ◌==◌, nat_le, Bool, true, not, ◌&&◌}
use Rattle.std.specs.Prelude.{List, [], ◌∷◌, length, filter, if◌then◌else◌}
use Rattle.std.specs.List.{slice_split, list_all}

abbrev pub is_empty : List ℕ → Bool
is_empty bytes = length bytes == 0

-- parts without the last one, where that is empty
abbrev pub without_empty_last : List (List ℕ) → List (List ℕ)
without_empty_last [] = []
without_empty_last (part ∷ []) = if is_empty part then [] else part ∷ []
without_empty_last (part ∷ next ∷ parts) = part ∷ without_empty_last (next ∷ parts)

abbrev pub is_line_end : ℕ → Bool
is_line_end byte = byte == 0x0A

-- the lines, each without the byte 0A that ends it; the last may lack that byte
abbrev pub lines_of : List ℕ → List (List ℕ)
lines_of bytes = without_empty_last (slice_split is_line_end bytes)

abbrev pub is_space : ℕ → Bool
is_space byte = byte == 0x20

-- the words, which stand between spaces
abbrev pub words_of : List ℕ → List (List ℕ)
words_of line = filter (λ part. not (is_empty part)) (slice_split is_space line)

abbrev pub is_printable : ℕ → Bool
is_printable byte = nat_le 0x20 byte && nat_le byte 0x7E

-- whether a line has at most 4,096 bytes, and each from 0x20 to 0x7E
abbrev pub is_plain : List ℕ → Bool
is_plain line = nat_le (length line) 4096 && list_all is_printable line

abbrev pub is_word_byte : ℕ → Bool
is_word_byte byte = nat_le 0x21 byte && nat_le byte 0x7E

-- what each word of such a line is: 1 to 4,096 bytes, each from 0x21 to 0x7E
pub record IsPrintable (word : List ℕ) : Type 0 where
  pub some : 1 ≤ length word
  pub short : length word ≤ 4096
  pub bytes : list_all is_word_byte word ≡ true
