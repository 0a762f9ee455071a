-- How many bytes a jump may take at the home of a first version.
use Rattle.std.specs.Prelude.{◌≡◌, ℕ, zero, suc, ◌+◌, ◌-◌, min, length, if◌then◌else◌, List, [], map, Option, Some}
use Rattle.std.specs.Prelude.{None, unwrap_or}
use Rattle.image_memory.specs.declared.types.Piece.{Piece}
use Rattle.image_memory.specs.Contents.{Contents, shape_of}
use Rattle.image_memory.specs.Fetch.{View, Unmapped, AtHome, Stray, Bytes, code_from, view_at}
use Rattle.symbol_table.specs.declared.symbols.Symbol.{Symbol}
use Rattle.symbol_table.specs.Symbols.{next_address}
use Rattle.ia32_decode.specs.declared.types.Decoded.{Decoded}
use Rattle.ia32_decode.specs.Decode.{decoded_from}
use Rattle.ia32_decode.specs.Padding.{is_padding_of}

-- the length of an instruction, where it is padding
abbrev pub padding_by : Option Decoded → Option ℕ
padding_by None = None
padding_by (Some d) = if is_padding_of d then Some d.length else None

-- the length of the instruction that is met, where it is padding
abbrev pub padding_length : View → Option ℕ
padding_length Unmapped = None
padding_length AtHome = None
padding_length Stray = None
padding_length (Bytes code) = padding_by (decoded_from code)

abbrev pub past : ℕ → (ℕ → ℕ) → Option ℕ → ℕ
past address rest None = address
past address rest (Some length) = rest (address + length)

-- the end of the padding that begins at an address, of at most n instructions
unfoldable pub padding_end : Contents → ℕ → ℕ → ℕ
padding_end contents zero address = address
padding_end contents (suc n) address = past address (padding_end contents n) (padding_length (view_at contents address))

-- the end of the code piece that holds an address; the address itself where none does
abbrev pub end_of_code : List Piece → ℕ → ℕ
end_of_code pieces address = address + length (unwrap_or (code_from pieces address) [])

-- where a body ends with the padding that directly follows it; each instruction has at least one byte
abbrev pub padded_end : Contents → (home length : ℕ) → ℕ
padded_end contents home length =
    padding_end contents (end_of_code contents.pieces home - (home + length)) (home + length)

-- the least of an end and of the next symbol's address
abbrev pub up_to_symbol : ℕ → Option ℕ → ℕ
up_to_symbol end None = end
up_to_symbol end (Some address) = min end address

-- The greatest number of bytes from a home on that lie in one code piece, in the body and the padding that directly
-- follows it, and below the next symbol. A symbol at the home itself takes nothing of it.
unfoldable pub room : Contents → List Symbol → (home length : ℕ) → ℕ
room contents symbols home length =
    up_to_symbol (min (end_of_code contents.pieces home) (padded_end contents home length)) (next_address symbols home)
    - home

-- the pieces of two memories differ in their bytes alone
abbrev pub HaveOneShape : Contents → Contents → Type 0
HaveOneShape a b = map shape_of a.pieces ≡ map shape_of b.pieces
