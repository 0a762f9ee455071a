-- The lines of a listing of instructions.
use Rattle.std.specs.Prelude.{ℕ, List, [], ◌∷◌, ◌++◌, codes, if◌then◌else◌}
use Rattle.std.specs.List.{flat_map}
use Rattle.ks_base.specs.Text.{hex_text, number_text, byte_text}
use Rattle.ia32_decode.specs.declared.types.Decoded.{Decoded}
use Rattle.ia32_decode.specs.Padding.{is_padding_of}

-- a byte after a space
abbrev pub spaced_byte : ℕ → List ℕ
spaced_byte byte = codes " " ++ byte_text byte

abbrev pub padding_word : Decoded → List ℕ
padding_word d = if is_padding_of d then codes " padding" else []

-- an instruction: its address, its length in bytes, its bytes, and whether it is padding
unfoldable pub instruction_line : ℕ → Decoded → List ℕ → List ℕ
instruction_line address d bytes =
    hex_text address ++ codes " " ++ number_text d.length ++ flat_map spaced_byte bytes ++ padding_word d ++ 10 ∷ []

-- the address after the last instruction
unfoldable pub end_line : ℕ → List ℕ
end_line address = codes "end " ++ hex_text address ++ 10 ∷ []

-- an address at which no instruction stands
unfoldable pub undecoded_line : ℕ → List ℕ
undecoded_line address = codes "undecoded " ++ hex_text address ++ 10 ∷ []
