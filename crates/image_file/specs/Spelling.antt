-- The one spelling of each image.
use Rattle.std.specs.Prelude.{ℕ, List, ◌++◌, length, if◌then◌else◌}
use Rattle.std.specs.List.{flat_map}
use Rattle.std.specs.Int.{w32, to_le_bytes}
use Rattle.ks_base.specs.declared.places.Range.{Range}
use Rattle.image_memory.specs.declared.types.Kind.{Kind}
use Rattle.image_memory.specs.declared.types.Kind.TheVariants.{Code, ReadOnly, Writable}
use Rattle.image_memory.specs.declared.types.Piece.{Piece}
use Rattle.symbol_table.specs.declared.symbols.Symbol.{Symbol}
use Rattle.image_file.specs.Keeps.{symbol_kind}
use Rattle.image_file.specs.Reading.{Contents}

abbrev pub number : ℕ → List ℕ
number n = to_le_bytes w32 n

abbrev pub kind_number : Kind → ℕ
kind_number Code = 1
kind_number ReadOnly = 2
kind_number Writable = 3

unfoldable pub region_spelling : Piece → List ℕ
region_spelling piece =
    number (kind_number piece.kind) ++ number piece.base ++ number (length piece.bytes) ++ piece.bytes

unfoldable pub symbol_spelling : Symbol → List ℕ
symbol_spelling symbol =
    number symbol.address
    ++ number (symbol_kind symbol)
    ++ number (if symbol.global then 1 else 0)
    ++ number (length symbol.name)
    ++ symbol.name

unfoldable pub stack_spelling : Range → List ℕ
stack_spelling stack = number stack.low ++ number stack.high

unfoldable pub header_spelling : Contents → List ℕ
header_spelling image =
    number 0x314D_494B
    ++ number (length image.pieces)
    ++ number (length image.symbols)
    ++ number (length image.stacks)
    ++ number image.arena.low
    ++ number image.arena.high

unfoldable pub spelling : Contents → List ℕ
spelling image =
    header_spelling image
    ++ flat_map region_spelling image.pieces
    ++ flat_map symbol_spelling image.symbols
    ++ flat_map stack_spelling image.stacks
