-- The image of a work, as the program reads it: one region of code, its functions' symbols, four stacks and an arena.
use Rattle.std.specs.Prelude.{ℕ, ◌+◌, ◌*◌, true, [], ◌∷◌, map}
use Rattle.std.specs.List.{flat_map}
use Rattle.ks_base.specs.declared.places.Range.{Range}
use Rattle.symbol_table.specs.declared.symbols.Symbol.{Symbol}
use Rattle.image_memory.specs.declared.types.Kind.TheVariants.{Code}
use Rattle.image_memory.specs.declared.types.Piece.{Piece}
use Rattle.image_memory.specs.Ranges.{from_to}
use Rattle.image_file.specs.Reading.{Contents}
use Rattle.work_gen.specs.Functions.{function_count, functions, function_name, stride, running_code}
use Rattle.work_gen.specs.Image.{code_base, stack_lows, stack_size}

-- the region of code, which has the functions' code one after another
abbrev pub code_piece : ℕ → Piece
code_piece number =
    record {
      kind = Code;
      base = code_base;
      bytes = flat_map (running_code number) (functions (function_count number));
    }

-- the global symbol of function i, at the start of its code
abbrev pub symbol_of : ℕ → Symbol
symbol_of i = record { address = code_base + stride * i; function = true; global = true; name = function_name i }

-- the stack from a lowest address on
abbrev pub stack_from : ℕ → Range
stack_from low = from_to low (low + stack_size)

unfoldable pub work_image : ℕ → Contents
work_image number =
    record {
      pieces = code_piece number ∷ [];
      symbols = map symbol_of (functions (function_count number));
      stacks = map stack_from stack_lows;
      arena = from_to 0x0080_0000 0x0090_0000;
    }
