-- The instructions of one function of an image, line by line.
use Rattle.std.specs.Prelude.{ℕ, zero, suc, ◌-◌, List, [], ◌++◌, min, nat_lt, if◌then◌else◌}
use Rattle.std.specs.Prelude.{Option, Some, None, Result, Ok, Err}
use Rattle.ks_base.specs.declared.refusals.Refusal.{Refusal}
use Rattle.symbol_table.specs.Symbols.{function_named, next_address}
use Rattle.image_memory.specs.declared.types.Piece.{Piece}
use Rattle.image_memory.specs.Contents.{Contents, holding, piece_range}
use Rattle.image_file.specs.Reading as image
use Rattle.match_instructions.specs.Instructions.{Instruction, after}
use Rattle.match_instructions.specs.RunCode.{run_instruction_at}
use Rattle.code_listing.specs.Lines.{instruction_line, end_line, undecoded_line}

-- the lines from an address on, by the instruction that is met there and the lines from its end on
abbrev pub lines_by : ℕ → Option Instruction → (ℕ → List ℕ) → List ℕ
lines_by address None rest = undecoded_line address
lines_by address (Some i) rest = instruction_line address i.decoded i.bytes ++ rest (after i)

-- the lines of at most n instructions, from an address on, that begin below an end
unfoldable pub lines_of : ℕ → Contents → ℕ → ℕ → List ℕ
lines_of zero contents end address = end_line address
lines_of (suc n) contents end address =
    if nat_lt address end then lines_by address (run_instruction_at contents address) (lines_of n contents end)
    else end_line address

-- the lines of all of them: each has at least one byte
abbrev pub listing : Contents → ℕ → ℕ → List ℕ
listing contents end address = lines_of (end - address) contents end address

-- what is left of a listing whose next line is that of an address, if it has one
abbrev pub remaining : Contents → ℕ → Option ℕ → List ℕ
remaining contents end None = []
remaining contents end (Some address) = listing contents end address

-- where the listing of a function ends: at the end of its region, or at the next symbol above it where that is lower
abbrev pub end_within : Option Piece → Option ℕ → ℕ
end_within None next = 0
end_within (Some piece) None = (piece_range piece).high
end_within (Some piece) (Some next) = min next (piece_range piece).high

abbrev pub end_above : image.Contents → ℕ → ℕ
end_above program address = end_within (holding program.pieces address) (next_address program.symbols address)

-- an image's regions as a memory in which nothing was replaced
abbrev pub memory_of : image.Contents → Contents
memory_of program = record { pieces = program.pieces; fences = [] }

abbrev pub listed_from : image.Contents → Result ℕ Refusal → Result (List ℕ) Refusal
listed_from program (Ok address) = Ok (listing (memory_of program) (end_above program address) address)
listed_from program (Err refusal) = Err refusal

-- the instructions of the function of a name, or why there is no such function
unfoldable pub code_of : image.Contents → List ℕ → Result (List ℕ) Refusal
code_of program name = listed_from program (function_named program.symbols name)
