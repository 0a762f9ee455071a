-- The running code from a base on, each instruction met through the view of memory at its address.
use Rattle.std.specs.Prelude.{ℕ, ◌-◌, ◌^◌, not, List, [], take, Option, None}
use Rattle.std.specs.Option.{option_map}
use Rattle.ks_base.specs.declared.refusals.DifferenceKind.{DifferenceKind}
use Rattle.ks_base.specs.declared.refusals.DifferenceKind.TheVariants.{End, Undecoded}
use Rattle.image_memory.specs.Contents.{Contents}
use Rattle.image_memory.specs.Fetch.{View, Unmapped, AtHome, Stray, Bytes, view_at}
use Rattle.ia32_decode.specs.declared.types.Decoded.{Decoded}
use Rattle.ia32_decode.specs.Decode.{decoded_from}
use Rattle.ia32_decode.specs.Padding.{is_padding_of}
use Rattle.match_instructions.specs.Instructions.{Instruction, listed, through_kept}

abbrev pub run_instruction : ℕ → List ℕ → Decoded → Instruction
run_instruction address window d =
    record { place = address; decoded = d; bytes = take d.length window; references = []; kept = not (is_padding_of d) }

-- the instruction that is met at an address: none where there is no code, at a spliced home, in a retired range, or
-- where the bytes spell none
abbrev pub run_instruction_in : ℕ → View → Option Instruction
run_instruction_in address Unmapped = None
run_instruction_in address AtHome = None
run_instruction_in address Stray = None
run_instruction_in address (Bytes window) = option_map (run_instruction address window) (decoded_from window)

unfoldable pub run_instruction_at : Contents → ℕ → Option Instruction
run_instruction_at contents address = run_instruction_in address (view_at contents address)

-- all that is decoded from a base on; each has at least one byte, and no code stands at 2 ^ 32 or above
unfoldable pub run_code : Contents → ℕ → List Instruction
run_code contents base = listed (run_instruction_at contents) (2 ^ 32 - base) base

-- the run body of n kept instructions, or as much of it as there is: it goes up to the end of the last kept one
abbrev pub run_body : Contents → ℕ → ℕ → List Instruction
run_body contents base n = through_kept n (run_code contents base)

-- why no instruction is met where the run list breaks off
abbrev pub break_kind : View → DifferenceKind
break_kind Unmapped = End
break_kind AtHome = End
break_kind Stray = End
break_kind (Bytes window) = Undecoded
