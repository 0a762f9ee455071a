-- Jumps, calls and returns (Intel SDM volume 2, JMP, Jcc, CALL and RET). The thread's pc is the address after the
-- instruction, from which a relative displacement counts.
use Rattle.std.specs.Prelude.{ℕ, if◌then◌else◌, Result, Ok}
use Rattle.ks_base.specs.declared.refusals.Fault.{Fault}
use Rattle.ia32_alu.specs.declared.types.Width.TheVariants.{Dword}
use Rattle.ia32_decode.specs.declared.types.Condition.{Condition}
use Rattle.ia32_decode.specs.declared.types.Operand.{Operand}
use Rattle.ia32_step.specs.declared.types.Context.{Context}
use Rattle.ia32_step.specs.declared.types.Flow.TheVariants.{Call, Return}
use Rattle.ia32_step.specs.declared.types.Change.{Change}
use Rattle.ia32_step.specs.Operands.{Reader, given, operand_value}
use Rattle.ia32_step.specs.Changes.{goes_on, at_address, above, pushing, popped, raised}
use Rattle.ia32_step.specs.Moves.{holds}

-- JMP by a displacement
abbrev pub jumped_by : ℕ → Context → Change
jumped_by relative context = goes_on (at_address (above context.pc relative) context)

-- Jcc
abbrev pub jumped_if : Condition → ℕ → Context → Change
jumped_if condition relative context =
    if holds condition context.flags then jumped_by relative context else goes_on context

-- JMP to where an operand says
unfoldable pub jumped_to : Reader → Operand → Context → Result Change Fault
jumped_to read operand context =
    given (operand_value read context Dword operand) (λ target. Ok (goes_on (at_address target context)))

-- CALL: the address after the instruction is pushed
abbrev pub called : ℕ → Context → Change
called target context = record (pushing context.pc (at_address target context)) { flow = Call }

abbrev pub called_by : ℕ → Context → Change
called_by relative context = called (above context.pc relative) context

-- CALL to where an operand says, which is read before the push
unfoldable pub called_to : Reader → Operand → Context → Result Change Fault
called_to read operand context =
    given (operand_value read context Dword operand) (λ target. Ok (called target context))

-- RET, which raises ESP by n more bytes
abbrev pub returning : ℕ → ℕ → Context → Change
returning n target context = record (goes_on (at_address target (raised n context))) { flow = Return }

unfoldable pub returned : Reader → ℕ → Context → Result Change Fault
returned read n context = given (popped read context) (λ target. Ok (returning n target context))
