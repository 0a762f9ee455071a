-- Pushes and pops (Intel SDM volume 2, PUSH, POP and LEAVE), of 32 bits each.
use Rattle.std.specs.Prelude.{ℕ, Result, Ok}
use Rattle.ks_base.specs.declared.refusals.Fault.{Fault}
use Rattle.ia32_decode.specs.declared.types.Register.TheVariants.{Ebp}
use Rattle.ia32_alu.specs.declared.types.Width.TheVariants.{Dword}
use Rattle.ia32_decode.specs.declared.types.Operand.{Operand}
use Rattle.ia32_decode.specs.declared.types.Operand.TheVariants as operands
use Rattle.ia32_step.specs.declared.types.Context.{Context}
use Rattle.ia32_step.specs.declared.types.Change.{Change}
use Rattle.ia32_step.specs.Registers.{register_value, with_stack_top}
use Rattle.ia32_step.specs.Operands.{Reader, given, place_of}
use Rattle.ia32_step.specs.Changes.{putting, pushing, popped, raised}

-- PUSH: the source is read before ESP falls, so PUSH ESP pushes the old ESP
unfoldable pub pushed : Result ℕ Fault → Context → Result Change Fault
pushed source context = given source (λ v. Ok (pushing v context))

-- POP: where the operand stands is found after ESP has risen, and then it takes the number, so POP ESP leaves that in
-- ESP
unfoldable pub popped_to : Reader → Operand → Context → Result Change Fault
popped_to read operand context =
    given (popped read context) (λ v.
    Ok (putting (place_of (raised 0 context).registers operand) Dword v (raised 0 context)))

-- LEAVE: ESP becomes EBP, and then EBP is popped
unfoldable pub left : Reader → Context → Result Change Fault
left read context =
    popped_to read (operands.Register Ebp) (with_stack_top (register_value context.registers Dword Ebp) context)
