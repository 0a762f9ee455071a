-- Direct branches: the instructions whose bytes hold how far they go.
use Rattle.std.specs.Prelude.{ℕ, Bool, true, false, ◌==◌, Option, Some, None}
use Rattle.ia32_decode.specs.declared.types.Prefixes.{Prefixes}
use Rattle.ia32_alu.specs.declared.types.Width.TheVariants.{Dword as Width32}
use Rattle.ia32_decode.specs.declared.types.Register.TheVariants.{Eax}
use Rattle.ia32_decode.specs.declared.types.Operand.TheVariants.{Register as InRegister}
use Rattle.ia32_decode.specs.declared.types.Action.{Action}
use Rattle.ia32_decode.specs.declared.types.Action.TheVariants.{Call as IsCall, Jump as IsJump, JumpIf as IsJumpIf}
use Rattle.ia32_decode.specs.declared.types.Action.TheVariants.{LoopBranch as IsLoopBranch}
use Rattle.ia32_decode.specs.declared.types.Decoded.{Decoded}
use Rattle.ia32_decode.specs.declared.types.BranchKind.{BranchKind}
use Rattle.ia32_decode.specs.declared.types.BranchKind.TheVariants.{Call, Jump, JumpIf, Loop}
use Rattle.ia32_decode.specs.declared.types.Branch.{Branch}
use Rattle.ia32_decode.specs.Encoding.{condition_number}

-- the direct branch that an action is, with some prefixes and a displacement
unfoldable pub branch_in : Prefixes → Action → ℕ → Option Branch
branch_in prefixes IsCall n = Some (record { kind = Call; prefixes = prefixes; displacement = n })
branch_in prefixes IsJump n = Some (record { kind = Jump; prefixes = prefixes; displacement = n })
branch_in prefixes (IsJumpIf condition) n =
    Some (record { kind = JumpIf condition; prefixes = prefixes; displacement = n })
branch_in prefixes (IsLoopBranch opcode) n =
    Some (record { kind = Loop opcode; prefixes = prefixes; displacement = n })
branch_in prefixes _ n = None

abbrev pub branch_of : Decoded → Option Branch
branch_of decoded = branch_in decoded.prefixes decoded.instr.action decoded.instr.value

-- whether two direct branches are of one kind
abbrev pub same_kind : BranchKind → BranchKind → Bool
same_kind Call Call = true
same_kind Jump Jump = true
same_kind (JumpIf a) (JumpIf b) = condition_number a == condition_number b
same_kind (Loop a) (Loop b) = a == b
same_kind _ _ = false

-- the jump E9, which has no prefix, with a displacement
abbrev pub jump_by : ℕ → Decoded
jump_by displacement = record {
  length = 5;
  instr = record { action = IsJump; width = Width32; operand = InRegister Eax; register = Eax; value = displacement };
  fields = record { opcode_end = 1; disp = None; imm = Some (record { offset = 1; width = 4 }) };
  prefixes = record {
    count = 0;
    operand_size = false;
    lock = false;
    repeat_not_equal = false;
    repeat = false;
    extra_segment = false;
    code_segment = false;
    stack_segment = false;
    data_segment = false;
    segment_f = false;
    segment_g = false;
  };
}
