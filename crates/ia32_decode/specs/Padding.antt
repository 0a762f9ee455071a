-- Which instructions are padding, by the forms in which an assembler writes it.
use Rattle.std.specs.Prelude.{Bool, true, false, ◌&&◌, ◌||◌, not, Option, Some, None, is_some, nat_le, ◌==◌}
use Rattle.ia32_decode.specs.declared.types.Prefixes.{Prefixes}
use Rattle.ia32_decode.specs.declared.types.Register.{Register}
use Rattle.ia32_decode.specs.Encoding.{register_number, factor_of}
use Rattle.ia32_alu.specs.Widths.{is_dword}
use Rattle.ia32_decode.specs.declared.types.Index.{Index}
use Rattle.ia32_decode.specs.declared.types.Operand.{Operand}
use Rattle.ia32_decode.specs.declared.types.Operand.TheVariants.{Register as InRegister, Memory as InMemory}
use Rattle.ia32_decode.specs.declared.types.Source.{Source}
use Rattle.ia32_decode.specs.declared.types.Source.TheVariants.{Immediate}
use Rattle.ia32_decode.specs.declared.types.Action.{Action}
use Rattle.ia32_decode.specs.declared.types.Action.TheVariants.{Nop, NopOperand, Move, LoadAddress}
use Rattle.ia32_decode.specs.declared.types.Decoded.{Decoded}

-- whether there is a prefix other than 66, 2E and 3E
abbrev pub has_others : Prefixes → Bool
has_others p =
    p.lock || p.repeat_not_equal || p.repeat || p.extra_segment || p.stack_segment || p.segment_f || p.segment_g

-- any number of 66
abbrev pub only_66 : Prefixes → Bool
only_66 p = not (has_others p) && not p.code_segment && not p.data_segment

-- any number of 66 and 2E
abbrev pub only_66_2e : Prefixes → Bool
only_66_2e p = not (has_others p) && not p.data_segment

-- at most one prefix, which is 2E or 3E
abbrev pub one_2e_3e : Prefixes → Bool
one_2e_3e p = nat_le p.count 1 && not (has_others p) && not p.operand_size

-- the operand is the register
abbrev pub is_register : Register → Operand → Bool
is_register r (InRegister other) = register_number other == register_number r
is_register r (InMemory m) = false

abbrev pub is_no_immediate : Source → Bool
is_no_immediate Immediate = false
is_no_immediate source = true

-- the register is the base
abbrev pub is_base : Register → Option Register → Bool
is_base r None = false
is_base r (Some base) = register_number r == register_number base

abbrev pub has_index : Index → Bool
has_index i = not (factor_of i.scale == 0)

-- the operand is the place in memory whose address is the register alone
abbrev pub is_alone : Register → Operand → Bool
is_alone r (InMemory m) = is_base r m.base && not (has_index m.index) && m.displacement == 0
is_alone r (InRegister other) = false

-- NOP after 66; 0F 1F /0 after 66 and 2E; MOV of a 32-bit register to itself; and LEA of a register to itself, written
-- with a displacement of 0
unfoldable pub padding_form : Action → Decoded → Bool
padding_form Nop d = only_66 d.prefixes
padding_form NopOperand d = only_66_2e d.prefixes
padding_form (Move source) d =
    d.prefixes.count == 0 && is_dword d.instr.width && is_no_immediate source
    && is_register d.instr.register d.instr.operand
padding_form LoadAddress d = one_2e_3e d.prefixes && is_some d.fields.disp && is_alone d.instr.register d.instr.operand
padding_form _ d = false

abbrev pub is_padding_of : Decoded → Bool
is_padding_of d = padding_form d.instr.action d
