-- A law of how numbers are spelled, for the crates above.
use Rattle.std.proofs.Common.{◌≡◌, ℕ, length, refl}
use Rattle.ia32_alu.specs.declared.types.Width.{Width}
use Rattle.ia32_alu.specs.declared.types.Width.TheVariants.{Byte, Word, Dword}
use Rattle.ia32_alu.specs.Widths.{byte_count}
use Rattle.ia32_step.specs.Operands.{spelled}

-- a number of a width is spelled by as many bytes
pub length-spelled : (width : Width) (n : ℕ) → length (spelled width n) ≡ byte_count width
length-spelled Byte n = refl
length-spelled Word n = refl
length-spelled Dword n = refl
