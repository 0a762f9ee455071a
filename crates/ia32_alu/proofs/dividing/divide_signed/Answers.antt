use Rattle.ia32_alu.proofs.Fitting.{divided-too_wide}
use Rattle.std.proofs.Common.{◌∙◌, sym}
use Rattle.ia32_alu.proofs.dividing.divide_signed.Goals as goal

-- src/dividing.rt:28:20
pub returns-in_err-quotient-clause-value : goal.returns-in_err-quotient-clause-value
returns-in_err-quotient-clause-value c =
    c.from_residual.ensures
    ∙ sym
    (divided-too_wide c.args.width c.args.dividend c.args.divisor c.ranges.dividend c.ranges.divisor c.requires
    c.in_err-quotient.ensures)
