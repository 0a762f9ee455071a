use Rattle.ia32_alu.proofs.Fitting.{signed-zero}
use Rattle.std.proofs.Common.{◌∙◌, sym, arith}
use Rattle.std.proofs.lemmas.Int.{ints}
use Rattle.ia32_alu.proofs.dividing.divide.Goals as goal

-- src/dividing.rt:46:9
pub divide_signed-requires : goal.divide_signed-requires
divide_signed-requires c e =
    c.if-cut-eq0.false
    (c.cut.ensures.value ∙ signed-zero c.args.width c.args.by (sym c.signed_value.ensures.value ∙ omega (arith, ints)))
