use Rattle.ia32_alu.proofs.Fitting.{settled-same, from_bool-le}
use Rattle.std.proofs.Common.{◌∙◌, arith}
use Rattle.std.proofs.lemmas.Int.{ints}
use Rattle.ia32_alu.specs.Arithmetic.{sum_of}
use Rattle.ia32_alu.proofs.adding.add.Goals as goal

-- src/adding.rt:11:1
pub returns-clause-value : goal.returns-clause-value
unfolding sum_of
returns-clause-value c =
    c.settle.ensures.value
    ∙ settled-same _ _ _ _ _ (omega (arith, ints, from_bool-le c.args.carry))
    (omega (arith, ints, from_bool-le c.args.carry))
