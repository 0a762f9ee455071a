use Rattle.std.proofs.Common.{arith}
use Rattle.std.proofs.lemmas.Grind.{common_steps}
use Rattle.script_lines.proofs.Digits.{one_more, ten_fit}
use Rattle.script_lines.proofs.numbers.value_of.Goals as goal

pub overflow_mul-value : goal.overflow_mul-value
overflow_mul-value c =
    let fit = ten_fit c.loop-byte.byte-index c.loop-byte.value c.args.base 0 c.loop-byte.invariant.small
    (omega (arith, c.loop-byte-test.true, c.requires.short)) c.requires.high (omega (arith, c.requires.low)) in
    rw (c.from-in-loop-byte.ensures) (omega (arith, fit))

pub overflow_add-value : goal.overflow_add-value
overflow_add-value c =
    let digit = c.in_ok-digit.ensures.value in
    let fit = ten_fit c.loop-byte.byte-index c.loop-byte.value c.args.base c.in_ok-digit.digit
    c.loop-byte.invariant.small (omega (arith, c.loop-byte-test.true, c.requires.short)) c.requires.high
    (omega (arith, digit)) in
    rw (c.from-in-loop-byte.ensures, c.from-in-loop-byte-2.ensures) (omega (arith, fit))

pub loop-byte-preserved : goal.loop-byte-preserved
loop-byte-preserved c =
    let digit = c.in_ok-digit.ensures.value in
    record {
      value = grind (arith, common_steps);
      digits = grind (arith, common_steps);
      small = rw (c.from-in-loop-byte.ensures, c.from-in-loop-byte-2.ensures)
          (one_more c.loop-byte.byte-index c.loop-byte.value c.args.base c.in_ok-digit.digit c.loop-byte.invariant.small
          c.requires.high (omega (arith, digit)));
    }
