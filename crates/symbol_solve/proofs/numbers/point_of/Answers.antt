-- An object has few sections.
use Rattle.std.proofs.Common.{arith}
use Rattle.symbol_solve.proofs.NumberLaws.{place_fits}
use Rattle.symbol_solve.proofs.numbers.point_of.Goals as goal

pub overflow_cast-result : goal.overflow_cast-result
overflow_cast-result c =
    omega (
      arith,
      place_fits
          c.args.object.now c.as_slice.result.now c.in_ok-place.place c.in_ok-place.ensures c.len-count.ensures.few,
    )
