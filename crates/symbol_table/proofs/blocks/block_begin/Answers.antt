use Rattle.std.proofs.Common.{arith}
use Rattle.symbol_table.proofs.BlockLaws.{lowest_le, shifted}
use Rattle.symbol_table.proofs.blocks.block_begin.Goals as goal

pub overflow_sub-result : goal.overflow_sub-result
overflow_sub-result c =
    let fits = c.ranges.end.fits in
    omega (arith, shifted c.args.end c.requires fits, lowest_le 64 c.args.end c.requires fits)

pub returns-clause-value : goal.returns-clause-value
returns-clause-value c = omega (arith, shifted c.args.end c.requires c.ranges.end.fits)
