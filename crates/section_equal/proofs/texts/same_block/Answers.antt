-- Equal parts have equal bytes.
use Rattle.std.proofs.Common.{arith}
use Rattle.section_equal.proofs.Blocks.{block_equal}
use Rattle.section_equal.proofs.texts.same_block.Goals as goal

pub returns : goal.returns
returns c =
    block_equal c.args.old.now c.args.new.now c.args.i c.args.j _ _ c.eq.result c.eq.ensures (omega arith) (omega arith)
