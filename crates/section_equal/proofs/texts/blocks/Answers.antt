-- One more block is equal.
use Rattle.std.proofs.Common.{◌≡◌, ◌+◌, ◌-◌, true, arith}
use Rattle.section_equal.proofs.Blocks.{block_agree}
use Rattle.section_equal.proofs.texts.blocks.Goals as goal

pub loop-count-preserved : goal.loop-count-preserved
loop-count-preserved c =
    let is : c.same_block.result ≡ true = grind arith in
    record {
      within = omega arith;
      agree = block_agree c.args.old.now c.args.new.now c.args.ends.old_end c.args.ends.new_end c.loop-count.count
          (c.args.ends.old_end - (c.loop-count.count + 64)) (c.args.ends.new_end - (c.loop-count.count + 64))
          c.loop-count.invariant.agree (omega arith) (omega arith) (c.same_block.ensures is);
    }
