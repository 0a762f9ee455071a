use Rattle.std.proofs.Common.{sym, subst, ◌∙◌, arith, get_or}
use Rattle.image_memory.specs.Contents.{Contents}
use Rattle.image_memory.specs.Fetch.{HasCode}
use Rattle.update_memory.proofs.JumpLaws.{next_jumped, all_jumped}
use Rattle.update_memory.proofs.changes.write_jumps.Goals as goal

pub loop-jump-preserved : goal.loop-jump-preserved
loop-jump-preserved g c =
    let before = g.S.Space.contents c.loop-jump.space in
    let now = g.S.Space.contents c.splice.new.space in
    let jumps = c.args.jumps.now in
    record {
      bound = omega arith;
      code = λ k d l.
          subst (λ (m : Contents). HasCode m.pieces (get_or jumps k d).home 5) (sym c.splice.ensures.contents)
          (c.code_stays_code.ensures.stays before.pieces _ _ (get_or jumps k d).home 5
          (c.loop-jump.invariant.code k d l));
      contents =
          next_jumped before now jumps c.loop-jump.jump-index _ c.loop-jump-test.true c.splice.ensures.contents
          ∙ c.loop-jump.invariant.contents;
      kept = c.splice.ensures.room ∙ c.loop-jump.invariant.kept;
    }

pub returns-clause-contents : goal.returns-clause-contents
returns-clause-contents g c =
    all_jumped (g.S.Space.contents c.loop-jump.space) c.args.jumps.now c.loop-jump.jump-index c.loop-jump-test.false
    ∙ c.loop-jump.invariant.contents
