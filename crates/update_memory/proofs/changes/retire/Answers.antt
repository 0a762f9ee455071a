use Rattle.std.proofs.Common.{false, ap, ◌∙◌, arith}
use Rattle.image_memory.specs.declared.types.Fence.{Fence}
use Rattle.image_memory.specs.Contents.{Room}
use Rattle.update_memory.proofs.FenceLaws.{next_full, next_apart, next_retirable, next_retired, all_retired}
use Rattle.update_memory.proofs.changes.retire.Goals as goal

none : Fence
none = record { range = record { low = 0; high = 0 }; jump = false }

pub fence-requires-clause-full : goal.fence-requires-clause-full
unfolding none
fence-requires-clause-full g c =
    next_full (g.S.Space.contents c.loop-fence.space) c.args.fences.now c.loop-fence.fence-index none
    c.loop-fence-test.true c.loop-fence.invariant.apart

pub fence-requires-clause-apart : goal.fence-requires-clause-apart
unfolding none
fence-requires-clause-apart g c =
    next_apart (g.S.Space.contents c.loop-fence.space) c.args.fences.now c.loop-fence.fence-index none
    c.loop-fence-test.true c.loop-fence.invariant.apart

pub loop-fence-preserved : goal.loop-fence-preserved
unfolding none
loop-fence-preserved g c =
    let before = g.S.Space.contents c.loop-fence.space in
    let now = g.S.Space.contents c.fence.new.self in
    let fences = c.args.fences.now in
    let i = c.loop-fence.fence-index in
    record {
      bound = omega arith;
      spare =
          let one = ap (λ (r : Room). r.fences) c.fence.ensures.room in
          omega (arith, one, c.loop-fence.invariant.spare, c.requires.spare);
      kept = ap (λ (r : Room). r.ranges) c.fence.ensures.room ∙ c.loop-fence.invariant.kept;
      apart =
          next_retirable before now fences i none c.loop-fence-test.true c.fence.ensures.contents
          c.loop-fence.invariant.apart;
      contents =
          next_retired before now fences i none c.loop-fence-test.true c.fence.ensures.contents
          ∙ c.loop-fence.invariant.contents;
    }

pub returns-clause-contents : goal.returns-clause-contents
returns-clause-contents g c =
    all_retired (g.S.Space.contents c.loop-fence.space) c.args.fences.now c.loop-fence.fence-index
    c.loop-fence-test.false
    ∙ c.loop-fence.invariant.contents
