use Rattle.std.proofs.Common.{◌+◌, ◌<◌, length, arith, sym, subst}
use Rattle.reachability.specs.inside.Walk.{Walk}
use Rattle.reachability.proofs.WalkLaws.{IsWalk, walk_goes_on}
use Rattle.reachability.proofs.walk.reached_of.Goals as goal

pub loop-turn-preserved : goal.loop-turn-preserved
loop-turn-preserved c =
    let graph = c.args.graph.now in
    let seeds = c.args.seeds.now in
    let turn = c.loop-turn.turn in
    let less : turn < length c.loop-turn.walk.queue = omega arith in
    let P : Walk → Type 0 = IsWalk graph seeds (turn + 1) in
    subst P (sym c.in_ok-visit.ensures)
    (walk_goes_on graph seeds turn c.loop-turn.walk c.requires.successors less c.loop-turn.invariant)
