use Rattle.std.proofs.Common.{◌<◌, length, get_or, refl, arith}
use Rattle.match_candidates.specs.inside.Trying.{tried_at}
use Rattle.match_candidates.proofs.FirstLaws.{map_next}
use Rattle.match_candidates.proofs.trying.try_homes.Goals as goal

pub loop-home-preserved : goal.loop-home-preserved
loop-home-preserved g c =
    let lt : c.loop-home.home-index < length c.args.homes.now = omega arith in
    let home = get_or c.args.homes.now c.loop-home.home-index 0 in
    map_next (tried_at c.args.running.now c.args.code.now c.args.number) c.args.homes.now c.loop-home.tried.items
    c.push.new.self.items c.loop-home.home-index 0 home c.in_ok-tried_at.field-0 lt refl
    c.in_ok-tried_at.ensures c.loop-home.invariant c.in_ok-push.ensures.items
