use Rattle.std.proofs.Common.{◌+◌, ◌*◌, ◌<◌, ◌≤◌, length, arith}
use Rattle.bench_parts.specs.Meets.{MeetsIn}
use Rattle.bench_parts.proofs.counting.count_times.Goals as goal

pub loop-init : goal.loop-init
loop-init c = (MeetsIn.none, omega arith)

pub loop-preserved : goal.loop-preserved
loop-preserved c =
    let few : length c.args.bytes.now < 4294967296 = c.requires in
    let before : c.loop.total.instructions + c.loop.total.undecoded ≤ 4294967295 * c.loop.counter =
    c.loop.invariant.1 in
    let now : c.count-tally.result.instructions + c.count-tally.result.undecoded ≤ length c.args.bytes.now =
    c.count-tally.ensures.bound in
    (MeetsIn.one_more _ _ _ _ _ c.loop.invariant.0 c.count-tally.ensures.meets, omega (arith, few, before, now))
