use Rattle.std.proofs.Common.{◌≤◌, ◌+◌, ◌*◌}
use Rattle.bench_parts.specs.Meets.{MeetsIn}
use Rattle.bench_parts.proofs.counting.count_times.Given as goal

abbrev pub invariant-loop : goal.invariant-loop
invariant-loop l =
    MeetsIn l.fn.bytes l.counter l.total.instructions l.total.undecoded
    × (l.total.instructions + l.total.undecoded ≤ 4294967295 * l.counter)
