use Rattle.std.proofs.Common.{◌≡◌, ◌≤◌, drop, length}
use Rattle.stack_scan.specs.Standing.{thread_refusal}
use Rattle.stack_scan.proofs.checks.check_threads.Given as goal

-- those that are left decide
abbrev pub invariant-loop-thread : goal.invariant-loop-thread
invariant-loop-thread g l = (l.thread-index ≤ length l.threads)
    × (thread_refusal (g.S.Space.contents l.space).pieces l.targets (drop l.thread-index l.threads)
    ≡ thread_refusal (g.S.Space.contents l.space).pieces l.fn.ranges l.threads)
