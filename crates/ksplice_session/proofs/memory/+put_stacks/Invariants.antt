use Rattle.std.proofs.Common.{length}
use Rattle.ksplice_session.proofs.memory.+put_stacks.Given as goal

abbrev pub decreases-put_stacks : goal.decreases-put_stacks
decreases-put_stacks l = length l.stacks.now
