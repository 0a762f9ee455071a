use Rattle.std.proofs.Common.{◌≡◌, take}
use Rattle.frame_watch.specs.Discipline.{breaking, least}
use Rattle.frame_watch.proofs.list.ThreadList.least_broken.Given as goal

abbrev pub invariant-loop-thread : goal.invariant-loop-thread
invariant-loop-thread g l =
    l.found ≡ least (breaking (g.S.Space.contents l.space).pieces (take l.thread-index l.thread-items))
