use Rattle.std.proofs.Common.{◌≡◌, ◌++◌, map, take}
use Rattle.std.specs.List.{filter}
use Rattle.image_memory.specs.Contents.{spliced_at}
use Rattle.update_retired.specs.Retired.{is_guarded, jump_range, retired_by}
use Rattle.update_retired.proofs.retiring.guarded_ranges.Given as goal

abbrev pub invariant-loop-old : goal.invariant-loop-old
invariant-loop-old g l =
    l.ranges ≡ retired_by l.olds
    ++ map jump_range (filter (is_guarded (spliced_at (g.S.Space.contents l.space).fences)) (take l.old-index l.olds))
