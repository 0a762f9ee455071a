-- All levels so far are right, and the last has fewer counts than the one before it.
use Rattle.std.proofs.Common.{◌<◌, length}
use Rattle.std.specs.List.{All}
use Rattle.match_constants.specs.Endings.{IsLevel}
use Rattle.match_constants.proofs.endings.all_levels.Given as goal

abbrev pub invariant-loop-level : goal.invariant-loop-level
invariant-loop-level l = record {
  all : All (IsLevel l.normal l.ends) l.levels.items;
  last : IsLevel l.normal l.ends l.level;
  some : 0 < l.level.step;
}

abbrev pub decreases-loop-level : goal.decreases-loop-level
decreases-loop-level l = length l.level.shared.items
