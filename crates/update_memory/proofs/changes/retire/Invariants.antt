use Rattle.std.proofs.Common.{◌≡◌, ◌+◌, ◌≤◌, length, drop}
use Rattle.update_memory.specs.Retired.{AreRetirable, with_fences}
use Rattle.update_memory.proofs.changes.retire.Given as goal

-- what is left can be retired, and leaves what all of them do
abbrev pub invariant-loop-fence : goal.invariant-loop-fence
invariant-loop-fence g l = record {
  bound : l.fence-index ≤ length l.fn.fences;
  spare : (g.S.Space.room l.space).fences + l.fence-index ≡ (g.S.Space.room l.fn.space).fences;
  kept : (g.S.Space.room l.space).ranges ≡ (g.S.Space.room l.fn.space).ranges;
  apart : AreRetirable (g.S.Space.contents l.space) (drop l.fence-index l.fn.fences);
  contents :
      with_fences (g.S.Space.contents l.space) (drop l.fence-index l.fn.fences)
      ≡ with_fences (g.S.Space.contents l.fn.space) l.fn.fences;
}
