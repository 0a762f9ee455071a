use Rattle.std.proofs.Common.{◌≡◌, ℕ, ◌<◌, ◌≤◌, get_or}
use Rattle.update_memory.specs.declared.types.Jump.{Jump}
use Rattle.update_memory.proofs.JumpLaws.{noted}
use Rattle.update_memory.proofs.changes.note_old_code.Given as goal

-- those passed are noted, and those to come are as they were
abbrev pub invariant-loop-jump : goal.invariant-loop-jump
invariant-loop-jump g l = record {
  behind : (k : ℕ) (d : Jump) → k < l.jump-index
      → get_or l.jumps k d ≡ noted (g.S.Space.contents l.space).pieces (get_or l.fn.jumps k d);
  ahead : (k : ℕ) (d : Jump) → l.jump-index ≤ k → get_or l.jumps k d ≡ get_or l.fn.jumps k d;
}
