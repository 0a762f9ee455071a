use Rattle.std.proofs.Common.{◌≡◌, ℕ, ◌<◌, ◌≤◌, length, get_or, drop}
use Rattle.image_memory.specs.Fetch.{HasCode}
use Rattle.update_memory.specs.declared.types.Jump.{Jump}
use Rattle.update_memory.proofs.TakeLaws.{unjumped_memory}
use Rattle.update_memory.proofs.withdrawing.restore_code.Given as goal

-- code stands at each home, and the old bytes to come leave what all of them do
abbrev pub invariant-loop-jump : goal.invariant-loop-jump
invariant-loop-jump g l = record {
  bound : l.jump-index ≤ length l.fn.jumps;
  code : (k : ℕ) (d : Jump) → k < length l.fn.jumps
      → HasCode (g.S.Space.contents l.space).pieces (get_or l.fn.jumps k d).home 5;
  contents :
      unjumped_memory (drop l.jump-index l.fn.jumps) (g.S.Space.contents l.space)
      ≡ unjumped_memory l.fn.jumps (g.S.Space.contents l.fn.space);
  kept : g.S.Space.room l.space ≡ g.S.Space.room l.fn.space;
}
