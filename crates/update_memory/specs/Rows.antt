-- The jumps of an update, as rows of a memory with jumps and as homes with their old bytes.
use Rattle.std.specs.Prelude.{ℕ, List, map}
use Rattle.update_memory.specs.declared.types.Jump.{Jump}

abbrev pub row_of : Jump → ℕ × ℕ
row_of jump = (jump.home, jump.base)

abbrev pub old_of : Jump → ℕ × List ℕ
old_of jump = (jump.home, jump.old)

-- those of some jumps
abbrev pub rows_of : List Jump → List (ℕ × ℕ)
rows_of jumps = map row_of jumps

abbrev pub olds_of : List Jump → List (ℕ × List ℕ)
olds_of jumps = map old_of jumps
