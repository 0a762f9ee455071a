use Rattle.std.proofs.Common.{◌≡◌, ◌++◌, take}
use Rattle.std.specs.List.{flat_map}
use Rattle.image_file.specs.Spelling.{stack_spelling}
use Rattle.image_file.proofs.writing.put_stacks.Given as goal

abbrev pub invariant-loop-stack : goal.invariant-loop-stack
invariant-loop-stack l = l.out.items ≡ l.fn.out.items ++ flat_map stack_spelling (take l.stack-index l.stacks)
