use Rattle.std.proofs.Common.{◌≡◌, ◌++◌, take}
use Rattle.std.specs.List.{flat_map}
use Rattle.work_gen.specs.Encoding.{half}
use Rattle.work_gen.proofs.encoding.put_halves.Given as goal

abbrev pub invariant-loop-n : goal.invariant-loop-n
invariant-loop-n l = l.to.items ≡ l.fn.to.items ++ flat_map half (take l.n-index l.numbers)
