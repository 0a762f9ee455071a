use Rattle.std.proofs.Common.{◌≡◌, take}
use Rattle.std.specs.List.{flat_map}
use Rattle.paged_memory.specs.inside.Missing.{numbers_in}
use Rattle.paged_memory.proofs.room.page_numbers.Given as goal

abbrev pub invariant-loop-range : goal.invariant-loop-range
invariant-loop-range l = l.numbers.items ≡ flat_map numbers_in (take l.range-index l.ranges)
