use Rattle.std.proofs.Common.{◌≡◌, ◌≤◌, ◌+◌, ◌*◌, ◌-◌, [], length, IsTrue}
use Rattle.std.specs.List.{All}
use Rattle.image_memory.specs.Ranges.{Ascends}
use Rattle.image_file.specs.Keeps.{keeps_stack}
use Rattle.image_file.specs.Fields.{items_at}
use Rattle.image_file.specs.Rules.{own_range, end_of, total_of}
use Rattle.image_file.specs.Reading.{stack_at, stack_width}
use Rattle.image_file.proofs.stacks.stacks_of.Given as goal

abbrev pub invariant-loop : goal.invariant-loop
invariant-loop l = record {
  reads : items_at (l.count - l.counter) (stack_at l.bytes l.arena l.pieces) stack_width l.stacks l.offset
      ≡ items_at l.count (stack_at l.bytes l.arena l.pieces) stack_width [] l.first;
  floor_is : l.floor ≡ end_of own_range 0 l.stacks;
  total_is : l.total ≡ total_of own_range l.stacks;
  small : l.total ≤ 16777216;
  place : l.offset ≤ l.first + 8 * l.counter;
  count_is : length l.stacks ≡ l.counter;
  kept : All (λ stack. IsTrue (keeps_stack l.arena l.pieces stack)) l.stacks;
  ascend : Ascends own_range 0 l.stacks;
}
