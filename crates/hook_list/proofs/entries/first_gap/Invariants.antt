-- What is found among all entries is found among those that were not looked at yet.
use Rattle.std.proofs.Common.{◌≡◌, ◌-◌, map, is_none}
use Rattle.std.specs.List.{find, range_with_len}
use Rattle.hook_list.specs.Listed.{entry_at, entry_count, entry_offset, first_gap}
use Rattle.hook_list.proofs.entries.first_gap.Given as goal

abbrev pub invariant-loop-entry : goal.invariant-loop-entry
invariant-loop-entry l =
    first_gap l.object l.section
    ≡ find (λ offset. is_none (entry_at l.object l.section offset))
    (map entry_offset (range_with_len l.entry (entry_count l.section - l.entry)))
