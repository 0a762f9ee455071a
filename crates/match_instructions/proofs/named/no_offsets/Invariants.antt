use Rattle.std.proofs.Common.{◌≡◌, take, []}
use Rattle.match_instructions.specs.inside.Named.{named_by}
use Rattle.match_instructions.proofs.named.no_offsets.Given as goal

abbrev pub invariant-loop-section : goal.invariant-loop-section
invariant-loop-section l = l.table.items ≡ named_by (take l._section-index l.sections) []
