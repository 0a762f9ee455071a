use Rattle.std.proofs.Common.{◌≡◌, take}
use Rattle.match_instructions.specs.inside.Named.{naming, named_by}
use Rattle.match_instructions.proofs.named.offsets_named.Given as goal

abbrev pub invariant-loop-i : goal.invariant-loop-i
invariant-loop-i l = l.table.items ≡ named_by l.normal (naming (take l.i l.normal))
