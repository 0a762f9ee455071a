use Rattle.std.proofs.Common.{◌≡◌, ◌++◌, take}
use Rattle.match_instructions.specs.inside.Named.{naming, named_by}
use Rattle.match_instructions.proofs.named.take_references.Given as goal

abbrev pub invariant-loop-k : goal.invariant-loop-k
invariant-loop-k l = l.table.items ≡ named_by l.normal (naming (take l.i l.normal) ++ take l.k l.references)
