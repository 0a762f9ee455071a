use Rattle.std.proofs.Common.{◌≡◌, ◌++◌, take}
use Rattle.std.specs.List.{flat_map}
use Rattle.ks_base.specs.inside.Parts.{part_text}
use Rattle.ks_base.proofs.parts.put_parts.Given as goal

-- the parts so far
abbrev pub invariant-loop-part : goal.invariant-loop-part
invariant-loop-part l = l.line ≡ l.initial.line ++ flat_map part_text (take l.part-index l.parts)
