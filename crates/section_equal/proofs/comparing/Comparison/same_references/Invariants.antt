-- The references that are passed are the same.
use Rattle.std.proofs.Common.{◌≡◌, drop}
use Rattle.std.specs.Cmp.Lexicographic.{pointwise}
use Rattle.section_equal.specs.Same.{same_reference}
use Rattle.section_equal.proofs.comparing.Comparison.same_references.Given as goal

abbrev pub invariant-loop-k : goal.invariant-loop-k
invariant-loop-k l = record {
  objects : l.self ≡ l.initial.self;
  same : pointwise same_reference l.old l.new
      ≡ pointwise same_reference (drop l.k l.old) (drop l.k l.new);
}
