-- The sections that are passed have their marks.
use Rattle.std.proofs.Common.{◌≡◌, take}
use Rattle.section_equal.specs.Same.{same_names}
use Rattle.section_equal.proofs.all_sections.marks_of_post.Given as goal

abbrev pub invariant-loop-place : goal.invariant-loop-place
invariant-loop-place l = record {
  objects : l.comparison ≡ l.initial.comparison;
  marks : l.marks.items
      ≡ same_names l.comparison.pre l.comparison.post (take l.place l.sections);
}
