use Rattle.std.proofs.Common.{◌≡◌, ◌≤◌, ◌++◌, drop}
use Rattle.image_link.specs.Places.{ends_after, lengths_of, places_from}
use Rattle.image_link.specs.inside.Laying.{seen}
use Rattle.image_link.proofs.placing.places_of.Given as goal

-- the places so far and then the others, and the ends behind all of them
abbrev pub invariant-loop-section : goal.invariant-loop-section
invariant-loop-section l = record {
  places : l.placement ++ places_from (seen l.ends) (drop l.section-index l.section-items)
      ≡ places_from (seen l.fn.first) l.section-items;
  ends : ends_after (seen l.ends) (drop l.section-index l.section-items) ≡ ends_after (seen l.fn.first) l.section-items;
  short : lengths_of (seen l.ends) ≤ 16777216;
}
