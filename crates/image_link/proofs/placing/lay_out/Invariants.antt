use Rattle.std.proofs.Common.{◌≡◌, ◌≤◌, ◌++◌, drop, take}
use Rattle.std.specs.List.{fold}
use Rattle.image_link.specs.Places.{ends_after, laid_from, laid_out, last_ends, lengths_of}
use Rattle.image_link.specs.inside.Laying.{seen}
use Rattle.image_link.specs.inside.Linkable.{AreLinkable}
use Rattle.image_link.proofs.placing.lay_out.Given as goal

-- the objects so far and then the others, and the ends behind all of them
abbrev pub invariant-loop-object : goal.invariant-loop-object
invariant-loop-object l = record {
  laid : l.laid.items ++ laid_from (seen l.ends) (drop l.object-index l.objects) ≡ laid_out l.objects;
  ends : fold ends_after (seen l.ends) (drop l.object-index l.objects) ≡ last_ends l.objects;
  short : lengths_of (seen l.ends) ≤ 16777216;
  linkable : AreLinkable (take l.object-index l.objects);
}
