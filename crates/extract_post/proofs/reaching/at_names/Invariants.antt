use Rattle.std.proofs.Common.{◌≡◌, take}
use Rattle.i386_reloc.specs.Places.{place_named}
use Rattle.extract_post.specs.inside.Marks.{tests, marked_at}
use Rattle.extract_post.proofs.reaching.at_names.Given as goal

abbrev pub invariant-loop-section : goal.invariant-loop-section
invariant-loop-section l =
    l.moved.items ≡ tests (λ name. marked_at l.marks (place_named l.pre name)) (take l.section-index l.post)
