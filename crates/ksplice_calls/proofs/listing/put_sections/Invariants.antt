use Rattle.std.proofs.Common.{◌≡◌, ◌++◌, drop}
use Rattle.std.specs.List.{flat_map}
use Rattle.ksplice_calls.specs.Difference.{line_in}
use Rattle.extract_post.specs.Roles.{role_at}
use Rattle.ksplice_calls.proofs.listing.put_sections.Given as goal

-- the lines so far, and then those of the other sections, are those of all
abbrev pub invariant-loop-section : goal.invariant-loop-section
invariant-loop-section l =
    l.lines ++ flat_map (line_in (role_at l.roles) l.old) (drop l.section-index l.section-items)
    ≡ l.fn.lines ++ flat_map (line_in (role_at l.roles) l.old) l.new
