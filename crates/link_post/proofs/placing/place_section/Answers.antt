-- The first range in which the section fits has the lowest address for it.
use Rattle.std.proofs.Common.{◌≡◌, Some, sym, ◌∙◌}
use Rattle.link_post.specs.inside.Rooms.{first_start}
use Rattle.link_post.specs.inside.BlockLists.{ranges_of}
use Rattle.link_post.proofs.Steps.{placed_next, placed_nowhere}
use Rattle.link_post.proofs.placing.place_section.Goals as goal

pub returns-in_ok-push-in-Some-clause-step : goal.returns-in_ok-push-in-Some-clause-step
returns-in_ok-push-in-Some-clause-step c rest =
    let s = c.args.section.now in
    let free = ranges_of c.args.free.now.items in
    let base = c.in-Some.base in
    let at : first_start s free ≡ Some base = sym c.in_ok-base.ensures.start ∙ c.in-Some.is in
    let next = placed_next s free base rest c.args.placement.now c.requires at in
    cc (
      next,
      c.in_ok-base.ensures.left,
      c.in_ok-push-in-Some.ensures.ok,
      c.in_ok-name-in-Some.ensures,
      c.as_slice.ensures,
    )

pub returns-in-None-clause-refused : goal.returns-in-None-clause-refused
returns-in-None-clause-refused c other rest =
    placed_nowhere c.args.section.now (ranges_of c.args.free.now.items) rest c.requires
    (sym c.in_ok-base.ensures.start ∙ c.in-None.is)
