use Rattle.std.proofs.Common.{ap, ◌∙◌}
use Rattle.std.specs.List.{flat_map}
use Rattle.extract_post.specs.inside.Edges.{backward}
use Rattle.extract_post.proofs.Walks.{tell_reaching}
use Rattle.extract_post.proofs.reaching.reaching.Goals as goal

pub returns : goal.returns
returns c =
    rw (← c.as_slice-2.ensures, c.new.ensures)
    (tell_reaching c.args.normal.now c.requires.distinct c.as_slice-2.result.now c.in_ok-marks.marks.items
    c.as_slice.result.now
    (c.as_slice.ensures.value ∙ (c.in_ok-edges.ensures ∙ ap (flat_map backward) c.requires.links))
    c.len.result c.len.ensures.sections c.in_ok-marks.ensures.len c.in_ok-marks.ensures.marks)
