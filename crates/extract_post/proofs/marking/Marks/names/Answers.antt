use Rattle.std.proofs.Common.{◌∙◌}
use Rattle.extract_post.proofs.MarkLaws.{marked_names_drop}
use Rattle.extract_post.proofs.marking.Marks.names.Goals as goal

pub loop-place-preserved : goal.loop-place-preserved
loop-place-preserved c =
    marked_names_drop c.args.sections.now c.args.self.now c.loop-place.place c.index-sections-place.result c.has.result
    c.loop-place.names c.add_name.new.names c.loop-place-test.true c.requires c.index-sections-place.is c.has.ensures
    c.in_ok-add_name.ensures ∙ c.loop-place.invariant
