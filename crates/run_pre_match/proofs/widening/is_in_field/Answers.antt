use Rattle.std.proofs.Common.{◌∙◌}
use Rattle.run_pre_match.proofs.FormLaws.{field_covers}
use Rattle.run_pre_match.proofs.widening.is_in_field.Goals as goal

pub returns : goal.returns
returns c = c.any_covers.ensures ∙ field_covers c.args.pre.now c.args.fields.now c.args.place c.requires
