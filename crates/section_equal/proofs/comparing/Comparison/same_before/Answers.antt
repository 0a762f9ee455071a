-- All bytes are equal where as many are found.
use Rattle.std.proofs.Common.{◌∙◌, ap}
use Rattle.i386_reloc.specs.Places.{bytes_at}
use Rattle.section_equal.specs.inside.Texts.{Compared}
use Rattle.section_equal.proofs.EndsOfTexts.{all_agree}
use Rattle.section_equal.proofs.comparing.Comparison.same_before.Goals as goal

pub returns-clause-same : goal.returns-clause-same
returns-clause-same c =
    all_agree _ _ _ _ _ _ c.args.count c.agreement-equal.result
    (c.bytes_at-old.ensures ∙ ap (λ (objects : Compared). bytes_at objects.pre c.args.ends.old_place) c.self.view_is)
    (c.bytes_at-new.ensures ∙ ap (λ (objects : Compared). bytes_at objects.post c.args.ends.new_place) c.self.view_is)
    c.agreement-equal.ensures c.requires.in_old c.requires.in_new
