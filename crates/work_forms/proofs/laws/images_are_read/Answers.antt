use Rattle.std.proofs.Common.{ap, ◌∙◌}
use Rattle.image_file.specs.Reading.{image_of}
use Rattle.work_forms.specs.Program.{work_image}
use Rattle.work_forms.proofs.SpellingLaws.{image_spelled}
use Rattle.work_forms.proofs.RuleLaws.{image_keeps}
use Rattle.work_forms.proofs.laws.images_are_read.Goals as goal

pub returns-clause-spelled : goal.returns-clause-spelled
returns-clause-spelled c = image_spelled

pub returns-clause-read : goal.returns-clause-read
returns-clause-read c = λ number.
    ap image_of (image_spelled number) ∙ c.spelling_is_read.ensures (work_image number) (image_keeps number)
