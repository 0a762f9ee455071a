-- Texts of one length.
use Rattle.std.proofs.Common.{◌≡◌, length, arith}
use Rattle.section_equal.proofs.EndsOfTexts.{same_texts}
use Rattle.section_equal.proofs.comparing.Comparison.same_text.Goals as goal

pub returns-clause-same : goal.returns-clause-same
returns-clause-same c =
    let long : length c.args.old.now ≡ length c.args.new.now = omega arith in
    same_texts _ _ _ _ c.args.old.now c.args.new.now c.same_before.result c.requires.old c.requires.new long
    c.same_before.ensures.same
