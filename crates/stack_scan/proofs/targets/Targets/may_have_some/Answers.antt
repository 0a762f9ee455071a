use Rattle.std.proofs.Common.{◌∙◌, sym}
use Rattle.stack_scan.proofs.LaneLaws.{none_within}
use Rattle.stack_scan.proofs.targets.Targets.may_have_some.Goals as goal

pub returns : goal.returns
returns c unset =
    let t = c.self.inside in
    rw (sym c.self.view_is)
    (none_within t.ranges.now c.args.words.now t.low t.high c.args.start 8 c.requires c.self.invariant.0
    (sym c.is_one_within.ensures ∙ unset))
