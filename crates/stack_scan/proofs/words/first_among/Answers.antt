-- Words that were passed are no addresses of a range, so what is found behind them is the first.
use Rattle.std.proofs.Common.{◌∙◌, sym, arith}
use Rattle.stack_scan.proofs.LaneLaws.{found_behind, found_at_last}
use Rattle.stack_scan.proofs.words.first_among.Goals as goal

pub returns-then-is_some : goal.returns-then-is_some
returns-then-is_some c =
    found_behind c.args.targets.now c.args.words.now c.loop-passed.passed _ c.first_between-found.result (omega arith)
    c.loop-passed.invariant.1 (sym c.is_some.ensures ∙ c.if-is_some.true) c.first_between-found.ensures

pub returns : goal.returns
returns c =
    found_at_last c.args.targets.now c.args.words.now c.loop-passed.passed c.first_between.result
    c.loop-passed.invariant.1 c.first_between.ensures
