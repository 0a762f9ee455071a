use Rattle.std.proofs.Common.{◌∙◌}
use Rattle.symbol_solve.proofs.PointLaws.{put_here, put_nowhere}
use Rattle.symbol_solve.proofs.points.put_point.Goals as goal

pub returns-in_ok-push-clause-lists : goal.returns-in_ok-push-clause-lists
returns-in_ok-push-clause-lists c =
    put_here c.args.points.now c.args.n c.in_ok-number.number c.args.table.now.items
    c.push.new.self c.index_mut.result.now (record { place = 0; offset = 0; address = 0 }) c.len.result
    c.requires.within c.in_ok-number.ensures.value c.requires.before
    (c.len.ensures ∙ c.args.table.now.ok.0) c.if-place-len.true c.index_mut.ensures.value c.in_ok-push.ensures.ok

pub returns-else-place-len-clause-lists : goal.returns-else-place-len-clause-lists
returns-else-place-len-clause-lists c =
    put_nowhere c.args.points.now c.args.n c.args.table.now.items (record { place = 0; offset = 0; address = 0 })
    c.len.result c.requires.within c.requires.before (c.len.ensures ∙ c.args.table.now.ok.0) c.if-place-len.false
