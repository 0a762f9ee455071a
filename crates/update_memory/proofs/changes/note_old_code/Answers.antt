use Rattle.std.proofs.Common.{ap, ◌∙◌, arith, map}
use Rattle.update_memory.specs.Rows.{row_of, old_of}
use Rattle.update_memory.proofs.JumpLaws.{all_noted, rows_stay, olds_noted}
use Rattle.update_memory.proofs.changes.note_old_code.Goals as goal

pub returns-clause-rows : goal.returns-clause-rows
returns-clause-rows g c =
    let pieces = (g.S.Space.contents c.args.space.now).pieces in
    ap (map row_of) (all_noted pieces c.args.jumps.now c.loop-jump.jumps c.loop-jump.auto.jumps
    (λ k d l. c.loop-jump.invariant.behind k d (omega arith)))
    ∙ rows_stay pieces c.args.jumps.now

pub returns-clause-olds : goal.returns-clause-olds
returns-clause-olds g c =
    let pieces = (g.S.Space.contents c.args.space.now).pieces in
    ap (map old_of) (all_noted pieces c.args.jumps.now c.loop-jump.jumps c.loop-jump.auto.jumps
    (λ k d l. c.loop-jump.invariant.behind k d (omega arith)))
    ∙ olds_noted pieces c.args.jumps.now
