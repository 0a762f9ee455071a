-- A step of a level of the ends.
use Rattle.std.proofs.Common.{ℕ, ◌-◌, ◌<◌, length, subst, sym, arith}
use Rattle.match_constants.specs.declared.endings.Level.{Level}
use Rattle.match_constants.specs.Endings.{IsLevel, end_at}
use Rattle.match_constants.proofs.endings.Endings.between.Goals as goal

pub loop-j-preserved : goal.loop-j-preserved
loop-j-preserved c = λ object all.
    let place : ℕ = c.len.result - 1 - c.loop-j.j in
    let within : place < length c.args.self.now.levels.items =
    omega (arith, c.len.ensures, c.len-j-end.ensures, c.loop-j-test.true) in
    c.stepped-walk.ensures object c.args.self.now.ends.items (end_at c.args.self.now.ends.items c.args.first)
    (subst (λ (level : Level). IsLevel object c.args.self.now.ends.items level) (sym c.index.ensures)
    (all place c.index.result.now within))
    (c.loop-j.invariant object all)
