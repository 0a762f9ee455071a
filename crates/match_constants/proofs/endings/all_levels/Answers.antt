-- The level that is kept and the next one are right.
use Rattle.std.proofs.Common.{List, [], ◌∷◌, All, subst, sym, arith}
use Rattle.std.proofs.lemmas.List.Elements.{All-nil, All-cons, All-append}
use Rattle.match_constants.specs.declared.endings.Level.{Level}
use Rattle.match_constants.specs.Endings.{IsLevel}
use Rattle.match_constants.proofs.endings.all_levels.Goals as goal

pub loop-level-preserved : goal.loop-level-preserved
loop-level-preserved c =
    let right : Level → Type 0 = IsLevel c.args.normal.now c.args.ends.now in
    let here = c.loop-level.invariant in
    record {
      all = subst (λ (xs : List Level). All right xs) (sym c.in_ok-push.ensures.items)
          (All-append right c.loop-level.levels.items (c.loop-level.level ∷ []) here.all
          (All-cons right c.loop-level.level [] here.last (All-nil right)));
      last = c.in_ok-next.ensures.level c.args.normal.now c.args.ends.now here.last;
      some = omega (arith, c.in_ok-next.ensures.step, here.some);
    }
