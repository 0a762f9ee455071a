use Rattle.std.proofs.Common.{List, sym, ◌∙◌, ap, subst}
use Rattle.std.specs.List.{All}
use Rattle.ks_base.specs.declared.reports.Replaced.{Replaced}
use Rattle.image_memory.specs.Contents.{Contents}
use Rattle.splice_jump.specs.Jumps.{olds_at}
use Rattle.update_stack.specs.AbstractMachine.{jump_rows}
use Rattle.update_stack.specs.StandsFor.{Seen}
use Rattle.update_stack.specs.inside.Carrying.{EndsLow}
use Rattle.update_stack.proofs.carrying.prepare.Goals as goal

pub jumps_of-requires : goal.jumps_of-requires
jumps_of-requires g c = subst (All EndsLow) (sym c.as_slice.ensures) c.requires.ends

pub returns-clause-prepared : goal.returns-clause-prepared
returns-clause-prepared g c =
    let plan = c.args.plan.now in
    record {
      shown = c.in_ok-update.ensures;
      kept_of_plan = c.in_ok-kept.ensures.kept;
      rows = c.in_ok-jumps.ensures.rows ∙ ap jump_rows c.as_slice.ensures;
      olds =
          c.in_ok-jumps.ensures.olds
          ∙ ap (λ (m : Contents). olds_at m.pieces (jump_rows c.as_slice.result.now))
          (c.space.ensures.contents ∙ ap (λ (s : Seen). s.contents) c.reserve.ensures.seen)
          ∙ ap (λ (rs : List Replaced). olds_at c.args.machine.now.contents.pieces (jump_rows rs)) c.as_slice.ensures;
    }
