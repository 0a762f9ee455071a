use Rattle.std.proofs.Common.{◌∙◌, sym, subst}
use Rattle.symbol_solve.specs.Candidates.{Running}
use Rattle.update_retired.specs.Retired.{AreBodies, AreInUse}
use Rattle.update_plan.proofs.Answered.{are_bodies}
use Rattle.update_plan.proofs.planning.free_olds.Goals as goal

pub code_refusal-requires-clause-bodies : goal.code_refusal-requires-clause-bodies
code_refusal-requires-clause-bodies g c =
    let contents = g.S.Space.contents c.args.program.now.space.now in
    let pre = c.args.pre.now in
    let values = c.args.found.now.entries in
    let running : Running = record {
      contents = contents;
      symbols = c.args.program.now.symbols.now.symbols;
      bodies = c.args.program.now.bodies.now;
    } in
    let valid = g.met.S.Space.valid c.args.program.now.space.now in
    let each = c.answers_tell_each_body.ensures running pre values valid c.as_slice-sections.ensures.distinct
    c.requires.solved in
    subst AreBodies (sym (c.as_slice.ensures.value ∙ c.in_ok-olds.ensures))
    (are_bodies c.args.extract.now running valid c.requires.spliced values pre each)

pub code_refusal-requires-clause-in_use : goal.code_refusal-requires-clause-in_use
code_refusal-requires-clause-in_use g c =
    let contents = g.S.Space.contents c.args.program.now.space.now in
    let running : Running = record {
      contents = contents;
      symbols = c.args.program.now.symbols.now.symbols;
      bodies = c.args.program.now.bodies.now;
    } in
    subst (AreInUse contents) (sym (c.as_slice.ensures.value ∙ c.in_ok-olds.ensures))
    (c.matched_bodies_are_in_use.ensures running c.args.pre.now c.args.found.now.entries c.args.extract.now
    (g.met.S.Space.valid c.args.program.now.space.now) c.requires.solved)

pub returns-clause-bodies : goal.returns-clause-bodies
returns-clause-bodies g c =
    let contents = g.S.Space.contents c.args.program.now.space.now in
    let pre = c.args.pre.now in
    let values = c.args.found.now.entries in
    let running : Running = record {
      contents = contents;
      symbols = c.args.program.now.symbols.now.symbols;
      bodies = c.args.program.now.bodies.now;
    } in
    let valid = g.met.S.Space.valid c.args.program.now.space.now in
    let each = c.answers_tell_each_body.ensures running pre values valid c.as_slice-sections.ensures.distinct
    c.requires.solved in
    subst AreBodies (sym c.in_ok-olds.ensures)
    (are_bodies c.args.extract.now running valid c.requires.spliced values pre each)
