use Rattle.std.proofs.Common.{List, length, sym, ap, subst, ◌∙◌}
use Rattle.std.specs.List.{AllZip}
use Rattle.std.proofs.lemmas.List.{length-map}
use Rattle.std.proofs.lemmas.Result.{err_from_is_err_and}
use Rattle.run_pre_match.specs.Candidate.{Candidate}
use Rattle.match_candidates.specs.declared.trials.Tried.{Tried}
use Rattle.match_candidates.specs.Candidates.{code_sections, candidates}
use Rattle.match_candidates.specs.OwnFaults.{AreTried, IsTried}
use Rattle.symbol_solve.specs.declared.left.Held.{Held}
use Rattle.symbol_solve.specs.inside.Left.{IsOf}
use Rattle.symbol_solve.proofs.HeldLaws.{zip_length}
use Rattle.symbol_solve.proofs.SolveLaws.{are_of, are_within, all_run, left_here, reported_here}
use Rattle.symbol_solve.proofs.solving.held_left.Goals as goal

abbrev Is : Candidate → Held → Type 0
Is c h = IsOf h.code.now c h.tried.now

pub returns-in_err-check_conflict-clause-refused : goal.returns-in_err-check_conflict-clause-refused
returns-in_err-check_conflict-clause-refused g c =
    let running = c.args.running.now in
    let object = c.args.pre.now in
    let cs : List Candidate = candidates running object in
    let pairs =
    are_of running object c.args.trials.now.codes c.args.trials.now.tried c.requires.codes c.requires.tried in
    let p = err_from_is_err_and c.from_residual-in_err-check_conflict.result
    c.from_residual-in_err-check_conflict.ensures.1 in
    rw (p.1, p.2) (λ other.
    reported_here (length object) cs c.in_ok-found.found.conflict c.in_ok-found.ensures.conflict
    ∙ c.in_err-check_conflict.ensures cs pairs (all_run running object) c.in_ok-found.ensures.agree other)

pub marked-requires-clause-within : goal.marked-requires-clause-within
marked-requires-clause-within g c =
    are_within c.args.running.now c.args.pre.now c.codes.result.now c.tried.result.now
    (c.codes.ensures ∙ c.requires.codes)
    (subst (λ (l : List Tried). AreTried c.args.running.now c.args.pre.now l) (sym c.tried.ensures) c.requires.tried)

pub marked-requires-clause-marks : goal.marked-requires-clause-marks
marked-requires-clause-marks g c =
    let cs : List Candidate = candidates c.args.running.now c.args.pre.now in
    ap length (c.as_slice-left.ensures.value ∙ c.in_ok-found.ensures.left)
    ∙ length-map cs _
    ∙ zip_length (IsTried (code_sections c.args.pre.now)) cs c.args.trials.now.tried c.requires.tried
    ∙ ap length (sym c.tried.ensures)

pub returns-clause-held : goal.returns-clause-held
returns-clause-held g c =
    let running = c.args.running.now in
    let cs : List Candidate = candidates running c.args.pre.now in
    let pairs =
    are_of running c.args.pre.now c.codes.result.now c.tried.result.now (c.codes.ensures ∙ c.requires.codes)
    (subst (λ (l : List Tried). AreTried running c.args.pre.now l) (sym c.tried.ensures) c.requires.tried) in
    let marks = left_here running c.args.pre.now c.as_slice-left.result.now
    (c.as_slice-left.ensures.value ∙ c.in_ok-found.ensures.left) in
    subst (λ (l : List Candidate). AllZip Is l c.in_ok-marked.field-0.items) marks (c.in_ok-marked.ensures cs pairs)

pub returns-clause-refused : goal.returns-clause-refused
returns-clause-refused g c =
    let running = c.args.running.now in
    let object = c.args.pre.now in
    let cs : List Candidate = candidates running object in
    let pairs =
    are_of running object c.args.trials.now.codes c.args.trials.now.tried c.requires.codes c.requires.tried in
    reported_here (length object) cs c.in_ok-found.found.conflict c.in_ok-found.ensures.conflict
    ∙ c.in_ok-check_conflict.ensures cs pairs (all_run running object) c.in_ok-found.ensures.agree
