use Rattle.std.proofs.Common.{List, All, Ok, length, sym, ap, subst, ◌∙◌}
use Rattle.std.specs.List.{AllZip}
use Rattle.std.proofs.lemmas.Result.{err_from_is_err_and}
use Rattle.i386_reloc.specs.declared.types.NormalSection.{NormalSection}
use Rattle.run_pre_match.specs.Candidate.{Candidate}
use Rattle.match_candidates.specs.Candidates.{Running, candidates}
use Rattle.symbol_solve.specs.declared.left.Held.{Held}
use Rattle.symbol_solve.specs.Conflicts.{reported}
use Rattle.symbol_solve.specs.Solve.{Value, left_of, first_twins}
use Rattle.symbol_solve.specs.inside.Left.{IsOf, RunsIn}
use Rattle.symbol_solve.proofs.HeldLaws.{zip_and}
use Rattle.symbol_solve.proofs.Members.{all_has, all_of}
use Rattle.symbol_solve.proofs.OnlyLaws.{left_cands}
use Rattle.symbol_solve.proofs.SolveLaws.{all_run, refused_by, refused_next, answered}
use Rattle.symbol_solve.proofs.solving.solve_trials.Goals as goal

abbrev Is : Candidate → Held → Type 0
Is c h = IsOf h.code.now c h.tried.now

left_run : (running : Running) (object : List NormalSection) → All (RunsIn running) (left_of running object)
left_run running object =
    all_of (RunsIn running) (left_of running object)
    (λ c has. all_has
    (RunsIn running) (candidates running object) c (all_run running object) (left_cands running object c has))

pub returns-in_err-held : goal.returns-in_err-held
returns-in_err-held g c =
    let running = c.args.running.now in
    let object = c.args.pre.now in
    let p = err_from_is_err_and c.from_residual.result c.from_residual.ensures.1 in
    rw (p.1, p.2) (λ other. refused_by (reported (length object) (candidates running object))
    (first_twins (left_of running object)) _ (left_of running object) (c.in_err-held.ensures.refused other))

pub returns-in_err-check_twins : goal.returns-in_err-check_twins
returns-in_err-check_twins g c =
    let running = c.args.running.now in
    let object = c.args.pre.now in
    let left = left_of running object in
    let p = err_from_is_err_and c.from_residual-in_err-check_twins.result
    c.from_residual-in_err-check_twins.ensures.1 in
    let held = subst (λ (l : List Held). AllZip Is left l) (sym c.as_slice.ensures.value) c.in_ok-held.ensures.held in
    rw (p.1, p.2) (λ other. refused_next (reported (length object) (candidates running object)) (first_twins left) _ left
    c.in_ok-held.ensures.refused (c.in_err-check_twins.ensures left held other))

pub returns : goal.returns
returns g c =
    let running = c.args.running.now in
    let object = c.args.pre.now in
    let left = left_of running object in
    let held = subst (λ (l : List Held). AllZip Is left l) (sym c.as_slice.ensures.value) c.in_ok-held.ensures.held in
    let again = subst (λ (l : List Held). AllZip Is left l) (sym c.as_slice-2.ensures.value) c.in_ok-held.ensures.held in
    answered (reported (length object) (candidates running object)) (first_twins left) left
    c.in_ok-held.ensures.refused (c.in_ok-check_twins.ensures left held)
    ∙ ap (λ (l : List Value). Ok l) (sym (c.in_ok-values_of.ensures left
    (zip_and Is (RunsIn running) left c.as_slice-2.result.now again (left_run running object))))
