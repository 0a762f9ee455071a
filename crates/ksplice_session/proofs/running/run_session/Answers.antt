use Rattle.ks_io.specs.laws.LoadLaws.{stays_or_loses_one}
use Rattle.ksplice_session.specs.Session.{files_along}
use Rattle.ksplice_session.proofs.RanLaws.{ran_safely}
use Rattle.ksplice_session.proofs.SessionLaws.{script_ends, stays_where_all_ran}
use Rattle.ksplice_session.proofs.running.run_session.Goals as goal

pub returns-clause-ends : goal.returns-clause-ends
returns-clause-ends g c =
    script_ends _ _ _ _ _ _ _ _ _ _ c.script_end.ensures (rw c.as_slice.ensures at c.run_lines.ensures.ends)

pub returns-clause-stays : goal.returns-clause-stays
returns-clause-stays g c =
    stays_where_all_ran
    (script_ends _ _ _ _ _ _ _ _ _ _ c.script_end.ensures (rw c.as_slice.ensures at c.run_lines.ensures.ends))

pub returns-clause-lost : goal.returns-clause-lost
returns-clause-lost g c =
    stays_or_loses_one (λ _. files_along c.args.script.now) _ _ _ _ _
    (script_ends _ _ _ _ _ _ _ _ _ _ c.script_end.ensures (rw c.as_slice.ensures at c.run_lines.ensures.ends)).loads

pub returns-clause-safe : goal.returns-clause-safe
returns-clause-safe g c =
    ran_safely c.disciplined_runs_are_safe.ensures.frames c.disciplined_runs_are_safe.ensures.returns _ _ _ _ _ _
