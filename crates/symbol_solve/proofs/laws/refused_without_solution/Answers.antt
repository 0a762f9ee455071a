use Rattle.ks_base.specs.declared.refusals.Refusal.TheVariants.{Mismatch, Conflict}
use Rattle.symbol_solve.proofs.RefusalLaws.{refused_means}
use Rattle.symbol_solve.proofs.laws.refused_without_solution.Goals as goal

pub returns-clause-mismatch : goal.returns-clause-mismatch
returns-clause-mismatch c =
    λ running object name difference is. refused_means running object (Mismatch name difference) is

pub returns-clause-conflict : goal.returns-clause-conflict
returns-clause-conflict c =
    λ running object name a b one other is. refused_means running object (Conflict name a b one other) is
