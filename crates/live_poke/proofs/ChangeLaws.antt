-- Whether two objects differ in one function alone, where their difference isn't made.
use Rattle.std.proofs.Common.{◌≡◌, ◌≢◌, ℕ, List, MatchResult, Result, Ok, Err, ap}
use Rattle.ks_base.specs.declared.refusals.Refusal.{Refusal}
use Rattle.ks_base.specs.declared.refusals.Refusal.TheVariants.{Memory}
use Rattle.i386_reloc.specs.Rule.{Finds}
use Rattle.update_plan.specs.OneFunction.{extract_of}
use Rattle.live_poke.specs.Poke.{change_refusal, unless_one_changed}

-- nothing is said then, but that memory ran out
pub refused_change : (pre post : List ℕ) (refusal : Refusal) (result : Result (Unit {0}) Refusal)
    → (refusal ≢ Memory → extract_of pre post ≡ Err refusal)
    → MatchResult result (λ u. refusal ≢ Memory) (λ other. other ≡ Memory)
    → Finds Memory result (change_refusal pre post)
unfolding change_refusal
refused_change pre post refusal (Ok u) gives other = ap unless_one_changed (gives other)
refused_change pre post refusal (Err why) gives memory = λ other. absurd (other memory)
