use Rattle.std.proofs.Common.{◌≡◌, ℕ, cond, List, drop}
use Rattle.extract_post.specs.Roles.{is_among}
use Rattle.update_plan.specs.inside.Fates.{fate_at}
use Rattle.update_plan.proofs.fates.put_fates.Given as goal

-- the names that are left give the fate that all of them give in the end
abbrev pub invariant-loop-name : goal.invariant-loop-name
invariant-loop-name l =
    (q : List ℕ) → cond (is_among (drop l.name-index l.name-items) q) l.fate (fate_at l.fates q)
    ≡ cond (is_among l.names q) l.fate (fate_at l.fn.fates q)
