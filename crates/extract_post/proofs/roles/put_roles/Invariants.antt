use Rattle.std.proofs.Common.{◌≡◌, ℕ, cond, List, Some, drop}
use Rattle.extract_post.specs.Roles.{is_among, role_at}
use Rattle.extract_post.proofs.roles.put_roles.Given as goal

-- the names that are left give the role that all of them give in the end
abbrev pub invariant-loop-name : goal.invariant-loop-name
invariant-loop-name l =
    (q : List ℕ) → cond (is_among (drop l.name-index l.name-items) q) (Some l.role) (role_at l.roles q)
    ≡ cond (is_among l.names q) (Some l.role) (role_at l.fn.roles q)
