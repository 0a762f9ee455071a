use Rattle.std.proofs.Common.{◌≡◌}
use Rattle.splice_jump.specs.declared.phase.Phase.TheVariants.{Done}
use Rattle.ksplice_session.specs.Replies.{Trial}
use Rattle.ksplice_session.specs.inside.Trying.{plan_for}
use Rattle.ksplice_session.proofs.TryLaws.{PutOff}
use Rattle.ksplice_session.proofs.answers.wait.Given as goal

-- No update is being written, and the tries up to this one were put off.
abbrev pub invariant-loop-number : goal.invariant-loop-number
invariant-loop-number l =
    (l.session.phase ≡ Done)
    × ((trial : Trial) → plan_for l.fn.session.machine trial ≡ l.planned
    → PutOff trial l.planned l.gap l.tries l.fn.session l.session l.number)
