use Rattle.std.proofs.Common.{rules, arith, ◌≡◌, ℕ, suc, ◌+◌, false, get_or, refl, subst}
use Rattle.run_pre_match.specs.Candidate.{Candidate}
use Rattle.match_candidates.specs.declared.trials.Tried.{Tried}
use Rattle.symbol_solve.specs.declared.left.Held.{Held}
use Rattle.symbol_solve.specs.inside.Left.{IsOf, IsOneOf, AreHeldUpTo}
use Rattle.symbol_solve.proofs.CandidateLaws.{read, unread}
use Rattle.symbol_solve.proofs.HeldLaws.{none_held, one_more_held}
use Rattle.symbol_solve.proofs.left.marked.Goals as goal

pub loop-i-init : goal.loop-i-init
loop-i-init c = λ cs all.
    rw (c.new-held.ensures.items)
    (none_held (λ a (h : Held). IsOf h.code.now a h.tried.now)
    (IsOneOf c.args.codes.now) c.args.tried.now c.args.left.now cs all)

after : (i : ℕ) → suc i ≡ i + 1
after i = omega arith

pub loop-i-preserved : goal.loop-i-preserved
loop-i-preserved c =
    let R : Candidate → Held → Type 0 = λ a (h : Held). IsOf h.code.now a h.tried.now in
    let Q : Candidate → Tried → Type 0 = IsOneOf c.args.codes.now in
    subst (λ n. AreHeldUpTo R Q c.args.tried.now c.args.left.now n c.take_one.new.held.items) (after c.loop-i.i)
    (one_more_held R Q c.args.tried.now c.args.left.now c.loop-i.i (read c.args.tried.now c.loop-i.i)
    (get_or c.args.left.now c.loop-i.i false) false unread c.loop-i.held.items c.take_one.new.held.items
    (search rules) c.requires.marks refl refl c.loop-i.invariant c.in_ok-take_one.ensures)
