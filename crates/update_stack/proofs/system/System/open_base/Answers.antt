use Rattle.std.proofs.Common.{◌≡◌, ℕ, true, get_or, Some, sym, ◌∙◌, subst}
use Rattle.splice_jump.specs.Phases.{open_home}
use Rattle.update_stack.specs.Phases.{Phased}
use Rattle.update_stack.specs.inside.Stepping.{StandsOpen}
use Rattle.update_stack.proofs.PhaseStepLaws.{tells_base, stands_open}
use Rattle.update_stack.proofs.system.System.open_base.Goals as goal

pub bounds-as_slice-0 : goal.bounds-as_slice-0
bounds-as_slice-0 g c =
    let inside = c.self.inside in
    (tells_base inside.phase inside.machine inside.arena inside.updates inside.kept c.self.invariant c.in_ok-home.home
    (sym c.open_home.ensures ∙ c.in_ok-home.was) c.as_slice-2.result.now c.len-at.result
    c.index-as_slice-at.result c.as_slice-3.result.now c.as_slice-2.ensures c.len-at.ensures c.as_slice-3.ensures).full

pub bounds-as_slice-0-else-not-stands_at : goal.bounds-as_slice-0-else-not-stands_at
bounds-as_slice-0-else-not-stands_at g c =
    let inside = c.self.inside in
    (tells_base inside.phase inside.machine inside.arena inside.updates inside.kept c.self.invariant c.in_ok-home.home
    (sym c.open_home.ensures ∙ c.in_ok-home.was) c.as_slice-2.result.now c.len-at.result
    c.index-as_slice-at.result c.as_slice-3.result.now c.as_slice-2.ensures c.len-at.ensures c.as_slice-3.ensures).full

pub returns : goal.returns
returns g c =
    let inside = c.self.inside in
    let opened : open_home inside.phase ≡ Some c.in_ok-home.home = sym c.open_home.ensures ∙ c.in_ok-home.was in
    let told = tells_base inside.phase inside.machine inside.arena inside.updates inside.kept c.self.invariant
    c.in_ok-home.home opened c.as_slice-2.result.now c.len-at.result c.index-as_slice-at.result c.as_slice-3.result.now
    c.as_slice-2.ensures c.len-at.ensures c.as_slice-3.ensures in
    let there : c.stands_at.result ≡ true = c.if-not-stands_at.false in
    let base : ℕ = (get_or c.as_slice-3.result.now 0 c.index-as_slice-0.result).base in
    let Open : Phased → Type 0 = λ seen. StandsOpen seen.phase seen.machine c.args.thread base in
    subst Open c.self.view_is
    (stands_open inside.phase inside.machine inside.arena inside.updates inside.kept c.self.invariant c.args.thread
    c.in_ok-home.home base opened c.as_slice.result.now
    (c.as_slice.ensures ∙ c.threads.ensures.threads) (sym c.stands_at.ensures ∙ there)
    (told.base c.index-as_slice-0.result))
