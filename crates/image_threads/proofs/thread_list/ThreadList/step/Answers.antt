-- The list with the thread after its step; where it doesn't run, the list as it was.
use Rattle.std.proofs.Common.{◌≡◌, List, IsSome, Some, Option, true, refl, sym, subst, ap, ◌∙◌, rules, set}
use Rattle.std.proofs.lemmas.Fn.{filter_same}
use Rattle.ks_base.specs.declared.places.Range.{Range}
use Rattle.ia32_step.specs.declared.types.Thread.{Thread}
use Rattle.ia32_step.specs.Step.{Left}
use Rattle.ia32_step.specs.Threads.{runs}
use Rattle.image_threads.specs.Program.{WellPlaced, if_running, running_at}
use Rattle.image_threads.proofs.ListLaws.{is_other, listed_running, listed_ended, number_at, set_back}
use Rattle.image_threads.proofs.PlacedLaws.{placed_set}
use Rattle.image_threads.proofs.thread_list.ThreadList.step.Given.{Over}
use Rattle.image_threads.proofs.thread_list.ThreadList.step.Goals.{After-is_running, After-step_traced-traced}
use Rattle.image_threads.proofs.thread_list.ThreadList.step.Goals as goal

-- the thread that doesn't run, put where it stood
as_it_was : (g : Over) (c : After-is_running g)
    → set c.self.inside.threads c.args.number c.in_ok-thread.thread.now ≡ c.self.inside.threads
as_it_was g c =
    set_back c.self.inside.threads c.args.number c.in_ok-thread.thread.now (sym c.in_ok-thread.ensures.item)

pub invariant_of-self-then-not-is_running : goal.invariant_of-self-then-not-is_running
invariant_of-self-then-not-is_running g c = rw (as_it_was g (goal.at.invariant_of-self-then-not-is_running g c).After-is_running) c.self.invariant

pub returns-then-not-is_running-clause-refused : goal.returns-then-not-is_running-clause-refused
returns-then-not-is_running-clause-refused g c = λ _. (as_it_was g (goal.at.returns-then-not-is_running-clause-refused g c).After-is_running ∙ c.self.view_is, refl)

pub returns-then-not-is_running-clause-placed : goal.returns-then-not-is_running-clause-placed
returns-then-not-is_running-clause-placed g c = λ stacks placed.
    subst (WellPlaced stacks) (sym (as_it_was g (goal.at.returns-then-not-is_running-clause-placed g c).After-is_running ∙ c.self.view_is)) placed

-- the thread that runs, before its step and after it
ran : (g : Over) (c : After-step_traced-traced g)
    → running_at c.self.inside.threads c.args.number ≡ Some c.in_ok-thread.thread.now
ran g c =
    let before = c.in_ok-thread.thread.now in
    let running : runs before ≡ true = sym c.is_running.ensures ∙ c.if-not-is_running.false in
    subst (λ (found : Option Thread). if_running found ≡ Some before) c.in_ok-thread.ensures.item (rw running refl)

numbered : (g : Over) (c : After-step_traced-traced g) → c.step_traced-traced.new.thread.number ≡ c.args.number
numbered g c =
    let before = c.in_ok-thread.thread.now in
    ap (λ (left : Left). left.thread.number) c.step_traced-traced.ensures.left
    ∙ c.steps_keep.ensures.number (g.S.Space.contents c.args.space.now) before
    ∙ number_at c.self.inside.threads c.args.number (Some before) c.self.invariant.0 c.in_ok-thread.ensures.item

placed_on : (g : Over) (c : After-step_traced-traced g) (stacks : List Range) → WellPlaced stacks c.args.self.now
    → WellPlaced stacks (set c.self.inside.threads c.args.number c.step_traced-traced.new.thread)
placed_on g c stacks placed =
    let before = c.in_ok-thread.thread.now in
    let same = ap (λ (left : Left). left.thread.stack) c.step_traced-traced.ensures.left
    ∙ c.steps_keep.ensures.stack (g.S.Space.contents c.args.space.now) before in
    placed_set stacks c.self.inside.threads c.args.number before c.step_traced-traced.new.thread
    (subst (WellPlaced stacks) (sym c.self.view_is) placed) (ran g c) same

pub invariant_of-self-then-not-is_running-2 : goal.invariant_of-self-then-not-is_running-2
invariant_of-self-then-not-is_running-2 g c =
    let here = (goal.at.invariant_of-self-then-not-is_running-2 g c).After-step_traced-traced in
    let n = c.args.number in
    let kept = filter_same _ (is_other n) _ (λ x b f k. search rules) _ _ c.retain.ensures.filtered in
    listed_ended c.self.inside.threads c.self.inside.running.items _ n c.step_traced-traced.new.thread
    c.self.invariant (subst IsSome (sym (ran g here)) refl) (numbered g here)
    (sym c.is_running-2.ensures ∙ c.if-not-is_running-2.true) kept

pub returns-then-not-is_running-2-clause-placed : goal.returns-then-not-is_running-2-clause-placed
returns-then-not-is_running-2-clause-placed g c =
    placed_on g (goal.at.returns-then-not-is_running-2-clause-placed g c).After-step_traced-traced

pub invariant_of-self-else-not-is_running-2 : goal.invariant_of-self-else-not-is_running-2
invariant_of-self-else-not-is_running-2 g c =
    let here = (goal.at.invariant_of-self-else-not-is_running-2 g c).After-step_traced-traced in
    listed_running c.self.inside.threads c.self.inside.running.items c.args.number c.step_traced-traced.new.thread
    c.self.invariant (subst IsSome (sym (ran g here)) refl) (numbered g here)
    (sym c.is_running-2.ensures ∙ c.if-not-is_running-2.false)

pub returns-else-not-is_running-2-clause-placed : goal.returns-else-not-is_running-2-clause-placed
returns-else-not-is_running-2-clause-placed g c =
    placed_on g (goal.at.returns-else-not-is_running-2-clause-placed g c).After-step_traced-traced
