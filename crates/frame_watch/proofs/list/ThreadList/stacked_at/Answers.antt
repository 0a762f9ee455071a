-- The last stack that begins at or below the address is the only one that can have it.
use Rattle.std.proofs.Common.{◌≡◌, ◌-◌, ◌<◌, ◌∙◌, arith, List, length, get_or, ap, sym, subst, true, Some}
use Rattle.std.proofs.lemmas.List.{get_or_default}
use Rattle.image_memory.specs.Ranges.{Ascends, lies_in}
use Rattle.image_memory.specs.laws.RangeLaws.{found_here, found_nowhere, nowhere, below}
use Rattle.frame_watch.specs.Frames.{Watched, stack_of}
use Rattle.frame_watch.proofs.list.ThreadList.stacked_at.Goals as goal

pub returns-then-begun-eq0 : goal.returns-then-begun-eq0
returns-then-begun-eq0 c =
    sym (nowhere (λ w. lies_in c.args.address (stack_of w)) c.args.self.now
    (λ k d l. below c.args.address (get_or c.args.self.now k d).stack
    (c.begun-begun.ensures.above k d (omega arith) l)))

pub returns-then-stacks : goal.returns-then-stacks
returns-then-stacks c =
    let ws = c.args.self.now in
    let x = c.index-thread.result.now in
    let n = c.begun-begun.result in
    let bound = c.begun-begun.ensures.bound in
    let l : n - 1 < length ws = omega arith in
    let P : List Watched → Type 0 = λ vs. Ascends stack_of 0 vs in
    let at : get_or ws (n - 1) x ≡ x
    = sym (c.index-thread.ensures ∙ ap (λ (vs : List Watched). get_or vs (n - 1) x) c.self.view_is) in
    let holds : lies_in c.args.address (stack_of (get_or ws (n - 1) x)) ≡ true
    = ap (λ (w : Watched). lies_in c.args.address (stack_of w)) at ∙ (sym c.stacks.ensures ∙ c.if-stacks.true) in
    sym (found_here stack_of 0 ws c.args.address (n - 1) x (subst P c.self.view_is c.self.invariant.0) l holds
    ∙ ap (λ (w : Watched). Some w) at)

pub returns-else-stacks : goal.returns-else-stacks
returns-else-stacks c =
    let ws = c.args.self.now in
    let x = c.index-thread.result.now in
    let n = c.begun-begun.result in
    let e = c.begun-begun.ensures in
    let bound = e.bound in
    let P : List Watched → Type 0 = λ vs. Ascends stack_of 0 vs in
    let at : get_or ws (n - 1) x ≡ x
    = sym (c.index-thread.ensures ∙ ap (λ (vs : List Watched). get_or vs (n - 1) x) c.self.view_is) in
    sym (found_nowhere stack_of 0 ws c.args.address n (subst P c.self.view_is c.self.invariant.0)
    (λ k d l m. e.above k d l m)
    (λ k d l m.
    let s : k ≡ n - 1 = omega arith in
    let here : get_or ws k d ≡ x = get_or_default ws k d x m ∙ (ap (λ i. get_or ws i x) s ∙ at) in
    ap (λ (w : Watched). lies_in c.args.address (stack_of w)) here ∙ (sym c.stacks.ensures ∙ c.if-stacks.false))
    (λ k d l m. e.below k d (omega arith) l)
    bound)
