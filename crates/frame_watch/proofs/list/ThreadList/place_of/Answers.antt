-- The last stack that begins at or below this one's low is the only one that can be this one.
use Rattle.std.proofs.Common.{◌≡◌, ◌-◌, ◌<◌, ◌∙◌, arith, List, length, get_or, ap, sym, subst, false, true, Some}
use Rattle.std.proofs.lemmas.Bool.{false_from_ne_true}
use Rattle.std.proofs.lemmas.List.{get_or_default}
use Rattle.image_memory.specs.Ranges.{Ascends}
use Rattle.frame_watch.specs.Frames.{Watched, stack_of, is_of}
use Rattle.frame_watch.specs.inside.Kept.{AreApart}
use Rattle.frame_watch.proofs.ListLaws.{none_begun, none_there, has_number, same_number, found_none, placed_is}
use Rattle.frame_watch.proofs.list.ThreadList.place_of.Goals as goal

pub returns-then-begun-eq0-clause-place : goal.returns-then-begun-eq0-clause-place
returns-then-begun-eq0-clause-place c =
    let low = c.from.ensures in
    none_begun c.args.number c.args.stack c.args.self.now c.requires
    (λ k d l. let h = c.begun-begun.ensures.above k d (omega arith) l in omega arith)

pub returns-then-number-clause-place : goal.returns-then-number-clause-place
returns-then-number-clause-place c =
    let ws = c.args.self.now in
    let x = c.index-thread.result.now in
    let n = c.begun-begun.result in
    let bound = c.begun-begun.ensures.bound in
    let l : n - 1 < length ws = omega arith in
    let at : x ≡ get_or ws (n - 1) x
    = c.index-thread.ensures ∙ ap (λ (vs : List Watched). get_or vs (n - 1) x) c.self.view_is in
    let hit : is_of c.args.number x ≡ true = has_number c.args.number x (sym c.number.ensures ∙ c.if-number.true) in
    (l, λ d. ap (is_of c.args.number) (get_or_default ws (n - 1) d x l ∙ sym at) ∙ hit)

pub returns-else-number-clause-place : goal.returns-else-number-clause-place
returns-else-number-clause-place c =
    let ws = c.args.self.now in
    let x = c.index-thread.result.now in
    let n = c.begun-begun.result in
    let low = c.from.ensures in
    let bound = c.begun-begun.ensures.bound in
    let l : n - 1 < length ws = omega arith in
    let P : List Watched → Type 0 = λ vs. Ascends stack_of 0 vs in
    let at : x ≡ get_or ws (n - 1) x
    = c.index-thread.ensures ∙ ap (λ (vs : List Watched). get_or vs (n - 1) x) c.self.view_is in
    let miss : is_of c.args.number x ≡ false
    = false_from_ne_true (is_of c.args.number x)
    (λ hit. c.if-number.false (c.number.ensures ∙ same_number c.args.number x hit)) in
    none_there c.args.number c.args.stack ws c.requires n (subst P c.self.view_is c.self.invariant.0) bound
    (λ k d m. let h = c.begun-begun.ensures.below k d (omega arith) m in omega arith)
    (λ k d m o. let h = c.begun-begun.ensures.above k d m o in omega arith)
    (λ k d e.
    let same : k ≡ n - 1 = omega arith in
    ap (λ i. is_of c.args.number (get_or ws i d)) same
    ∙ (ap (is_of c.args.number) (get_or_default ws (n - 1) d x l ∙ sym at) ∙ miss))

pub returns-then-begun-eq0-clause-thread : goal.returns-then-begun-eq0-clause-thread
returns-then-begun-eq0-clause-thread c =
    sym (found_none c.args.number c.args.self.now (returns-then-begun-eq0-clause-place c))

pub returns-then-number-clause-thread : goal.returns-then-number-clause-thread
returns-then-number-clause-thread c =
    let P : List Watched → Type 0 = λ vs. AreApart vs in
    placed_is c.args.number c.args.self.now (Some (c.begun-begun.result - 1))
    (subst P c.self.view_is c.self.invariant.1) (returns-then-number-clause-place c)

pub returns-else-number-clause-thread : goal.returns-else-number-clause-thread
returns-else-number-clause-thread c =
    sym (found_none c.args.number c.args.self.now (returns-else-number-clause-place c))
