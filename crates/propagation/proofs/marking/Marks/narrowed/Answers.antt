use Rattle.std.proofs.Common.{◌≡◌, ◌-◌, ◌<◌, List, [], ◌∷◌, ◌++◌, ℕ, ap, take}
use Rattle.std.proofs.Common.{length, slice_index, sym, ◌∙◌, subst, arith}
use Rattle.std.proofs.lemmas.List.{take_more_set, get_or_default}
use Rattle.propagation.specs.inside.State.{IsEnd, IsNarrowed}
use Rattle.propagation.proofs.NarrowLaws.{narrowed_none, narrowed_some}
use Rattle.propagation.proofs.marking.Marks.narrowed.Goals as goal

pub returns-then-last-eq0 : goal.returns-then-last-eq0
returns-then-last-eq0 c =
    let left = c.args.self.now.left in
    let xs : List ℕ = c.args.list.items in
    let P : List ℕ → Type 0 = λ l. IsNarrowed left xs l in
    let A : List ℕ → Type 0 = λ l. IsEnd left l c.len.result c.len-2.result c.end_of_left-last.result in
    let B : ℕ → Type 0 = λ n. IsEnd left xs n c.len-2.result c.end_of_left-last.result in
    let C : ℕ → Type 0 = λ n. IsEnd left xs (length xs) n c.end_of_left-last.result in
    let D : ℕ → Type 0 = λ n. IsEnd left xs (length xs) (length left) n in
    let bound : c.len.result ≡ length xs = omega arith in
    subst P (sym c.truncate.ensures.items)
    (narrowed_none left xs (subst D c.if-last-eq0.true
    (subst C c.len-2.ensures (subst B bound (subst A c.as_slice.ensures.value c.end_of_left-last.ensures)))))

pub returns : goal.returns
returns c =
    let left = c.args.self.now.left in
    let xs : List ℕ = c.args.list.items in
    let last : ℕ = c.end_of_left-last.result in
    let before : ℕ = c.end_of_left-before.result in
    let P : List ℕ → Type 0 = λ l. IsNarrowed left xs l in
    let A : List ℕ → Type 0 = λ l. IsEnd left l c.len.result c.len-2.result last in
    let B : ℕ → Type 0 = λ n. IsEnd left xs n c.len-2.result last in
    let C : ℕ → Type 0 = λ n. IsEnd left xs (length xs) n last in
    let bound : c.len.result ≡ length xs = omega arith in
    let first = subst C c.len-2.ensures (subst B bound (subst A c.as_slice.ensures.value c.end_of_left-last.ensures)) in
    let some : 0 < last = omega arith in
    let only : c.index-only.result.now ≡ slice_index xs (last - 1) =
    c.index-only.ensures ∙ get_or_default xs (last - 1) c.index-only.result.now 0 (omega arith) in
    let E : List ℕ → Type 0 = λ l. IsEnd left l (last - 1) c.index-only.result.now before in
    let F : ℕ → Type 0 = λ n. IsEnd left xs (last - 1) n before in
    let second = subst F only (subst E c.as_slice-2.ensures.value c.end_of_left-before.ensures) in
    let shorter = c.truncate-2.ensures.items ∙ take_more_set xs before c.index-only.result.now
    (omega (arith, second.within)) ∙ ap (λ n. take before xs ++ n ∷ []) only in
    subst P (sym shorter) (narrowed_some left xs last before (record { some = some; first = first; second = second }))
