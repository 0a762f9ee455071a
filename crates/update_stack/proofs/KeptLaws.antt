-- What holds of the newest update of a machine, and of what is kept of it.
use Rattle.std.proofs.Common.{◌≡◌, ℕ, List, [], ◌∷◌, ◌++◌, Some, None, refl, sym, subst, ap, ◌∙◌}
use Rattle.std.specs.List.{last_or}
use Rattle.image_memory.specs.Contents.{Contents, IsValid}
use Rattle.image_memory.specs.Fetch.{HasCode}
use Rattle.update_memory.specs.Withdrawn.{without_pieces}
use Rattle.update_stack.specs.declared.updates.Kept.{Kept}
use Rattle.update_stack.specs.AbstractMachine.{AbstractMachine, Update}
use Rattle.update_stack.specs.Undo.{withdrawn, newest_update}
use Rattle.update_stack.specs.Stacked.{IsKept, AreKept, NoneKept}
use Rattle.update_stack.specs.Stacked.{OneKept}
use Rattle.update_stack.proofs.LastLaws.{last_more}

-- a law of another crate: code that is left was there
abbrev pub CodeWasThere : Type 0
CodeWasThere = (contents : Contents) (bases : List ℕ) (address count : ℕ) → IsValid contents
    → HasCode (without_pieces bases contents.pieces) address count → HasCode contents.pieces address count

pub withdrawn_pieces : (k : AbstractMachine) (update : Update)
    → (withdrawn k update).pieces ≡ without_pieces update.pieces k.pieces
unfolding withdrawn
withdrawn_pieces k update = refl

-- the last item of a list that ends with it
pub last_same : {X : Type 0} (xs ys : List X) (x y : X) → xs ++ x ∷ [] ≡ ys ++ y ∷ [] → x ≡ y
last_same {X} xs ys x y same =
    let e : last_or None (xs ++ x ∷ []) ≡ last_or None (ys ++ y ∷ []) = ap (last_or None) same in
    let f = last_more xs x in
    let g = last_more ys y in
    cc

front_same : {X : Type 0} (xs ys : List X) (x y : X) → xs ++ x ∷ [] ≡ ys ++ y ∷ [] → xs ≡ ys
front_same [] [] x y same = refl
front_same [] (b ∷ []) x y same = absurd (cc)
front_same [] (b ∷ c ∷ ys) x y same = absurd (cc)
front_same (a ∷ []) [] x y same = absurd (cc)
front_same (a ∷ c ∷ xs) [] x y same = absurd (cc)
front_same {X} (a ∷ xs) (b ∷ ys) x y same =
    let head : a ≡ b = cc in
    let tail : xs ++ x ∷ [] ≡ ys ++ y ∷ [] = cc in
    let rest : xs ≡ ys = front_same xs ys x y tail in
    cc

-- and of what is kept: that of the newest update, and of those before it
pub record HasKept (k : AbstractMachine) (update : Update) (earlier : List Kept) (one : Kept) : Type 0 where
  pub is_kept : IsKept k update one
  pub before : AreKept (withdrawn k update) earlier

pub kept_newest : (k : AbstractMachine) (update : Update) (earlier kept : List Kept) (one : Kept)
    → AreKept k kept
    → newest_update k ≡ Some update → kept ≡ earlier ++ one ∷ [] → HasKept k update earlier one
kept_newest k update earlier kept one (NoneKept _ _ none nothing free) is ends =
    let none_newest : newest_update k ≡ None = ap (last_or None) none in
    absurd (cc)
kept_newest k update earlier kept one (OneKept _ other front _ last newest has kept_one before) is ends =
    let same : other ≡ update = cc in
    let joined : front ++ last ∷ [] ≡ earlier ++ one ∷ [] = sym has ∙ ends in
    let last_is : last ≡ one = last_same front earlier last one joined in
    let front_is : front ≡ earlier = front_same front earlier last one joined in
    subst (λ (u : Update). HasKept k u earlier one) same
    (subst (λ (ks : List Kept). HasKept k other ks one) front_is
    (subst (λ (o : Kept). HasKept k other front o) last_is
    (record { is_kept = kept_one; before = before })))
