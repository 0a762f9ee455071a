-- Laws of what holds of the machine at every moment, for the crates above: what is known of a machine that is built,
-- and of its newest update.
use Rattle.std.proofs.Common.{◌≡◌, List, [], ◌∷◌, ◌++◌, Some, refl, Option, None, subst, ap}
use Rattle.std.specs.List.{last_or}
use Rattle.update_stack.specs.AbstractMachine.{AbstractMachine, Update}
use Rattle.update_stack.specs.Stacked.{IsSound, IsBuilt, Untouched, Updated, IsOnTop}
use Rattle.update_stack.specs.Undo.{withdrawn, newest_update}

-- the last of a list to which one was appended, as the newest of updates
pub last_more : {X : Type 0} (o : Option X) (xs : List X) (x : X) → last_or o (xs ++ x ∷ []) ≡ Some x
last_more o [] x = refl
last_more o (y ∷ ys) x = last_more (Some y) ys x

-- of a machine that is built its jumps can stand, and its stacks and its arena are what they should be
pub built_sound : (k : AbstractMachine) → IsBuilt k → IsSound k
built_sound _ (Untouched k sound none empty unused) = sound
built_sound _ (Updated k update sound newest above built) = sound

-- of a machine with updates: the newest lies on one that is built
pub record HasNewest (k : AbstractMachine) (update : Update) : Type 0 where
  pub sound : IsSound k
  pub top : IsOnTop k update
  pub below : IsBuilt (withdrawn k update)

-- where a machine that is built has a newest update, this is so of it
pub built_newest : (k : AbstractMachine) (update : Update) → IsBuilt k → newest_update k ≡ Some update
    → HasNewest k update
built_newest k update (Untouched _ sound none table retired) is =
    let nothing : newest_update k ≡ None = ap (last_or None) none in
    absurd (cc)
built_newest k update (Updated _ other sound newest top below) is =
    let same : other ≡ update = cc in
    subst (HasNewest k) same (record { sound = sound; top = top; below = below })
