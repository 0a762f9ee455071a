-- Reading items one after another, as a loop does.
use Rattle.std.proofs.Common.{◌≡◌, ◌≢◌, ℕ, suc, ◌-◌, ◌+◌, ◌≤◌, ◌<◌, List, [], ◌∷◌}
use Rattle.std.proofs.Common.{◌++◌, Result, Ok, Err, refl, sym, ◌∙◌, arith}
use Rattle.ks_base.specs.declared.refusals.Refusal.{Refusal}
use Rattle.ks_base.specs.declared.refusals.Refusal.TheVariants.{Memory}
use Rattle.image_file.specs.Fields.{items_at}

pub goes_on : {X : Type 0} (item : List X → ℕ → Result X Refusal) (width : X → ℕ) (count i : ℕ) (before : List X)
    (offset : ℕ) (x : X) (total : Result (List X × ℕ) Refusal)
    → i < count → item before offset ≡ Ok x → items_at (count - i) item width before offset ≡ total
    → items_at (count - (i + 1)) item width (before ++ x ∷ []) (offset + width x) ≡ total
unfolding items_at
goes_on item width count i before offset x total lt h so_far =
    let k : count - i ≡ suc (count - (i + 1)) = omega arith in
    let one : items_at (count - i) item width before offset ≡ items_at (count - (i + 1)) item width (before ++ x ∷ [])
    (offset + width x) = rw (k, h) refl in
    sym one ∙ so_far

pub ends : {X : Type 0} (item : List X → ℕ → Result X Refusal) (width : X → ℕ) (count i : ℕ) (before : List X)
    (offset : ℕ) (e : Refusal) (total : Result (List X × ℕ) Refusal)
    → i < count → (e ≢ Memory → item before offset ≡ Err e) → items_at (count - i) item width before offset ≡ total
    → e ≢ Memory → total ≡ Err e
unfolding items_at
ends item width count i before offset e total lt h so_far other =
    let k : count - i ≡ suc (count - (i + 1)) = omega arith in
    let broken : item before offset ≡ Err e = h other in
    let one : items_at (count - i) item width before offset ≡ Err e = rw (k, broken) refl in
    sym so_far ∙ one

pub is_done : {X : Type 0} (item : List X → ℕ → Result X Refusal) (width : X → ℕ) (count i : ℕ) (before : List X)
    (offset : ℕ) (total : Result (List X × ℕ) Refusal)
    → count ≤ i → items_at (count - i) item width before offset ≡ total → total ≡ Ok (before, offset)
unfolding items_at
is_done item width count i before offset total le so_far =
    let k : count - i ≡ 0 = omega arith in
    let one : items_at (count - i) item width before offset ≡ Ok (before, offset) = rw k refl in
    sym so_far ∙ one
