-- Laws of windows, for the crates above: what a window tells of the view that it was fetched at, and what is found among
-- things that were changed.
use Rattle.std.proofs.Common.{◌≡◌, ℕ, ◌-◌, Bool, true, false, cond, List, [], ◌∷◌, ◌++◌, map}
use Rattle.std.proofs.Common.{length, take, replicate, Some, Result, refl, ap, sym, subst, inl, inr}
use Rattle.std.proofs.Math.Seq.{take-append_seam}
use Rattle.std.specs.Option.{option_map}
use Rattle.std.specs.List.{find}
use Rattle.ks_base.specs.declared.refusals.Fault.{Fault}
use Rattle.image_memory.specs.Contents.{Contents}
use Rattle.image_memory.specs.declared.types.Window.{Window}
use Rattle.image_memory.specs.Fetch.{View, Unmapped, AtHome, Stray, Bytes, view_at}
use Rattle.image_memory.specs.Fetch.{jump_at, window_for, window_at, Tells, TellsView}

-- the bytes of a window are those that it shows
front_shown : (bytes : List ℕ) → take (length bytes) (bytes ++ replicate (15 - length bytes) 0) ≡ bytes
front_shown bytes = take-append_seam bytes (replicate (15 - length bytes) 0)

told : (view : View) (jump : List ℕ) → Tells view jump (window_for view jump)
told Unmapped jump = inl (refl, refl)
told AtHome jump = inr (refl, front_shown jump)
told Stray jump = inr (refl, refl)
told (Bytes bytes) jump = inl (ap Bytes (sym (front_shown bytes)))

pub window_tells : (contents : Contents) (pc : ℕ) (result : Result Window Fault) → result ≡ window_at contents pc
    → TellsView contents pc result
unfolding window_at
window_tells contents pc result is =
    subst (λ (r : Result Window Fault). TellsView contents pc r) (sym is)
    (told (view_at contents pc) (jump_at contents.pieces pc))

pub find-map : {X Y : Type 0} (p : Y → Bool) (f : X → Y) (xs : List X)
    → find p (map f xs) ≡ option_map f (find (λ x. p (f x)) xs)
find-map p f [] = refl
find-map p f (x ∷ xs) =
    elim (p (f x)) as (λ b. cond b (Some (f x)) (find p (map f xs)) ≡ option_map f
    (cond b (Some x) (find (λ z. p (f z)) xs))) [
      | true ↦ refl
      | false ↦ find-map p f xs
    ]
