-- Laws of what is read of a file step by step, for the crates above: what is known of each step where the whole was
-- not refused.
use Rattle.std.proofs.Common.{◌≡◌, ℕ, ◌+◌, ◌≤◌, Bool, true, false, cond, ltb, List, [], ◌∷◌, length, take, drop, Result}
use Rattle.std.proofs.Common.{Ok, Err, refl, arith, ◌&&◌}
use Rattle.std.proofs.lemmas.Bool.{ltb-false}
use Rattle.std.proofs.lemmas.List.{length-drop, length-take}
use Rattle.ks_base.specs.declared.refusals.ImageFault.TheVariants.{Short}
use Rattle.ks_base.specs.declared.refusals.Refusal.{Refusal}
use Rattle.ks_base.specs.declared.refusals.Refusal.TheVariants.{BadImage}
use Rattle.image_file.specs.Fields.{◌>>=◌, Rule, checked, content_at}
use Rattle.image_file.specs.Keeps.{all_hold}

-- the value of a step that was not refused
pub bind_ok : {A B : Type 0} (r : Result A Refusal) (f : A → Result B Refusal) (y : B) → (r >>= f) ≡ Ok y →
    (x : A) × (r ≡ Ok x) × (f x ≡ Ok y)
bind_ok (Ok x) f y e = (x, refl, e)
bind_ok (Err d) f y e = absurd cc

-- the same, for what follows from it
pub after_bind : {A B : Type 0} (P : Type 0) (y : B) (r : Result A Refusal) (f : A → Result B Refusal) →
    (r >>= f) ≡ Ok y → ((x : A) → r ≡ Ok x → f x ≡ Ok y → P) → P
after_bind P y (Ok x) f e follows = follows x refl e
after_bind P y (Err d) f e follows = absurd cc

-- what is answered is one thing
abbrev done : {A : Type 0} → A → Result A Refusal
done x = Ok x

pub ok_is : {A : Type 0} (x y : A) → done x ≡ done y → x ≡ y
ok_is x y e = cc

guard_ok : {A : Type 0} (b : Bool) (d : Refusal) (x y : A) → cond b (Err d) (Ok x) ≡ Ok y → (b ≡ false) × (x ≡ y)
guard_ok true d x y e = absurd cc
guard_ok false d x y e = (refl, cc)

-- what is read lies within the file, and is what stands there
pub content_cut : (bytes : List ℕ) (offset n : ℕ) (x : List ℕ) → content_at bytes offset n ≡ Ok x →
    (offset + n ≤ length bytes) × (take n (drop offset bytes) ≡ x)
unfolding content_at
content_cut bytes offset n x e =
    let g = guard_ok (ltb (length bytes) (offset + n)) (BadImage (length bytes) Short)
    (take n (drop offset bytes)) x e in
    (ltb-false _ _ g.0, g.1)

-- so many bytes are read as were asked for
pub content_long : (bytes : List ℕ) (offset n : ℕ) (x : List ℕ) → content_at bytes offset n ≡ Ok x → length x ≡ n
content_long bytes offset n x e =
    let g = content_cut bytes offset n x e in
    let within = g.0 in
    rw (← g.1) (omega (arith, length-take n (drop offset bytes), length-drop offset bytes))

-- where no rule was broken, all hold, and the value is the one that was tested
pub all_kept : {A : Type 0} (offset : ℕ) (rules : List Rule) (x y : A) → checked offset rules x ≡ Ok y →
    (all_hold rules ≡ true) × (x ≡ y)
all_kept offset [] x y e = (refl, ok_is x y e)
all_kept {A} offset (rule ∷ rules) x y e =
    elim rule.holds as (λ b. cond b (checked offset rules x) (Err (BadImage offset rule.fault)) ≡ Ok y
    → (b && all_hold rules ≡ true) × (x ≡ y)) [
      | true ↦ λ more. all_kept offset rules x y more
      | false ↦ λ wrong. absurd cc
    ] e
