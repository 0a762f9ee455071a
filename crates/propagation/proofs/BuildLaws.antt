-- Laws of the tables as they are built.
use Rattle.std.proofs.Common.{◌≡◌, ℕ, ◌+◌, ◌==◌, true, List, [], ◌∷◌, ◌++◌, set, Contains, Option, Some}
use Rattle.std.proofs.Common.{None, if◌then◌else◌, slice_get, sym, ◌∙◌, ap, subst, arith, inl, inr}
use Rattle.std.proofs.lemmas.Bool.{cond-true, cond_both, eqb-true, eq-eqb, cases_eq}
use Rattle.std.proofs.lemmas.List.Elements.{Contains-append_left, Contains-push}
use Rattle.propagation.specs.declared.choice.Choice.{Choice}
use Rattle.propagation.specs.inside.Engine.{list_at, is_value, AreListed, Grows, HasDemands, HasNumbers}
use Rattle.propagation.proofs.ListLaws.{set_cases}

-- one more number in a section's list
abbrev pub IsPushed : List (List ℕ) → List (List ℕ) → ℕ → ℕ → Type 0
IsPushed old new section number =
    (k : ℕ) → list_at new k ≡ (if k == section then list_at old k ++ number ∷ [] else list_at old k)

pub pushed_grows : (old new : List (List ℕ)) (section number : ℕ) → IsPushed old new section number → Grows old new
pushed_grows old new section number pushed s x h =
    let P : List ℕ → Type 0 = λ l. Contains l x in
    subst P (sym (pushed s))
    (cond_both (s == section) (list_at old s ++ number ∷ [])
    (list_at old s) P (λ _. Contains-append_left (list_at old s) (number ∷ []) x h) (λ _. h))

pub pushed_has : (old new : List (List ℕ)) (section number : ℕ) → IsPushed old new section number
    → Contains (list_at new section) number
pushed_has old new section number pushed =
    let P : List ℕ → Type 0 = λ l. Contains l number in
    subst P (sym (pushed section ∙ cond-true (section == section) (list_at old section ++ number ∷ [])
    (list_at old section) (eq-eqb section section (λ _. section)))) (Contains-push (list_at old section) number)

some_section : (a b : ℕ) → is_value (Some a) b ≡ true → a ≡ b
some_section a b t = eqb-true a b t

pub listed_more : (listed : List (Option ℕ)) (old new : List (List ℕ)) (section number : ℕ)
    → IsPushed old new section number → AreListed listed old → AreListed (set listed number (Some section)) new
listed_more listed old new section number pushed are n s t =
    elim (set_cases listed number n (Some section) None) [
      | inl same ↦
          (let e : section ≡ s = some_section section s (ap (λ o. is_value o s) (sym same.1) ∙ t) in
          let P : ℕ → Type 0 = λ k. Contains (list_at new section) k in
          let Q : ℕ → Type 0 = λ k. Contains (list_at new k) n in
          subst Q e (subst P (sym same.0) (pushed_has old new section number pushed)))
      | inr other ↦
          pushed_grows old new section number pushed s n (are n s (ap (λ o. is_value o s) (sym other) ∙ t))
    ]

pub numbers_more : (choices : List Choice) (count : ℕ) (old new : List (List ℕ)) (c : Choice)
    → slice_get choices count ≡ Some c → Grows old new → HasNumbers choices count old
    → HasDemands c.section c.demands new → HasNumbers choices (count + 1) new
numbers_more choices count old new c at grows has put place b less is demand h ne =
    elim (cases_eq place count) [
      | inl e ↦
          (let same : Some c ≡ Some b = sym at ∙ ap (slice_get choices) (sym e) ∙ is in
          let e' : c ≡ b = cc in
          let P : Choice → Type 0 = λ x. HasDemands x.section x.demands new in
          subst P e' put demand h ne)
      | inr other ↦ grows demand.section demand.number (has place b (omega (arith, other)) is demand h ne)
    ]
