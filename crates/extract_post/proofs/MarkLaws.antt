-- Laws of marks of sections.
use Rattle.std.proofs.Common.{◌≡◌, ◌⊎◌, inl, inr, ℕ, zero, suc, ◌+◌, ◌<◌, Bool, true, false}
use Rattle.std.proofs.Common.{◌&&◌, ◌||◌, List, [], ◌∷◌, ◌++◌, length, get_or, drop, Some}
use Rattle.std.proofs.Common.{refl, sym, ap, ◌∙◌, arith, add-one, drop-cons, append_assoc}
use Rattle.std.specs.List.{slice_get}
use Rattle.std.proofs.lemmas.List.{length-map}
use Rattle.std.proofs.lemmas.Option.{same_Some}
use Rattle.reachability.specs.Reached.{Tells}
use Rattle.i386_reloc.specs.declared.types.NormalSection.{NormalSection}
use Rattle.extract_post.specs.inside.Marks.{marked, tests, TellWhich, marked_names}

-- what a test tells of itself, and what two marks tell together
pub tells_test : (b : Bool) → Tells b (b ≡ true)
tells_test true = refl
tells_test false = λ h. cc

pub tells_and : (P Q : Type 0) (a b : Bool) → Tells a P → (P → Tells b Q) → Tells (a && b) (P × Q)
tells_and P Q true true p q = (p, q p)
tells_and P Q true false p q = λ (x : P × Q). q x.0 x.1
tells_and P Q false b p q = λ (x : P × Q). p x.0

pub tells_or : (P Q : Type 0) (a b : Bool) → Tells a P → Tells b Q → Tells (a || b) (P ⊎ Q)
tells_or P Q true b p q = inl p
tells_or P Q false true p q = inr q
tells_or P Q false false p q = λ (h : P ⊎ Q). elim h [ inl x ↦ p x | inr y ↦ q y ]

-- the marks of a test
pub tests_at : (f : List ℕ → Bool) (sections : List NormalSection) (place : ℕ) (s : NormalSection) →
    slice_get sections place ≡ Some s → marked (tests f sections) place ≡ f s.name
tests_at f [] place s at = absurd cc
tests_at f (x ∷ xs) zero s at = let e : x ≡ s = same_Some x s at in ap (λ (v : NormalSection). f v.name) e
tests_at f (x ∷ xs) (suc i) s at = tests_at f xs i s at

pub tell_tested : (sections : List NormalSection) (f : List ℕ → Bool) (marks : List Bool) → marks ≡ tests f sections →
    TellWhich (λ name. f name ≡ true) sections marks
tell_tested sections f marks tested =
    record {
      len = ap length tested ∙ length-map sections (λ s. f s.name);
      each = λ i s at.
          let a : marked marks i ≡ f s.name = ap (λ m. marked m i) tested ∙ tests_at f sections i s at in
          rw a (tells_test (f s.name));
    }

-- the names from a place on
marked_names_first : (s : NormalSection) (mark : Bool) (sections : List NormalSection) (marks : List Bool) →
    marked_names (s ∷ sections) (mark ∷ marks) ≡ marked_names (s ∷ []) (mark ∷ []) ++ marked_names sections marks
marked_names_first s true sections marks = refl
marked_names_first s false sections marks = refl

pub marked_names_drop : (sections : List NormalSection) (marks : List Bool) (i : ℕ) (s : NormalSection) (mark : Bool)
    (names more : List (List ℕ)) →
    i < length sections → length marks ≡ length sections → s ≡ get_or sections i s → mark ≡ marked marks i →
    more ≡ names ++ marked_names (s ∷ []) (mark ∷ []) →
    more ++ marked_names (drop (i + 1) sections) (drop (i + 1) marks) ≡ names ++ marked_names (drop i sections)
    (drop i marks)
marked_names_drop sections marks i s mark names more within len at is step =
    let lt : i < length marks = omega arith in
    let a : drop i sections ≡ s ∷ drop (i + 1) sections = rw (add-one, drop-cons sections i s, ← at) in
    let b : drop i marks ≡ mark ∷ drop (i + 1) marks = rw (add-one, drop-cons marks i false, ← is) in
    ap (λ v. v ++ marked_names (drop (i + 1) sections) (drop (i + 1) marks)) step
    ∙ (append_assoc names (marked_names (s ∷ []) (mark ∷ []))
    (marked_names (drop (i + 1) sections) (drop (i + 1) marks))
    ∙ ap (λ v. names ++ v) (sym (marked_names_first s mark (drop (i + 1) sections) (drop (i + 1) marks))
    ∙ (λ j. marked_names (sym a j) (sym b j))))
