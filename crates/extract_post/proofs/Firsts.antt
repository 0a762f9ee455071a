-- Firsts and picks of lists.
use Rattle.std.proofs.Common.{◌≡◌, inl, inr, ℕ, zero, suc, ◌+◌, ◌<◌, Bool, true, false, List, []}
use Rattle.std.proofs.Common.{◌∷◌, ◌++◌, length, map, Some, None, refl, sym, ap, subst, ◌∙◌, arith}
use Rattle.std.specs.List.{slice_get, position, position_from}
use Rattle.std.proofs.lemmas.Bool.{cases_Bool}
use Rattle.std.proofs.lemmas.Option.{same_Some}
use Rattle.std.proofs.lemmas.Iterator.Adapters.{position_from-zero}
use Rattle.std.proofs.lemmas.List.Elements.{All-nil, All-cons, All-head, All-tail, All-append, All-map}
use Rattle.reachability.specs.Reached.{Tells}
use Rattle.i386_reloc.specs.declared.types.Ref.{Ref}
use Rattle.i386_reloc.specs.declared.types.NormalSection.{NormalSection}
use Rattle.extract_post.specs.Extract.{Picks, IsFirst, NoneIs, places}
use Rattle.extract_post.specs.Extract.Picks.{Ends, Takes, Leaves}
use Rattle.extract_post.specs.Extract.IsFirst.{Here, Later}
use Rattle.extract_post.specs.inside.Marks.{TellWhich, marked_names}
use Rattle.extract_post.proofs.ChangeLaws.{true_tells}

false_tells : (P : Type 0) (b : Bool) → Tells b P → b ≡ false → P → ⊥
false_tells P true told is = absurd cc
false_tells P false told is = told

-- the first item that passes a test, where the test tells of a property
first_from : {X : Type 0} (t : X → Bool) (Q : X → Type 0) → ((x : X) → Tells (t x) (Q x)) → (xs : List X) (i k : ℕ) →
    position_from t i xs ≡ Some k → (j : ℕ) × (k ≡ i + j) × (x : X) × (slice_get xs j ≡ Some x) × IsFirst Q xs x
first_from t Q told [] i k at = absurd cc
first_from t Q told (x ∷ xs) i k at =
    elim (cases_Bool (t x)) [
      | inl passes ↦
          let here : Some i ≡ Some k = rw passes at at in
          let same : i ≡ k = same_Some i k here in
          (0, omega arith, x, refl, Here x xs (true_tells (Q x) (t x) (told x) passes))
      | inr fails ↦
          let later : position_from t (i + 1) xs ≡ Some k = rw fails at at in
          let (j, count, y, at_j, first) = first_from t Q told xs (i + 1) k later in
          (suc j, omega arith, y, at_j, Later x xs y (false_tells (Q x) (t x) (told x) fails) first)
    ]

none_from : {X : Type 0} (t : X → Bool) (Q : X → Type 0) → ((x : X) → Tells (t x) (Q x)) → (xs : List X) (i : ℕ) →
    position_from t i xs ≡ None → NoneIs Q xs
none_from t Q told [] i none = All-nil (λ x. Q x → ⊥)
none_from t Q told (x ∷ xs) i none =
    elim (cases_Bool (t x)) [
      | inl passes ↦ absurd (let here : Some i ≡ None = rw passes at none in cc)
      | inr fails ↦
          let later : position_from t (i + 1) xs ≡ None = rw fails at none in
          All-cons (λ y. Q y → ⊥) x xs (false_tells (Q x) (t x) (told x) fails) (none_from t Q told xs (i + 1) later)
    ]

pub first_of_test : {X : Type 0} (t : X → Bool) (Q : X → Type 0) → ((x : X) → Tells (t x) (Q x)) →
    (xs : List X) (k : ℕ) → position t xs ≡ Some k → (x : X) × (slice_get xs k ≡ Some x) × IsFirst Q xs x
first_of_test t Q told xs k at =
    let (j, count, x, at_j, first) = first_from t Q told xs 0 k (sym (position_from-zero t xs) ∙ at) in
    let e : j ≡ k = omega arith in
    (x, ap (slice_get xs) (sym e) ∙ at_j, first)

pub none_of_test : {X : Type 0} (t : X → Bool) (Q : X → Type 0) → ((x : X) → Tells (t x) (Q x)) → (xs : List X) →
    position t xs ≡ None → NoneIs Q xs
none_of_test t Q told xs none = none_from t Q told xs 0 (sym (position_from-zero t xs) ∙ none)

-- marks
marks_tail : (P : List ℕ → Type 0) (x : NormalSection) (xs : List NormalSection) (m : Bool) (ms : List Bool) →
    TellWhich P (x ∷ xs) (m ∷ ms) → TellWhich P xs ms
marks_tail P x xs m ms told =
    record {
      len = let e : length (m ∷ ms) ≡ length (x ∷ xs) = told.len in omega arith;
      each = λ i s at. told.each (suc i) s at;
    }

pub first_of_marks : (P : List ℕ → Type 0) (xs : List NormalSection) (ms : List Bool) → TellWhich P xs ms →
    (i k : ℕ) → position_from (λ m. m) i ms ≡ Some k →
    (j : ℕ) × (k ≡ i + j) × (s : NormalSection) × (slice_get xs j ≡ Some s) × IsFirst (λ s. P s.name) xs s
first_of_marks P [] [] told i k at = absurd cc
first_of_marks P [] (m ∷ ms) told i k at = absurd (let e : length (m ∷ ms) ≡ 0 = told.len in omega arith)
first_of_marks P (x ∷ xs) [] told i k at = absurd cc
first_of_marks P (x ∷ xs) (true ∷ ms) told i k at =
    let same : i ≡ k = same_Some i k at in
    (0, omega arith, x, refl, Here x xs (told.each 0 x refl))
first_of_marks P (x ∷ xs) (false ∷ ms) told i k at =
    let (j, count, s, at_j, first) = first_of_marks P xs ms (marks_tail P x xs false ms told) (i + 1) k at in
    (suc j, omega arith, s, at_j, Later x xs s (told.each 0 x refl) first)

none_of_marks : (P : List ℕ → Type 0) (xs : List NormalSection) (ms : List Bool) → TellWhich P xs ms → (i : ℕ) →
    position_from (λ m. m) i ms ≡ None → NoneIs (λ s. P s.name) xs
none_of_marks P [] ms told i none = All-nil (λ s. P s.name → ⊥)
none_of_marks P (x ∷ xs) [] told i none = absurd (let e : 0 ≡ length (x ∷ xs) = told.len in omega arith)
none_of_marks P (x ∷ xs) (true ∷ ms) told i none = absurd cc
none_of_marks P (x ∷ xs) (false ∷ ms) told i none =
    All-cons (λ s. P s.name → ⊥) x xs (told.each 0 x refl)
    (none_of_marks P xs ms (marks_tail P x xs false ms told) (i + 1) none)

pub first_marked_section : (P : List ℕ → Type 0) (xs : List NormalSection) (ms : List Bool) → TellWhich P xs ms →
    (k : ℕ) → position (λ m. m) ms ≡ Some k →
    (s : NormalSection) × (slice_get xs k ≡ Some s) × IsFirst (λ s. P s.name) xs s
first_marked_section P xs ms told k at =
    let (j, count, s, at_j, first) = first_of_marks P xs ms told 0 k (sym (position_from-zero (λ m. m) ms) ∙ at) in
    let e : j ≡ k = omega arith in
    (s, ap (slice_get xs) (sym e) ∙ at_j, first)

pub no_marked_section : (P : List ℕ → Type 0) (xs : List NormalSection) (ms : List Bool) → TellWhich P xs ms →
    position (λ m. m) ms ≡ None → NoneIs (λ s. P s.name) xs
no_marked_section P xs ms told none = none_of_marks P xs ms told 0 (sym (position_from-zero (λ m. m) ms) ∙ none)

picks_marked : (P : List ℕ → Type 0) (xs : List NormalSection) (ms : List Bool) → TellWhich P xs ms →
    Picks P xs (marked_names xs ms)
picks_marked P [] ms told = Ends
picks_marked P (x ∷ xs) [] told = absurd (let e : 0 ≡ length (x ∷ xs) = told.len in omega arith)
picks_marked P (x ∷ xs) (true ∷ ms) told =
    Takes x xs (marked_names xs ms) (told.each 0 x refl) (picks_marked P xs ms (marks_tail P x xs true ms told))
picks_marked P (x ∷ xs) (false ∷ ms) told =
    Leaves x xs (marked_names xs ms) (told.each 0 x refl) (picks_marked P xs ms (marks_tail P x xs false ms told))

pub picks_named : (P : List ℕ → Type 0) (sections : List NormalSection) (marks : List Bool) →
    TellWhich P sections marks → (shown : List NormalSection) (names : List (List ℕ)) →
    names ≡ marked_names shown marks → shown ≡ sections → Picks P sections names
picks_named P sections marks told shown names named same = rw (named, same) (picks_marked P sections marks told)

-- firsts in lists that are joined
first_left : {X : Type 0} (P : X → Type 0) (xs ys : List X) (x : X) → IsFirst P xs x → IsFirst P (xs ++ ys) x
first_left P xs ys x (Here y zs is) = Here y (zs ++ ys) is
first_left P xs ys x (Later y zs z isnt first) = Later y (zs ++ ys) z isnt (first_left P zs ys z first)

first_right : {X : Type 0} (P : X → Type 0) (xs ys : List X) (x : X) → NoneIs P xs → IsFirst P ys x →
    IsFirst P (xs ++ ys) x
first_right P [] ys x none first = first
first_right P (y ∷ xs) ys x none first =
    Later y (xs ++ ys) x (All-head (λ z. P z → ⊥) y xs none)
    (first_right P xs ys x (All-tail (λ z. P z → ⊥) y xs none) first)

first_mapped : {X Y : Type 0} (P : Y → Type 0) (f : X → Y) (xs : List X) (x : X) → IsFirst (λ v. P (f v)) xs x →
    IsFirst P (map f xs) (f x)
first_mapped P f xs x (Here y zs is) = Here (f y) (map f zs) is
first_mapped P f xs x (Later y zs z isnt first) = Later (f y) (map f zs) (f z) isnt (first_mapped P f zs z first)

abbrev pub references : NormalSection → List (List ℕ × Ref)
references section = map (λ r. (section.name, r)) section.refs

pub none_placed : (P : List ℕ × Ref → Type 0) (sections : List NormalSection) →
    ((i : ℕ) (s : NormalSection) → slice_get sections i ≡ Some s → NoneIs (λ r. P (s.name, r)) s.refs) →
    NoneIs P (places sections)
none_placed P [] none = All-nil (λ x. P x → ⊥)
none_placed P (s ∷ rest) none =
    All-append (λ x. P x → ⊥) (references s) (places rest)
    (All-map (λ x. P x → ⊥) (λ r. (s.name, r)) s.refs (none 0 s refl))
    (none_placed P rest (λ i t at. none (suc i) t at))

pub first_placed : (P : List ℕ × Ref → Type 0) (sections : List NormalSection) (k : ℕ) (s : NormalSection) (r : Ref) →
    slice_get sections k ≡ Some s →
    ((i : ℕ) (t : NormalSection) → i < k → slice_get sections i ≡ Some t → NoneIs (λ r. P (t.name, r)) t.refs) →
    IsFirst (λ r. P (s.name, r)) s.refs r → IsFirst P (places sections) (s.name, r)
first_placed P [] k s r at none first = absurd cc
first_placed P (x ∷ rest) zero s r at none first =
    let same : x ≡ s = same_Some x s at in
    let Q : NormalSection → Type 0 = λ v. IsFirst P (references v ++ places rest) (s.name, r) in
    subst Q (sym same) (first_left P (references s) (places rest) (s.name, r)
    (first_mapped P (λ r. (s.name, r)) s.refs r first))
first_placed P (x ∷ rest) (suc k) s r at none first =
    first_right P (references x) (places rest) (s.name, r)
    (All-map (λ y. P y → ⊥) (λ r. (x.name, r)) x.refs (none 0 x (omega arith) refl))
    (first_placed P rest k s r at (λ i t below at_i. none (suc i) t (omega arith) at_i) first)
