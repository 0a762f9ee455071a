-- Laws of lists, by what they contain, and of tables.
use Rattle.std.proofs.Common.{◌≡◌, ◌⊎◌, ℕ, zero, suc, ◌==◌, ◌<◌, Bool, true, false, List, [], ◌∷◌}
use Rattle.std.proofs.Common.{length, get_or, set, map, filter, Contains, Option, Some, None, refl, sym}
use Rattle.std.proofs.Common.{◌∙◌, ap, subst, inl, inr, arith, zero-lt-suc, suc-le-suc, le_of_suc-le-suc}
use Rattle.std.specs.List.{list_any, list_all, slice_get}
use Rattle.std.proofs.lemmas.Option.{slice_get_within, slice_get-get_or, get_or_from_slice_get}
use Rattle.std.proofs.lemmas.Bool.{cases_Bool, cases_eq, cases_lt, cond_both, cond-true, cond-false, false≢true}
use Rattle.std.proofs.lemmas.Bool.{or_left, or_right, or_cases, and_parts, and_from, eqb-true, eq-eqb}
use Rattle.std.proofs.lemmas.List.{get_or-set_same, get_or-set_other, set_past}
use Rattle.std.proofs.lemmas.List.Elements.{Contains-append_left, Contains-append_right, Contains-append_cases}
use Rattle.propagation.specs.inside.Engine.{is_known, is_value, said_below}

pub same_bools : (b c : Bool) → (b ≡ true → c ≡ true) → (c ≡ true → b ≡ true) → b ≡ c
same_bools true c there back = sym (there refl)
same_bools false true there back = back refl
same_bools false false there back = refl

-- ---- what a list contains
pub Contains-here : {X : Type 0} (x : X) (xs : List X) → Contains (x ∷ xs) x
Contains-here x xs = (zero, zero-lt-suc (length xs), refl)

pub Contains-there : {X : Type 0} (x y : X) (xs : List X) → Contains xs y → Contains (x ∷ xs) y
Contains-there x y xs h = (suc h.0, suc-le-suc h.1, h.2)

pub Contains-none : {X : Type 0} (x : X) → Contains [] x → ⊥
Contains-none x h = absurd (omega (arith, h.1))

contains_at : {X : Type 0} (x y : X) (xs : List X) (k : ℕ) → k < length (x ∷ xs) → get_or (x ∷ xs) k y ≡ y
    → (x ≡ y) ⊎ Contains xs y
contains_at x y xs zero less e = inl e
contains_at x y xs (suc k) less e = inr (k, le_of_suc-le-suc less, e)

pub Contains-cases : {X : Type 0} (x y : X) (xs : List X) → Contains (x ∷ xs) y → (x ≡ y) ⊎ Contains xs y
Contains-cases x y xs h = contains_at x y xs h.0 h.1 h.2

pub Contains-filter : {X : Type 0} (p : X → Bool) (xs : List X) (x : X) → p x ≡ true → Contains xs x
    → Contains (filter p xs) x
Contains-filter p [] x t h = h
Contains-filter {X} p (y ∷ ys) x t h =
    elim (Contains-cases y x ys h) [
      | inl e ↦
          (let P : List X → Type 0 = λ l. Contains l x in
          let Q : X → Type 0 = λ z. Contains (z ∷ filter p ys) x in
          subst P (sym (cond-true (p y) (y ∷ filter p ys) (filter p ys) (ap p e ∙ t)))
          (subst Q (sym e) (Contains-here x (filter p ys))))
      | inr later ↦
          (let r = Contains-filter p ys x t later in
          cond_both (p y)
          (y ∷ filter p ys) (filter p ys) (λ l. Contains l x) (λ _. Contains-there y x (filter p ys) r) (λ _. r))
    ]

pub Contains_of_filter : {X : Type 0} (p : X → Bool) (xs : List X) (x : X) → Contains (filter p xs) x
    → Contains xs x × (p x ≡ true)
Contains_of_filter p [] x h = absurd (Contains-none x h)
Contains_of_filter {X} p (y ∷ ys) x h =
    let P : List X → Type 0 = λ l. Contains l x in
    elim (cases_Bool (p y)) [
      | inl t ↦
          (let kept : Contains (y ∷ filter p ys) x = subst P (cond-true (p y) (y ∷ filter p ys) (filter p ys) t) h in
          elim (Contains-cases y x (filter p ys) kept) [
            | inl e ↦
                (let Q : X → Type 0 = λ z. Contains (y ∷ ys) z in (subst Q e (Contains-here y ys), ap p (sym e) ∙ t))
            | inr later ↦
                (let r = Contains_of_filter p ys x later in (Contains-there y x ys r.0, r.1))
          ])
      | inr f ↦
          (let kept : Contains (filter p ys) x = subst P (cond-false (p y) (y ∷ filter p ys) (filter p ys) f) h in
          let r = Contains_of_filter p ys x kept in
          (Contains-there y x ys r.0, r.1))
    ]

pub Contains-map : {X Y : Type 0} (f : X → Y) (xs : List X) (x : X) → Contains xs x → Contains (map f xs) (f x)
Contains-map f [] x h = absurd (Contains-none x h)
Contains-map {X} {Y} f (y ∷ ys) x h =
    elim (Contains-cases y x ys h) [
      | inl e ↦
          (let P : X → Type 0 = λ z. Contains (f y ∷ map f ys) (f z) in subst P e (Contains-here (f y) (map f ys)))
      | inr later ↦ Contains-there (f y) (f x) (map f ys) (Contains-map f ys x later)
    ]

pub Contains_of_map : {X Y : Type 0} (f : X → Y) (xs : List X) (y : Y) → Contains (map f xs) y
    → (x : X) × Contains xs x × (f x ≡ y)
Contains_of_map f [] y h = absurd (Contains-none y h)
Contains_of_map f (x ∷ xs) y h =
    elim (Contains-cases (f x) y (map f xs) h) [
      | inl e ↦ (x, Contains-here x xs, e)
      | inr later ↦ (let r = Contains_of_map f xs y later in (r.0, Contains-there x r.0 xs r.1, r.2))
    ]

pub list_any_from : {X : Type 0} (p : X → Bool) (xs : List X) (x : X) → Contains xs x → p x ≡ true
    → list_any p xs ≡ true
list_any_from p [] x h t = absurd (Contains-none x h)
list_any_from p (y ∷ ys) x h t =
    elim (Contains-cases y x ys h) [
      | inl e ↦ or_left (p y) (list_any p ys) (ap p e ∙ t)
      | inr later ↦ or_right (p y) (list_any p ys) (list_any_from p ys x later t)
    ]

pub list_any_has : {X : Type 0} (p : X → Bool) (xs : List X) → list_any p xs ≡ true
    → (x : X) × Contains xs x × (p x ≡ true)
list_any_has p [] t = absurd (false≢true t)
list_any_has p (y ∷ ys) t =
    elim (or_cases (p y) (list_any p ys) t) [
      | inl here ↦ (y, Contains-here y ys, here)
      | inr later ↦ (let r = list_any_has p ys later in (r.0, Contains-there y r.0 ys r.1, r.2))
    ]

-- whether a list of numbers has one
pub has_from : (xs : List ℕ) (x : ℕ) → Contains xs x → list_any (λ y. y == x) xs ≡ true
has_from xs x h = list_any_from (λ y. y == x) xs x h (eq-eqb x x refl)

pub has_of : (xs : List ℕ) (x : ℕ) → list_any (λ y. y == x) xs ≡ true → Contains xs x
has_of xs x t =
    let r = list_any_has (λ y. y == x) xs t in
    let P : ℕ → Type 0 = Contains xs in
    subst P (eqb-true r.0 x r.2) r.1

-- ---- what is put at a place
pub set_cases : {X : Type 0} (xs : List X) (i j : ℕ) (v d : X)
    → ((j ≡ i) × (get_or (set xs i v) j d ≡ v)) ⊎ (get_or (set xs i v) j d ≡ get_or xs j d)
set_cases {X} xs i j v d =
    elim (cases_eq j i) [
      | inl e ↦
          elim (cases_lt i (length xs)) [
            | inl less ↦ inl (e, ap (λ k. get_or (set xs i v) k d) e ∙ get_or-set_same xs i v d less)
            | inr past ↦ inr (ap (λ (l : List X). get_or l j d) (set_past xs i v past))
          ]
      | inr ne ↦ inr (get_or-set_other xs i j v d ne)
    ]

pub known_of : (known : List (Option ℕ)) (key value : ℕ) → is_known known key value ≡ true
    → get_or known key None ≡ Some value
known_of known key value t = value_of (get_or known key None) value t
  where
    value_of : (o : Option ℕ) (value : ℕ) → is_value o value ≡ true → o ≡ Some value
    value_of None value t = absurd (false≢true t)
    value_of (Some x) value t = ap Some (eqb-true x value t)

pub known_from : (known : List (Option ℕ)) (key value : ℕ) → get_or known key None ≡ Some value
    → is_known known key value ≡ true
known_from known key value e = ap (λ o. is_value o value) e ∙ eq-eqb value value refl

-- ---- what is said below a number
pub said_has : {X : Type 0} (f : ℕ → List X) (n i : ℕ) (x : X) → i < n → Contains (f i) x → Contains (said_below f n) x
said_has f zero i x less h = absurd (omega arith)
said_has {X} f (suc n) i x less h =
    elim (cases_eq i n) [
      | inl e ↦
          (let P : ℕ → Type 0 = λ k. Contains (f k) x in
          Contains-append_right (said_below f n) (f n) x (subst P e h))
      | inr ne ↦ Contains-append_left (said_below f n) (f n) x (said_has f n i x (omega (arith, ne)) h)
    ]

pub said_of : {X : Type 0} (f : ℕ → List X) (n : ℕ) (x : X) → Contains (said_below f n) x
    → (i : ℕ) × (i < n) × Contains (f i) x
said_of f zero x h = absurd (Contains-none x h)
said_of f (suc n) x h =
    elim (Contains-append_cases (said_below f n) (f n) x h) [
      | inl early ↦ (let r = said_of f n x early in (r.0, omega (arith, r.1), r.2))
      | inr late ↦ (n, omega arith, late)
    ]

-- ---- places, and tests of all
pub contains_place : {X : Type 0} (xs : List X) (place : ℕ) (x : X) → slice_get xs place ≡ Some x → Contains xs x
contains_place xs place x at = (place, slice_get_within xs place x at, get_or_from_slice_get xs place x x at)

pub place_of : {X : Type 0} (xs : List X) (x : X) → Contains xs x → (place : ℕ) × (slice_get xs place ≡ Some x)
place_of xs x h = (h.0, slice_get-get_or xs h.0 x h.1 ∙ ap Some h.2)

pub list_all_has : {X : Type 0} (p : X → Bool) (xs : List X) (x : X) → list_all p xs ≡ true → Contains xs x → p x ≡ true
list_all_has p [] x t h = absurd (Contains-none x h)
list_all_has p (y ∷ ys) x t h =
    let parts = and_parts (p y) (list_all p ys) t in
    elim (Contains-cases y x ys h) [
      | inl e ↦ ap p (sym e) ∙ parts.0
      | inr later ↦ list_all_has p ys x parts.1 later
    ]

pub list_all_from : {X : Type 0} (p : X → Bool) (xs : List X) → ((x : X) → Contains xs x → p x ≡ true)
    → list_all p xs ≡ true
list_all_from p [] each = refl
list_all_from p (y ∷ ys) each =
    and_from (p y)
    (list_all p ys) (each y (Contains-here y ys)) (list_all_from p ys (λ x h. each x (Contains-there y x ys h)))
