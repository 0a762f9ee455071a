-- Laws of rounds, and of the first conflict, for the crates above: a function that keeps all rules maps what is left,
-- what is forced and the first conflict; and no round after the last one excludes more.
use Rattle.std.specs.Prelude.{◌≡◌, ◌⊎◌, ◌<◌, ◌≤◌, ℕ, zero, suc, ◌+◌, Bool, true, false, cond, not, ◌&&◌}
use Rattle.std.specs.Prelude.{◌||◌, List, [], ◌∷◌, map, length, All, Option, Some, None, option_map, refl}
use Rattle.std.specs.List.{filter, list_any, list_all}
use Rattle.std.specs.Option.{option_or}
use Rattle.std.proofs.Common.{sym, ◌∙◌, ap, inl, inr, le_refl, le_trans, le_of_eq}
use Rattle.std.proofs.Common.{add-suc, suc-add, add-zero, suc-le-suc, add-le-add}
use Rattle.std.proofs.Math.Nat.{le-suc, le-add_left, not-suc-le_self}
use Rattle.std.proofs.lemmas.List.{length-map}
use Rattle.std.proofs.lemmas.List.Elements.{All-head, All-tail, All-filter}
use Rattle.propagation.specs.Rounds.{Rules, is_forced, forced_among, clashes_with_one}
use Rattle.propagation.specs.Rounds.{without_clashes, left_in, remaining, forced}
use Rattle.propagation.specs.Conflicts.{first_some, first_of_two, first_between, clashing, conflict}

-- ---- items mapped
-- A function that keeps all rules, for items of a kind.
pub record Maps {X Y : Type 0} (P : X → Type 0) (from : Rules X) (to : Rules Y) (f : X → Y) : Type 0 where
  pub same_section : (a b : X) → P a → P b → to.same_section (f a) (f b) ≡ from.same_section a b
  pub same : (a b : X) → P a → P b → to.same (f a) (f b) ≡ from.same a b
  pub matches : (a : X) → P a → to.matches (f a) ≡ from.matches a
  pub clashes : (a b : X) → P a → P b → to.clashes (f a) (f b) ≡ from.clashes a b

cond-map : {X Y : Type 0} (f : X → Y) (b : Bool) (x : X) (xs : List X)
    → cond b (f x ∷ map f xs) (map f xs) ≡ map f (cond b (x ∷ xs) xs)
cond-map f true x xs = refl
cond-map f false x xs = refl

filter-map : {X Y : Type 0} (P : X → Type 0) (p : Y → Bool) (q : X → Bool) (f : X → Y) → ((x : X) → P x → p (f x) ≡ q x)
    → (xs : List X) → All P xs → filter p (map f xs) ≡ map f (filter q xs)
filter-map P p q f e [] each = refl
filter-map P p q f e (x ∷ xs) each =
    ap (λ b. cond b (f x ∷ filter p (map f xs)) (filter p (map f xs))) (e x (All-head P x xs each))
    ∙ ap (λ ys. cond (q x) (f x ∷ ys) ys) (filter-map P p q f e xs (All-tail P x xs each))
    ∙ cond-map f (q x) x (filter q xs)

list_all-map : {X Y : Type 0} (P : X → Type 0) (p : Y → Bool) (q : X → Bool) (f : X → Y)
    → ((x : X) → P x → p (f x) ≡ q x) → (xs : List X) → All P xs → list_all p (map f xs) ≡ list_all q xs
list_all-map P p q f e [] each = refl
list_all-map P p q f e (x ∷ xs) each =
    ap (λ b. b && list_all p (map f xs)) (e x (All-head P x xs each))
    ∙ ap (λ b. q x && b) (list_all-map P p q f e xs (All-tail P x xs each))

list_any-map : {X Y : Type 0} (P : X → Type 0) (p : Y → Bool) (q : X → Bool) (f : X → Y)
    → ((x : X) → P x → p (f x) ≡ q x) → (xs : List X) → All P xs → list_any p (map f xs) ≡ list_any q xs
list_any-map P p q f e [] each = refl
list_any-map P p q f e (x ∷ xs) each =
    ap (λ b. b || list_any p (map f xs)) (e x (All-head P x xs each))
    ∙ ap (λ b. q x || b) (list_any-map P p q f e xs (All-tail P x xs each))

-- what is left is among the items
pub left_in_each : {X : Type 0} (P : X → Type 0) (rules : Rules X) (round : ℕ) (all : List X) → All P all
    → All P (left_in rules round all)
unfolding left_in
left_in_each P rules zero all each = All-filter rules.matches P all each
left_in_each P rules (suc round) all each =
    All-filter _ P (left_in rules round all) (left_in_each P rules round all each)

pub remaining_each : {X : Type 0} (P : X → Type 0) (rules : Rules X) (all : List X) → All P all
    → All P (remaining rules all)
unfolding remaining
remaining_each P rules all each = left_in_each P rules (length all) all each

pub forced_each : {X : Type 0} (P : X → Type 0) (rules : Rules X) (all : List X) → All P all → All P (forced rules all)
unfolding forced
forced_each P rules all each = All-filter _ P all each

module _ {X Y : Type 0} (P : X → Type 0) (from : Rules X) (to : Rules Y) (f : X → Y) (maps : Maps P from to f) where
  forced_among-map : (all left : List X) → All P all → All P left
      → forced_among to (map f all) (map f left) ≡ map f (forced_among from all left)
  forced_among-map all left each these =
      filter-map P (is_forced to (map f left)) (is_forced from left) f
      (λ x h.
      list_all-map P _ _ f
      (λ y k. ap (λ b. not b || to.same (f y) (f x)) (maps.same_section y x k h)
      ∙ ap (λ b. not (from.same_section y x) || b) (maps.same y x k h))
      left these)
      all each

  without_clashes-map : (ones left : List X) → All P ones → All P left
      → without_clashes to (map f ones) (map f left) ≡ map f (without_clashes from ones left)
  without_clashes-map ones left each these =
      filter-map P _ _ f (λ x h. ap not
      (list_any-map P (to.clashes (f x)) (from.clashes x) f (λ y k. maps.clashes x y h k) ones each)) left these

  pub left_in_maps : (round : ℕ) (all : List X) → All P all
      → left_in to round (map f all) ≡ map f (left_in from round all)
  unfolding left_in
  left_in_maps zero all each = filter-map P to.matches from.matches f maps.matches all each
  left_in_maps (suc round) all each =
      let left : List X = left_in from round all in
      let these = left_in_each P from round all each in
      ap (λ l. without_clashes to (forced_among to (map f all) l) l) (left_in_maps round all each)
      ∙ ap (λ ones. without_clashes to ones (map f left)) (forced_among-map all left each these)
      ∙ without_clashes-map (forced_among from all left) left (All-filter _ P all each) these

  pub remaining_maps : (all : List X) → All P all → remaining to (map f all) ≡ map f (remaining from all)
  unfolding remaining
  remaining_maps all each =
      ap (λ n. left_in to n (map f all)) (length-map all f) ∙ left_in_maps (length all) all each

  pub forced_maps : (all : List X) → All P all → forced to (map f all) ≡ map f (forced from all)
  unfolding forced
  forced_maps all each =
      ap (λ l. forced_among to (map f all) l) (remaining_maps all each)
      ∙ forced_among-map all (remaining from all) each (remaining_each P from all each)

-- ---- the first conflict mapped
abbrev pub both : {X Y : Type 0} → (X → Y) → X × X → Y × Y
both f pair = (f pair.0, f pair.1)

option_or-map : {X Y : Type 0} (f : X → Y) (a b : Option X)
    → option_or (option_map f a) (option_map f b) ≡ option_map f (option_or a b)
option_or-map f None b = refl
option_or-map f (Some x) b = refl

first_some-map : {X Y V W : Type 0} (P : X → Type 0) (h : V → W) (f : X → Y) (g : X → Option V) (k : Y → Option W)
    → ((x : X) → P x → k (f x) ≡ option_map h (g x)) → (xs : List X) → All P xs
    → first_some k (map f xs) ≡ option_map h (first_some g xs)
unfolding first_some
first_some-map P h f g k e [] each = refl
first_some-map P h f g k e (x ∷ xs) each =
    ap (λ o. option_or o (first_some k (map f xs))) (e x (All-head P x xs each))
    ∙ ap (λ o. option_or (option_map h (g x)) o) (first_some-map P h f g k e xs (All-tail P x xs each))
    ∙ option_or-map h (g x) (first_some g xs)

module _ {X Y : Type 0} (P : X → Type 0) (from : Rules X) (to : Rules Y) (f : X → Y) (maps : Maps P from to f) where
  clashing-cond : (a b : X) (c : Bool) → cond c (Some (f a, f b)) None ≡ option_map (both f) (cond c (Some (a, b)) None)
  clashing-cond a b true = refl
  clashing-cond a b false = refl

  clashing-map : (a b : X) → P a → P b → clashing to (f a) (f b) ≡ option_map (both f) (clashing from a b)
  clashing-map a b h k =
      ap (λ c. cond c (Some (f a, f b)) None) (maps.clashes a b h k) ∙ clashing-cond a b (from.clashes a b)

  of_two-map : (ones others : List X) → All P ones → All P others
      → first_of_two (clashing to) (map f ones) (map f others)
      ≡ option_map (both f) (first_of_two (clashing from) ones others)
  of_two-map ones others each these =
      first_some-map P
      (both f) f (λ x. first_some (clashing from x) others) (λ y. first_some (clashing to y) (map f others))
      (λ x h.
      first_some-map P (both f) f (clashing from x) (clashing to (f x)) (λ y k. clashing-map x y h k) others these)
      ones each

  pub conflict_maps : (sections : List (List X)) → All (All P) sections
      → conflict to (map (map f) sections) ≡ option_map (both f) (conflict from sections)
  unfolding first_between
  conflict_maps [] each = refl
  conflict_maps (ones ∷ rest) each =
      let here = All-head (All P) ones rest each in
      let later = All-tail (All P) ones rest each in
      ap (λ o. option_or o (first_between (clashing to) (map (map f) rest)))
      (first_some-map (All P) (both f) (map f) (first_of_two (clashing from) ones)
      (first_of_two (clashing to) (map f ones)) (λ others these. of_two-map ones others here these) rest later)
      ∙ ap (λ o. option_or (option_map (both f) (first_some (first_of_two (clashing from) ones) rest)) o)
      (conflict_maps rest later)
      ∙ option_or-map
      (both f) (first_some (first_of_two (clashing from) ones) rest) (first_between (clashing from) rest)

-- ---- no later round excludes more
length-cond : {X : Type 0} (b : Bool) (x : X) (xs : List X) → length (cond b (x ∷ xs) xs) ≤ suc (length xs)
length-cond true x xs = le_refl _
length-cond false x xs = le-suc _

length-filter : {X : Type 0} (p : X → Bool) (xs : List X) → length (filter p xs) ≤ length xs
length-filter p [] = le_refl zero
length-filter p (x ∷ xs) = le_trans (length-cond (p x) x (filter p xs)) (suc-le-suc (length-filter p xs))

-- a filter that keeps x of x ∷ xs, or drops it, given what it does with xs
filter-cases_cons : {X : Type 0} (b : Bool) (x : X) (xs kept : List X) → length kept ≤ length xs
    → (kept ≡ xs) ⊎ (length kept < length xs)
    → (cond b (x ∷ kept) kept ≡ x ∷ xs) ⊎ (length (cond b (x ∷ kept) kept) < suc (length xs))
filter-cases_cons true x xs kept le cases =
    elim cases [ inl e ↦ inl (ap (λ l. x ∷ l) e) | inr less ↦ inr (suc-le-suc less) ]
filter-cases_cons false x xs kept le cases = inr (suc-le-suc le)

-- a filter keeps all or leaves fewer
filter-cases : {X : Type 0} (p : X → Bool) (xs : List X) → (filter p xs ≡ xs) ⊎ (length (filter p xs) < length xs)
filter-cases p [] = inl refl
filter-cases p (x ∷ xs) = filter-cases_cons (p x) x xs (filter p xs) (length-filter p xs) (filter-cases p xs)

none_from_length : {X : Type 0} (xs : List X) (n : ℕ) → length xs + n ≤ n → xs ≡ []
none_from_length [] n le = refl
none_from_length (x ∷ xs) n le =
    absurd (not-suc-le_self n
    (le_trans (suc-le-suc (le-add_left n (length xs))) (le_trans (le_of_eq (sym (suc-add (length xs) n))) le)))

-- what is left after one more round
abbrev pub next_round : {X : Type 0} → Rules X → List X → List X → List X
next_round rules all left = without_clashes rules (forced_among rules all left) left

next_cases : {X : Type 0} (rules : Rules X) (all : List X) (n : ℕ) (left : List X)
    → (next_round rules all left ≡ left) ⊎ (length left + n ≤ length all)
    → (next_round rules all (next_round rules all left) ≡ next_round rules all left)
    ⊎ (length (next_round rules all left) + suc n ≤ length all)
next_cases rules all n left cases =
    elim cases [
      | inl e ↦ inl (ap (next_round rules all) e)
      | inr le ↦
          elim (filter-cases (λ x. not (clashes_with_one rules (forced_among rules all left) x)) left) [
            | inl e ↦ inl (ap (next_round rules all) e)
            | inr less ↦
                inr (le_trans (le_of_eq (add-suc _ n ∙ sym (suc-add _ n))) (le_trans (add-le-add less (le_refl n)) le))
          ]
    ]

rounds_cases : {X : Type 0} (rules : Rules X) (all : List X) (n : ℕ)
    → (next_round rules all (left_in rules n all) ≡ left_in rules n all)
    ⊎ (length (left_in rules n all) + n ≤ length all)
unfolding left_in
rounds_cases rules all zero =
    inr (le_trans (le_of_eq (add-zero _)) (length-filter rules.matches all))
rounds_cases rules all (suc n) = next_cases rules all n (left_in rules n all) (rounds_cases rules all n)

-- a round after the last one excludes nothing
pub remaining_stays : {X : Type 0} (rules : Rules X) (all : List X)
    → next_round rules all (remaining rules all) ≡ remaining rules all
unfolding remaining
remaining_stays rules all =
    elim (rounds_cases rules all (length all)) [
      | inl e ↦ e
      | inr le ↦
          (let none = none_from_length (left_in rules (length all) all) (length all) le in
          ap (next_round rules all) none ∙ sym none)
    ]

pub rounds_end : {X : Type 0} (rules : Rules X) (all : List X) (k : ℕ)
    → left_in rules (length all + k) all ≡ remaining rules all
unfolding left_in remaining
rounds_end rules all zero = ap (λ n. left_in rules n all) (add-zero (length all))
rounds_end rules all (suc k) =
    ap (λ n. left_in rules n all) (add-suc (length all) k)
    ∙ ap (next_round rules all) (rounds_end rules all k) ∙ remaining_stays rules all

-- no remaining item clashes with a forced one
pub remaining_is_kept : {X : Type 0} (rules : Rules X) (all : List X)
    → remaining rules all ≡ without_clashes rules (forced rules all) (remaining rules all)
unfolding forced
remaining_is_kept rules all = sym (remaining_stays rules all)
