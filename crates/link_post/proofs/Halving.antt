-- The section of a name among places of sections that stand in the order of an object, found by halving.
use Rattle.std.proofs.Common.{◌≡◌, ℕ, suc, zero, ◌≤◌, ◌<◌, Bool, true, false, List, [], ◌∷◌, map}
use Rattle.std.proofs.Common.{length, get_or, Some, None, refl, sym, ap, subst, ◌∙◌, arith, ◌⊎◌, inl, inr}
use Rattle.std.specs.Prelude.{option_map}
use Rattle.std.specs.List.{find}
use Rattle.std.specs.List.Sorted.{IsPartitionedBy}
use Rattle.std.specs.Cmp.Lexicographic.{bytes_decides}
use Rattle.std.proofs.lemmas.Bool.{lt-ltb, ltb-true, cases_Bool}
use Rattle.std.proofs.lemmas.Bool.Decides.{nat_tests}
use Rattle.std.proofs.lemmas.Option.{slice_get_within}
use Rattle.i386_reloc.specs.declared.types.NormalSection.{NormalSection}
use Rattle.i386_reloc.specs.Normal.{same_bytes}
use Rattle.i386_reloc.specs.Places.{place_named}
use Rattle.i386_reloc.specs.laws.NamedPlaces.{section_at_place}
use Rattle.link_post.specs.declared.types.Placed.{Placed}
use Rattle.link_post.specs.Places.{base_in}
use Rattle.link_post.specs.Linked.{place_in, section_of, Rise, AreInOrder}
use Rattle.link_post.specs.inside.Lookups.{is_before}

pub place_within : (post : List NormalSection) (name : List ℕ) (i : ℕ) → place_named post name ≡ Some i
    → i < length post
place_within post name i at = let (s, there, same) = section_at_place post name i at in slice_get_within post i s there

each_from : (post : List NormalSection) (floor : ℕ) (xs : List Placed) (j : ℕ) (d : Placed)
    → Rise floor (map (place_in post) (map section_of xs)) → j < length xs
    → floor ≤ place_in post (get_or xs j d).section
each_from post floor [] j d up within = absurd (omega arith)
each_from post floor (x ∷ xs) zero d up within = up.0
each_from post floor (x ∷ xs) (suc j) d up within =
    let first = up.0 in
    let rest = each_from post (suc (place_in post x.section)) xs j d up.1 (omega arith) in omega arith

later : (post : List NormalSection) (floor : ℕ) (xs : List Placed) (i j : ℕ) (d : Placed)
    → Rise floor (map (place_in post) (map section_of xs)) → i < j → j < length xs
    → place_in post (get_or xs i d).section < place_in post (get_or xs j d).section
later post floor [] i j d up less within = absurd (omega arith)
later post floor (x ∷ xs) zero zero d up less within = absurd (omega arith)
later post floor (x ∷ xs) zero (suc j) d up less within =
    each_from post (suc (place_in post x.section)) xs j d up.1 (omega arith)
later post floor (x ∷ xs) (suc i) zero d up less within = absurd (omega arith)
later post floor (x ∷ xs) (suc i) (suc j) d up less within =
    later post (suc (place_in post x.section)) xs i j d up.1 (omega arith) (omega arith)

same_or_less : (i j : ℕ) → i ≤ j → (i ≡ j) ⊎ (i < j)
same_or_less i j le = grind arith

pub parted : (post : List NormalSection) (xs : List Placed) (place : ℕ) → AreInOrder post xs
    → IsPartitionedBy (is_before post place) xs
parted post xs place up i j d le within before =
    elim (same_or_less i j le) [
      | inl same ↦ rw same before
      | inr less ↦
          let rise = later post 0 xs i j d up less within in
          let b = ltb-true (place_in post (get_or xs j d).section) place before in
          lt-ltb (place_in post (get_or xs i d).section) place (omega arith)
    ]

same_place : (post : List NormalSection) (a name : List ℕ) → same_bytes a name ≡ true
    → place_in post a ≡ place_in post name
same_place post a name same = ap (place_in post) ((bytes_decides a name).0 same)

pub other_below : (post : List NormalSection) (a name : List ℕ) → place_in post a < place_in post name
    → same_bytes a name ≡ false
other_below post a name less =
    elim (cases_Bool (same_bytes a name)) [
      | inl same ↦ let e = same_place post a name same in absurd (omega arith)
      | inr other ↦ other
    ]

pub other_above : (post : List NormalSection) (a name : List ℕ) → place_in post name < place_in post a
    → same_bytes a name ≡ false
other_above post a name less =
    elim (cases_Bool (same_bytes a name)) [
      | inl same ↦ let e = same_place post a name same in absurd (omega arith)
      | inr other ↦ other
    ]

abbrev has_name : List ℕ → Placed → Bool
has_name name one = same_bytes one.section name

find_at : (name : List ℕ) (xs : List Placed) (i : ℕ) (d : Placed) → i < length xs → has_name name (get_or xs i d) ≡ true
    → ((k : ℕ) → k < i → has_name name (get_or xs k d) ≡ false)
    → find (has_name name) xs ≡ Some (get_or xs i d)
find_at name [] i d within here before = absurd (omega arith)
find_at name (x ∷ xs) zero d within here before = rw here refl
find_at name (x ∷ xs) (suc i) d within here before =
    let first : has_name name x ≡ false = before 0 (omega arith) in
    rw first (find_at name xs i d (omega arith) here (λ k less. before (suc k) (omega arith)))

find_none : (name : List ℕ) (xs : List Placed) (d : Placed)
    → ((k : ℕ) → k < length xs → has_name name (get_or xs k d) ≡ false) → find (has_name name) xs ≡ None
find_none name [] d none = refl
find_none name (x ∷ xs) d none =
    let first : has_name name x ≡ false = none 0 (omega arith) in
    rw first (find_none name xs d (λ k less. none (suc k) (omega arith)))

-- what stands before the place that halving finds, and what stands after the section there
module _ (post : List NormalSection) (name : List ℕ) (xs : List Placed) (i : ℕ)
    (below : (k : ℕ) (d : Placed) → 0 ≤ k → k < i → is_before post (place_in post name) (get_or xs k d) ≡ true)
    (above : (k : ℕ) (d : Placed) → i ≤ k → k < length xs
    → is_before post (place_in post name) (get_or xs k d) ≡ false) where
  before : (k : ℕ) (d : Placed) → k < i → has_name name (get_or xs k d) ≡ false
  before k d less =
      let b = ltb-true (place_in post (get_or xs k d).section) (place_in post name) (below k d (omega arith) less) in
      other_below post (get_or xs k d).section name b

  pub base_at_end : length xs ≤ i → base_in xs name ≡ None
  base_at_end end = ap (option_map (λ (one : Placed). one.base))
      (find_none name xs (record { section = []; base = 0 })
      (λ k less. before k (record { section = []; base = 0 }) (omega arith)))

  pub base_there : (x : Placed) → i < length xs → x ≡ get_or xs i x → same_bytes x.section name ≡ true
      → base_in xs name ≡ Some x.base
  base_there x within is same =
      ap (option_map (λ (one : Placed). one.base))
      (find_at name xs i x within (ap (has_name name) (sym is) ∙ same) (λ k less. before k x less))
      ∙ ap (λ (one : Placed). Some one.base) (sym is)

  pub base_nowhere : (x : Placed) → AreInOrder post xs → i < length xs → x ≡ get_or xs i x
      → same_bytes x.section name ≡ false → base_in xs name ≡ None
  base_nowhere x up within is other =
      ap (option_map (λ (one : Placed). one.base)) (find_none name xs x (λ k less. elim (three k i) [
        | inl lower ↦ before k x lower
        | inr rest ↦ elim rest [
          | inl same ↦ rw same (ap (has_name name) (sym is) ∙ other)
          | inr higher ↦
              let rise = later post 0 xs i k x up higher less in
              let not_before = above i x (omega arith) within in
              let at : place_in post name ≤ place_in post (get_or xs i x).section = grind (arith, nat_tests) in
              other_above post (get_or xs k x).section name (omega arith)
        ]
      ]))
    where
      three : (a b : ℕ) → (a < b) ⊎ ((a ≡ b) ⊎ (b < a))
      three a b = grind arith

-- A placed section of the name is the only one.
at_index : (post : List NormalSection) (name : List ℕ) (xs : List Placed) (i : ℕ) (d : Placed) → AreInOrder post xs
    → i < length xs → has_name name (get_or xs i d) ≡ true → find (has_name name) xs ≡ Some (get_or xs i d)
at_index post name xs i d up within here =
    find_at name xs i d within here
    (λ k less.
    other_below post (get_or xs k d).section name
    (subst (λ n. place_in post (get_or xs k d).section < n) (same_place post (get_or xs i d).section name here)
    (later post 0 xs k i d up less within)))

pub base_at_index : (post : List NormalSection) (name : List ℕ) (xs : List Placed) (i : ℕ) (one : Placed)
    → AreInOrder post xs → i < length xs → one ≡ get_or xs i one → same_bytes one.section name ≡ true
    → base_in xs name ≡ Some one.base
base_at_index post name xs i one up within is here =
    ap (option_map (λ (x : Placed). x.base))
    (at_index post name xs i one up within (ap (has_name name) (sym is) ∙ here) ∙ ap Some (sym is))
