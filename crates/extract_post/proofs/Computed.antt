-- The function `extracted` gives the one answer of the relation `Extracts`.
use Rattle.std.proofs.Common.{◌≡◌, ◌⊎◌, inl, inr, ℕ, Bool, true, false, not, ◌&&◌, ◌||◌, List, [], ◌∷◌}
use Rattle.std.proofs.Common.{◌++◌, find, Option, Some, None, Result, Decides, refl, sym, ap, subst, ◌∙◌}
use Rattle.std.specs.List.{list_any}
use Rattle.std.specs.Cmp.Lexicographic.{bytes_decides}
use Rattle.std.proofs.lemmas.Bool.{cases_Bool, and_parts, and_from, or_cases, or_left, or_right}
use Rattle.std.proofs.lemmas.Option.{same_Some}
use Rattle.std.proofs.lemmas.List.Folds.{list_any-append}
use Rattle.std.proofs.lemmas.List.Elements.{All-nil, All-cons}
use Rattle.ks_base.specs.declared.refusals.Refusal.{Refusal}
use Rattle.i386_reloc.specs.declared.types.Class.{Class}
use Rattle.i386_reloc.specs.declared.types.Ref.{Ref}
use Rattle.i386_reloc.specs.declared.types.NormalSection.{NormalSection}
use Rattle.i386_reloc.specs.Classes.{is_code_class}
use Rattle.i386_reloc.specs.Normal.{same_bytes, section_named}
use Rattle.i386_reloc.specs.Reaches.{is_constant_class, is_read_only_class, is_data_class, is_in}
use Rattle.i386_reloc.specs.Reaches.{some_reference, goes_to, is_interior, refers_on, Reaches}
use Rattle.i386_reloc.specs.Reaches.Reaches.{Refers, Further}
use Rattle.section_equal.specs.Same.{same_in}
use Rattle.extract_post.specs.declared.types.Extract.{Extract}
use Rattle.extract_post.specs.Members.{is_there, is_changed_read_only, is_in_both, is_new_data}
use Rattle.extract_post.specs.Members.{points_into, PointsInto, ReachesChanged, Differs, Tied}
use Rattle.extract_post.specs.Members.{Member, IsChanged, IsAdded, IsDropped, IsCarried}
use Rattle.extract_post.specs.Members.PointsInto.{Itself as PointsItself, Through as PointsThrough}
use Rattle.extract_post.specs.Members.ReachesChanged.{InPre as ReachesInPre, InPost as ReachesInPost}
use Rattle.extract_post.specs.Members.Differs.{Itself as DiffersItself, Through as DiffersThrough}
use Rattle.extract_post.specs.Members.Tied.{InPre, InPost, Back}
use Rattle.extract_post.specs.Members.Member.{Differing, OnlyInPost, Joined}
use Rattle.extract_post.specs.Extract.{Picks, IsFirst, NoneIs, other_class, DataDiffers}
use Rattle.extract_post.specs.Extract.{IsDataOf, IsBroken, places, IsExtract, Extracts}
use Rattle.extract_post.specs.Extract.Picks.{Ends, Takes, Leaves}
use Rattle.extract_post.specs.Extract.IsFirst.{Here, Later}
use Rattle.extract_post.specs.Extract.DataDiffers.{OtherClass, Itself as DataItself, Through as DataThrough}
use Rattle.extract_post.specs.Extract.IsDataOf.{Itself as OfItself, Reached as OfReached}
use Rattle.extract_post.specs.Extract.IsBroken.{OldData, NewData}
use Rattle.extract_post.specs.Extract.Extracts.{OtherData, Broken, NoMember, Extracted}
use Rattle.extract_post.specs.Extracted.{leads, names_of, reaches, reaches_changed_in, reaches_changed}
use Rattle.extract_post.specs.Extracted.{is_first_member, points_on, ties_in, is_tied, is_member, is_changed}
use Rattle.extract_post.specs.Extracted.{is_added, is_dropped, is_carried, data_differs, is_data_of, is_broken}
use Rattle.extract_post.specs.Extracted.{picked, lists_of, extracted_with, extracted_by, extracted}
use Rattle.extract_post.proofs.OneAnswer.{one_result}

-- ---- tests that decide facts

through : {P Q : Type 0} (b : Bool) → (P → Q) → (Q → P) → Decides b P → Decides b Q
through b there back decides = (λ is. there (decides.0 is), λ q. decides.1 (back q))

of_test : (b : Bool) → Decides b (b ≡ true)
of_test b = (λ is. is, λ is. is)

both : {P Q : Type 0} (a b : Bool) → Decides a P → Decides b Q → Decides (a && b) (P × Q)
both a b p q = (
  λ is. let parts = and_parts a b is in
      (p.0 parts.0, q.0 parts.1),
  λ (x : _ × _). and_from a b (p.1 x.0) (q.1 x.1),
)

either : {P Q : Type 0} (a b : Bool) → Decides a P → Decides b Q → Decides (a || b) (P ⊎ Q)
either {P} {Q} a b p q = (
  λ is. elim (or_cases a b is) [ inl x ↦ inl (p.0 x) | inr y ↦ inr (q.0 y) ],
  λ (h : P ⊎ Q). elim h [ inl x ↦ or_left a b (p.1 x) | inr y ↦ or_right a b (q.1 y) ],
)

isnt : {P : Type 0} (a : Bool) → Decides a P → Decides (not a) (P → ⊥)
isnt {P} true p = (λ is. absurd cc, λ (none : P → ⊥). absurd (none (p.0 refl)))
isnt {P} false p = (λ is x. let e : false ≡ true = p.1 x in absurd cc, λ (none : P → ⊥). refl)

-- a name is one of some
abbrev IsAmong : List (List ℕ) → List ℕ → Type 0
IsAmong names name = list_any (λ other. same_bytes other name) names ≡ true

among_passes : (test : List ℕ → Bool) (names : List (List ℕ)) (name : List ℕ) → IsAmong names name →
    test name ≡ true → list_any test names ≡ true
among_passes test [] name among passes = absurd cc
among_passes test (x ∷ xs) name among passes =
    elim (or_cases (same_bytes x name) (list_any (λ other. same_bytes other name) xs) among) [
      | inl here ↦ or_left (test x) (list_any test xs) (ap test ((bytes_decides x name).0 here) ∙ passes)
      | inr later ↦ or_right (test x) (list_any test xs) (among_passes test xs name later passes)
    ]

any_passes : (test : List ℕ → Bool) (names : List (List ℕ)) → list_any test names ≡ true →
    (name : List ℕ) × (test name ≡ true)
any_passes test [] some = absurd cc
any_passes test (x ∷ xs) some =
    elim (or_cases (test x) (list_any test xs) some) [ inl here ↦ (x, here) | inr later ↦ any_passes test xs later ]

some_of : {P : List ℕ → Type 0} (test : List ℕ → Bool) (names : List (List ℕ)) →
    ((name : List ℕ) → Decides (test name) (P name)) → ((name : List ℕ) → P name → IsAmong names name) →
    Decides (list_any test names) ((name : List ℕ) × P name)
some_of {P} test names decides among = (
  λ some. let (name, passes) = any_passes test names some in (name, (decides name).0 passes),
  λ (x : (name : List ℕ) × P name). among_passes test names x.0 (among x.0 x.1) ((decides x.0).1 x.1),
)

-- a name that a list of sections has
pub in_names : (wanted : Class → Bool) (sections : List NormalSection) (name : List ℕ) →
    is_in wanted sections name ≡ true → IsAmong (names_of sections) name
in_names wanted [] name is = absurd cc
in_names wanted (s ∷ rest) name is =
    elim (cases_Bool (same_bytes s.name name)) [
      | inl same ↦ or_left (same_bytes s.name name) (list_any (λ other. same_bytes other name) (names_of rest)) same
      | inr apart ↦
          let later : is_in wanted rest name ≡ true = rw apart at is in
          or_right (same_bytes s.name name) (list_any (λ other. same_bytes other name) (names_of rest))
          (in_names wanted rest name later)
    ]

among_left : (xs ys : List (List ℕ)) (name : List ℕ) → IsAmong xs name → IsAmong (xs ++ ys) name
among_left xs ys name is =
    list_any-append (λ other. same_bytes other name) xs ys
    ∙ or_left (list_any (λ other. same_bytes other name) xs) (list_any (λ other. same_bytes other name) ys) is

among_right : (xs ys : List (List ℕ)) (name : List ℕ) → IsAmong ys name → IsAmong (xs ++ ys) name
among_right xs ys name is =
    list_any-append (λ other. same_bytes other name) xs ys
    ∙ or_right (list_any (λ other. same_bytes other name) xs) (list_any (λ other. same_bytes other name) ys) is

-- ---- steps, one after another

leads_step : (step : List ℕ → List ℕ → Bool) (names : List (List ℕ)) (a b : List ℕ) → step a b ≡ true →
    leads step names a b ≡ true
leads_step step [] a b is = is
leads_step step (x ∷ xs) a b is =
    or_left (leads step xs a b) (leads step xs a x && leads step xs x b) (leads_step step xs a b is)

around : (step : List ℕ → List ℕ → Bool) (xs : List (List ℕ)) (x a b : List ℕ) → leads step xs a x ≡ true →
    leads step xs x b ≡ true → leads step (x ∷ xs) a b ≡ true
around step xs x a b to from =
    or_right (leads step xs a b) (leads step xs a x && leads step xs x b)
    (and_from (leads step xs a x) (leads step xs x b) to from)

-- what leads to or from the first name does so by the others alone
to_first : (step : List ℕ → List ℕ → Bool) (xs : List (List ℕ)) (x a : List ℕ) → leads step (x ∷ xs) a x ≡ true →
    leads step xs a x ≡ true
to_first step xs x a is =
    elim (or_cases (leads step xs a x) (leads step xs a x && leads step xs x x) is) [
      | inl by ↦ by
      | inr more ↦ (and_parts (leads step xs a x) (leads step xs x x) more).0
    ]

from_first : (step : List ℕ → List ℕ → Bool) (xs : List (List ℕ)) (x b : List ℕ) → leads step (x ∷ xs) x b ≡ true →
    leads step xs x b ≡ true
from_first step xs x b is =
    elim (or_cases (leads step xs x b) (leads step xs x x && leads step xs x b) is) [
      | inl by ↦ by
      | inr more ↦ (and_parts (leads step xs x x) (leads step xs x b) more).1
    ]

leads_through : (step : List ℕ → List ℕ → Bool) (names : List (List ℕ)) (a m b : List ℕ) → IsAmong names m →
    leads step names a m ≡ true → leads step names m b ≡ true → leads step names a b ≡ true
leads_through step [] a m b among to from = absurd cc
leads_through step (x ∷ xs) a m b among to from =
    elim (or_cases (same_bytes x m) (list_any (λ other. same_bytes other m) xs) among) [
      | inl here ↦
          let same : m ≡ x = sym ((bytes_decides x m).0 here) in
          let to_x : leads step (x ∷ xs) a x ≡ true = ap (leads step (x ∷ xs) a) (sym same) ∙ to in
          let from_x : leads step (x ∷ xs) x b ≡ true = ap (λ n. leads step (x ∷ xs) n b) (sym same) ∙ from in
          around step xs x a b (to_first step xs x a to_x) (from_first step xs x b from_x)
      | inr later ↦
          elim (or_cases (leads step xs a m) (leads step xs a x && leads step xs x m) to) [
            | inl to_m ↦
                elim (or_cases (leads step xs m b) (leads step xs m x && leads step xs x b) from) [
                  | inl from_m ↦ or_left (leads step xs a b) (leads step xs a x && leads step xs x b)
                      (leads_through step xs a m b later to_m from_m)
                  | inr by_x ↦
                      let parts = and_parts (leads step xs m x) (leads step xs x b) by_x in
                      around step xs x a b (leads_through step xs a m x later to_m parts.0) parts.1
                ]
            | inr by_x ↦
                let parts = and_parts (leads step xs a x) (leads step xs x m) by_x in
                elim (or_cases (leads step xs m b) (leads step xs m x && leads step xs x b) from) [
                  | inl from_m ↦ around step xs x a b parts.0 (leads_through step xs x m b later parts.1 from_m)
                  | inr again ↦ around step xs x a b parts.0 (and_parts (leads step xs m x) (leads step xs x b) again).1
                ]
          ]
    ]

leads_sound : (step : List ℕ → List ℕ → Bool) (R : List ℕ → List ℕ → Type 0) →
    ((a b : List ℕ) → step a b ≡ true → R a b) → ((a m b : List ℕ) → R a m → R m b → R a b) →
    (names : List (List ℕ)) (a b : List ℕ) → leads step names a b ≡ true → R a b
leads_sound step R one more [] a b is = one a b is
leads_sound step R one more (x ∷ xs) a b is =
    elim (or_cases (leads step xs a b) (leads step xs a x && leads step xs x b) is) [
      | inl by ↦ leads_sound step R one more xs a b by
      | inr parts ↦
          let (to, from) = and_parts (leads step xs a x) (leads step xs x b) parts in
          more a x b (leads_sound step R one more xs a x to) (leads_sound step R one more xs x b from)
    ]

-- ---- reaching

reaches_on : (sections : List NormalSection) (a m b : List ℕ) → Reaches sections a m → Reaches sections m b →
    Reaches sections a b
reaches_on sections a m b to (Refers x y refers) = Further a x y to refers
reaches_on sections a m b to (Further x n y from refers) = Further a n y (reaches_on sections a x n to from) refers

refers_names : (sections : List NormalSection) (name other : List ℕ) → refers_on sections name other ≡ true →
    IsAmong (names_of sections) other
refers_names sections name other refers =
    in_names is_constant_class sections other
    (and_parts (is_in is_constant_class sections other)
    (some_reference (goes_to other) (section_named sections name)) refers).0

reaches_names : (sections : List NormalSection) (name other : List ℕ) → Reaches sections name other →
    IsAmong (names_of sections) other
reaches_names sections name other (Refers x y refers) = refers_names sections x y refers
reaches_names sections name other (Further x m y to refers) = refers_names sections m y refers

reaches_back : (sections : List NormalSection) (a b : List ℕ) → Reaches sections a b → reaches sections a b ≡ true
reaches_back sections a b (Refers x y refers) = leads_step (refers_on sections) (names_of sections) x y refers
reaches_back sections a b (Further x m y to refers) =
    leads_through (refers_on sections) (names_of sections) x m y (reaches_names sections x m to)
    (reaches_back sections x m to)
    (leads_step (refers_on sections) (names_of sections) m y refers)

reaches_is : (sections : List NormalSection) (a b : List ℕ) → Decides (reaches sections a b) (Reaches sections a b)
reaches_is sections a b = (
  leads_sound (refers_on sections) (Reaches sections) (λ x y refers. Refers x y refers)
      (λ x m y to from. reaches_on sections x m y to from) (names_of sections) a b,
  reaches_back sections a b,
)

changed_in_is : (of pre post : List NormalSection) (name : List ℕ) →
    Decides (reaches_changed_in of pre post name) ((other : List ℕ)
    × (Reaches of name other × (is_changed_read_only of pre post other ≡ true)))
changed_in_is of pre post name =
    some_of {P = λ other. Reaches of name other × (is_changed_read_only of pre post other ≡ true)}
    (λ other. reaches of name other && is_changed_read_only of pre post other) (names_of of)
    (λ other. both (reaches of name other) (is_changed_read_only of pre post other) (reaches_is of name other)
    (of_test (is_changed_read_only of pre post other)))
    (λ other x. reaches_names of name other x.0)

reaches_changed_is : (pre post : List NormalSection) (name : List ℕ) →
    Decides (reaches_changed pre post name) (ReachesChanged pre post name)
reaches_changed_is pre post name =
    through (reaches_changed pre post name) there back
    (either (reaches_changed_in pre pre post name) (reaches_changed_in post pre post name)
    (changed_in_is pre pre post name) (changed_in_is post pre post name)) where
      At : List NormalSection → Type 0
      At of = (other : List ℕ) × (Reaches of name other × (is_changed_read_only of pre post other ≡ true))

      there : At pre ⊎ At post → ReachesChanged pre post name
      there (inl x) = ReachesInPre x.0 x.1.0 x.1.1
      there (inr x) = ReachesInPost x.0 x.1.0 x.1.1

      back : ReachesChanged pre post name → At pre ⊎ At post
      back (ReachesInPre other to is) = inl (other, (to, is))
      back (ReachesInPost other to is) = inr (other, (to, is))

-- ---- members

abbrev IsFirstMember : List NormalSection → List NormalSection → List ℕ → Type 0
IsFirstMember pre post name = Differs pre post name
    ⊎ ((is_in is_code_class post name && not (is_there pre name)) ≡ true)

differs_is : (pre post : List NormalSection) (name : List ℕ) →
    Decides (is_in_both is_code_class pre post name && (not (same_in pre post name) || reaches_changed pre post name))
    (Differs pre post name)
differs_is pre post name =
    through (is_in_both is_code_class pre post name && (not (same_in pre post name) || reaches_changed pre post name))
    there back
    (both (is_in_both is_code_class pre post name) (not (same_in pre post name) || reaches_changed pre post name)
    (of_test (is_in_both is_code_class pre post name))
    (either (not (same_in pre post name)) (reaches_changed pre post name) (of_test (not (same_in pre post name)))
    (reaches_changed_is pre post name))) where
      At : Type 0
      At = (is_in_both is_code_class pre post name ≡ true)
          × ((not (same_in pre post name) ≡ true) ⊎ ReachesChanged pre post name)

      there : At → Differs pre post name
      there (in_both, inl other) = DiffersItself name in_both other
      there (in_both, inr to) = DiffersThrough name in_both to

      back : Differs pre post name → At
      back (DiffersItself n in_both other) = (in_both, inl other)
      back (DiffersThrough n in_both to) = (in_both, inr to)

first_member_is : (pre post : List NormalSection) (name : List ℕ) →
    Decides (is_first_member pre post name) (IsFirstMember pre post name)
first_member_is pre post name =
    either (is_in_both is_code_class pre post name && (not (same_in pre post name) || reaches_changed pre post name))
    (is_in is_code_class post name && not (is_there pre name)) (differs_is pre post name)
    (of_test (is_in is_code_class post name && not (is_there pre name)))

first_member_names : (pre post : List NormalSection) (name : List ℕ) → IsFirstMember pre post name →
    IsAmong (names_of post) name
first_member_names pre post name (inl (DiffersItself n in_both other)) =
    in_names is_code_class post n (and_parts (is_in is_code_class pre n) (is_in is_code_class post n) in_both).1
first_member_names pre post name (inl (DiffersThrough n in_both to)) =
    in_names is_code_class post n (and_parts (is_in is_code_class pre n) (is_in is_code_class post n) in_both).1
first_member_names pre post name (inr alone) = in_names is_code_class post name
    (and_parts (is_in is_code_class post name) (not (is_there pre name)) alone).0

points_on_is : (sections : List NormalSection) (a b : List ℕ) →
    Decides (points_on sections a b) (PointsInto sections a b)
points_on_is sections a b =
    through (points_on sections a b) there back
    (either (points_into sections a b) (list_any test (names_of sections)) (of_test (points_into sections a b))
    (some_of {P = At} test (names_of sections)
    (λ m. both (reaches sections a m && is_in is_read_only_class sections m) (points_into sections m b)
    (both (reaches sections a m) (is_in is_read_only_class sections m) (reaches_is sections a m)
    (of_test (is_in is_read_only_class sections m)))
    (of_test (points_into sections m b)))
    (λ m x. reaches_names sections a m x.0.0))) where
      test : List ℕ → Bool
      test m = (reaches sections a m && is_in is_read_only_class sections m) && points_into sections m b

      At : List ℕ → Type 0
      At m = (Reaches sections a m × (is_in is_read_only_class sections m ≡ true)) × (points_into sections m b ≡ true)

      there : (points_into sections a b ≡ true) ⊎ ((m : List ℕ) × At m) → PointsInto sections a b
      there (inl itself) = PointsItself a b itself
      there (inr x) = PointsThrough a x.0 b x.1.0.0 x.1.0.1 x.1.1

      back : PointsInto sections a b → (points_into sections a b ≡ true) ⊎ ((m : List ℕ) × At m)
      back (PointsItself x y itself) = inl itself
      back (PointsThrough x m y to is itself) = inr (m, ((to, is), itself))

points_names : (sections : List NormalSection) (a b : List ℕ) → PointsInto sections a b → IsAmong (names_of sections) b
points_names sections a b (PointsItself x y it) = in_names is_code_class sections y
    (and_parts (is_in is_code_class sections y)
    (some_reference (λ r. goes_to y r && is_interior r) (section_named sections x)) it).0
points_names sections a b (PointsThrough x m y to is it) =
    in_names is_code_class sections y
    (and_parts (is_in is_code_class sections y)
    (some_reference (λ r. goes_to y r && is_interior r) (section_named sections m)) it).0

abbrev TiesIn : List NormalSection → List ℕ → List ℕ → Type 0
TiesIn sections a b = (is_in is_code_class sections a ≡ true) × PointsInto sections a b

ties_in_is : (sections : List NormalSection) (a b : List ℕ) → Decides (ties_in sections a b) (TiesIn sections a b)
ties_in_is sections a b =
    both (is_in is_code_class sections a) (points_on sections a b) (of_test (is_in is_code_class sections a))
    (points_on_is sections a b)

abbrev TiedAt : List NormalSection → List NormalSection → List ℕ → List ℕ → Type 0
TiedAt pre post a b = (TiesIn pre a b ⊎ TiesIn post a b) ⊎ (TiesIn pre b a ⊎ TiesIn post b a)

tied_is : (pre post : List NormalSection) (a b : List ℕ) → Decides (is_tied pre post a b) (Tied pre post a b)
tied_is pre post a b =
    through (is_tied pre post a b) (there a b) (back a b)
    (either (ties_in pre a b || ties_in post a b) (ties_in pre b a || ties_in post b a)
    (either (ties_in pre a b) (ties_in post a b) (ties_in_is pre a b) (ties_in_is post a b))
    (either (ties_in pre b a) (ties_in post b a) (ties_in_is pre b a) (ties_in_is post b a))) where
      there : (a b : List ℕ) → TiedAt pre post a b → Tied pre post a b
      there a b (inl (inl x)) = InPre a b x.0 x.1
      there a b (inl (inr x)) = InPost a b x.0 x.1
      there a b (inr (inl x)) = Back b a (InPre b a x.0 x.1)
      there a b (inr (inr x)) = Back b a (InPost b a x.0 x.1)

      turned : (a b : List ℕ) → TiedAt pre post a b → TiedAt pre post b a
      turned a b (inl x) = inr x
      turned a b (inr x) = inl x

      back : (a b : List ℕ) → Tied pre post a b → TiedAt pre post a b
      back a b (InPre x y is points) = inl (inl (is, points))
      back a b (InPost x y is points) = inl (inr (is, points))
      back a b (Back x y tied) = turned x y (back x y tied)

-- both ends of a tie are names of sections
record HasEnds (pre post : List NormalSection) (a b : List ℕ) : Type 0 where
  one : IsAmong (names_of pre ++ names_of post) a
  other : IsAmong (names_of pre ++ names_of post) b

tied_names : (pre post : List NormalSection) (a b : List ℕ) → Tied pre post a b → HasEnds pre post a b
tied_names pre post a b (InPre x y is points) =
    record {
      one = among_left (names_of pre) (names_of post) x (in_names is_code_class pre x is);
      other =
          among_left (names_of pre) (names_of post) y (points_names pre x y points);
    }
tied_names pre post a b (InPost x y is points) =
    record {
      one = among_right (names_of pre) (names_of post) x (in_names is_code_class post x is);
      other =
          among_right (names_of pre) (names_of post) y (points_names post x y points);
    }
tied_names pre post a b (Back x y tied) = let ends = tied_names pre post x y tied in
    record { one = ends.other; other = ends.one }

-- a chain of ties from a member leads to members
abbrev Carries : List NormalSection → List NormalSection → List ℕ → List ℕ → Type 0
Carries pre post a b = Member pre post a → Member pre post b

first_is_member : (pre post : List NormalSection) (name : List ℕ) → IsFirstMember pre post name → Member pre post name
first_is_member pre post name (inl it) = Differing name it
first_is_member pre post name (inr it) = OnlyInPost name it

abbrev chain : List NormalSection → List NormalSection → List ℕ → List ℕ → Bool
chain pre post from name = leads (is_tied pre post) (names_of pre ++ names_of post) from name

abbrev JoinedFrom : List NormalSection → List NormalSection → List ℕ → List ℕ → Type 0
JoinedFrom pre post name from = IsFirstMember pre post from × (chain pre post from name ≡ true)

abbrev MemberAt : List NormalSection → List NormalSection → List ℕ → Type 0
MemberAt pre post name = IsFirstMember pre post name ⊎ ((from : List ℕ) × JoinedFrom pre post name from)

member_there : (pre post : List NormalSection) (name : List ℕ) → MemberAt pre post name → Member pre post name
member_there pre post name (inl first) = first_is_member pre post name first
member_there pre post name (inr x) =
    leads_sound (is_tied pre post) (Carries pre post) (λ a b is member. Joined a b member ((tied_is pre post a b).0 is))
    (λ a m b to from member. from (to member)) (names_of pre ++ names_of post) x.0 name x.1.1
    (first_is_member pre post x.0 x.1.0)

member_back : (pre post : List NormalSection) (name : List ℕ) → Member pre post name → MemberAt pre post name
member_back pre post name (Differing n it) = inl (inl it)
member_back pre post name (OnlyInPost n it) = inl (inr it)
member_back pre post name (Joined n other member tied) =
    let step : is_tied pre post n other ≡ true = (tied_is pre post n other).1 tied in
    let one : chain pre post n other ≡ true = leads_step (is_tied pre post)
    (names_of pre ++ names_of post) n other step in
    elim (member_back pre post n member) [
      | inl first ↦ inr (n, (first, one))
      | inr x ↦ inr (
        x.0,
        (
          x.1.0,
          leads_through (is_tied pre post) (names_of pre ++ names_of post) x.0 n other
              (tied_names pre post n other tied).one x.1.1 one,
        ),
      )
    ]

pub member_is : (pre post : List NormalSection) (name : List ℕ) → Decides (is_member pre post name) (Member pre post name)
member_is pre post name =
    through (is_member pre post name) (member_there pre post name) (member_back pre post name)
    (either (is_first_member pre post name) (list_any test (names_of post)) (first_member_is pre post name)
    (some_of {P = JoinedFrom pre post name} test (names_of post)
    (λ from. both (is_first_member pre post from) (chain pre post from name) (first_member_is pre post from)
    (of_test (chain pre post from name)))
    (λ from x. first_member_names pre post from x.0))) where
      test : List ℕ → Bool
      test from = is_first_member pre post from && chain pre post from name

changed_is : (pre post : List NormalSection) (name : List ℕ) →
    Decides (is_changed pre post name) (IsChanged pre post name)
changed_is pre post name =
    both (is_member pre post name) (is_in_both is_code_class pre post name) (member_is pre post name)
    (of_test (is_in_both is_code_class pre post name))

added_is : (pre post : List NormalSection) (name : List ℕ) → Decides (is_added pre post name) (IsAdded pre post name)
added_is pre post name =
    both (is_member pre post name) (is_in is_code_class post name && not (is_there pre name)) (member_is pre post name)
    (of_test (is_in is_code_class post name && not (is_there pre name)))

dropped_is : (pre post : List NormalSection) (name : List ℕ) →
    Decides (is_dropped pre post name) (IsDropped pre post name)
dropped_is pre post name =
    both (is_member pre post name) (is_in is_code_class pre name && not (is_there post name)) (member_is pre post name)
    (of_test (is_in is_code_class pre name && not (is_there post name)))

-- ---- data

new_names : (pre post : List NormalSection) (name : List ℕ) → is_new_data pre post name ≡ true →
    IsAmong (names_of post) name
new_names pre post name is = in_names is_data_class post name
    (and_parts (is_in is_data_class post name) (not (is_there pre name)) is).0

old_names : (pre post : List NormalSection) (name : List ℕ) → is_in_both is_data_class pre post name ≡ true →
    IsAmong (names_of post) name
old_names pre post name is = in_names is_data_class post name
    (and_parts (is_in is_data_class pre name) (is_in is_data_class post name) is).1

carried_is : (pre post : List NormalSection) (name : List ℕ) →
    Decides (is_carried pre post name) (IsCarried pre post name)
carried_is pre post name =
    through (is_carried pre post name)
    (λ (x : (from : List ℕ) × At from). record { from = x.0; brought = x.1.0; reaches = x.1.1 })
    (λ it. (it.from, (it.brought, it.reaches)))
    (some_of {P = At} test (names_of post)
    (λ from. both (is_member pre post from && is_in is_code_class post from || is_new_data pre post from)
    (reaches post from name)
    (either (is_member pre post from && is_in is_code_class post from) (is_new_data pre post from)
    (both (is_member pre post from) (is_in is_code_class post from) (member_is pre post from)
    (of_test (is_in is_code_class post from)))
    (of_test (is_new_data pre post from)))
    (reaches_is post from name))
    (λ from x. brought_names from x.0)) where
      Brought : List ℕ → Type 0
      Brought from = (Member pre post from × (is_in is_code_class post from ≡ true))
          ⊎ (is_new_data pre post from ≡ true)

      At : List ℕ → Type 0
      At from = Brought from × Reaches post from name

      test : List ℕ → Bool
      test from = (is_member pre post from && is_in is_code_class post from || is_new_data pre post from)
          && reaches post from name

      brought_names : (from : List ℕ) → Brought from → IsAmong (names_of post) from
      brought_names from (inl x) = in_names is_code_class post from x.1
      brought_names from (inr is) = new_names pre post from is

differing_is : (pre post : List NormalSection) (name : List ℕ) →
    Decides (data_differs pre post name) (DataDiffers pre post name)
differing_is pre post name =
    through (data_differs pre post name) there back
    (either (other_class (section_named pre name) (section_named post name))
    (is_in_both is_data_class pre post name && (not (same_in pre post name) || reaches_changed pre post name))
    (of_test (other_class (section_named pre name) (section_named post name)))
    (both (is_in_both is_data_class pre post name) (not (same_in pre post name) || reaches_changed pre post name)
    (of_test (is_in_both is_data_class pre post name))
    (either (not (same_in pre post name)) (reaches_changed pre post name) (of_test (not (same_in pre post name)))
    (reaches_changed_is pre post name)))) where
      At : Type 0
      At =
          (other_class (section_named pre name) (section_named post name) ≡ true)
          ⊎ ((is_in_both is_data_class pre post name ≡ true)
          × ((not (same_in pre post name) ≡ true) ⊎ ReachesChanged pre post name))

      there : At → DataDiffers pre post name
      there (inl other) = OtherClass name other
      there (inr (in_both, inl other)) = DataItself name in_both other
      there (inr (in_both, inr to)) = DataThrough name in_both to

      back : DataDiffers pre post name → At
      back (OtherClass n other) = inl other
      back (DataItself n in_both other) = inr (in_both, inl other)
      back (DataThrough n in_both to) = inr (in_both, inr to)

data_of_is : (post : List NormalSection) (test : List ℕ → Bool) →
    ((name : List ℕ) → test name ≡ true → IsAmong (names_of post) name) → (name : List ℕ) →
    Decides (is_data_of post test name) (IsDataOf post test name)
data_of_is post test among name =
    through (is_data_of post test name) there back
    (either (test name) (list_any (λ from. test from && reaches post from name) (names_of post)
    && is_in is_read_only_class post name) (of_test (test name))
    (both (list_any (λ from. test from && reaches post from name) (names_of post)) (is_in is_read_only_class post name)
    (some_of {P = At} (λ from. test from && reaches post from name) (names_of post)
    (λ from. both (test from) (reaches post from name) (of_test (test from)) (reaches_is post from name))
    (λ from x. among from x.0))
    (of_test (is_in is_read_only_class post name)))) where
      At : List ℕ → Type 0
      At from = (test from ≡ true) × Reaches post from name

      there : (test name ≡ true) ⊎ (((from : List ℕ) × At from) × (is_in is_read_only_class post name ≡ true)) →
          IsDataOf post test name
      there (inl is) = OfItself name is
      there (inr (x, constant)) = OfReached x.0 name x.1.0 x.1.1 constant

      back : IsDataOf post test name →
          (test name ≡ true) ⊎ (((from : List ℕ) × At from) × (is_in is_read_only_class post name ≡ true))
      back (OfItself n is) = inl is
      back (OfReached from n is to constant) = inr ((from, (is, to)), constant)

broken_is : (pre post : List NormalSection) (x : List ℕ × Ref) → Decides (is_broken pre post x) (IsBroken pre post x)
broken_is pre post x =
    through (is_broken pre post x) (there x.0 x.1) (back x)
    (either (is_data_of post (is_in_both is_data_class pre post) x.0 && list_any old_test (names_of post))
    (is_data_of post (is_new_data pre post) x.0 && list_any new_test (names_of post))
    (both (is_data_of post (is_in_both is_data_class pre post) x.0) (list_any old_test (names_of post))
    (data_of_is post (is_in_both is_data_class pre post) (old_names pre post) x.0)
    (some_of {P = OldAt x.1} old_test (names_of post)
    (λ code. both (goes_to code x.1 && is_interior x.1) (is_changed pre post code)
    (of_test (goes_to code x.1 && is_interior x.1)) (changed_is pre post code))
    (λ code y. in_names is_code_class post code
    (and_parts (is_in is_code_class pre code) (is_in is_code_class post code) y.1.1).1)))
    (both (is_data_of post (is_new_data pre post) x.0) (list_any new_test (names_of post))
    (data_of_is post (is_new_data pre post) (new_names pre post) x.0)
    (some_of {P = NewAt x.1} new_test (names_of post)
    (λ code. both (is_in is_code_class post code && goes_to code x.1 && is_interior x.1) (not (is_member pre post code))
    (of_test (is_in is_code_class post code && goes_to code x.1 && is_interior x.1))
    (isnt (is_member pre post code) (member_is pre post code)))
    (λ code y. code_names code x.1 y.0)))) where
      old_test : List ℕ → Bool
      old_test code = (goes_to code x.1 && is_interior x.1) && is_changed pre post code

      new_test : List ℕ → Bool
      new_test code = (is_in is_code_class post code && goes_to code x.1 && is_interior x.1)
          && not (is_member pre post code)

      OldAt : Ref → List ℕ → Type 0
      OldAt r code = ((goes_to code r && is_interior r) ≡ true) × IsChanged pre post code

      NewAt : Ref → List ℕ → Type 0
      NewAt r code = ((is_in is_code_class post code && goes_to code r && is_interior r) ≡ true)
          × (Member pre post code → ⊥)

      code_names : (code : List ℕ) (r : Ref) →
          (is_in is_code_class post code && goes_to code r && is_interior r) ≡ true → IsAmong (names_of post) code
      code_names code r is =
          let front = (and_parts (is_in is_code_class post code && goes_to code r) (is_interior r) is).0 in
          in_names is_code_class post code (and_parts (is_in is_code_class post code) (goes_to code r) front).0

      At : List ℕ → Ref → Type 0
      At name r =
          (IsDataOf post (is_in_both is_data_class pre post) name × ((code : List ℕ) × OldAt r code))
          ⊎ (IsDataOf post (is_new_data pre post) name × ((code : List ℕ) × NewAt r code))

      there : (name : List ℕ) (r : Ref) → At name r → IsBroken pre post (name, r)
      there name r (inl (is, y)) = OldData name r y.0 is y.1.0 y.1.1
      there name r (inr (is, y)) = NewData name r y.0 is y.1.0 y.1.1

      back : (y : List ℕ × Ref) → IsBroken pre post y → At y.0 y.1
      back y (OldData name r code is goes changed) = inl (is, (code, (goes, changed)))
      back y (NewData name r code is goes stays) = inr (is, (code, (goes, stays)))

-- ---- the answer

first_found : {X : Type 0} (test : X → Bool) (P : X → Type 0) → ((x : X) → Decides (test x) (P x)) →
    (xs : List X) (x : X) → find test xs ≡ Some x → IsFirst P xs x
first_found test P decides [] x found = absurd cc
first_found test P decides (y ∷ ys) x found =
    elim (cases_Bool (test y)) [
      | inl passes ↦
          let here : Some y ≡ Some x = rw passes at found in
          subst (IsFirst P (y ∷ ys)) (same_Some y x here) (Here y ys ((decides y).0 passes))
      | inr fails ↦
          let later : find test ys ≡ Some x = rw fails at found in
          Later y ys x (λ p. let e : false ≡ true = sym fails ∙ (decides y).1 p in cc)
          (first_found test P decides ys x later)
    ]

none_found : {X : Type 0} (test : X → Bool) (P : X → Type 0) → ((x : X) → Decides (test x) (P x)) → (xs : List X) →
    find test xs ≡ None → NoneIs P xs
none_found test P decides [] none = All-nil (λ x. P x → ⊥)
none_found test P decides (y ∷ ys) none =
    elim (cases_Bool (test y)) [
      | inl passes ↦ absurd (let here : Some y ≡ None = rw passes at none in cc)
      | inr fails ↦
          let later : find test ys ≡ None = rw fails at none in
          All-cons (λ x. P x → ⊥) y ys (λ p. let e : false ≡ true = sym fails ∙ (decides y).1 p in cc)
          (none_found test P decides ys later)
    ]

picks : (test : List ℕ → Bool) (P : List ℕ → Type 0) → ((name : List ℕ) → Decides (test name) (P name)) →
    (sections : List NormalSection) → Picks P sections (picked test sections)
picks test P decides [] = Ends
picks test P decides (s ∷ rest) =
    elim (cases_Bool (test s.name)) [
      | inl passes ↦ rw passes (Takes s rest (picked test rest) ((decides s.name).0 passes) (picks test P decides rest))
      | inr fails ↦ rw fails (Leaves s rest (picked test rest)
          (λ p. let e : false ≡ true = sym fails ∙ (decides s.name).1 p in cc) (picks test P decides rest))
    ]

lists_are : (pre post : List NormalSection) → IsExtract pre post (lists_of pre post)
lists_are pre post =
    record {
      changed = picks (is_changed pre post) (IsChanged pre post) (changed_is pre post) post;
      added = picks (is_added pre post) (IsAdded pre post) (added_is pre post) post;
      carried = picks (is_carried pre post) (IsCarried pre post) (carried_is pre post) post;
      new_data = picks (is_new_data pre post) (λ name. is_new_data pre post name ≡ true)
          (λ name. of_test (is_new_data pre post name)) post;
      dropped = picks (is_dropped pre post) (IsDropped pre post) (dropped_is pre post) pre;
    }

some_first_is : (pre post : List NormalSection) →
    Decides (list_any (is_first_member pre post) (names_of post)) ((name : List ℕ) × IsFirstMember pre post name)
some_first_is pre post =
    some_of {P = IsFirstMember pre post} (is_first_member pre post) (names_of post) (first_member_is pre post)
    (first_member_names pre post)

-- where there is no first member there is none
first_of_member : (pre post : List NormalSection) (name : List ℕ) → Member pre post name →
    (first : List ℕ) × IsFirstMember pre post first
first_of_member pre post name (Differing n it) = (n, inl it)
first_of_member pre post name (OnlyInPost n it) = (n, inr it)
first_of_member pre post name (Joined n other member tied) = first_of_member pre post n member

answers_with : (pre post : List NormalSection) → NoneIs (λ s. DataDiffers pre post s.name) post →
    (o : Option (List ℕ × Ref)) → find (is_broken pre post) (places post) ≡ o →
    Extracts pre post (extracted_with pre post o)
answers_with pre post same (Some x) found =
    Broken x.0 x.1 same (first_found (is_broken pre post) (IsBroken pre post) (broken_is pre post)
    (places post) x found)
answers_with pre post same None none =
    let whole = none_found (is_broken pre post) (IsBroken pre post) (broken_is pre post) (places post) none in
    elim (cases_Bool (list_any (is_first_member pre post) (names_of post))) [
      | inl some ↦
          let (name, first) = (some_first_is pre post).0 some in
          rw some (Extracted name (lists_of pre post) same whole (first_is_member pre post name first)
          (lists_are pre post))
      | inr nobody ↦
          rw nobody (NoMember same whole (λ name member.
          let it = first_of_member pre post name member in
          let e : false ≡ true = sym nobody ∙ (some_first_is pre post).1 it in cc))
    ]

answers_by : (pre post : List NormalSection) (o : Option NormalSection) →
    find (λ s. data_differs pre post s.name) post ≡ o → Extracts pre post (extracted_by pre post o)
answers_by pre post (Some section) found =
    OtherData section (first_found (λ s. data_differs pre post s.name) (λ s. DataDiffers pre post s.name)
    (λ s. differing_is pre post s.name) post section found)
answers_by pre post None none =
    answers_with pre post (none_found (λ s. data_differs pre post s.name) (λ s. DataDiffers pre post s.name)
    (λ s. differing_is pre post s.name) post none) (find (is_broken pre post) (places post)) refl

answers : (pre post : List NormalSection) → Extracts pre post (extracted pre post)
unfolding extracted
answers pre post = answers_by pre post (find (λ s. data_differs pre post s.name) post) refl

pub is_extracted : (pre post : List NormalSection) (answer : Result Extract Refusal) → Extracts pre post answer →
    answer ≡ extracted pre post
is_extracted pre post answer is = one_result pre post answer (extracted pre post) is (answers pre post)

pub extracted_is : (pre post : List NormalSection) (answer : Result Extract Refusal) → answer ≡ extracted pre post →
    Extracts pre post answer
extracted_is pre post answer same = subst (Extracts pre post) (sym same) (answers pre post)
