-- What is said along the entries of a map, in the order of their keys, is said along the sections of the object.
use Rattle.std.proofs.Common.{◌≡◌, inl, inr, Option, Some, None, option_map, ℕ, suc, ◌+◌, ◌-◌, ◌<◌, ◌≤◌, cond}
use Rattle.std.proofs.Common.{List, [], ◌∷◌, ◌++◌, append_assoc, refl, sym, ◌∙◌, ap, ap₂, subst, arith}
use Rattle.std.specs.List.{filter_map, flat_map, slice_get, AllByRecursion}
use Rattle.std.specs.Ordering.{is_eq, nat_cmp, MatchOrdering}
use Rattle.std.specs.declared.cmp.Ordering.{Ordering}
use Rattle.std.specs.declared.cmp.Ordering.TheVariants.{Less, Equal, Greater}
use Rattle.std.specs.List.Sorted.{IsStrictlySortedBy}
use Rattle.std.specs.Cmp.{ranks, nat_cmp_is}
use Rattle.std.specs.Map.{keys_of, lookup}
use Rattle.std.specs.BTreeMap.{is_at}
use Rattle.std.proofs.lemmas.Bool.{cases_lt}
use Rattle.std.proofs.lemmas.List.{append-nil}
use Rattle.std.proofs.lemmas.List.Elements.{filter_map-append}
use Rattle.std.proofs.lemmas.Map.Keys.{sorted_head, sorted_tail}
use Rattle.i386_reloc.specs.declared.types.NormalSection.{NormalSection}
use Rattle.run_pre_match.specs.declared.goals.Goal.TheVariants.{Constant}
use Rattle.run_pre_match.specs.declared.values.First.{First}
use Rattle.run_pre_match.specs.Candidate.{Candidate}
use Rattle.run_pre_match.specs.Found.{Found, first_value}
use Rattle.run_pre_match.specs.Matched.{Statement, stated_at, stated_from}
use Rattle.run_pre_match.specs.inside.Kept.{IsKept, standing}
use Rattle.run_pre_match.specs.inside.Reached.{stated_in, stated_by}

-- the keys ascend, from a place on
abbrev Ascends : ℕ → List (ℕ × First) → Type 0
Ascends place [] = Unit {0}
Ascends place (e ∷ es) = (place ≤ e.0) × Ascends (suc e.0) es

all_below : (x : ℕ) (keys : List ℕ) → AllByRecursion (λ y. nat_cmp x y ≡ Less) keys →
    AllByRecursion (λ y. suc x ≤ y) keys
all_below x [] all = tt
all_below x (y ∷ ys) all =
    let below : x < y = subst (λ (r : Ordering). MatchOrdering r (x < y) (x ≡ y) (y < x)) all.0 (ranks x y) in
    (omega (arith, below), all_below x ys all.1)

from_zero : (keys : List ℕ) → AllByRecursion (λ y. 0 ≤ y) keys
from_zero [] = tt
from_zero (y ∷ ys) = (omega arith, from_zero ys)

ascends : (place : ℕ) (es : List (ℕ × First)) → AllByRecursion (λ y. place ≤ y) (keys_of es) →
    IsStrictlySortedBy nat_cmp (keys_of es) → Ascends place es
ascends place [] all sorted = tt
ascends place (e ∷ es) all sorted = (
  all.0,
  ascends (suc e.0) es (all_below e.0 (keys_of es) (sorted_head nat_cmp e.0 (keys_of es) sorted))
      (sorted_tail nat_cmp e.0 (keys_of es) sorted),
)

-- what entries have at a key
abbrev pub value_at : List (ℕ × First) → ℕ → Option First
value_at es key = lookup (is_at (nat_cmp key)) es

at_head : (key : ℕ) (e : ℕ × First) (es : List (ℕ × First)) → key ≡ e.0 → value_at (e ∷ es) key ≡ Some e.1
at_head key e es same =
    ap (λ r. cond (is_eq r) (Some e.1) (value_at es key)) (sym (nat_cmp_is key e.0 Equal same))

before_head : (key : ℕ) (e : ℕ × First) (es : List (ℕ × First)) → key < e.0 →
    value_at (e ∷ es) key ≡ value_at es key
before_head key e es lt =
    ap (λ r. cond (is_eq r) (Some e.1) (value_at es key)) (sym (nat_cmp_is key e.0 Less lt))

behind_head : (key : ℕ) (e : ℕ × First) (es : List (ℕ × First)) → e.0 < key →
    value_at (e ∷ es) key ≡ value_at es key
behind_head key e es lt =
    ap (λ r. cond (is_eq r) (Some e.1) (value_at es key)) (sym (nat_cmp_is key e.0 Greater lt))

none_before : (key place : ℕ) (es : List (ℕ × First)) → key < place → Ascends place es → value_at es key ≡ None
none_before key place [] lt up = refl
none_before key place (e ∷ es) lt up =
    before_head key e es (omega (arith, lt, up.0)) ∙ none_before key (suc e.0) es (omega (arith, lt, up.0)) up.1

no_value : (c : Candidate) (place : ℕ) (o : Option ℕ) → None ≡ option_map (standing c place) o → o ≡ None
no_value c place None is = refl
no_value c place (Some value) is = absurd cc

that_value : (c : Candidate) (place : ℕ) (first : First) (o : Option ℕ) →
    Some first ≡ option_map (standing c place) o → o ≡ Some first.value
that_value c place first None is = absurd cc
that_value c place first (Some value) is = ap (option_map (λ (f : First). f.value)) (sym is)

-- from a place on, entries have the first values
abbrev HasFirst : Candidate → List Found → ℕ → List (ℕ × First) → Type 0
HasFirst c found place es =
    (key : ℕ) → place ≤ key → value_at es key ≡ option_map (standing c key) (first_value found (Constant key))

-- the object has sections from a place on
abbrev HasFrom : Candidate → ℕ → List NormalSection → Type 0
HasFrom c place sections = (k : ℕ) → slice_get c.object (k + place) ≡ slice_get sections k

has_later : (c : Candidate) (place : ℕ) (section : NormalSection) (sections : List NormalSection) →
    HasFrom c place (section ∷ sections) → HasFrom c (suc place) sections
has_later c place section sections has k =
    let next : k + suc place ≡ suc k + place = omega arith in
    ap (slice_get c.object) next ∙ has (suc k)

past_all : (c : Candidate) (place bound : ℕ) (es : List (ℕ × First)) → HasFrom c place [] → place ≤ bound →
    Ascends bound es → flat_map (stated_by c) es ≡ []
past_all c place bound [] has le up = refl
past_all c place bound (e ∷ es) has le up =
    let far : e.0 ≡ (e.0 - place) + place = omega (arith, le, up.0) in
    ap (λ o. stated_in c e.1.value o ++ flat_map (stated_by c) es)
    (ap (slice_get c.object) far ∙ has (e.0 - place))
    ∙ past_all c place (suc e.0) es has (omega (arith, le, up.0)) up.1

-- a section that has no value
passed : (c : Candidate) (found : List Found) (place : ℕ) (section : NormalSection) (es : List (ℕ × First))
    (rest said : List Statement) → HasFirst c found place es → value_at es place ≡ None → said ≡ rest →
    said ≡ stated_at c section (first_value found (Constant place)) ++ rest
passed c found place section es rest said first none is =
    let no : first_value found (Constant place) ≡ None =
    no_value c place (first_value found (Constant place)) (sym none ∙ first place (omega arith)) in
    is ∙ ap (λ o. stated_at c section o ++ rest) (sym no)

stated_along : (c : Candidate) (found : List Found) (place : ℕ) (sections : List NormalSection)
    (es : List (ℕ × First)) → HasFrom c place sections → Ascends place es → HasFirst c found place es →
    flat_map (stated_by c) es ≡ stated_from c found place sections
unfolding stated_from
stated_along c found place [] es has up first = past_all c place place es has (omega arith) up
stated_along c found place (section ∷ sections) [] has up first =
    passed c found place section [] (stated_from c found (suc place) sections) [] first refl
    (stated_along c found (suc place) sections [] (has_later c place section sections has) tt
    (λ key le. first key (omega (arith, le))))
stated_along c found place (section ∷ sections) (e ∷ es) has up first = elim (cases_lt place e.0) [
  | inl later ↦
      passed c found place section (e ∷ es) (stated_from c found (suc place) sections)
      (flat_map (stated_by c) (e ∷ es)) first (none_before place (suc place) (e ∷ es) (omega arith)
      (omega (arith, later), up.1))
      (stated_along c found (suc place) sections (e ∷ es) (has_later c place section sections has)
      (omega (arith, later), up.1) (λ key le. first key (omega (arith, le))))
  | inr upto ↦
      let same : e.0 ≡ place = omega (arith, upto, up.0) in
      let value : first_value found (Constant place) ≡ Some e.1.value =
      that_value c place e.1 (first_value found (Constant place))
      (sym (at_head place e es (sym same)) ∙ first place (omega arith)) in
      let zeroth : e.0 ≡ 0 + place = omega (arith, same) in
      let here : slice_get c.object e.0 ≡ Some section = ap (slice_get c.object) zeroth ∙ has 0 in
      ap₂ (λ (xs ys : List Statement). xs ++ ys)
      (ap (stated_in c e.1.value) here ∙ ap (stated_at c section) (sym value))
      (stated_along c found (suc place) sections es (has_later c place section sections has)
      (subst (λ (n : ℕ). Ascends (suc n) es) same up.1)
      (λ key le. sym (behind_head key e es (omega (arith, le, same))) ∙ first key (omega (arith, le))))
]

-- what is said along all entries
stated_by_all : (c : Candidate) (found : List Found) (es : List (ℕ × First)) →
    IsStrictlySortedBy nat_cmp (keys_of es) → IsKept (value_at es) Constant (standing c) found →
    flat_map (stated_by c) es ≡ stated_from c found 0 c.object
stated_by_all c found es sorted kept =
    stated_along c found 0 c.object es
    (λ k. let same : k + 0 ≡ k = omega arith in ap (slice_get c.object) same)
    (ascends 0 es (from_zero (keys_of es)) sorted) (λ key le. kept key)

-- what is said by one entry more
pub entry_more : {Y : Type 0} (f : Statement → Option Y) (c : Candidate) (e : ℕ × First)
    (all left es : List (ℕ × First)) (old now new : List Y) → left ≡ e ∷ es →
    now ++ filter_map f (flat_map (stated_by c) left) ≡ old ++ filter_map f (flat_map (stated_by c) all) →
    new ≡ now ++ filter_map f (stated_by c e) →
    new ++ filter_map f (flat_map (stated_by c) es) ≡ old ++ filter_map f (flat_map (stated_by c) all)
entry_more f c e all left es old now new first before more =
    ap (λ ys. ys ++ filter_map f (flat_map (stated_by c) es)) more
    ∙ append_assoc now (filter_map f (stated_by c e)) (filter_map f (flat_map (stated_by c) es))
    ∙ ap (λ ys. now ++ ys) (sym (filter_map-append f (stated_by c e) (flat_map (stated_by c) es)))
    ∙ ap (λ xs. now ++ filter_map f (flat_map (stated_by c) xs)) (sym first) ∙ before

-- what is said by all entries
pub entries_all : {Y : Type 0} (f : Statement → Option Y) (c : Candidate) (found : List Found)
    (es left : List (ℕ × First)) (old now : List Y) → left ≡ [] →
    IsStrictlySortedBy nat_cmp (keys_of es) → IsKept (value_at es) Constant (standing c) found →
    now ++ filter_map f (flat_map (stated_by c) left) ≡ old ++ filter_map f (flat_map (stated_by c) es) →
    now ≡ old ++ filter_map f (stated_from c found 0 c.object)
entries_all f c found es left old now none sorted kept is =
    sym (ap (λ xs. now ++ filter_map f (flat_map (stated_by c) xs)) none ∙ append-nil now)
    ∙ is ∙ ap (λ xs. old ++ filter_map f xs) (stated_by_all c found es sorted kept)
