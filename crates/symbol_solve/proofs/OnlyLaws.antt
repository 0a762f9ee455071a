-- Where nothing stands in the way, what is left is the one solution.
use Rattle.std.proofs.Common.{arith, ◌≡◌, ◌⊎◌, inl, inr, ℕ, zero, suc, ◌+◌, ◌<◌, ◌≤◌, Bool}
use Rattle.std.proofs.Common.{true, false, not, ◌&&◌, ◌||◌, eqb, cond, List, [], ◌∷◌, ◌++◌}
use Rattle.std.proofs.Common.{length, map, Option, Some, None, refl, sym, ap, subst, ◌∙◌}
use Rattle.std.specs.List.{All, AllZip, filter, flat_map, find, list_any, list_all, slice_get, range_with_len}
use Rattle.std.specs.Option.{option_map, option_or, option_and_then}
use Rattle.std.proofs.lemmas.Bool.{cases_eq, cases_lt, eq-eqb, eqb-true, false≢true}
use Rattle.std.proofs.lemmas.Cmp.{nat_eq_equiv, nat_list_eq_equiv}
use Rattle.std.proofs.lemmas.Option.{same_Some, slice_get_within}
use Rattle.ks_base.specs.declared.refusals.Refusal.TheVariants.{Ambiguous}
use Rattle.ks_base.specs.declared.refusals.Difference.{Difference}
use Rattle.i386_reloc.specs.declared.types.NormalSection.{NormalSection}
use Rattle.symbol_table.specs.declared.values.Unknown.{Unknown}
use Rattle.symbol_table.specs.declared.values.Unknown.TheVariants.{Code, Data, Outside}
use Rattle.symbol_table.specs.Unknowns.{same_unknown}
use Rattle.run_pre_match.specs.declared.types.Claim.{Claim}
use Rattle.run_pre_match.specs.declared.types.Matched.{Matched}
use Rattle.run_pre_match.specs.Candidate.{Candidate}
use Rattle.run_pre_match.specs.Candidate.{pairs}
use Rattle.run_pre_match.specs.Differences.{difference_from}
use Rattle.run_pre_match.specs.Found.{own_home, all_found}
use Rattle.run_pre_match.specs.Matched.{PreSection, outcome, matched_unless, matched_by, statements}
use Rattle.match_candidates.specs.Candidates.{Running, candidates_of, candidates}
use Rattle.match_candidates.specs.Candidates.{code_sections, is_of, is_match, matches}
use Rattle.match_candidates.specs.OwnFaults.{missing_in, mismatch_in, difference_in, first_missing}
use Rattle.match_candidates.specs.OwnFaults.{first_mismatch, first_undecoded, own_fault}
use Rattle.propagation.specs.laws.RoundLaws.{remaining_is_kept}
use Rattle.propagation.specs.Rounds.{left_in, remaining, forced, is_forced, forced_among, clashes_with_one}
use Rattle.propagation.specs.Conflicts.{first_some, first_of_two, first_between, clashing, conflict}
use Rattle.symbol_solve.specs.Clashes.{clashes, claims_clash, interiors_clash, claims_of}
use Rattle.symbol_solve.specs.Clashes.{interiors_of, contradict, is_unmet, candidate_rules}
use Rattle.symbol_solve.specs.Conflicts.{by_place, claims_conflict, interior_conflict, conflict_of_claims}
use Rattle.symbol_solve.specs.Conflicts.{conflict_of_interiors, clash_between, reported}
use Rattle.symbol_solve.specs.Solve.{twins, first_twins, left_of, obstacle}
use Rattle.symbol_solve.specs.Solution.{IsChoice, IsSolution}
use Rattle.symbol_solve.proofs.CandidateLaws.{IsPlaced, IsHere, codes_here, candidates_here}
use Rattle.symbol_solve.proofs.RemainLaws.{kept_in}
use Rattle.symbol_solve.proofs.Members.{Has, has_of, contained, all_has, all_of, any_has, any_none, every_has}
use Rattle.symbol_solve.proofs.Members.{has_filter, filter_has, has_flat, flat_has, no_first, between_from}
use Rattle.symbol_solve.proofs.SolutionLaws.{place_of, stays}

-- ---- nothing of two
pub neither : {X : Type 0} (a b : Option X) → option_or a b ≡ None → (a ≡ None) × (b ≡ None)
neither None b is = (refl, is)
neither (Some x) b is = absurd cc

-- ---- neighbours
twins_joined : (xs ys : List Candidate)
    → first_twins (xs ++ ys) ≡ None → (first_twins xs ≡ None) × (first_twins ys ≡ None)
unfolding first_twins
twins_joined [] ys is = (refl, is)
twins_joined (x ∷ []) [] is = (refl, refl)
twins_joined (x ∷ []) (y ∷ ys) is = (refl, (neither (twins x y) (first_twins (y ∷ ys)) is).1)
twins_joined (x ∷ y ∷ rest) ys is =
    let (here, later) = neither (twins x y) (first_twins ((y ∷ rest) ++ ys)) is in
    let (one, two) = twins_joined (y ∷ rest) ys later in
    ((λ i. option_or (here i) (one i)), two)

twins_flat : {X : Type 0} (f : X → List Candidate) (xs : List X) (x : X)
    → first_twins (flat_map f xs) ≡ None → Has xs x → first_twins (f x) ≡ None
twins_flat f [] x is has = absurd has
twins_flat f (a ∷ xs) x is (inl here) =
    ap (λ z. first_twins (f z)) (sym here) ∙ (twins_joined (f a) (flat_map f xs) is).0
twins_flat f (a ∷ xs) x is (inr rest) = twins_flat f xs x (twins_joined (f a) (flat_map f xs) is).1 rest

-- of one section there is one, where there are no two neighbours of one
one_of_place : (place : ℕ) (cs : List Candidate) (c : Candidate)
    → ((d : Candidate) → Has cs d → d.place ≡ place) → first_twins cs ≡ None → Has cs c → cs ≡ c ∷ []
unfolding first_twins
one_of_place place [] c each is has = absurd has
one_of_place place (x ∷ []) c each is (inl here) = ap (λ (z : Candidate). z ∷ []) here
one_of_place place (x ∷ []) c each is (inr rest) = absurd rest
one_of_place place (x ∷ y ∷ rest) c each is has =
    let here = (neither (twins x y) (first_twins (y ∷ rest)) is).0 in
    let same : x.place ≡ y.place = each x (inl refl) ∙ sym (each y (inr (inl refl))) in
    let two = sym
    (ap (λ b. cond b (Some (Ambiguous x.section.name x.home y.home)) None) (eq-eqb x.place y.place same)) ∙ here in
    absurd cc

-- ---- filters of lists joined
filter_joined : {X : Type 0} (q : X → Bool) (xs ys : List X) → filter q (xs ++ ys) ≡ filter q xs ++ filter q ys
filter_joined q [] ys = refl
filter_joined {X} q (x ∷ xs) ys = by (q x) (filter_joined q xs ys)
  where
    by : (b : Bool) → filter q (xs ++ ys) ≡ filter q xs ++ filter q ys → cond b
        (x ∷ filter q (xs ++ ys)) (filter q (xs ++ ys)) ≡ cond b (x ∷ filter q xs) (filter q xs) ++ filter q ys
    by true rest = ap (λ (l : List X). x ∷ l) rest
    by false rest = rest

filter_flat : {X Y : Type 0} (q : Y → Bool) (f : X → List Y) (xs : List X)
    → filter q (flat_map f xs) ≡ flat_map (λ x. filter q (f x)) xs
filter_flat q f [] = refl
filter_flat q f (x ∷ xs) =
    filter_joined q (f x) (flat_map f xs) ∙ ap (λ l. filter q (f x) ++ l) (filter_flat q f xs)

-- lists of one each are what is beside them
lists_are : {X Y : Type 0} (R : X → Y → Type 0) (f : X → List Y) (xs : List X) (ys : List Y)
    → AllZip R xs ys → ((x : X) (y : Y) → Has xs x → Has ys y → R x y → f x ≡ y ∷ []) → flat_map f xs ≡ ys
lists_are R f [] [] all each = refl
lists_are R f [] (y ∷ ys) all each = absurd all
lists_are R f (x ∷ xs) [] all each = absurd all
lists_are R f (x ∷ xs) (y ∷ ys) all each =
    let rest = lists_are R f xs ys all.1 (λ z w has has_w. each z w (inr has) (inr has_w)) in
    λ i. each x y (inl refl) (inl refl) all.0 i ++ rest i

-- and the other way round
zip_lists : {X Y : Type 0} (R : X → Y → Type 0) (f : X → List Y) (xs : List X)
    → ((x : X) → Has xs x → (y : Y) × (f x ≡ y ∷ []) × R x y) → AllZip R xs (flat_map f xs)
zip_lists R f [] each = tt
zip_lists {X} {Y} R f (x ∷ xs) each =
    let (y, is, here) = each x (inl refl) in
    subst (λ (l : List Y). AllZip R (x ∷ xs) (l ++ flat_map f xs))
    (sym is) (here, zip_lists R f xs (λ z has. each z (inr has)))

-- ---- what a test finds
any_from : {X : Type 0} (p : X → Bool) (xs : List X) → list_any p xs ≡ true → (x : X) × Has xs x × (p x ≡ true)
any_from p [] is = absurd cc
any_from {X} p (a ∷ xs) is = by (p a) refl (any_from p xs) is
  where
    by : (b : Bool) → p a ≡ b → (list_any p xs ≡ true → (x : X) × Has xs x × (p x ≡ true))
        → (b || list_any p xs) ≡ true → (x : X) × Has (a ∷ xs) x × (p x ≡ true)
    by true at later here = (a, inl refl, at)
    by false at later rest = let (x, has, pass) = later rest in (x, inr has, pass)

every_of : {X : Type 0} (p : X → Bool) (xs : List X) → ((x : X) → Has xs x → p x ≡ true) → list_all p xs ≡ true
every_of p [] each = refl
every_of p (a ∷ xs) each =
    ap (λ b. b && list_all p xs) (each a (inl refl)) ∙ every_of p xs (λ x has. each x (inr has))

every_filter : {X : Type 0} (p r : X → Bool) (xs : List X) → list_all p xs ≡ true → list_all p (filter r xs) ≡ true
every_filter p r xs is = every_of p (filter r xs) (λ x has. every_has p xs x is (filter_has r xs x has).0)

find_none : {X : Type 0} (p : X → Bool) (xs : List X) → find p xs ≡ None → list_any p xs ≡ false
find_none p [] is = refl
find_none {X} p (a ∷ xs) is = by (p a) (find_none p xs) is
  where
    by : (b : Bool) → (find p xs ≡ None → list_any p xs ≡ false)
        → cond b (Some a) (find p xs) ≡ None → (b || list_any p xs) ≡ false
    by true later here = absurd cc
    by false later rest = later rest

not_true : (b : Bool) → not b ≡ true → b ≡ false
not_true false is = refl
not_true true is = absurd cc

-- ---- clashes are mutual
unknowns_back : (a b : Unknown) → same_unknown a b ≡ same_unknown b a
unknowns_back (Code a) (Code b) = nat_list_eq_equiv.symm a b
unknowns_back (Code a) (Data b) = refl
unknowns_back (Code a) (Outside b) = refl
unknowns_back (Data a) (Code b) = refl
unknowns_back (Data a) (Data b) = nat_list_eq_equiv.symm a b
unknowns_back (Data a) (Outside b) = refl
unknowns_back (Outside a) (Code b) = refl
unknowns_back (Outside a) (Data b) = refl
unknowns_back (Outside a) (Outside b) = nat_list_eq_equiv.symm a b

contradict_back : (a b : Claim) → contradict a b ≡ contradict b a
contradict_back a b =
    λ i. unknowns_back a.unknown b.unknown i && not (nat_eq_equiv.symm a.value b.value i)

claims_back : (c d : Candidate) → claims_clash c d ≡ true → claims_clash d c ≡ true
claims_back c d is =
    let (a, has_a, found) = any_from (λ x. list_any (contradict x) (claims_of d)) (claims_of c) is in
    let (b, has_b, both) = any_from (contradict a) (claims_of d) found in
    let other : contradict b a ≡ true = contradict_back b a ∙ both in
    any_has (λ x. list_any (contradict x) (claims_of c))
    (claims_of d) b has_b (any_has (contradict b) (claims_of c) a has_a other)

either_back : (a other b c : Bool) → (a ≡ true → other ≡ true) → (a || b || c) ≡ true → (other || c || b) ≡ true
either_back a true b c so is = refl
either_back true false b c so is = absurd (let e = so refl in cc)
either_back false false true true so is = refl
either_back false false true false so is = refl
either_back false false false true so is = refl
either_back false false false false so is = absurd cc

parts_of : (s m n p : Bool) → (s && m && n && p) ≡ true → (s ≡ true) × (m ≡ true) × (n ≡ true) × (p ≡ true)
parts_of true true true p is = (refl, refl, refl, is)
parts_of true true false p is = absurd cc
parts_of true false n p is = absurd cc
parts_of false m n p is = absurd cc

clash_back : (c d : Candidate) → clashes c d ≡ true → clashes d c ≡ true
unfolding clashes
clash_back c d is =
    let (apart, one, two, some) = parts_of (not (eqb c.place d.place))
    (matches c) (matches d) (claims_clash c d || interiors_clash c d || interiors_clash d c) is in
    let back = either_back
    (claims_clash c d) (claims_clash d c) (interiors_clash c d) (interiors_clash d c) (claims_back c d) some in
    let there : not (eqb d.place c.place) ≡ true = ap not (nat_eq_equiv.symm d.place c.place) ∙ apart in
    λ i. there i && two i && one i && back i

clash_apart : (c d : Candidate) → clashes c d ≡ true → eqb c.place d.place ≡ false
unfolding clashes
clash_apart c d is =
    not_true (eqb c.place d.place)
    (parts_of (not (eqb c.place d.place))
    (matches c) (matches d) (claims_clash c d || interiors_clash c d || interiors_clash d c) is).0

-- ---- and each is reported
map_none : {X Y : Type 0} (f : X → Y) (o : Option X) → option_map f o ≡ None → o ≡ None
map_none f None is = refl
map_none f (Some x) is = absurd cc

clash_told : (c d : Candidate) → clashes c d ≡ true → clash_between (c, d) ≡ None → ⊥
unfolding clashes
clash_told c d is none =
    let (apart, m, n, some) = parts_of (not (eqb c.place d.place))
    (matches c) (matches d) (claims_clash c d || interiors_clash c d || interiors_clash d c) is in
    let (no_claims, rest) =
    neither (conflict_of_claims c d) (option_or (conflict_of_interiors c d) (conflict_of_interiors d c)) none in
    let (no_one, no_other) = neither (conflict_of_interiors c d) (conflict_of_interiors d c) rest in
    let one : claims_clash c d ≡ false =
    any_none (λ x. list_any (contradict x) (claims_of d)) (claims_of c)
    (λ x has. find_none (contradict x) (claims_of d)
    (map_none (claims_conflict x) (find (contradict x) (claims_of d)) (no_first
    (λ a. option_map (claims_conflict a) (find (contradict a) (claims_of d))) (claims_of c) x no_claims has))) in
    let two : interiors_clash c d ≡ false = find_none
    (is_unmet d) (interiors_of c) (map_none (interior_conflict d) (find (is_unmet d) (interiors_of c)) no_one) in
    let three : interiors_clash d c ≡ false = find_none
    (is_unmet c) (interiors_of d) (map_none (interior_conflict c) (find (is_unmet c) (interiors_of d)) no_other) in
    let quiet : (claims_clash c d || interiors_clash c d || interiors_clash d c) ≡ false =
    λ i. one i || two i || three i in
    false≢true (sym quiet ∙ some)

-- ---- two of two lists of some
has_range : (a n j : ℕ) → a ≤ j → j < a + n → Has (range_with_len a n) j
has_range a zero j low high = absurd (omega arith)
has_range a (suc n) j low high =
    elim (cases_eq a j)
    [ inl e ↦ inl e | inr other ↦ inr (has_range (a + 1) n j (omega (arith, low, other)) (omega (arith, high))) ]

has_map : {X Y : Type 0} (f : X → Y) (xs : List X) (x : X) → Has xs x → Has (map f xs) (f x)
has_map f [] x has = absurd has
has_map f (a ∷ xs) x (inl is) = inl (ap f is)
has_map f (a ∷ xs) x (inr rest) = inr (has_map f xs x rest)

none_between : {X Y : Type 0} (f : X → X → Option Y) (g : ℕ → List X) (a n i j : ℕ) (x y : X)
    → first_between f (map g (range_with_len a n)) ≡ None
    → a ≤ i → i < j → j < a + n → Has (g i) x → Has (g j) y → f x y ≡ None
unfolding first_between
none_between f g a zero i j x y is low less high has_x has_y = absurd (omega arith)
none_between {X} {Y} f g a (suc n) i j x y is low less high has_x has_y =
    let rest : List (List X) = map g (range_with_len (a + 1) n) in
    let (here, later) = neither (first_some (first_of_two f (g a)) rest) (first_between f rest) is in
    elim (cases_eq a i) [
      | inl e ↦
          let there : Has rest (g j) = has_map g
          (range_with_len (a + 1) n) j (has_range (a + 1) n j (omega (arith, e, less)) (omega (arith, high))) in
          let one : first_of_two f (g a) (g j) ≡ None = no_first (first_of_two f (g a)) rest (g j) here there in
          let two : first_some (f x) (g j) ≡ None =
          no_first (λ z. first_some (f z) (g j)) (g a) x one (subst (λ k. Has (g k) x) (sym e) has_x) in
          no_first (f x) (g j) y two has_y
      | inr other ↦
          none_between f g (a + 1) n i j x y later (omega (arith, low, other)) less (omega (arith, high)) has_x has_y
    ]

-- ---- what each section has
is_difference : (pre : PreSection) (o : Option Difference) (m : Matched)
    → difference_in pre (matched_unless o m) ≡ None → is_match (matched_unless o m) ≡ true
is_difference pre None m is = refl
is_difference pre (Some difference) m is = absurd cc

match_here : (pre : PreSection) (c : Candidate) → difference_in pre (outcome c) ≡ None → matches c ≡ true
unfolding outcome
match_here pre c is =
    is_difference pre (difference_from c (own_home c ∷ []) (pairs c)) (matched_by c (statements c (all_found c))) is

module _ (running : Running) (object : List NormalSection) where
  -- a section without a fault of its own has a candidate that matches
  matching_one : own_fault running object ≡ None → (pre : PreSection)
      → Has (code_sections object) pre → (d : Candidate) × Has (candidates_of running pre) d × (matches d ≡ true)
  unfolding own_fault
  matching_one is pre has = by (candidates_of running pre) there matched
    where
      rest : option_or (first_missing running object) (first_mismatch running object) ≡ None
      rest = (neither (first_undecoded object)
          (option_or (first_missing running object) (first_mismatch running object)) is).1

      there : missing_in pre (candidates_of running pre) ≡ None
      there =
          no_first (λ p. missing_in p (candidates_of running p)) (code_sections object) pre
          (neither (first_missing running object) (first_mismatch running object) rest).0 has

      matched : mismatch_in pre (candidates_of running pre) ≡ None
      matched =
          no_first (λ p. mismatch_in p (candidates_of running p)) (code_sections object) pre
          (neither (first_missing running object) (first_mismatch running object) rest).1 has

      either : (c : Candidate) (cs : List Candidate) (b : Bool) → list_any matches (c ∷ cs) ≡ b
          → cond b None (difference_in pre (outcome c)) ≡ None → (d : Candidate) × Has (c ∷ cs) d × (matches d ≡ true)
      either c cs true at none = any_from matches (c ∷ cs) at
      either c cs false at none = (c, inl refl, match_here pre c none)

      by : (cs : List Candidate)
          → missing_in pre cs ≡ None → mismatch_in pre cs ≡ None → (d : Candidate) × Has cs d × (matches d ≡ true)
      by [] one two = absurd cc
      by (c ∷ cs) one two = either c cs (list_any matches (c ∷ cs)) refl two

  -- sections are determined by their places
  one_section : (a b : PreSection)
      → Has (code_sections object) a → Has (code_sections object) b → a.place ≡ b.place → a ≡ b
  one_section a b has_a has_b place =
      let here : IsPlaced object a = all_has (IsPlaced object) (code_sections object) a (codes_here object) has_a in
      let there : IsPlaced object b = all_has (IsPlaced object) (code_sections object) b (codes_here object) has_b in
      let own : a.object ≡ b.object = here.object_is ∙ sym there.object_is in
      let section : a.section ≡ b.section =
      same_Some a.section b.section (sym here.at ∙ ap (slice_get object) place ∙ there.at) in
      λ i. record { object = own i; place = place i; section = section i }

  left_match : (round : ℕ) (c : Candidate)
      → Has (left_in candidate_rules round (candidates running object)) c → matches c ≡ true
  unfolding left_in
  left_match zero c has = (filter_has matches (candidates running object) c has).1
  left_match (suc round) c has =
      let cs : List Candidate = candidates running object in
      let left : List Candidate = left_in candidate_rules round cs in
      left_match round c (filter_has
      (λ x. not (clashes_with_one candidate_rules (forced_among candidate_rules cs left) x)) left c has).0

  -- a forced one that clashes with a candidate
  record Against (round : ℕ) (d : Candidate) : Type 0 where
    other : Candidate
    here : Has (candidates running object) other
    force : is_forced candidate_rules (left_in candidate_rules round (candidates running object)) other ≡ true
    clash : clashes d other ≡ true

  -- one that matches is left, or clashes with a forced one
  left_or : (round : ℕ) (d : Candidate) → Has (candidates running object) d
      → matches d ≡ true → Has (left_in candidate_rules round (candidates running object)) d ⊎ Against round d
  unfolding left_in
  left_or zero d has match_d = inl (has_filter matches (candidates running object) d has match_d)
  left_or (suc round) d has match_d = by (left_or round d has match_d)
    where
      cs : List Candidate
      cs = candidates running object

      left : List Candidate
      left = left_in candidate_rules round cs

      r : Candidate → Bool
      r x = not (clashes_with_one candidate_rules (forced_among candidate_rules cs left) x)

      on : (f : Candidate)
          → is_forced candidate_rules left f ≡ true → is_forced candidate_rules (filter r left) f ≡ true
      on f force = every_filter (λ y. not (candidate_rules.same_section y f) || candidate_rules.same y f) r left force

      next : (b : Bool) → clashes_with_one candidate_rules (forced_among candidate_rules cs left) d ≡ b
          → Has left d → Has (filter r left) d ⊎ Against (suc round) d
      next false at here = inl (has_filter r left d here (ap not at))
      next true at here =
          let (f, has_f, clash) = any_from (clashes d) (forced_among candidate_rules cs left) at in
          let (there, force) = filter_has (is_forced candidate_rules left) cs f has_f in
          inr (record { other = f; here = there; force = on f force; clash = clash })

      by : Has left d ⊎ Against round d → Has (filter r left) d ⊎ Against (suc round) d
      by (inl here) = next (clashes_with_one candidate_rules (forced_among candidate_rules cs left) d) refl here
      by (inr against) =
          inr (record {
            other = against.other;
            here = against.here;
            force = on against.other against.force;
            clash = against.clash;
          })

  -- ---- no two forced ones clash where nothing is reported
  no_pair : (count : ℕ) → reported count (candidates running object) ≡ None
      → conflict candidate_rules (by_place count (forced candidate_rules (candidates running object))) ≡ None
  unfolding reported
  no_pair count is =
      by (conflict candidate_rules (by_place count (forced candidate_rules (candidates running object)))) refl is
    where
      lists : List (List Candidate)
      lists = by_place count (forced candidate_rules (candidates running object))

      apart : (a b : Candidate) (pair : Candidate × Candidate) (t : Bool)
          → clashes a b ≡ t → cond t (Some (a, b)) None ≡ Some pair → clash_between pair ≡ None → ⊥
      apart a b pair true at same none =
          clash_told a b at (ap clash_between (same_Some (a, b) pair same) ∙ none)
      apart a b pair false at same none = absurd cc

      by : (o : Option (Candidate × Candidate))
          → conflict candidate_rules lists ≡ o → option_and_then clash_between o ≡ None → o ≡ None
      by None at none = refl
      by (Some pair) at none =
          let (a, b, ones, others, has_ones, has_a, has_others, has_b, found) =
          between_from (clashing candidate_rules) lists pair at in
          absurd (apart a b pair (clashes a b) refl found none)

  quiet_after : reported (length object) (candidates running object) ≡ None
      → (c d : Candidate) → Has (forced candidate_rules (candidates running object)) c
      → Has (forced candidate_rules (candidates running object)) d
      → d.place < length object → c.place < d.place → clashes c d ≡ true → ⊥
  quiet_after is c d has_c has_d within less clash =
      let all : List Candidate = forced candidate_rules (candidates running object) in
      let none : clashing candidate_rules c d ≡ None =
      none_between (clashing candidate_rules)
      (λ place. filter (is_of place) all) 0 (length object) c.place d.place c d (no_pair (length object) is)
      (omega arith) less (omega (arith, within))
      (has_filter (is_of c.place) all c has_c (eq-eqb c.place c.place refl))
      (has_filter (is_of d.place) all d has_d (eq-eqb d.place d.place refl)) in
      let some : Some (c, d) ≡ None = sym (ap (λ b. cond b (Some (c, d)) None) clash) ∙ none in
      absurd cc

  within : (c : Candidate) → Has (candidates running object) c → c.place < length object
  within c has =
      slice_get_within object c.place c.section
      (all_has (IsHere running object) (candidates running object) c (candidates_here running object) has).at

  quiet : reported (length object) (candidates running object) ≡ None
      → (c d : Candidate) → Has (candidates running object) c → Has (candidates running object) d
      → Has (forced candidate_rules (candidates running object)) c
      → Has (forced candidate_rules (candidates running object)) d → clashes c d ≡ true → ⊥
  quiet is c d in_c in_d has_c has_d clash =
      elim (cases_lt c.place d.place) [
        | inl less ↦ quiet_after is c d has_c has_d (within d in_d) less clash
        | inr more ↦
            let apart : c.place ≡ d.place → ⊥ =
            λ e. false≢true (sym (clash_apart c d clash) ∙ eq-eqb c.place d.place e) in
            quiet_after is d c has_d has_c (within c in_c) (omega (arith, more, apart)) (clash_back c d clash)
      ]

  -- what is left is one of the candidates
  pub left_cands : (c : Candidate) → Has (left_of running object) c → Has (candidates running object) c
  unfolding remaining
  left_cands c has =
      let (q, kept) = kept_in candidate_rules (length (candidates running object)) (candidates running object) in
      (filter_has q (candidates running object) c (subst (λ (l : List Candidate). Has l c) kept has)).0

  -- ---- what is alone is forced, and what is forced doesn't clash with what is left
  pub forced_has : (d : Candidate) → Has (candidates running object) d
      → ((y : Candidate) → Has (remaining candidate_rules (candidates running object)) y
      → y.place ≡ d.place → eqb y.home d.home ≡ true)
      → Has (forced candidate_rules (candidates running object)) d
  unfolding forced
  forced_has d has each =
      has_filter (is_forced candidate_rules (remaining candidate_rules (candidates running object)))
      (candidates running object) d has
      (every_of (λ y. not (candidate_rules.same_section y d) || candidate_rules.same y d)
      (remaining candidate_rules (candidates running object))
      (λ y has_y. told y has_y (eqb y.place d.place) refl))
    where
      told : (y : Candidate) → Has (remaining candidate_rules (candidates running object)) y
          → (b : Bool) → eqb y.place d.place ≡ b → (not b || (b && eqb y.home d.home)) ≡ true
      told y has_y true at = each y has_y (eqb-true y.place d.place at)
      told y has_y false at = refl

  pub peace_here : ((d : Candidate) → Has (remaining candidate_rules (candidates running object)) d
      → Has (forced candidate_rules (candidates running object)) d)
      → (c d : Candidate) → Has (remaining candidate_rules (candidates running object)) c
      → Has (remaining candidate_rules (candidates running object)) d → clashes c d ≡ false
  peace_here each c d has_c has_d = by (clashes c d) refl
    where
      all : List Candidate
      all = forced candidate_rules (candidates running object)

      calm : clashes_with_one candidate_rules all c ≡ false
      calm =
          not_true (clashes_with_one candidate_rules all c)
          (filter_has (λ x. not (clashes_with_one candidate_rules all x))
          (remaining candidate_rules (candidates running object)) c
          (subst (λ (l : List Candidate). Has l c)
          (remaining_is_kept candidate_rules (candidates running object)) has_c)).1

      by : (b : Bool) → clashes c d ≡ b → clashes c d ≡ false
      by true at = absurd (false≢true (sym calm ∙ any_has (clashes c) all d (each d has_d) at))
      by false at = at

  -- ---- one of each section is left, where nothing stands in the way
  module _ (clear : obstacle running object ≡ None) where
    none_own : own_fault running object ≡ None
    unfolding obstacle
    none_own =
        (neither (own_fault running object) (option_or (reported (length object) (candidates running object))
        (first_twins (left_of running object))) clear).0

    none_of_two : (reported (length object) (candidates running object) ≡ None)
        × (first_twins (left_of running object) ≡ None)
    unfolding obstacle
    none_of_two =
        neither (reported (length object) (candidates running object)) (first_twins (left_of running object))
        (neither (own_fault running object) (option_or (reported (length object) (candidates running object))
        (first_twins (left_of running object))) clear).1

    module _ (q : Candidate → Bool)
        (kept : remaining candidate_rules (candidates running object) ≡ filter q (candidates running object)) where
      abbrev of_section : PreSection → List Candidate
      of_section pre = filter q (candidates_of running pre)

      left_flat : remaining candidate_rules (candidates running object) ≡ flat_map of_section (code_sections object)
      unfolding candidates
      left_flat = kept ∙ filter_flat q (candidates_of running) (code_sections object)

      left_section : (c : Candidate) → Has (remaining candidate_rules (candidates running object)) c
          → (pre : PreSection) × Has (code_sections object) pre × Has (of_section pre) c
      left_section c has =
          flat_has of_section (code_sections object) c (subst (λ (l : List Candidate). Has l c) left_flat has)

      section_left : (pre : PreSection) (c : Candidate) → Has (code_sections object) pre
          → Has (of_section pre) c → Has (remaining candidate_rules (candidates running object)) c
      section_left pre c has_pre has =
          subst (λ (l : List Candidate). Has l c)
          (sym left_flat) (has_flat of_section (code_sections object) pre c has_pre has)

      left_here : (c : Candidate) → Has (remaining candidate_rules (candidates running object)) c
          → Has (candidates running object) c × (q c ≡ true)
      left_here c has = filter_has q (candidates running object) c (subst (λ (l : List Candidate). Has l c) kept has)

      place_in : (pre : PreSection) (c : Candidate) → Has (of_section pre) c → c.place ≡ pre.place
      place_in pre c has = place_of running object pre c (filter_has q (candidates_of running pre) c has).0

      one_in : (pre : PreSection) (c : Candidate)
          → Has (code_sections object) pre → Has (of_section pre) c → of_section pre ≡ c ∷ []
      one_in pre c has_pre has =
          one_of_place pre.place (of_section pre) c (place_in pre) (twins_flat of_section
          (code_sections object) pre (ap first_twins (sym left_flat) ∙ none_of_two.1) has_pre) has

      -- one that is left is of a candidate's section where it has its place
      in_section : (pre : PreSection) (c : Candidate) → Has (code_sections object) pre → Has
          (remaining candidate_rules (candidates running object)) c → c.place ≡ pre.place → Has (of_section pre) c
      in_section pre c has_pre has place =
          let (other, has_other, here) = left_section c has in
          let same : other ≡ pre = one_section other pre has_other has_pre (sym (place_in other c here) ∙ place) in
          subst (λ (p : PreSection). Has (of_section p) c) same here

      only_here : (chosen : List Candidate)
          → IsSolution running object chosen → chosen ≡ remaining candidate_rules (candidates running object)
      only_here chosen it =
          sym (left_flat
          ∙ lists_are (IsChoice running) of_section (code_sections object) chosen it.choice
          (λ pre c has_pre has choice.
          one_in pre c has_pre
          (has_filter q (candidates_of running pre) c (has_of (candidates_of running pre) c choice.among)
          (left_here c (stays running object chosen it c has)).1)))

      against_none : (pre : PreSection)
          → Has (code_sections object) pre → of_section pre ≡ [] → (d : Candidate) → Has (candidates_of running pre) d
          → Has (candidates running object) d → Against (length (candidates running object)) d → ⊥
      unfolding remaining forced
      against_none pre has_pre none d own has against =
          quiet none_of_two.0 d against.other has against.here
          (forced_has d has
          (λ y has_y place. absurd (subst (λ (l : List Candidate). Has l y) none
          (in_section pre y has_pre has_y (place ∙ place_of running object pre d own)))))
          (has_filter (is_forced candidate_rules (remaining candidate_rules (candidates running object)))
          (candidates running object) against.other against.here against.force)
          against.clash

      never_empty : (pre : PreSection) → Has (code_sections object) pre → of_section pre ≡ [] → ⊥
      unfolding candidates remaining
      never_empty pre has_pre none =
          let (d, own, match_d) = matching_one none_own pre has_pre in
          let has : Has (candidates running object) d =
          has_flat (candidates_of running) (code_sections object) pre d has_pre own in
          elim (left_or (length (candidates running object)) d has match_d) [
            | inl here ↦
                subst (λ (l : List Candidate). Has l d) none
                (has_filter q (candidates_of running pre) d own (left_here d here).1)
            | inr against ↦ against_none pre has_pre none d own has against
          ]

      choice_here : (pre : PreSection) (c : Candidate)
          → Has (code_sections object) pre → Has (of_section pre) c → IsChoice running pre c
      unfolding remaining
      choice_here pre c has_pre has = record {
        among = contained (candidates_of running pre) c (filter_has q (candidates_of running pre) c has).0;
        matching = left_match (length (candidates running object)) c (section_left pre c has_pre has);
      }

      filled : (pre : PreSection)
          → Has (code_sections object) pre → (c : Candidate) × (of_section pre ≡ c ∷ []) × IsChoice running pre c
      filled pre has_pre = by (of_section pre) refl
        where
          by : (l : List Candidate)
              → of_section pre ≡ l → (c : Candidate) × (of_section pre ≡ c ∷ []) × IsChoice running pre c
          by [] at = absurd (never_empty pre has_pre at)
          by (c ∷ cs) at =
              let here : Has (of_section pre) c = subst (λ (l : List Candidate). Has l c) (sym at) (inl refl) in
              (c, one_in pre c has_pre here, choice_here pre c has_pre here)

      -- what is left is forced
      left_forced : (d : Candidate) → Has (remaining candidate_rules (candidates running object)) d
          → Has (forced candidate_rules (candidates running object)) d
      left_forced d has =
          let (pre, has_pre, here) = left_section d has in
          forced_has d (left_here d has).0
          (λ y has_y place.
          let there : Has (d ∷ []) y = subst (λ (l : List Candidate). Has l y)
          (one_in pre d has_pre here) (in_section pre y has_pre has_y (place ∙ place_in pre d here)) in
          elim there [ inl e ↦ eq-eqb y.home d.home (ap (λ (z : Candidate). z.home) (sym e)) | inr none ↦ absurd none ])

      solution_here : IsSolution running object (remaining candidate_rules (candidates running object))
      solution_here = record {
        choice = subst (λ (l : List Candidate). AllZip (IsChoice running) (code_sections object) l)
            (sym left_flat) (zip_lists (IsChoice running) of_section (code_sections object) filled);
        peaceful = all_of (λ c. All (λ d. clashes c d ≡ false) (remaining candidate_rules (candidates running object)))
            (remaining candidate_rules (candidates running object))
            (λ c has_c. all_of (λ d. clashes c d ≡ false) (remaining candidate_rules (candidates running object))
            (λ d has_d. peace_here left_forced c d has_c has_d));
      }

    pub parts_clear : (first_undecoded object ≡ None) × (first_missing running object ≡ None)
    unfolding own_fault
    parts_clear =
        let (decoded, rest) = neither (first_undecoded object)
        (option_or (first_missing running object) (first_mismatch running object)) none_own in
        (decoded, (neither (first_missing running object) (first_mismatch running object) rest).0)

    pub solution_left : IsSolution running object (left_of running object)
    unfolding remaining
    solution_left =
        let (q, kept) = kept_in candidate_rules (length (candidates running object)) (candidates running object) in
        solution_here q kept

    pub only_left : (chosen : List Candidate) → IsSolution running object chosen → chosen ≡ left_of running object
    unfolding remaining
    only_left chosen it =
        let (q, kept) = kept_in candidate_rules (length (candidates running object)) (candidates running object) in
        only_here q kept chosen it
