-- A candidate comes to a match exactly where some valuation makes it one, and there is at most one. It also
-- comes to one where all agrees under a valuation that gives a value to more than the fields tell.
use Rattle.std.proofs.Common.{◌≡◌, ◌⊎◌, inl, inr, ℕ, zero, suc, ◌≤◌, Bool, true, false, not, ◌&&◌, ◌||◌}
use Rattle.std.proofs.Common.{cond, List, [], ◌∷◌, ◌++◌, map, length, Option, Some, None, is_some, option_map, IsTrue}
use Rattle.std.proofs.Common.{All, refl, sym, ◌∙◌, ap, subst, arith, Ok}
use Rattle.std.specs.List.{Contains, slice_get, list_any}
use Rattle.std.proofs.lemmas.Bool.{eq-eqb}
use Rattle.std.proofs.lemmas.Option.{slice_get_past}
use Rattle.std.proofs.lemmas.List.Folds.{list_any_none}
use Rattle.std.proofs.lemmas.List.Elements.{All-nil, All-cons, All-head, All-tail, All-weaker, All-push}
use Rattle.std.proofs.lemmas.List.Elements.{All-map, All-contains, All-contains_itself}
use Rattle.i386_reloc.specs.declared.types.Ref.{Ref}
use Rattle.i386_reloc.specs.declared.types.NormalSection.{NormalSection}
use Rattle.run_pre_match.specs.declared.goals.Goal.{Goal}
use Rattle.run_pre_match.specs.declared.goals.Goal.TheVariants.{Entry, Inside, Variable, Constant, Outside, Text}
use Rattle.run_pre_match.specs.declared.goals.Given.{Given}
use Rattle.run_pre_match.specs.declared.goals.Verdict.{Verdict}
use Rattle.run_pre_match.specs.declared.goals.Verdict.TheVariants.{Holds}
use Rattle.run_pre_match.specs.declared.types.Matched.{Matched}
use Rattle.match_instructions.specs.Instructions.{end_of, Instruction, direct_branch, kept_of, through_kept}
use Rattle.ia32_decode.specs.declared.types.Branch.{Branch}
use Rattle.match_constants.specs.Constants.{lie_in_constants}
use Rattle.match_instructions.specs.RunCode.{run_code}
use Rattle.run_pre_match.specs.Candidate.{Candidate, Pair, pre_list, run_list, pairs}
use Rattle.run_pre_match.specs.Found.{Found, first_value, is_other, contradicts, opened_by, given_there}
use Rattle.run_pre_match.specs.Found.{judged, given_in_pair, given_in_constant, found_in, own_home}
use Rattle.run_pre_match.specs.Found.{all_found}
use Rattle.run_pre_match.specs.Differences.{is_refused_verdict, is_absent_verdict, is_in_section, differs_in_own_target}
use Rattle.run_pre_match.specs.Differences.{break_before, is_refused_here, is_refused_target, is_unmet, kind_of}
use Rattle.run_pre_match.specs.Differences.{difference_at, break_of, difference_from}
use Rattle.run_pre_match.specs.Matched.{statements, matched_by, matched_unless, outcome}
use Rattle.run_pre_match.specs.Match.{Valuation, is_valued, Agree, IsField, InCode, InConstant, IsMeant, Match, Agrees}
use Rattle.run_pre_match.proofs.Stepwise.{Keeping, given_of, givens, kept_by_pair, kept_by_pairs}
use Rattle.run_pre_match.proofs.FirstValues.{Holding, StandsIn, holds_from}
use Rattle.run_pre_match.proofs.Opened.{Has, has_pairs}
use Rattle.run_pre_match.proofs.Claims.{by_no_kind, all_found_stand, stands_at}
use Rattle.run_pre_match.proofs.Claims.{first_had, constants_had, home_first, neither, unmapped_none}
use Rattle.run_pre_match.proofs.MetLaws.{IsWhole, met_by, holds_by}
use Rattle.run_pre_match.proofs.Agreeing.{Alike, agrees, alike}
use Rattle.run_pre_match.proofs.GoalLaws.{equal_goals, same_valued}
use Rattle.run_pre_match.proofs.ListParts.{behind, unmapped}

-- each field that counts gives its goal the one value
abbrev pub GivesOne : Candidate → Valuation → Type 0
GivesOne c v = (field : Given) → IsField c v field → IsTrue (is_valued field.goal) → v field.goal ≡ Some field.value

-- in a match, code and fields agree
pub match_agrees : (c : Candidate) (v : Valuation) → Match c v → Agrees c v
match_agrees c v m = record { whole = m.whole; code = m.code; home = m.home; one_value = m.one_value; met = m.met }

-- The fields of one valuation are those of another, and the values of a match are those of any other valuation under
-- which all agrees; so at most one makes it a match.
pub field_of_both : (c : Candidate) (v w : Valuation) → GivesOne c v → GivesOne c w → (field : Given) →
    IsField c v field → IsField c w field
field_of_both c v w one other field (InCode pair r in_pairs in_pair) = InCode pair r in_pairs in_pair
field_of_both c v w one other field (InConstant by place base section r counts goes value at in_section) =
    let there : IsField c w by = field_of_both c v w one other by counts in
    let valued : IsTrue (is_valued by.goal) = ap is_valued goes in
    let here : v (Constant place) ≡ Some by.value = ap v (sym goes) ∙ one by counts valued in
    let also : w (Constant place) ≡ Some by.value = ap w (sym goes) ∙ other by there valued in
    InConstant by place base section r there goes (also ∙ sym here ∙ value) at in_section

pub value_of_both : (c : Candidate) (v w : Valuation) → Match c v → Agrees c w → (goal : Goal) (x : ℕ) →
    v goal ≡ Some x → w goal ≡ Some x
value_of_both c v w one other goal x is =
    let (valued, meant) = one.no_more goal x is in
    elim meant [
      | inl own ↦ ap w own ∙ other.home ∙ sym (sym is ∙ ap v own ∙ one.home)
      | inr by ↦
          let known : IsTrue (is_valued by.field.goal) = ap is_valued by.goes_there ∙ valued in
          let here : v goal ≡ Some by.field.value = ap v (sym by.goes_there) ∙ one.one_value by.field by.counts known in
          let there : w goal ≡ Some by.field.value =
          ap w (sym by.goes_there) ∙ other.one_value by.field
          (field_of_both c v w one.one_value other.one_value by.field by.counts) known in
          there ∙ sym here ∙ is
    ]

same_options : (a b : Option ℕ) → ((x : ℕ) → a ≡ Some x → b ≡ Some x) → ((x : ℕ) → b ≡ Some x → a ≡ Some x) → a ≡ b
same_options (Some x) b there back = sym (there x refl)
same_options None (Some y) there back = back y refl
same_options None None there back = refl

pub one_valuation : (c : Candidate) (v w : Valuation) → Match c v → Match c w → (goal : Goal) → v goal ≡ w goal
one_valuation c v w one other goal =
    same_options (v goal) (w goal) (λ x is. value_of_both c v w one (match_agrees c w other) goal x is)
    (λ x is. value_of_both c w v other (match_agrees c v one) goal x is)

-- all that is found is the own home, or what a field that counts gives
abbrev pub IsGiven : Candidate → Valuation → Given → Type 0
IsGiven c v g = (g ≡ given_of (own_home c)) ⊎ IsField c v g

passed_over : {X : Type 0} (P : X → Type 0) (b : Bool) (xs : List X) → All P xs → All P (cond b [] xs)
passed_over P true xs all = All-nil P
passed_over P false xs all = all

passed_where : {X : Type 0} (P : X → Type 0) (b : Bool) (xs : List X) → All P xs → All P (cond b xs [])
passed_where P true xs all = all
passed_where P false xs all = All-nil P

opened_there : (c : Candidate) (v : Valuation) (field : Given) (place : ℕ) (o : Option NormalSection) →
    IsField c v field → field.goal ≡ Constant place → v (Constant place) ≡ Some field.value →
    slice_get c.object place ≡ o → All (IsField c v) (given_there c field.value o)
opened_there c v field place None counts goes value at = All-nil (IsField c v)
opened_there c v field place (Some section) counts goes value at =
    passed_where (IsField c v) (lie_in_constants c.contents.pieces field.value (length section.bytes))
    (map (given_in_constant c field.value) section.refs)
    (All-map (IsField c v) (given_in_constant c field.value) section.refs
    (All-weaker (Contains section.refs) (λ (r : Ref). IsField c v (given_in_constant c field.value r))
    (λ r here. InConstant field place field.value section r counts goes value at here) section.refs
    (All-contains_itself section.refs)))

opened_counts : (c : Candidate) (v : Valuation) → GivesOne c v → (before : List Found) (field : Given) →
    IsField c v field → (goal : Goal) → field.goal ≡ goal →
    All (IsField c v) (opened_by c before goal field.value)
opened_counts c v one before field counts (Entry place) goes = All-nil (IsField c v)
opened_counts c v one before field counts (Variable place) goes = All-nil (IsField c v)
opened_counts c v one before field counts (Inside place offset) goes = All-nil (IsField c v)
opened_counts c v one before field counts (Outside name) goes = All-nil (IsField c v)
opened_counts c v one before field counts (Text place offset text) goes = All-nil (IsField c v)
opened_counts c v one before field counts (Constant place) goes =
    passed_over (IsField c v) (is_some (first_value before (Constant place)))
    (given_there c field.value (slice_get c.object place))
    (opened_there c v field place (slice_get c.object place) counts goes
    (ap v (sym goes) ∙ one field counts (ap is_valued goes)) refl)

fields_of_pair : (c : Candidate) (v : Valuation) (pair : Pair) → Contains (pairs c) pair →
    All (IsField c v) (givens c pair)
fields_of_pair c v pair has =
    All-map (IsField c v) (given_in_pair c pair) pair.pre.references
    (All-weaker (Contains pair.pre.references) (λ (r : Ref). IsField c v (given_in_pair c pair r))
    (λ r here. InCode pair r has here) pair.pre.references
    (All-contains_itself pair.pre.references))

abbrev pub IsGivenHere : Candidate → Valuation → Found → Type 0
IsGivenHere c v f = IsGiven c v (given_of f)

given_keeping : (c : Candidate) (v : Valuation) → GivesOne c v →
    Keeping c (λ found. All (IsGivenHere c v) found) (IsField c v)
given_keeping c v one = record {
  one = λ own before g here counts. All-push (IsGivenHere c v) before (judged c own before g) here (inr counts);
  opened = λ before g here counts. opened_counts c v one before g counts g.goal refl;
}

all_given : (c : Candidate) (v : Valuation) → GivesOne c v → All (IsGivenHere c v) (all_found c)
all_given c v one =
    kept_by_pairs c (λ found. All (IsGivenHere c v) found) (IsField c v) (given_keeping c v one) (own_home c ∷ [])
    (pairs c)
    (All-cons (IsGivenHere c v) (own_home c) [] (inl refl) (All-nil (IsGivenHere c v)))
    (All-weaker (Contains (pairs c)) (λ (pair : Pair). All (IsField c v) (givens c pair)) (fields_of_pair c v) (pairs c)
    (All-contains_itself (pairs c)))

-- What is found under a valuation under which all agrees holds.
value_given : (c : Candidate) (v : Valuation) → Agrees c v → (g : Given) → IsGiven c v g → is_valued g.goal ≡ true →
    v g.goal ≡ Some g.value
value_given c v m g (inl home) valued = subst (λ (g : Given). v g.goal ≡ Some g.value) (sym home) m.home
value_given c v m g (inr counts) valued = m.one_value g counts valued

record GivenHolds (c : Candidate) (v : Valuation) (f : Found) : Type 0 where
  given : IsGiven c v (given_of f)
  holds : Holding f

no_other : (value : ℕ) (o : Option ℕ) → ((x : ℕ) → o ≡ Some x → x ≡ value) → is_other value o ≡ false
no_other value None same = refl
no_other value (Some x) same = ap not (eq-eqb x value (same x refl))

both_false : (a b : Bool) → (a ≡ true → b ≡ false) → (a && b) ≡ false
both_false true b e = e refl
both_false false b e = refl

given_at : (c : Candidate) (v : Valuation) (before : List Found) (g : Given) → All (GivenHolds c v) before →
    Has before g → IsGiven c v g
given_at c v before g all has =
    All-contains (IsGiven c v) (map given_of before) g
    (All-map (IsGiven c v) given_of before
    (All-weaker (GivenHolds c v) (IsGivenHere c v) (λ f given. given.given) before all)) has

apart : (c : Candidate) (v : Valuation) → Agrees c v → (before : List Found) (g : Given) → All (GivenHolds c v) before →
    IsField c v g → (is_valued g.goal && contradicts before g.goal g.value) ≡ false
apart c v m before g all counts =
    both_false (is_valued g.goal) (contradicts before g.goal g.value) (λ valued.
    no_other g.value (first_value before g.goal) (λ x is.
    let (h, has, same, value) = first_had before g.goal x is in
    let equal : h.goal ≡ g.goal = equal_goals h.goal g.goal same in
    let first : v g.goal ≡ Some h.value = ap v (sym equal)
    ∙ value_given c v m h (given_at c v before h all has) (ap is_valued equal ∙ valued) in
    let now : v g.goal ≡ Some g.value = m.one_value g counts valued in
    cc))

holds_keeping : (c : Candidate) (v : Valuation) → Agrees c v →
    Keeping c (λ found. All (GivenHolds c v) found) (IsField c v)
holds_keeping c v m = record {
  one = λ own before g here counts.
      All-push (GivenHolds c v) before (judged c own before g) here (record {
        given = inr counts;
        holds = holds_from c before g.goal g.value (apart c v m before g here counts)
            (holds_by c g.goal g.value (m.met g counts));
      });
  opened = λ before g here counts. opened_counts c v m.one_value before g counts g.goal refl;
}

not_refused : (own : Bool) (v : Verdict) → v ≡ Holds → (own && is_refused_verdict v) ≡ false
not_refused true v e = ap is_refused_verdict e
not_refused false v e = refl

not_unmet : (own : Bool) (v : Verdict) → v ≡ Holds → (is_absent_verdict v || (not own && is_refused_verdict v)) ≡ false
not_unmet true v e = rw e refl
not_unmet false v e = rw e refl

none_refused : (fs : List Found) → All Holding fs → list_any is_refused_here fs ≡ false
none_refused fs all = list_any_none is_refused_here fs
    (All-weaker Holding (λ (f : Found). is_refused_here f ≡ false)
    (λ f holds. not_refused f.own f.verdict holds) fs all)

none_unmet : (fs : List Found) → All Holding fs → list_any is_unmet fs ≡ false
none_unmet fs all = list_any_none is_unmet fs
    (All-weaker Holding (λ (f : Found). is_unmet f ≡ false) (λ f holds. not_unmet f.own f.verdict holds) fs all)

none_off : (place : ℕ) (fs : List Found) → All Holding fs → list_any (is_refused_target place) fs ≡ false
none_off place fs all =
    list_any_none (is_refused_target place) fs (All-weaker Holding (λ (f : Found). is_refused_target place f ≡ false)
    (λ f holds. ap (λ b. b && is_in_section place f.goal) (not_refused f.own f.verdict holds)) fs all)

own_target_none : (p r : Option Branch) (c : Candidate) (here : List Found) → All Holding here →
    differs_in_own_target p r c here ≡ false
own_target_none (Some a) (Some b) c here all = none_off c.place here all
own_target_none None r c here all = refl
own_target_none (Some a) None c here all = refl

no_kind : (c : Candidate) (here : List Found) (pair : Pair) →
    Alike c pair (direct_branch pair.pre) (direct_branch pair.run) → All Holding here → kind_of c here pair ≡ None
unfolding kind_of
no_kind c here pair alike all =
    rw (
      alike.opcode,
      alike.operand,
      alike.landing,
      own_target_none (direct_branch pair.pre)
          (direct_branch pair.run) c here all,
      none_refused here all,
      none_unmet here all,
    ) refl

no_break : (c : Candidate) → IsWhole c → break_of c ≡ None
no_break c whole = rw (slice_get_past (kept_of (pre_list c)) (length (kept_of (run_list c))) (omega (arith, whole)))
    refl

none_differ : (c : Candidate) (v : Valuation) → Agrees c v → (before : List Found) (ps : List Pair) →
    All (GivenHolds c v) before → All (Contains (pairs c)) ps → All (Agree c) ps →
    difference_from c before ps ≡ None
unfolding difference_from
none_differ c v m before [] here has agree = no_break c m.whole
none_differ c v m before (pair ∷ ps) here has agree =
    let after = kept_by_pair c (λ found. All (GivenHolds c v) found) (IsField c v)
    (holds_keeping c v m) before pair here (fields_of_pair c v pair (All-head (Contains (pairs c)) pair ps has)) in
    let hold = All-weaker (GivenHolds c v) Holding (λ f given. given.holds) (found_in c before pair)
    (behind (GivenHolds c v) before (found_in c before pair) after) in
    rw (no_kind c (found_in c before pair) pair (alike c pair (All-head (Agree c) pair ps agree)) hold)
    (none_differ c v m (before ++ found_in c before pair) ps after (All-tail (Contains (pairs c)) pair ps has)
    (All-tail (Agree c) pair ps agree))

-- where all agrees under a valuation, a candidate comes to a match
pub comes : (c : Candidate) (v : Valuation) → Agrees c v → (m : Matched) × (outcome c ≡ Ok m)
unfolding outcome
comes c v m = (
  matched_by c (statements c (all_found c)),
  ap (λ o. matched_unless o (matched_by c (statements c (all_found c))))
      (none_differ c v m (own_home c ∷ []) (pairs c)
      (All-cons (GivenHolds c v) (own_home c) [] (record { given = inl refl; holds = refl }) (All-nil (GivenHolds c v)))
      (All-contains_itself (pairs c)) m.code),
)

-- The first values make it a match, where it comes to one.
kept_few : (n : ℕ) (is : List Instruction) → length (kept_of (through_kept n is)) ≤ n
unfolding through_kept
kept_few zero is = omega arith
kept_few (suc n) [] = omega arith
kept_few (suc n) (i ∷ is) =
    let fewer = kept_few n is in
    let few = kept_few (suc n) is in
    elim i.kept as (λ b. length (cond b (i ∷ kept_of (through_kept (cond b n (suc n)) is))
    (kept_of (through_kept (cond b n (suc n)) is))) ≤ suc n) [ true ↦ omega (arith, fewer) | false ↦ few ]

past : {X : Type 0} (xs : List X) (i : ℕ) → slice_get xs i ≡ None → length xs ≤ i
past [] i none = omega arith
past (x ∷ xs) zero none = absurd cc
past (x ∷ xs) (suc i) none = let rest = past xs i none in omega (arith, rest)

not_broken : (c : Candidate) (before : List Found) (ps : List Pair) → difference_from c before ps ≡ None →
    break_of c ≡ None
unfolding difference_from
not_broken c before [] none = none
not_broken c before (pair ∷ ps) none =
    not_broken c (before ++ found_in c before pair) ps
    (neither (option_map (difference_at pair) (kind_of c (found_in c before pair) pair))
    (difference_from c (before ++ found_in c before pair) ps) none).1

is_whole : (c : Candidate) → difference_from c (own_home c ∷ []) (pairs c) ≡ None → IsWhole c
is_whole c none =
    let far = past (kept_of (pre_list c)) (length (kept_of (run_list c)))
    (unmapped_none (break_before c (end_of c.base (run_list c)))
    (slice_get (kept_of (pre_list c)) (length (kept_of (run_list c))))
    (not_broken c (own_home c ∷ []) (pairs c) none)) in
    let few = kept_few (length (kept_of (pre_list c))) (run_code c.contents c.base) in
    omega (arith, far, few)

all_agree : (c : Candidate) → IsWhole c → (before : List Found) (ps : List Pair) → difference_from c before ps ≡ None →
    All (Agree c) ps
unfolding difference_from
all_agree c whole before [] none = All-nil (Agree c)
all_agree c whole before (pair ∷ ps) none =
    let both = neither (option_map (difference_at pair) (kind_of c (found_in c before pair) pair))
    (difference_from c (before ++ found_in c before pair) ps) none in
    let kind = by_no_kind c (found_in c before pair) pair
    (unmapped_none (difference_at pair) (kind_of c (found_in c before pair) pair) both.0) in
    All-cons (Agree c) pair ps (agrees c pair whole
    (record { opcode = kind.opcode; operand = kind.operand; landing = kind.landing }))
    (all_agree c whole (before ++ found_in c before pair) ps both.1)

field_had : (c : Candidate) → difference_from c (own_home c ∷ []) (pairs c) ≡ None → (field : Given) →
    IsField c (first_value (all_found c)) field → Has (all_found c) field
field_had c none field (InCode pair r in_pairs in_pair) =
    All-contains (λ (r : Ref). Has (all_found c) (given_in_pair c pair r)) pair.pre.references r
    (unmapped (Has (all_found c)) (given_in_pair c pair) pair.pre.references
    (All-contains (λ (pair : Pair). All (Has (all_found c)) (givens c pair)) (pairs c) pair
    (has_pairs c (own_home c ∷ []) (pairs c)) in_pairs)) in_pair
field_had c none field (InConstant by place base section r counts goes value at in_section) =
    All-contains (λ (r : Ref). Has (all_found c) (given_in_constant c base r)) section.refs r
    (constants_had c place base section none value at) in_section

meant_by : (c : Candidate) (v : Valuation) (g : Given) (goal : Goal) → g.goal ≡ goal → IsGiven c v g →
    (goal ≡ Entry c.place) ⊎ IsMeant c v goal
meant_by c v g goal same (inl home) = inl (sym same ∙ ap (λ (g : Given). g.goal) home)
meant_by c v g goal same (inr counts) = inr (record { field = g; counts = counts; goes_there = same })

pub matches : (c : Candidate) → difference_from c (own_home c ∷ []) (pairs c) ≡ None →
    Match c (first_value (all_found c))
matches c none =
    let v : Valuation = first_value (all_found c) in
    let stand : All (StandsIn c (all_found c)) (all_found c) = all_found_stand c none in
    let whole : IsWhole c = is_whole c none in
    let one : GivesOne c v = λ field counts valued.
    (stands_at c (all_found c) field stand (field_had c none field counts)).first valued in
    record {
      whole = whole;
      code = all_agree c whole (own_home c ∷ []) (pairs c) none;
      home = home_first c;
      one_value = one;
      no_more = λ goal value is.
          let (g, has, same, eq) = first_had (all_found c) goal value is in (
            same_valued g.goal goal same,
            meant_by c v g goal (equal_goals g.goal goal same)
                (All-contains (IsGiven c v) (map given_of (all_found c)) g
                (All-map (IsGiven c v) given_of (all_found c) (all_given c v one)) has),
          );
      met = λ field counts. met_by c whole field.goal field.value
          (stands_at c (all_found c) field stand (field_had c none field counts)).alone;
    }
