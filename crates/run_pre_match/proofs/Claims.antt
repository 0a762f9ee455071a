-- Where a candidate matches, each claim says the value of what it speaks of.
use Rattle.std.proofs.Common.{◌≡◌, ℕ, zero, suc, ◌+◌, Bool, true, false, not, ◌&&◌, ◌||◌, cond, List, [], ◌∷◌, ◌++◌}
use Rattle.std.proofs.Common.{map, length, Option, Some, None, is_some, IsSome, option_map, All, refl, sym, ◌∙◌, ap}
use Rattle.std.proofs.Common.{subst, arith, Ok}
use Rattle.std.specs.Option.{option_or}
use Rattle.std.specs.List.{Contains, IsDistinct, AllByRecursion, slice_get, cons_option, filter_map, flat_map, find}
use Rattle.std.specs.List.{list_any}
use Rattle.std.specs.Cmp.Lexicographic.{nat_list_eq_equiv}
use Rattle.std.proofs.lemmas.Bool.{or_parts, eq-eqb}
use Rattle.std.proofs.lemmas.List.Elements.{All-nil, All-cons, All-head, All-tail, All-weaker, All-append, All-map}
use Rattle.std.proofs.lemmas.List.Elements.{All-contains}
use Rattle.ks_base.specs.declared.refusals.Difference.{Difference}
use Rattle.ks_base.specs.declared.refusals.DifferenceKind.TheVariants.{Opcode, Operand, Target, Value, Content}
use Rattle.i386_reloc.specs.Classes.{is_code_class}
use Rattle.i386_reloc.specs.Reaches.{is_read_only_class, is_interior}
use Rattle.i386_reloc.specs.Normal.{same_bytes, name_of}
use Rattle.i386_reloc.specs.Places.{place_named, place_of_target}
use Rattle.i386_reloc.specs.declared.types.Ref.{Ref}
use Rattle.i386_reloc.specs.declared.types.NormalSection.{NormalSection}
use Rattle.i386_reloc.specs.declared.types.Target.{Target as Kind}
use Rattle.i386_reloc.specs.declared.types.Target.TheVariants as target
use Rattle.symbol_table.specs.declared.values.Unknown.{Unknown}
use Rattle.run_pre_match.specs.declared.goals.Goal.{Goal}
use Rattle.run_pre_match.specs.declared.goals.Goal.TheVariants.{Entry, Inside, Variable, Constant, Outside, Text}
use Rattle.run_pre_match.specs.declared.goals.Given.{Given}
use Rattle.run_pre_match.specs.declared.goals.Verdict.{Verdict}
use Rattle.run_pre_match.specs.declared.goals.Verdict.TheVariants.{Holds, Refused, Absent}
use Rattle.run_pre_match.specs.declared.types.Claim.{Claim}
use Rattle.run_pre_match.specs.declared.types.Matched.{Matched}
use Rattle.match_instructions.specs.Instructions.{direct_branch}
use Rattle.match_instructions.specs.Landing.{interior_offset}
use Rattle.run_pre_match.specs.Goals.{goal_in_code, goal_at_place, goal_to, same_goal}
use Rattle.match_constants.specs.Constants.{constant_at, is_byte_or_field}
use Rattle.run_pre_match.specs.Candidate.{Candidate, Pair, pairs}
use Rattle.run_pre_match.specs.Found.{Found, is_for, value_of, first_value, section_stands, section_lies, verdict_on}
use Rattle.run_pre_match.specs.Found.{given_in_pair, given_in_constant, found_in, found_from, own_home, all_found}
use Rattle.run_pre_match.specs.Differences.{differs_in_opcode, differs_in_operand, differs_in_landing}
use Rattle.run_pre_match.specs.Differences.{differs_in_own_target, is_refused_verdict, is_absent_verdict}
use Rattle.run_pre_match.specs.Differences.{is_refused_here, is_unmet, is_there, kind_in, kind_of, difference_at}
use Rattle.run_pre_match.specs.Differences.{difference_from}
use Rattle.run_pre_match.specs.Matched.{Statement, stated_in_pair, stated_by_pair, stated_in_constant, stated_at}
use Rattle.run_pre_match.specs.Matched.{stated_from, statements, name_in, name_at, unknown_of, claim_about, claim_of}
use Rattle.run_pre_match.specs.Matched.{home_claim, matched_by, matched_unless, outcome}
use Rattle.run_pre_match.specs.Match.{is_valued}
use Rattle.match_constants.specs.laws.BelowLaws.{all_below_at, all_below_from}
use Rattle.run_pre_match.proofs.Stepwise.{given_of, givens, kept_by_pairs}
use Rattle.run_pre_match.proofs.FirstValues.{Holding, Stands, StandsIn, AllStand, Anything, stands_keeping, home_stands}
use Rattle.run_pre_match.proofs.Opened.{Has, has_right, has_head, has_pairs, all_opened}
use Rattle.run_pre_match.proofs.Opened.{home_opened}
use Rattle.run_pre_match.proofs.GoalLaws.{equal_goals}
use Rattle.run_pre_match.proofs.ListParts.{unmapped, all_flat}
use Rattle.run_pre_match.proofs.MetLaws.{not_absent}
use Rattle.run_pre_match.proofs.KeptLaws.{first_stays}

by_difference : (o : Option Difference) (found m : Matched) → matched_unless o found ≡ Ok m → (o ≡ None) × (m ≡ found)
by_difference None found m is = (refl, cc)
by_difference (Some d) found m is = absurd cc

-- a candidate that comes to a match has no difference
pub no_difference : (c : Candidate) (m : Matched) → outcome c ≡ Ok m →
    (difference_from c (own_home c ∷ []) (pairs c) ≡ None) × (m ≡ matched_by c (statements c (all_found c)))
unfolding outcome
no_difference c m is = by_difference (difference_from c (own_home c ∷ []) (pairs c))
    (matched_by c (statements c (all_found c))) m is

no_kind : (a b d e f : Bool) → option_map kind_in
    (find is_there ((a, Opcode) ∷ (b, Operand) ∷ (d, Target) ∷ (e, Value) ∷ (f, Content) ∷ [])) ≡ None →
    (a ≡ false) × (b ≡ false) × (d ≡ false) × (e ≡ false) × (f ≡ false)
no_kind true b d e f is = absurd cc
no_kind false true d e f is = absurd cc
no_kind false false true e f is = absurd cc
no_kind false false false true f is = absurd cc
no_kind false false false false true is = absurd cc
no_kind false false false false false is = (refl, refl, refl, refl, refl)

-- where a pair doesn't differ
pub record NoKind (c : Candidate) (here : List Found) (pair : Pair) : Type 0 where
  pub opcode : differs_in_opcode (direct_branch pair.pre) (direct_branch pair.run) pair ≡ false
  pub operand : differs_in_operand (direct_branch pair.pre) (direct_branch pair.run) pair ≡ false
  pub landing : differs_in_landing (direct_branch pair.pre) (direct_branch pair.run) c pair ≡ false
  pub refused : list_any is_refused_here here ≡ false
  pub unmet : list_any is_unmet here ≡ false

pub by_no_kind : (c : Candidate) (here : List Found) (pair : Pair) → kind_of c here pair ≡ None → NoKind c here pair
unfolding kind_of
by_no_kind c here pair none =
    let (opcode, operand, target, refused, unmet) = no_kind
    (differs_in_opcode (direct_branch pair.pre) (direct_branch pair.run) pair)
    (differs_in_operand (direct_branch pair.pre) (direct_branch pair.run) pair)
    (differs_in_landing (direct_branch pair.pre) (direct_branch pair.run) c pair || differs_in_own_target
    (direct_branch pair.pre) (direct_branch pair.run) c here)
    (list_any is_refused_here here) (list_any is_unmet here) none in
    record { opcode = opcode; operand = operand; landing = (or_parts _ _ target).0; refused = refused; unmet = unmet }

pub none_pass : {X : Type 0} (p : X → Bool) (xs : List X) → list_any p xs ≡ false → All (λ x. p x ≡ false) xs
none_pass p [] e = All-nil (λ x. p x ≡ false)
none_pass p (x ∷ xs) e = let both = or_parts (p x) (list_any p xs) e in
    All-cons (λ x. p x ≡ false) x xs both.0 (none_pass p xs both.1)

holding_by : (own : Bool) (v : Verdict) → (own && is_refused_verdict v) ≡ false →
    (is_absent_verdict v || (not own && is_refused_verdict v)) ≡ false → v ≡ Holds
holding_by own Holds a b = refl
holding_by true Refused a b = absurd cc
holding_by false Refused a b = absurd cc
holding_by own Absent a b = absurd cc

holding : (fs : List Found) → All (λ f. is_refused_here f ≡ false) fs → All (λ f. is_unmet f ≡ false) fs →
    All Holding fs
holding [] a b = All-nil Holding
holding (f ∷ fs) a b =
    All-cons Holding f fs
    (holding_by f.own f.verdict (All-head (λ (f : Found). is_refused_here f ≡ false) f fs a)
    (All-head (λ (f : Found). is_unmet f ≡ false) f fs b))
    (holding fs (All-tail (λ (f : Found). is_refused_here f ≡ false) f fs a)
    (All-tail (λ (f : Found). is_unmet f ≡ false) f fs b))

pub neither : {X : Type 0} (o p : Option X) → option_or o p ≡ None → (o ≡ None) × (p ≡ None)
neither None p e = (refl, e)
neither (Some x) p e = absurd cc

pub unmapped_none : {X Y : Type 0} (f : X → Y) (o : Option X) → option_map f o ≡ None → o ≡ None
unmapped_none f None e = refl
unmapped_none f (Some x) e = absurd cc

pub all_hold : (c : Candidate) (before : List Found) (pairs : List Pair) → difference_from c before pairs ≡ None →
    All Holding before → All Holding (found_from c before pairs)
unfolding difference_from found_from
all_hold c before [] none here = here
all_hold c before (pair ∷ pairs) none here =
    let both = neither (option_map (difference_at pair) (kind_of c (found_in c before pair) pair))
    (difference_from c (before ++ found_in c before pair) pairs) none in
    let no = by_no_kind c (found_in c before pair) pair
    (unmapped_none (difference_at pair) (kind_of c (found_in c before pair) pair) both.0) in
    all_hold c (before ++ found_in c before pair) pairs both.1
    (All-append Holding before (found_in c before pair) here
    (holding (found_in c before pair) (none_pass is_refused_here (found_in c before pair) no.refused)
    (none_pass is_unmet (found_in c before pair) no.unmet)))

-- all that is found holds, where there is no difference
pub all_found_hold : (c : Candidate) → difference_from c (own_home c ∷ []) (pairs c) ≡ None → All Holding (all_found c)
all_found_hold c none = all_hold c (own_home c ∷ []) (pairs c) none
    (All-cons Holding (own_home c) [] refl (All-nil Holding))

pub all_found_stand : (c : Candidate) → difference_from c (own_home c ∷ []) (pairs c) ≡ None →
    All (StandsIn c (all_found c)) (all_found c)
all_found_stand c none =
    kept_by_pairs c (AllStand c) Anything (stands_keeping c) (own_home c ∷ []) (pairs c) (home_stands c)
    (anything (pairs c)) (all_found_hold c none)
  where
    anything : (ps : List Pair) → All (λ pair. All Anything (givens c pair)) ps
    anything ps = λ k d lt i e small. tt

-- what is had stands
pub stands_at : (c : Candidate) (found : List Found) (g : Given) → All (StandsIn c found) found → Has found g →
    Stands c found g
stands_at c found g all has = All-contains (Stands c found) (map given_of found) g
    (All-map (Stands c found) given_of found all) has

-- the goal of a first value is had
abbrev pub IsHadAs : List Found → Goal → ℕ → Type 0
IsHadAs found goal x = (g : Given) × Has found g × (same_goal g.goal goal ≡ true) × (g.value ≡ x)

had_at : (f : Found) (fs : List Found) (goal : Goal) (x : ℕ) (b : Bool) → same_goal f.goal goal ≡ b →
    (first_value fs goal ≡ Some x → IsHadAs fs goal x) →
    option_map value_of (cond b (Some f) (find (is_for goal) fs)) ≡ Some x → IsHadAs (f ∷ fs) goal x
had_at f fs goal x true same rest is = (given_of f, has_head f fs (given_of f) refl, same, cc)
had_at f fs goal x false other rest is = let (g, has, same, value) = rest is in
    (g, has_right (f ∷ []) fs g has, same, value)

pub first_had : (found : List Found) (goal : Goal) (x : ℕ) → first_value found goal ≡ Some x → IsHadAs found goal x
first_had [] goal x is = absurd cc
first_had (f ∷ fs) goal x is = had_at f fs goal x (same_goal f.goal goal) refl (first_had fs goal x) is

-- a section lies where it stands
byte_there : (refs : List Ref) (bytes : List ℕ) (i : ℕ) (o : Option ℕ) → is_byte_or_field refs bytes i o ≡ true →
    is_some o ≡ true
byte_there refs bytes i None e = absurd cc
byte_there refs bytes i (Some byte) e = refl

pub stands_lies : (c : Candidate) (base : ℕ) (section : NormalSection) → section_stands c base (Some section) ≡ true →
    section_lies c base (Some section) ≡ true
stands_lies c base section stands =
    all_below_from (λ i. is_some (constant_at c.contents.pieces (base + i))) (length section.bytes) (λ i lt.
    byte_there section.refs section.bytes i (constant_at c.contents.pieces (base + i))
    (all_below_at (λ i. is_byte_or_field section.refs section.bytes i (constant_at c.contents.pieces (base + i)))
    (length section.bytes) i stands lt))

-- a section that has a value stands there
pub first_stands : (c : Candidate) (found : List Found) (place base : ℕ) → All (StandsIn c found) found →
    first_value found (Constant place) ≡ Some base → section_stands c base (slice_get c.object place) ≡ true
first_stands c found place base all is =
    let (g, has, same, value) = first_had found (Constant place) base is in
    let stands = stands_at c found g all has in
    let alone : verdict_on c [] (Constant place) base ≡ Holds =
    ap (verdict_on c [] (Constant place)) (sym value)
    ∙ ap (λ goal. verdict_on c [] goal g.value) (sym (equal_goals g.goal (Constant place) same)) ∙ stands.alone in
    not_absent (section_stands c base (slice_get c.object place)) alone

pub constants_had : (c : Candidate) (place base : ℕ) (section : NormalSection) →
    difference_from c (own_home c ∷ []) (pairs c) ≡ None →
    first_value (all_found c) (Constant place) ≡ Some base → slice_get c.object place ≡ Some section →
    All (λ r. Has (all_found c) (given_in_constant c base r)) section.refs
constants_had c place base section none is at =
    let stands = first_stands c (all_found c) place base (all_found_stand c none) is in
    all_opened c (own_home c ∷ []) (pairs c) (home_opened c) place base section is at
    (stands_lies c base section (rw at at stands))

-- entries and variables are sections of the object
abbrev pub IsPlaced : List NormalSection → Goal → Type 0
IsPlaced object (Entry place) = IsSome (slice_get object place)
IsPlaced object (Variable place) = IsSome (slice_get object place)
IsPlaced object (Constant place) = Unit {0}
IsPlaced object (Inside place offset) = Unit {0}
IsPlaced object (Outside name) = Unit {0}
IsPlaced object (Text place offset text) = Unit {0}

placed_in_code : (object : List NormalSection) (r : Ref) (place : ℕ) (b : Bool) → IsSome (slice_get object place) →
    IsPlaced object (cond b (Inside place (interior_offset r)) (Entry place))
placed_in_code object r place true some = tt
placed_in_code object r place false some = some

placed_in_section : (object : List NormalSection) (r : Ref) (place : ℕ) (code constant : Bool) →
    IsSome (slice_get object place) → IsPlaced object
    (cond code (goal_in_code r place) (cond constant (Constant place) (Variable place)))
placed_in_section object r place true constant some = placed_in_code object r place (is_interior r) some
placed_in_section object r place false true some = tt
placed_in_section object r place false false some = some

placed_at : (object : List NormalSection) (r : Ref) (name : List ℕ) (place : ℕ) (o : Option NormalSection) →
    slice_get object place ≡ o → IsPlaced object (goal_at_place r name place o)
placed_at object r name place None at = tt
placed_at object r name place (Some section) at =
    placed_in_section object r place (is_code_class section.class) (is_read_only_class section.class)
    (subst (λ (o : Option NormalSection). IsSome o) (sym at) refl)

pub placed_to : (object : List NormalSection) (r : Ref) (place : Option ℕ) (t : Kind) →
    IsPlaced object (goal_to object r place t)
placed_to object r place (target.Outside name) = tt
placed_to object r place (target.Text name offset text) = tt
placed_to object r None (target.Section name) = tt
placed_to object r (Some place) (target.Section name) = placed_at object r name place (slice_get object place) refl

-- what fields say is had, and speaks of sections of the object
pub record IsHad (c : Candidate) (found : List Found) (s : Statement) : Type 0 where
  pub has : Has found s.given
  pub placed : IsPlaced c.object s.given.goal

pub all_stated : (P : Statement → Type 0) (c : Candidate) (found : List Found) (place : ℕ)
    (sections : List NormalSection) →
    ((k : ℕ) (section : NormalSection) → slice_get sections k ≡ Some section →
    All P (stated_at c section (first_value found (Constant (k + place))))) →
    All P (stated_from c found place sections)
unfolding stated_from
all_stated P c found place [] each = All-nil P
all_stated P c found place (section ∷ sections) each =
    All-append P (stated_at c section (first_value found (Constant place))) (stated_from c found (suc place) sections)
    (let zeroth : 0 + place ≡ place = omega arith in
    subst (λ (n : ℕ). All P (stated_at c section (first_value found (Constant n)))) zeroth (each 0 section refl))
    (all_stated P c found (suc place) sections (λ k s at.
    let next : suc k + place ≡ k + suc place = omega arith in
    subst (λ (n : ℕ). All P (stated_at c s (first_value found (Constant n)))) next (each (suc k) s at)))

stated_had : (c : Candidate) (section : NormalSection) (place : ℕ) (o : Option ℕ) →
    difference_from c (own_home c ∷ []) (pairs c) ≡ None → slice_get c.object place ≡ Some section →
    first_value (all_found c) (Constant place) ≡ o → All (IsHad c (all_found c)) (stated_at c section o)
stated_had c section place None none at is = All-nil (IsHad c (all_found c))
stated_had c section place (Some base) none at is =
    All-map (IsHad c (all_found c)) (stated_in_constant c section base) section.refs
    (All-weaker (λ (r : Ref). Has (all_found c) (given_in_constant c base r))
    (λ (r : Ref). IsHad c (all_found c) (stated_in_constant c section base r))
    (λ r has. record { has = has; placed = placed_to c.object r (place_of_target c.object r.target) r.target })
    section.refs
    (constants_had c place base section none is at))

-- all that fields say is had
pub all_had : (c : Candidate) → difference_from c (own_home c ∷ []) (pairs c) ≡ None →
    All (IsHad c (all_found c)) (statements c (all_found c))
all_had c none =
    All-append (IsHad c (all_found c)) (flat_map (stated_by_pair c) (pairs c)) (stated_from c (all_found c) 0 c.object)
    (all_flat (IsHad c (all_found c)) (stated_by_pair c) (pairs c)
    (All-weaker (λ (pair : Pair). All (Has (all_found c)) (givens c pair))
    (λ (pair : Pair). All (IsHad c (all_found c)) (stated_by_pair c pair))
    (λ pair all. All-map (IsHad c (all_found c)) (stated_in_pair c pair) pair.pre.references
    (All-weaker (λ (r : Ref). Has (all_found c) (given_in_pair c pair r))
    (λ (r : Ref). IsHad c (all_found c) (stated_in_pair c pair r))
    (λ r has. record { has = has; placed = placed_to c.object r (place_of_target c.object r.target) r.target })
    pair.pre.references
    (unmapped (Has (all_found c)) (given_in_pair c pair) pair.pre.references all)))
    (pairs c) (has_pairs c (own_home c ∷ []) (pairs c))))
    (all_stated (IsHad c (all_found c)) c (all_found c) 0 c.object (λ k section at.
    let same : k ≡ k + 0 = omega arith in
    stated_had c section (k + 0) (first_value (all_found c) (Constant (k + 0))) none
    (subst (λ (n : ℕ). slice_get c.object n ≡ Some section) same at) refl))

-- a claim says the value of a goal of which it speaks
pub record Claimed (c : Candidate) (found : List Found) (claim : Claim) : Type 0 where
  pub goal : Goal
  pub speaks : unknown_of c goal ≡ Some claim.unknown
  pub first : first_value found goal ≡ Some claim.value
  pub placed : IsPlaced c.object goal

speaks_of : (c : Candidate) (goal : Goal) (u : Unknown) → unknown_of c goal ≡ Some u → is_valued goal ≡ true
speaks_of c (Entry place) u is = refl
speaks_of c (Variable place) u is = refl
speaks_of c (Outside name) u is = refl
speaks_of c (Constant place) u is = absurd cc
speaks_of c (Inside place offset) u is = absurd cc
speaks_of c (Text place offset text) u is = absurd cc

claimed_at : (c : Candidate) (found : List Found) → All (StandsIn c found) found → (s : Statement) → IsHad c found s →
    (o : Option Unknown) → unknown_of c s.given.goal ≡ o → (claims : List Claim) →
    All (Claimed c found) claims → All (Claimed c found) (cons_option (option_map (claim_about s) o) claims)
claimed_at c found stand s here None is claims rest = rest
claimed_at c found stand s here (Some u) is claims rest =
    All-cons (Claimed c found) (claim_about s u) claims
    (record {
      goal = s.given.goal;
      speaks = is;
      first =
          (stands_at c found s.given stand here.has).first (speaks_of c s.given.goal u is);
      placed = here.placed;
    }) rest

all_claimed : (c : Candidate) (found : List Found) → All (StandsIn c found) found → (said : List Statement) →
    All (IsHad c found) said → All (Claimed c found) (filter_map (claim_of c) said)
all_claimed c found stand [] had = All-nil (Claimed c found)
all_claimed c found stand (s ∷ said) had =
    claimed_at c found stand s (All-head (IsHad c found) s said had) (unknown_of c s.given.goal) refl
    (filter_map (claim_of c) said)
    (all_claimed c found stand said (All-tail (IsHad c found) s said had))

kept_home : (c : Candidate) (before : List Found) (ps : List Pair) → first_value before (Entry c.place) ≡ Some c.home →
    first_value (found_from c before ps) (Entry c.place) ≡ Some c.home
unfolding found_from
kept_home c before [] is = is
kept_home c before (pair ∷ ps) is = kept_home c (before ++ found_in c before pair) ps
    (first_stays before (found_in c before pair) (Entry c.place) c.home is)

-- the own home is the first value of the own entry
pub home_first : (c : Candidate) → first_value (all_found c) (Entry c.place) ≡ Some c.home
home_first c = kept_home c (own_home c ∷ []) (pairs c) (rw (eq-eqb c.place c.place refl) refl)

home_claimed : (c : Candidate) → slice_get c.object c.place ≡ Some c.section → Claimed c (all_found c) (home_claim c)
home_claimed c at = record {
  goal = Entry c.place;
  speaks = rw at refl;
  first = home_first c;
  placed = subst (λ (o : Option NormalSection). IsSome o) (sym at) refl;
}

-- each claim of a match says the first value of what it speaks of
pub claimed : (c : Candidate) (m : Matched) → slice_get c.object c.place ≡ Some c.section → outcome c ≡ Ok m →
    All (Claimed c (all_found c)) m.claims
claimed c m at is =
    let (none, same) = no_difference c m is in
    subst (λ (m : Matched). All (Claimed c (all_found c)) m.claims) (sym same)
    (All-cons (Claimed c (all_found c)) (home_claim c) (filter_map (claim_of c) (statements c (all_found c)))
    (home_claimed c at)
    (all_claimed c (all_found c) (all_found_stand c none) (statements c (all_found c)) (all_had c none)))

-- where names are distinct, a section stands at the place of its name
pub name_apart : (name : List ℕ) (sections : List NormalSection) →
    AllByRecursion (λ other. same_bytes name other ≡ false) (map name_of sections) → (i : ℕ) (s : NormalSection) →
    slice_get sections i ≡ Some s → same_bytes name s.name ≡ false
name_apart name [] others i s at = absurd cc
name_apart name (x ∷ xs) others zero s at = let e : x ≡ s = cc in rw (← e) others.0
name_apart name (x ∷ xs) others (suc i) s at = name_apart name xs others.1 i s at

pub placed : (sections : List NormalSection) → IsDistinct same_bytes (map name_of sections) →
    (i : ℕ) (s : NormalSection) → slice_get sections i ≡ Some s → place_named sections s.name ≡ Some i
unfolding IsDistinct
placed [] distinct i s at = absurd cc
placed (x ∷ xs) distinct zero s at = let e : x ≡ s = cc in rw (← e) (rw (nat_list_eq_equiv.refl x.name) refl)
placed (x ∷ xs) distinct (suc i) s at = rw (name_apart x.name xs distinct.0 i s at, placed xs distinct.1 i s at) refl

by_name : (object : List NormalSection) (i j : ℕ) (o p : Option NormalSection) →
    IsDistinct same_bytes (map name_of object) → slice_get object i ≡ o → slice_get object j ≡ p → IsSome o → IsSome p →
    name_in o ≡ name_in p → i ≡ j
by_name object i j None p distinct at_i at_j some_i some_j same = absurd cc
by_name object i j (Some s) None distinct at_i at_j some_i some_j same = absurd cc
by_name object i j (Some s) (Some t) distinct at_i at_j some_i some_j same =
    let first : place_named object s.name ≡ Some i = placed object distinct i s at_i in
    let second : place_named object s.name ≡ Some j = ap (place_named object) same ∙ placed object distinct j t at_j in
    cc

named_one : (c : Candidate) (i j : ℕ) → IsDistinct same_bytes (map name_of c.object) → IsSome (slice_get c.object i) →
    IsSome (slice_get c.object j) → name_at c i ≡ name_at c j → i ≡ j
named_one c i j distinct some_i some_j same =
    by_name c.object i j (slice_get c.object i) (slice_get c.object j) distinct refl refl some_i some_j same

-- goals of which one thing is said are one
pub one_goal : (c : Candidate) → IsDistinct same_bytes (map name_of c.object) → (a b : Goal) (u : Unknown) →
    unknown_of c a ≡ Some u → unknown_of c b ≡ Some u → IsPlaced c.object a → IsPlaced c.object b → a ≡ b
one_goal c distinct (Entry i) (Entry j) u is_a is_b at_a at_b =
    ap (λ (n : ℕ). Entry n) (named_one c i j distinct at_a at_b cc)
one_goal c distinct (Variable i) (Variable j) u is_a is_b at_a at_b =
    ap (λ (n : ℕ). Variable n) (named_one c i j distinct at_a at_b cc)
one_goal c distinct (Outside m) (Outside n) u is_a is_b at_a at_b = ap (λ (name : List ℕ). Outside name) cc
one_goal c distinct a b u is_a is_b at_a at_b = absurd cc

-- claims of one thing say one value
pub claims_agree : (c : Candidate) (m : Matched) → slice_get c.object c.place ≡ Some c.section →
    IsDistinct same_bytes (map name_of c.object) → outcome c ≡ Ok m →
    (a b : Claim) → Contains m.claims a → Contains m.claims b → a.unknown ≡ b.unknown → a.value ≡ b.value
claims_agree c m at distinct is a b has_a has_b same =
    let all = claimed c m at is in
    let x = All-contains (Claimed c (all_found c)) m.claims a all has_a in
    let y = All-contains (Claimed c (all_found c)) m.claims b all has_b in
    let one : x.goal ≡ y.goal = one_goal c distinct x.goal y.goal a.unknown x.speaks
    (y.speaks ∙ ap (λ (u : Unknown). Some u) (sym same)) x.placed y.placed in
    let first : first_value (all_found c) x.goal ≡ Some b.value = ap (first_value (all_found c)) one ∙ y.first in
    let here = x.first in
    cc

-- the own home is the first claim
pub home_first_claim : (c : Candidate) (m : Matched) → outcome c ≡ Ok m → slice_get m.claims 0 ≡ Some (home_claim c)
home_first_claim c m is = ap (λ (m : Matched). slice_get m.claims 0) (no_difference c m is).1
