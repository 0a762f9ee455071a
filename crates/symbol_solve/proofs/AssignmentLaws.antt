-- Solutions are what assignments solve an object by.
use Rattle.std.proofs.Common.{◌≡◌, inl, inr, ℕ, Bool, true, false, not, ◌&&◌, ◌||◌, eqb, cond, List, [], ◌∷◌, map}
use Rattle.std.proofs.Common.{Option, Some, None, Ok, option_map, Contains, refl, sym, ap, subst, ◌∙◌}
use Rattle.std.specs.Prelude.{◌≢◌, ◌↔◌, Result}
use Rattle.std.specs.List.{All, AllZip, IsDistinct, find, flat_map, list_any, slice_get}
use Rattle.std.specs.Cmp.Lexicographic.{bytes_decides}
use Rattle.std.proofs.lemmas.Bool.{cases_Bool, cases_eq, eq-eqb, eqb-true, ne_eqb, false≢true, false_from_ne_true, or_parts}
use Rattle.std.proofs.lemmas.Cmp.{nat_list_eq_equiv}
use Rattle.std.proofs.lemmas.Option.{same_Some}
use Rattle.i386_reloc.specs.declared.types.NormalSection.{NormalSection}
use Rattle.i386_reloc.specs.Normal.{same_bytes, name_of}
use Rattle.i386_reloc.specs.Places.{place_named}
use Rattle.symbol_table.specs.declared.values.Unknown.{Unknown}
use Rattle.symbol_table.specs.Unknowns.{same_unknown}
use Rattle.run_pre_match.specs.declared.goals.Goal.{Goal}
use Rattle.run_pre_match.specs.declared.goals.Goal.TheVariants.{Inside}
use Rattle.run_pre_match.specs.declared.goals.Given.{Given}
use Rattle.run_pre_match.specs.declared.types.Claim.{Claim}
use Rattle.run_pre_match.specs.declared.types.Interior.{Interior}
use Rattle.run_pre_match.specs.declared.types.Matched.{Matched}
use Rattle.run_pre_match.specs.declared.types.MatchFault.{MatchFault}
use Rattle.run_pre_match.specs.Candidate.{Candidate, same_number}
use Rattle.run_pre_match.specs.Goals.{interior_address}
use Rattle.run_pre_match.specs.Match.{Valuation, StandForOne, IsField, IsMet, Match, IsSaid, IsClaimed, IsNamed, Says}
use Rattle.run_pre_match.specs.Matched.{name_in, name_at, outcome}
use Rattle.match_candidates.specs.Candidates.{Running, candidates_of, candidates, code_sections, is_match, matches}
use Rattle.symbol_solve.specs.Clashes.{claims_in, claims_of, interiors_in, interiors_of, contradict, is_unmet}
use Rattle.symbol_solve.specs.Clashes.{claims_clash, interiors_clash, clashes}
use Rattle.symbol_solve.specs.Solution.{IsChoice, IsSolution}
use Rattle.symbol_solve.specs.Assignment.{Assignment, IsOf, Gives, Fits, IsFitting, AreMet, IsGiven, Solves}
use Rattle.symbol_solve.proofs.AnsweredLaws.{matched_as}
use Rattle.symbol_solve.proofs.CandidateLaws.{IsHere, candidates_here}
use Rattle.symbol_solve.proofs.GoalLaws.{IsCodeAt, IsCodeGoal, field_code, known_of, of_known}
use Rattle.symbol_solve.proofs.LeftLaws.{place_of_distinct}
use Rattle.symbol_solve.proofs.MapLaws.{same_self}
use Rattle.symbol_solve.proofs.Members.{Has, has_of, contained, all_has, all_of, any_has, any_none, has_flat, flat_has}
use Rattle.symbol_solve.proofs.Members.{beside_right}
use Rattle.symbol_solve.proofs.NumberLaws.{one_unknown}
use Rattle.symbol_solve.proofs.SolutionLaws.{place_of, chosen_here, chosen_match, peace}
use Rattle.symbol_solve.proofs.SolvedLaws.{ComesFirst, codes_rise, firsts, one_of}
use Rattle.symbol_solve.proofs.OrderLaws.{Ordered}

-- what is said of matching: matches are what valuations make matches, their claims are what these give, and an offset and
-- an address that have one number in a match stand for one
pub record OfMatching : Type 0 where
  pub some : (c : Candidate) (m : Matched) → outcome c ≡ Ok m → (v : Valuation) × Match c v
  pub comes : (c : Candidate) (v : Valuation) → Match c v → (m : Matched) × (outcome c ≡ Ok m)
  pub says : (c : Candidate) (v : Valuation) (m : Matched) → slice_get c.object c.place ≡ Some c.section
      → Match c v → outcome c ≡ Ok m → Says c v m
  pub agree : (c : Candidate) (m : Matched) → slice_get c.object c.place ≡ Some c.section
      → IsDistinct same_bytes (map name_of c.object) → outcome c ≡ Ok m → (a b : Claim)
      → Contains m.claims a → Contains m.claims b → a.unknown ≡ b.unknown → a.value ≡ b.value
  pub numbers : (c : Candidate) (v : Valuation) (offset address : ℕ) → Match c v
      → (same_number c offset address ≡ true) ↔ StandForOne c offset address

-- ---- tests
quiet_pair : (same agree : Bool) → (same ≡ true → agree ≡ true) → (same && not agree) ≡ false
quiet_pair true agree so = ap not (so refl)
quiet_pair false agree so = refl

agreed : (same agree : Bool) → (same && not agree) ≡ false → same ≡ true → agree ≡ true
agreed true true is so = refl
agreed true false is so = absurd cc
agreed false agree is so = absurd cc

quiet_all : (apart m n x y z : Bool) → (apart ≡ true → (x ≡ false) × (y ≡ false) × (z ≡ false))
    → (apart && m && n && (x || y || z)) ≡ false
quiet_all false m n x y z none = refl
quiet_all true false n x y z none = refl
quiet_all true true false x y z none = refl
quiet_all true true true x y z none =
    let (a, b, c) = none refl in
    λ i. a i || b i || c i

parts_quiet : (apart m n x y z : Bool) → (apart && m && n && (x || y || z)) ≡ false → apart ≡ true → m ≡ true
    → n ≡ true → (x ≡ false) × (y ≡ false) × (z ≡ false)
parts_quiet true true true x y z is a b c =
    let (front, third) = or_parts (x || y) z is in
    let (first, second) = or_parts x y front in
    (first, second, third)
parts_quiet false m n x y z is a b c = absurd cc
parts_quiet true false n x y z is a b c = absurd cc
parts_quiet true true false x y z is a b c = absurd cc

none_has : {X : Type 0} (p : X → Bool) (xs : List X) (x : X) → list_any p xs ≡ false → Has xs x → p x ≡ false
none_has p xs x none has = false_from_ne_true (p x) (λ pass. false≢true (sym none ∙ any_has p xs x has pass))

-- ---- the first of which a test holds
found_in : {X : Type 0} (p : X → Bool) (xs : List X) (x : X) → Has xs x → p x ≡ true
    → (y : X) × (find p xs ≡ Some y) × Has xs y × (p y ≡ true)
found_in p [] x has pass = absurd has
found_in {X} p (a ∷ xs) x (inl is) pass =
    let at : p a ≡ true = ap p is ∙ pass in
    (a, ap (λ b. cond b (Some a) (find p xs)) at, inl refl, at)
found_in {X} p (a ∷ xs) x (inr rest) pass = by (p a) refl (found_in p xs x rest pass)
  where
    by : (b : Bool) → p a ≡ b → (y : X) × (find p xs ≡ Some y) × Has xs y × (p y ≡ true)
        → (y : X) × (find p (a ∷ xs) ≡ Some y) × Has (a ∷ xs) y × (p y ≡ true)
    by true at later = (a, ap (λ b. cond b (Some a) (find p xs)) at, inl refl, at)
    by false at later =
        let (y, is, has, pass_y) = later in
        (y, ap (λ b. cond b (Some a) (find p xs)) at ∙ is, inr has, pass_y)

find_has : {X : Type 0} (p : X → Bool) (xs : List X) (y : X) → find p xs ≡ Some y → Has xs y × (p y ≡ true)
find_has p [] y is = absurd cc
find_has {X} p (a ∷ xs) y is = by (p a) refl (find_has p xs y) is
  where
    by : (b : Bool) → p a ≡ b → (find p xs ≡ Some y → Has xs y × (p y ≡ true)) → cond b (Some a) (find p xs) ≡ Some y
        → Has (a ∷ xs) y × (p y ≡ true)
    by true at later here = let one : a ≡ y = same_Some a y here in (inl one, ap p (sym one) ∙ at)
    by false at later rest = let (has, pass) = later rest in (inr has, pass)

-- ---- lists side by side, by members
zip_weaker : {A B : Type 0} (R S : A → B → Type 0) (xs : List A) (ys : List B)
    → ((x : A) (y : B) → Has ys y → R x y → S x y) → AllZip R xs ys → AllZip S xs ys
zip_weaker R S [] [] each all = tt
zip_weaker R S [] (y ∷ ys) each all = absurd all
zip_weaker R S (x ∷ xs) [] each all = absurd all
zip_weaker R S (x ∷ xs) (y ∷ ys) each all =
    (each x y (inl refl) all.0, zip_weaker R S xs ys (λ a b has. each a b (inr has)) all.1)

abbrev is_claim_of : Unknown → Claim → Bool
is_claim_of about claim = same_unknown about claim.unknown

abbrev claimed_value : Claim → ℕ
claimed_value claim = claim.value

module _ (laws : OfMatching) (running : Running) (object : List NormalSection)
    (distinct : IsDistinct same_bytes (map name_of object)) where
  -- ---- candidates are of the object's sections
  pub here_of : (c : Candidate) → Has (candidates running object) c → IsHere running object c
  here_of c has = all_has (IsHere running object) (candidates running object) c (candidates_here running object) has

  pub object_is : (c : Candidate) → Has (candidates running object) c → c.object ≡ object
  object_is c has = ap (λ (d : Candidate). d.object) (here_of c has).own

  pub own_at : (c : Candidate) → Has (candidates running object) c → slice_get c.object c.place ≡ Some c.section
  own_at c has =
      ap (λ (sections : List NormalSection). slice_get sections c.place) (object_is c has) ∙ (here_of c has).at

  -- the name of a section at a place of another
  pub name_there : (c d : Candidate) → Has (candidates running object) c → Has (candidates running object) d
      → name_at c d.place ≡ d.section.name
  name_there c d has_c has_d =
      ap (λ (sections : List NormalSection). name_in (slice_get sections d.place)) (object_is c has_c)
      ∙ ap name_in (here_of d has_d).at

  named : (d : Candidate) → Has (candidates running object) d → place_named object d.section.name ≡ Some d.place
  named d has = place_of_distinct object d.place d.section distinct (here_of d has).at

  -- ---- what an assignment solves it by is a solution
  module _ (assigned : Assignment) (chosen : List Candidate) (it : Solves running object assigned chosen) where
    pub fitting : (c : Candidate) → Has chosen c → Has (candidates running object) c × Fits assigned c
    unfolding candidates
    fitting c has =
        let (pre, has_pre, choice) =
        beside_right (IsFitting running assigned) (code_sections object) chosen c it.choice has in (
          has_flat (candidates_of running) (code_sections object) pre c has_pre
              (has_of (candidates_of running pre) c choice.among),
          choice.fits,
        )

    pub claim_assigned : (c : Candidate) → Has chosen c → (a : Claim) → Has (claims_of c) a
        → assigned a.unknown ≡ Some a.value
    claim_assigned c has a has_a =
        let (there, fits) = fitting c has in
        let (m, is) = laws.comes c fits.valuation fits.match in
        let says : Says c fits.valuation m = laws.says c fits.valuation m (own_at c there) fits.match is in
        let in_m : Has m.claims a = subst (λ (o : Result Matched MatchFault). Has (claims_in o) a) is has_a in
        let said : IsSaid c fits.valuation a = all_has (IsSaid c fits.valuation) m.claims a says.claims in_m in
        fits.assigns a.unknown a.value (record {
          goal = said.goal;
          speaks = of_known c said.goal a.unknown said.speaks;
          is = said.value;
        })

    no_contradiction : (c d : Candidate) → Has chosen c → Has chosen d → claims_clash c d ≡ false
    no_contradiction c d has_c has_d =
        any_none (λ a. list_any (contradict a) (claims_of d)) (claims_of c) (λ a has_a.
        any_none (contradict a) (claims_of d) (λ b has_b.
        quiet_pair (same_unknown a.unknown b.unknown) (eqb a.value b.value) (λ same.
        let one : a.unknown ≡ b.unknown = one_unknown a.unknown b.unknown same in
        eq-eqb a.value b.value (same_Some a.value b.value
        (sym (claim_assigned c has_c a has_a) ∙ ap assigned one ∙ claim_assigned d has_d b has_b)))))

    -- an interior that has the name of a section chosen goes there
    goes_to : (c d : Candidate) (v : Valuation) (i : Interior) (field : Given) → Has (candidates running object) c
        → Has (candidates running object) d → IsField c v field → (named_as : IsNamed c i field)
        → i.section ≡ d.section.name → named_as.place ≡ d.place
    goes_to c d v i field has_c has_d counts named_as name =
        let code : IsCodeAt c.object named_as.place =
        subst (IsCodeGoal c.object) named_as.goes (field_code c v field counts) in
        let (section, at, class) = code in
        let there : slice_get object named_as.place ≡ Some section =
        ap (λ (sections : List NormalSection). slice_get sections named_as.place) (sym (object_is c has_c)) ∙ at in
        let same : section.name ≡ d.section.name = sym (named_as.section ∙ ap name_in at) ∙ name in
        same_Some named_as.place d.place
        (sym (place_of_distinct object named_as.place section distinct there)
        ∙ ap (place_named object) same ∙ named d has_d)

    no_unmet : (c d : Candidate) → Has chosen c → Has chosen d → interiors_clash c d ≡ false
    no_unmet c d has_c has_d =
        let (there, fits) = fitting c has_c in
        let (here, fits_d) = fitting d has_d in
        let (m, is) = laws.comes c fits.valuation fits.match in
        let says : Says c fits.valuation m = laws.says c fits.valuation m (own_at c there) fits.match is in
        any_none (is_unmet d) (interiors_of c) (λ i has_i.
        let in_m : Has m.interiors i = subst (λ (o : Result Matched MatchFault). Has (interiors_in o) i) is has_i in
        let (field, counts, named_as) =
        all_has (λ (x : Interior). (field : Given) × IsField c fits.valuation field × IsNamed c x field) m.interiors i
        says.interiors in_m in
        quiet_pair (same_bytes i.section d.section.name) (same_number d i.offset i.address) (λ same.
        let name : i.section ≡ d.section.name = (bytes_decides i.section d.section.name).0 same in
        let place : named_as.place ≡ d.place =
        goes_to c d fits.valuation i field there here counts named_as name in
        let goes : field.goal ≡ Inside d.place i.offset = named_as.goes ∙ ap (λ (p : ℕ). Inside p i.offset) place in
        let met : AreMet c d = all_has (AreMet c) chosen d
        (all_has (λ x. All (AreMet x) chosen) chosen c it.met has_c) has_d in
        let stand : StandForOne d i.offset (interior_address field.value i.offset) =
        met fits.valuation field i.offset fits.match counts goes in
        (laws.numbers d fits_d.valuation i.offset i.address fits_d.match).1
        (subst (StandForOne d i.offset) (sym named_as.address) stand)))

    calm : (c d : Candidate) → Has chosen c → Has chosen d → clashes c d ≡ false
    unfolding clashes
    calm c d has_c has_d =
        quiet_all (not (eqb c.place d.place)) (matches c) (matches d) (claims_clash c d) (interiors_clash c d)
        (interiors_clash d c) (λ apart. (no_contradiction c d has_c has_d, no_unmet c d has_c has_d, no_unmet d c has_d has_c))

    pub to_solution : IsSolution running object chosen
    to_solution = record {
      choice = zip_weaker (IsFitting running assigned) (IsChoice running) (code_sections object) chosen
          (λ pre c has one. record {
            among = one.among;
            matching = ap is_match (laws.comes c one.fits.valuation one.fits.match).1;
          }) it.choice;
      peaceful = all_of (λ c. All (λ d. clashes c d ≡ false) chosen) chosen
          (λ c has_c. all_of (λ d. clashes c d ≡ false) chosen (λ d has_d. calm c d has_c has_d));
    }

  -- ---- and the claims of a solution are an assignment
  abbrev pub claims_assign : List Candidate → Assignment
  claims_assign chosen about = option_map claimed_value (find (is_claim_of about) (flat_map claims_of chosen))

  module _ (chosen : List Candidate) (it : IsSolution running object chosen) where
    here : (c : Candidate) → Has chosen c → Has (candidates running object) c
    here c has = chosen_here running object chosen it c has

    match_of : (c : Candidate) → Has chosen c → (m : Matched) × (outcome c ≡ Ok m)
    match_of c has = matched_as (outcome c) (chosen_match running object chosen it c has)

    rising : Ordered ComesFirst chosen
    rising =
        firsts (IsChoice running)
        (λ p c choice. place_of running object p c (has_of (candidates_of running p) c choice.among))
        (code_sections object) chosen it.choice (codes_rise object 0 object)

    quiet : (c d : Candidate) → Has chosen c → Has chosen d → eqb c.place d.place ≡ false
        → (claims_clash c d ≡ false) × (interiors_clash c d ≡ false) × (interiors_clash d c ≡ false)
    unfolding clashes
    quiet c d has_c has_d apart =
        parts_quiet (not (eqb c.place d.place)) (matches c) (matches d) (claims_clash c d) (interiors_clash c d)
        (interiors_clash d c) (peace running object chosen it c d has_c has_d) (ap not apart)
        (chosen_match running object chosen it c has_c) (chosen_match running object chosen it d has_d)

    of_one : (c : Candidate) (a b : Claim) → Has chosen c → Has (claims_of c) a → Has (claims_of c) b
        → a.unknown ≡ b.unknown → a.value ≡ b.value
    of_one c a b has in_a in_b same =
        let (m, is) = match_of c has in
        let apart : IsDistinct same_bytes (map name_of c.object) =
        subst (λ (sections : List NormalSection). IsDistinct same_bytes (map name_of sections))
        (sym (object_is c (here c has))) distinct in
        laws.agree c m (own_at c (here c has)) apart is a b
        (contained m.claims a (subst (λ (o : Result Matched MatchFault). Has (claims_in o) a) is in_a))
        (contained m.claims b (subst (λ (o : Result Matched MatchFault). Has (claims_in o) b) is in_b)) same

    one_value : (a b : Claim) → Has (flat_map claims_of chosen) a → Has (flat_map claims_of chosen) b
        → a.unknown ≡ b.unknown → a.value ≡ b.value
    one_value a b has_a has_b same =
        let (c, has_c, in_c) = flat_has claims_of chosen a has_a in
        let (d, has_d, in_d) = flat_has claims_of chosen b has_b in
        elim (cases_Bool (eqb c.place d.place)) [
          | inl place ↦
              let one : c ≡ d = one_of chosen c d rising has_c has_d (eqb-true c.place d.place place) in
              of_one c a b has_c in_c (subst (λ (x : Candidate). Has (claims_of x) b) (sym one) in_d) same
          | inr apart ↦
              let none : list_any (contradict a) (claims_of d) ≡ false =
              none_has (λ x. list_any (contradict x) (claims_of d)) (claims_of c) a
              (quiet c d has_c has_d apart).0 in_c in
              let calm : contradict a b ≡ false = none_has (contradict a) (claims_of d) b none in_d in
              let same_test : same_unknown a.unknown b.unknown ≡ true =
              subst (λ (u : Unknown). same_unknown a.unknown u ≡ true) same (same_self a.unknown) in
              eqb-true a.value b.value
              (agreed (same_unknown a.unknown b.unknown) (eqb a.value b.value) calm same_test)
        ]

    gives_assigned : (c : Candidate) → Has chosen c → (v : Valuation) → Match c v → (about : Unknown) (address : ℕ)
        → Gives c v about address → claims_assign chosen about ≡ Some address
    gives_assigned c has v match about address gives =
        let (m, is) = laws.comes c v match in
        let says : Says c v m = laws.says c v m (own_at c (here c has)) match is in
        let claimed : IsClaimed m.claims about address =
        says.all_claims gives.goal about address (known_of c gives.goal about gives.speaks) gives.is in
        let in_c : Has (claims_of c) claimed.claim =
        subst (λ (o : Result Matched MatchFault). Has (claims_in o) claimed.claim) (sym is)
        (has_of m.claims claimed.claim claimed.made) in
        let in_all : Has (flat_map claims_of chosen) claimed.claim =
        has_flat claims_of chosen c claimed.claim has in_c in
        let pass : same_unknown about claimed.claim.unknown ≡ true =
        subst (λ (u : Unknown). same_unknown about u ≡ true) (sym claimed.speaks) (same_self about) in
        let (b, found, in_b, passed) =
        found_in (is_claim_of about) (flat_map claims_of chosen) claimed.claim in_all pass in
        let same : b.unknown ≡ claimed.claim.unknown =
        sym (one_unknown about b.unknown passed) ∙ sym claimed.speaks in
        ap (option_map claimed_value) found
        ∙ ap (λ (n : ℕ). Some n) (one_value b claimed.claim in_b in_all same ∙ claimed.says)

    -- an interior of its own section is met by a match itself
    own_met : (c d : Candidate) → Has chosen c → Has chosen d → c.place ≡ d.place → AreMet c d
    own_met c d has_c has_d place = λ v field offset match counts goes.
        let one : c ≡ d = one_of chosen c d rising has_c has_d place in
        let met : IsMet c (Inside d.place offset) field.value =
        subst (λ (goal : Goal). IsMet c goal field.value) goes (match.met field counts) in
        subst (λ (x : Candidate). StandForOne x offset (interior_address field.value offset)) one (met (sym place))

    other_met : (c d : Candidate) → Has chosen c → Has chosen d → c.place ≢ d.place → AreMet c d
    other_met c d has_c has_d apart = λ v field offset match counts goes.
        let (m, is) = laws.comes c v match in
        let says : Says c v m = laws.says c v m (own_at c (here c has_c)) match is in
        let (i, made, named_as) = says.all_interiors field d.place offset counts goes (λ e. apart (sym e)) in
        let inside : Inside named_as.place i.offset ≡ Inside d.place offset = sym named_as.goes ∙ goes in
        let place : named_as.place ≡ d.place = cc in
        let off : i.offset ≡ offset = cc in
        let name : i.section ≡ d.section.name =
        named_as.section ∙ ap (name_at c) place ∙ name_there c d (here c has_c) (here d has_d) in
        let in_c : Has (interiors_of c) i =
        subst (λ (o : Result Matched MatchFault). Has (interiors_in o) i) (sym is) (has_of m.interiors i made) in
        let (no_claims, ones, others) = quiet c d has_c has_d (ne_eqb c.place d.place apart) in
        let calm : is_unmet d i ≡ false = none_has (is_unmet d) (interiors_of c) i ones in_c in
        let same : same_bytes i.section d.section.name ≡ true =
        subst (λ (bytes : List ℕ). same_bytes i.section bytes ≡ true) name (nat_list_eq_equiv.refl i.section) in
        let number : same_number d i.offset i.address ≡ true =
        agreed (same_bytes i.section d.section.name) (same_number d i.offset i.address) calm same in
        let (n, came) = match_of d has_d in
        let (w, match_d) = laws.some d n came in
        let stand : StandForOne d i.offset i.address = (laws.numbers d w i.offset i.address match_d).0 number in
        subst (λ (k : ℕ). StandForOne d k (interior_address field.value k)) off
        (subst (StandForOne d i.offset) named_as.address stand)

    met_by : (c d : Candidate) → Has chosen c → Has chosen d → AreMet c d
    met_by c d has_c has_d =
        elim (cases_eq c.place d.place) [
          | inl place ↦ own_met c d has_c has_d place
          | inr apart ↦ other_met c d has_c has_d apart
        ]

    given_by : (about : Unknown) (address : ℕ) → claims_assign chosen about ≡ Some address
        → IsGiven chosen about address
    given_by about address is = by (find (is_claim_of about) (flat_map claims_of chosen)) refl is
      where
        by : (o : Option Claim) → find (is_claim_of about) (flat_map claims_of chosen) ≡ o
            → option_map claimed_value o ≡ Some address → IsGiven chosen about address
        by None at is = absurd cc
        by (Some claim) at is =
            let (in_all, pass) = find_has (is_claim_of about) (flat_map claims_of chosen) claim at in
            let (c, has_c, in_c) = flat_has claims_of chosen claim in_all in
            let (m, came) = match_of c has_c in
            let (v, match) = laws.some c m came in
            let says : Says c v m = laws.says c v m (own_at c (here c has_c)) match came in
            let said : IsSaid c v claim = all_has (IsSaid c v) m.claims claim says.claims
            (subst (λ (o : Result Matched MatchFault). Has (claims_in o) claim) came in_c) in
            let one : about ≡ claim.unknown = one_unknown about claim.unknown pass in
            record {
              candidate = c;
              among = contained chosen c has_c;
              valuation = v;
              match = match;
              gives = record {
                goal = said.goal;
                speaks = subst (IsOf c said.goal) (sym one) (of_known c said.goal claim.unknown said.speaks);
                is = said.value ∙ is;
              };
            }

    pub to_assignment : Solves running object (claims_assign chosen) chosen
    to_assignment = record {
      choice = zip_weaker (IsChoice running) (IsFitting running (claims_assign chosen)) (code_sections object) chosen
          (λ pre c has choice.
          let (m, is) = matched_as (outcome c) choice.matching in
          let (v, match) = laws.some c m is in
          record {
            among = choice.among;
            fits = record {
              valuation = v;
              match = match;
              assigns = λ about address gives. gives_assigned c has v match about address gives;
            };
          }) it.choice;
      met = all_of (λ c. All (AreMet c) chosen) chosen
          (λ c has_c. all_of (AreMet c) chosen (λ d has_d. met_by c d has_c has_d));
      no_more = given_by;
    }
