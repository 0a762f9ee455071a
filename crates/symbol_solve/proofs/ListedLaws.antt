-- The values of what is chosen are what is assigned, each once.
use Rattle.std.proofs.Common.{arith, ◌≡◌, inl, inr, ℕ, zero, suc, ◌+◌, Bool, true, false, cond, List, [], ◌∷◌, map}
use Rattle.std.proofs.Common.{Option, Some, None, Ok, refl, sym, ap, subst, ◌∙◌}
use Rattle.std.specs.Prelude.{Result}
use Rattle.std.specs.List.{IsDistinct, cons_option, filter, flat_map, slice_get}
use Rattle.std.proofs.lemmas.Option.{same_Some}
use Rattle.i386_reloc.specs.declared.types.NormalSection.{NormalSection}
use Rattle.i386_reloc.specs.Classes.{is_code_class}
use Rattle.i386_reloc.specs.Normal.{same_bytes, name_of}
use Rattle.symbol_table.specs.declared.values.Unknown.{Unknown}
use Rattle.symbol_table.specs.declared.values.Unknown.TheVariants.{Code, Data, Outside}
use Rattle.symbol_table.specs.declared.values.Solved.TheVariants.{Address}
use Rattle.symbol_table.specs.Unknowns.{same_unknown, address_in}
use Rattle.run_pre_match.specs.declared.goals.Goal.{Goal}
use Rattle.run_pre_match.specs.declared.goals.Goal.TheVariants.{Entry, Inside, Variable, Constant}
use Rattle.run_pre_match.specs.declared.goals.Goal.TheVariants as goals
use Rattle.run_pre_match.specs.declared.types.Claim.{Claim}
use Rattle.run_pre_match.specs.declared.types.Matched.{Matched}
use Rattle.run_pre_match.specs.declared.types.MatchFault.{MatchFault}
use Rattle.run_pre_match.specs.Candidate.{Candidate}
use Rattle.run_pre_match.specs.Match.{IsClaimed, Says}
use Rattle.run_pre_match.specs.Matched.{name_in, name_at, unknown_of, outcome}
use Rattle.match_candidates.specs.Candidates.{Running, code_from, code_sections, candidates_of, candidates}
use Rattle.symbol_solve.specs.Clashes.{claims_in, claims_of}
use Rattle.symbol_solve.specs.Solve.{Value, body_value, is_code_unknown, address_value, values_with, values_of, values}
use Rattle.symbol_solve.specs.Answered.{is_about}
use Rattle.symbol_solve.specs.Assignment.{Assignment, IsOf, OfFunction, Fits, IsFitting, IsGiven, Solves, addresses_of}
use Rattle.symbol_solve.proofs.AnsweredLaws.{first_or, put_together}
use Rattle.symbol_solve.proofs.AssignmentLaws.{OfMatching, here_of, own_at, name_there, fitting, claim_assigned}
use Rattle.symbol_solve.proofs.CandidateLaws.{placed}
use Rattle.symbol_solve.proofs.GoalLaws.{IsCodeAt, IsCodeGoal, field_code, known_of}
use Rattle.symbol_solve.proofs.MapLaws.{same_self}
use Rattle.symbol_solve.proofs.Members.{Has, has_of, has_filter, filter_has, has_flat, flat_has, beside_left}
use Rattle.symbol_solve.proofs.NumberLaws.{one_unknown}
use Rattle.symbol_solve.proofs.SolutionLaws.{place_of}

-- ---- a code section at a place is one of the object's
code_has : (object : List NormalSection) (place : ℕ) (sections : List NormalSection) (k : ℕ) (section : NormalSection)
    → slice_get sections k ≡ Some section → is_code_class section.class ≡ true
    → Has (code_from object place sections) (placed object (k + place) section)
unfolding code_from
code_has object place [] k section at code = absurd cc
code_has object place (x ∷ xs) zero section at code =
    let one : x ≡ section = same_Some x section at in
    let class : is_code_class x.class ≡ true = ap (λ (s : NormalSection). is_code_class s.class) one ∙ code in
    let here : place ≡ 0 + place = omega arith in
    let own : Has (placed object place x ∷ code_from object (suc place) xs) (placed object (0 + place) section) =
    inl (λ i. placed object (here i) (one i)) in
    subst (λ b. Has (cond b (placed object place x ∷ code_from object (suc place) xs)
    (code_from object (suc place) xs)) (placed object (0 + place) section)) (sym class) own
code_has object place (x ∷ xs) (suc k) section at code =
    let next : k + suc place ≡ suc k + place = omega arith in
    let rest : Has (code_from object (suc place) xs) (placed object (suc k + place) section) =
    subst (λ (n : ℕ). Has (code_from object (suc place) xs) (placed object n section)) next
    (code_has object (suc place) xs k section at code) in
    elim (is_code_class x.class) as (λ b. Has (cond b (placed object place x ∷ code_from object (suc place) xs)
    (code_from object (suc place) xs)) (placed object (suc k + place) section)) [
      | true ↦ inr rest
      | false ↦ rest
    ]

code_here : (object : List NormalSection) (place : ℕ) (section : NormalSection) → slice_get object place ≡ Some section
    → is_code_class section.class ≡ true → Has (code_sections object) (placed object place section)
code_here object place section at code =
    let same : place + 0 ≡ place = omega arith in
    subst (λ (n : ℕ). Has (code_sections object) (placed object n section)) same
    (code_has object 0 object place section at code)

-- ---- the addresses of some values
abbrev address_of : Value → ℕ
address_of value = address_in value.1

map_one : (xs : List Value) (x : ℕ) (w : Value) → Has xs w → ((u : Value) → Has xs u → address_of u ≡ x)
    → map address_of (first_or [] xs) ≡ x ∷ []
map_one [] x w has each = absurd has
map_one (u ∷ xs) x w has each = ap (λ (n : ℕ). n ∷ []) (each u (inl refl))

map_none : (xs : List Value) → ((u : Value) → Has xs u → ⊥) → map address_of (first_or [] xs) ≡ []
map_none [] none = refl
map_none (u ∷ xs) none = absurd (none u (inl refl))

-- an unknown is listed at an address
record IsListed (chosen : List Candidate) (about : Unknown) : Type 0 where
  value : Value
  listed : Has (flat_map values_of chosen) value
  is_it : is_about about value ≡ true

module _ (laws : OfMatching) (running : Running) (object : List NormalSection)
    (distinct : IsDistinct same_bytes (map name_of object)) (assigned : Assignment) (chosen : List Candidate)
    (it : Solves running object assigned chosen) where
  there : (c : Candidate) → Has chosen c → Has (candidates running object) c
  there c has = (fitting laws running object distinct assigned chosen it c has).0

  fits_of : (c : Candidate) → Has chosen c → Fits assigned c
  fits_of c has = (fitting laws running object distinct assigned chosen it c has).1

  -- ---- a value is what is assigned
  home_assigned : (c : Candidate) → Has chosen c → assigned (Code c.section.name) ≡ Some c.home
  home_assigned c has =
      let fits = fits_of c has in
      fits.assigns (Code c.section.name) c.home (record {
        goal = Entry c.place;
        speaks = subst (λ (n : List ℕ). IsOf c (Entry c.place) (Code n))
            (name_there laws running object distinct c c (there c has) (there c has)) (OfFunction c.place);
        is = fits.match.home;
      })

  claim_value : (about : Unknown) (w : Value) (c : Candidate) (claim : Claim) (b : Bool) → Has chosen c
      → Has (claims_of c) claim → about ≡ w.0 → Has (cond b [] ((claim.unknown, Address claim.value) ∷ [])) w
      → assigned about ≡ Some (address_of w)
  claim_value about w c claim true has_c has_claim one none = absurd none
  claim_value about w c claim false has_c has_claim one (inr none) = absurd none
  claim_value about w c claim false has_c has_claim one (inl here) =
      ap assigned (one ∙ sym (ap (λ (v : Value). v.0) here))
      ∙ claim_assigned laws running object distinct assigned chosen it c has_c claim has_claim
      ∙ ap (λ (v : Value). Some (address_of v)) here

  of_value : (about : Unknown) (w : Value) (c : Candidate) (m : Matched) → Has chosen c → outcome c ≡ Ok m
      → about ≡ w.0 → Has (values_with c (Ok m)) w → assigned about ≡ Some (address_of w)
  of_value about w c m has is one (inl here) =
      ap assigned (one ∙ sym (ap (λ (v : Value). v.0) here)) ∙ home_assigned c has
      ∙ ap (λ (v : Value). Some (address_of v)) here
  of_value about w c m has is one (inr rest) =
      let (claim, has_claim, inner) = flat_has address_value m.claims w rest in
      claim_value about w c claim (is_code_unknown claim.unknown) has
      (subst (λ (o : Result Matched MatchFault). Has (claims_in o) claim) (sym is) has_claim) one inner

  value_assigned : (about : Unknown) (w : Value) → Has (flat_map values_of chosen) w → is_about about w ≡ true
      → assigned about ≡ Some (address_of w)
  value_assigned about w has pass =
      let (c, has_c, in_c) = flat_has values_of chosen w has in
      let fits = fits_of c has_c in
      let (m, is) = laws.comes c fits.valuation fits.match in
      of_value about w c m has_c is (one_unknown about w.0 pass)
      (subst (λ (o : Result Matched MatchFault). Has (values_with c o) w) is in_c)

  -- ---- what is assigned has a value
  body_listed : (about : Unknown) (d : Candidate) → Has chosen d → about ≡ Code d.section.name → IsListed chosen about
  body_listed about d has one =
      let fits = fits_of d has in
      let (m, is) = laws.comes d fits.valuation fits.match in
      let own : Has (values_of d) (body_value d m) =
      subst (λ (o : Result Matched MatchFault). Has (values_with d o) (body_value d m)) (sym is) (inl refl) in
      record {
        value = body_value d m;
        listed = has_flat values_of chosen d (body_value d m) has own;
        is_it = subst (λ (u : Unknown). same_unknown u (Code d.section.name) ≡ true) (sym one)
            (same_self (Code d.section.name));
      }

  -- the function at a place of the object
  function_listed : (about : Unknown) (c : Candidate) (place : ℕ) → Has chosen c → IsCodeAt c.object place
      → about ≡ Code (name_at c place) → IsListed chosen about
  function_listed about c place has (section, at, class) one =
      let in_object : slice_get object place ≡ Some section =
      ap (λ (sections : List NormalSection). slice_get sections place)
      (sym (ap (λ (d : Candidate). d.object) (here_of laws running object distinct c (there c has)).own)) ∙ at in
      let (d, has_d, fitting_d) =
      beside_left (IsFitting running assigned) (code_sections object) chosen (placed object place section) it.choice
      (code_here object place section in_object class) in
      let d_place : d.place ≡ place = place_of running object (placed object place section) d
      (has_of (candidates_of running (placed object place section)) d fitting_d.among) in
      let same : section ≡ d.section = same_Some section d.section
      (sym in_object ∙ ap (slice_get object) (sym d_place) ∙ (here_of laws running object distinct d (there d has_d)).at)
      in
      body_listed about d has_d
      (one ∙ ap (λ (o : Option NormalSection). Code (name_in o)) at ∙ ap (λ (s : NormalSection). Code s.name) same)

  module _ (about : Unknown) (address : ℕ) (given : IsGiven chosen about address) where
    has_one : Has chosen given.candidate
    has_one = has_of chosen given.candidate given.among

    entry_listed : (place : ℕ) → about ≡ Code (name_at given.candidate place)
        → given.valuation (Entry place) ≡ Some address → IsListed chosen about
    entry_listed place one is =
        let c : Candidate = given.candidate in
        elim ((given.match.no_more (Entry place) address is).1) [
          | inl own ↦
              let here : place ≡ c.place = cc in
              body_listed about c has_one
              (one ∙ ap (λ (p : ℕ). Code (name_at c p)) here
              ∙ ap (λ (n : List ℕ). Code n) (name_there laws running object distinct c c (there c has_one)
              (there c has_one)))
          | inr meant ↦
              function_listed about c place has_one
              (subst (IsCodeGoal c.object) meant.goes_there
              (field_code c given.valuation meant.field meant.counts)) one
        ]

    claim_listed : (goal : Goal) → is_code_unknown about ≡ false → unknown_of given.candidate goal ≡ Some about
        → given.valuation goal ≡ Some address → IsListed chosen about
    claim_listed goal no_code speaks is =
        let c : Candidate = given.candidate in
        let (m, came) = laws.comes c given.valuation given.match in
        let says : Says c given.valuation m =
        laws.says c given.valuation m (own_at laws running object distinct c (there c has_one)) given.match came in
        let claimed : IsClaimed m.claims about address = says.all_claims goal about address speaks is in
        let claim : Claim = claimed.claim in
        let w : Value = (claim.unknown, Address claim.value) in
        let not_code : is_code_unknown claim.unknown ≡ false = ap is_code_unknown claimed.speaks ∙ no_code in
        let inner : Has (address_value claim) w =
        subst (λ b. Has (cond b [] (w ∷ [])) w) (sym not_code) (inl refl) in
        let in_m : Has (values_with c (Ok m)) w =
        inr (has_flat address_value m.claims claim w (has_of m.claims claim claimed.made) inner) in
        let own : Has (values_of c) w =
        subst (λ (o : Result Matched MatchFault). Has (values_with c o) w) (sym came) in_m in
        record {
          value = w;
          listed = has_flat values_of chosen c w has_one own;
          is_it = subst (λ (u : Unknown). same_unknown about u ≡ true) (sym claimed.speaks) (same_self about);
        }

    goal_listed : (goal : Goal) → unknown_of given.candidate goal ≡ Some about
        → given.valuation goal ≡ Some address → IsListed chosen about
    goal_listed (Entry place) speaks is =
        entry_listed place (sym (same_Some (Code (name_at given.candidate place)) about speaks)) is
    goal_listed (Variable place) speaks is =
        claim_listed (Variable place)
        (sym (ap is_code_unknown (same_Some (Data (name_at given.candidate place)) about speaks))) speaks is
    goal_listed (goals.Outside name) speaks is =
        claim_listed (goals.Outside name) (sym (ap is_code_unknown (same_Some (Outside name) about speaks))) speaks is
    goal_listed (Constant place) speaks is = absurd cc
    goal_listed (Inside place offset) speaks is = absurd cc
    goal_listed (goals.Text place offset text) speaks is = absurd cc

  listed_of : (about : Unknown) (address : ℕ) → assigned about ≡ Some address → IsListed chosen about
  listed_of about address is =
      let given : IsGiven chosen about address = it.no_more about address is in
      goal_listed about address given given.gives.goal
      (known_of given.candidate given.gives.goal about given.gives.speaks) given.gives.is

  -- ---- so each is listed once, and nothing else is
  pub all_listed : (about : Unknown) → addresses_of (values chosen) about ≡ cons_option (assigned about) []
  unfolding values
  all_listed about =
      ap (map address_of) (put_together about (flat_map values_of chosen) []) ∙ by (assigned about) refl
    where
      by : (o : Option ℕ) → assigned about ≡ o
          → map address_of (first_or [] (filter (is_about about) (flat_map values_of chosen))) ≡ cons_option o []
      by None is =
          map_none (filter (is_about about) (flat_map values_of chosen)) (λ u has.
          let (in_all, pass) = filter_has (is_about about) (flat_map values_of chosen) u has in
          let some : None ≡ Some (address_of u) = sym is ∙ value_assigned about u in_all pass in
          absurd cc)
      by (Some x) is =
          let listed : IsListed chosen about = listed_of about x is in
          map_one (filter (is_about about) (flat_map values_of chosen)) x listed.value
          (has_filter (is_about about) (flat_map values_of chosen) listed.value listed.listed listed.is_it) (λ u has.
          let (in_all, pass) = filter_has (is_about about) (flat_map values_of chosen) u has in
          sym (same_Some x (address_of u) (sym is ∙ value_assigned about u in_all pass)))
