-- The answer for an object in running programs that are alike.
use Rattle.std.proofs.Common.{◌≡◌, ℕ, Bool, not, ◌&&◌, ◌||◌, List, [], ◌∷◌, ◌++◌, map, length, Option, Some, None, refl}
use Rattle.std.proofs.Common.{sym, ◌∙◌, ap, subst}
use Rattle.std.specs.Prelude.{Result, Ok, Err}
use Rattle.std.specs.List.{All, filter, find, flat_map, fold, list_any, range_with_len}
use Rattle.std.specs.Option.{option_map, option_or, option_and_then}
use Rattle.std.proofs.lemmas.List.Elements.{All-head, All-tail, All-map, All-filter, All-weaker}
use Rattle.ks_base.specs.declared.refusals.Refusal.{Refusal}
use Rattle.ks_base.specs.declared.refusals.Refusal.TheVariants.{Conflict}
use Rattle.i386_reloc.specs.declared.types.NormalSection.{NormalSection}
use Rattle.image_memory.specs.Contents.{Contents}
use Rattle.run_pre_match.specs.declared.types.Interior.{Interior}
use Rattle.run_pre_match.specs.declared.types.Matched.{Matched}
use Rattle.run_pre_match.specs.declared.types.MatchFault.{MatchFault}
use Rattle.run_pre_match.specs.Candidate.{Candidate, same_number, Body, body_of}
use Rattle.run_pre_match.specs.Matched.{spot_at, outcome}
use Rattle.run_pre_match.specs.Bodies.{address_of}
use Rattle.run_pre_match.specs.Alike.{AreAlike, HasFieldsInside, in_memory}
use Rattle.propagation.specs.Rounds.{forced, remaining}
use Rattle.propagation.specs.laws.RoundLaws.{Maps, both, forced_each, remaining_each, forced_maps, remaining_maps}
use Rattle.propagation.specs.laws.RoundLaws.{conflict_maps}
use Rattle.propagation.specs.Conflicts.{first_some, conflict}
use Rattle.match_candidates.specs.Alike.{RunAlike}
use Rattle.match_candidates.specs.Candidates.{Running, candidates, is_match, is_of}
use Rattle.match_candidates.specs.OwnFaults.{own_fault}
use Rattle.symbol_solve.specs.Clashes.{claims_in, interiors_in, same_section, contradict, clashes, candidate_rules}
use Rattle.symbol_solve.specs.Conflicts.{by_place, claims_conflict, clash_between, reported}
use Rattle.symbol_solve.specs.Solve.{Value, twins, first_twins, left_of, obstacle, values_with, values_of, with_value}
use Rattle.symbol_solve.specs.Solve.{values, values_unless, solved}
use Rattle.symbol_solve.specs.inside.Left.{is_unmet_in}
use Rattle.symbol_solve.proofs.CandidateLaws.{IsHere, candidates_here}
use Rattle.symbol_solve.proofs.LeftLaws.{filter_through, OfPair, conflict_pair}

-- what is said of matching: a candidate comes to the same in alike memories, and its body is the same
abbrev pub MatchAlike : Type 0
MatchAlike = (c : Candidate) (contents : Contents) → AreAlike c.contents contents → All HasFieldsInside c.object →
    outcome c ≡ outcome (in_memory contents c)

abbrev pub BodiesAlike : Type 0
BodiesAlike = (c : Candidate) (contents : Contents) → AreAlike c.contents contents →
    body_of c ≡ body_of (in_memory contents c)

-- what is said of the candidates of an object
abbrev pub HaveAlike : Type 0
HaveAlike = (one other : Running) (object : List NormalSection) → RunAlike one other →
    candidates other object ≡ map (in_memory other.contents) (candidates one object)

abbrev pub FaultsAlike : Type 0
FaultsAlike = (one other : Running) (object : List NormalSection) → RunAlike one other → All HasFieldsInside object →
    own_fault one object ≡ own_fault other object

-- a candidate beside a memory that is alike
record IsAlike (contents : Contents) (c : Candidate) : Type 0 where
  memory : AreAlike c.contents contents
  inside : All HasFieldsInside c.object

-- ---- whether two clash and what is reported of them, by what they come to and their bodies
abbrev clash_by : Candidate → Candidate → Result Matched MatchFault → Result Matched MatchFault → Body → Body → Bool
clash_by c d one two body other =
    not (same_section c d) && is_match one && is_match two
    && (list_any (λ a. list_any (contradict a) (claims_in two)) (claims_in one)
    || list_any (is_unmet_in other d.section.name) (interiors_in one)
    || list_any (is_unmet_in body c.section.name) (interiors_in two))

clashes_by : (c d : Candidate) → clashes c d ≡ clash_by c d (outcome c) (outcome d) (body_of c) (body_of d)
unfolding clashes same_number
clashes_by c d = refl

abbrev interior_by : Body → Interior → Refusal
interior_by body i =
    Conflict (record { name = i.section; offset = Some i.offset }) i.address (address_of body i.offset) i.place
    (spot_at i.section i.offset)

abbrev report_by : Candidate → Candidate → Result Matched MatchFault → Result Matched MatchFault → Body → Body →
    Option Refusal
report_by c d one two body other =
    option_or (first_some (λ a. option_map (claims_conflict a) (find (contradict a) (claims_in two))) (claims_in one))
    (option_or (option_map (interior_by other) (find (is_unmet_in other d.section.name) (interiors_in one)))
    (option_map (interior_by body) (find (is_unmet_in body c.section.name) (interiors_in two))))

between_by : (c d : Candidate) →
    clash_between (c, d) ≡ report_by c d (outcome c) (outcome d) (body_of c) (body_of d)
unfolding same_number
between_by c d = refl

-- ---- candidates beside another memory
flat_same : {X Y : Type 0} (P : X → Type 0) (f : X → List Y) (g : X → X) → ((x : X) → P x → f (g x) ≡ f x) →
    (xs : List X) → All P xs → flat_map f (map g xs) ≡ flat_map f xs
flat_same P f g same [] all = refl
flat_same P f g same (x ∷ xs) all =
    λ i. same x (All-head P x xs all) i ++ flat_same P f g same xs (All-tail P x xs all) i

module _ (contents : Contents) where
  places_alike : (cs : List Candidate) (places : List ℕ) →
      map (λ place. filter (is_of place) (map (in_memory contents) cs)) places
      ≡ map (map (in_memory contents)) (map (λ place. filter (is_of place) cs) places)
  places_alike cs [] = refl
  places_alike cs (place ∷ places) =
      λ i. filter_through (is_of place) (is_of place) (in_memory contents) (λ c. refl) cs i
      ∷ places_alike cs places i

  twins_alike : (cs : List Candidate) → first_twins (map (in_memory contents) cs) ≡ first_twins cs
  unfolding first_twins
  twins_alike [] = refl
  twins_alike (c ∷ []) = refl
  twins_alike (c ∷ d ∷ rest) = λ i. option_or (twins c d) (twins_alike (d ∷ rest) i)

  values_by : (c : Candidate) (o : Result Matched MatchFault) → values_with (in_memory contents c) o ≡ values_with c o
  values_by c (Ok matched) = refl
  values_by c (Err fault) = refl

  module _ (matching : MatchAlike) (bodies : BodiesAlike) where
    same_outcome : (c : Candidate) → IsAlike contents c → outcome (in_memory contents c) ≡ outcome c
    same_outcome c is = sym (matching c contents is.memory is.inside)

    same_body : (c : Candidate) → IsAlike contents c → body_of (in_memory contents c) ≡ body_of c
    same_body c is = sym (bodies c contents is.memory)

    clashes_alike : (c d : Candidate) → IsAlike contents c → IsAlike contents d →
        clashes (in_memory contents c) (in_memory contents d) ≡ clashes c d
    clashes_alike c d here there =
        clashes_by (in_memory contents c) (in_memory contents d)
        ∙ (λ i. clash_by c d (same_outcome c here i) (same_outcome d there i) (same_body c here i)
        (same_body d there i))
        ∙ sym (clashes_by c d)

    between_alike : (c d : Candidate) → IsAlike contents c → IsAlike contents d →
        clash_between (in_memory contents c, in_memory contents d) ≡ clash_between (c, d)
    between_alike c d here there =
        between_by (in_memory contents c) (in_memory contents d)
        ∙ (λ i. report_by c d (same_outcome c here i) (same_outcome d there i) (same_body c here i)
        (same_body d there i))
        ∙ sym (between_by c d)

    maps_alike : Maps (IsAlike contents) candidate_rules candidate_rules (in_memory contents)
    maps_alike = record {
      same_section = λ c d here there. refl;
      same = λ c d here there. refl;
      matches = λ c here. ap is_match (same_outcome c here);
      clashes = clashes_alike;
    }

    pair_alike : (o : Option (Candidate × Candidate)) → OfPair (IsAlike contents) o →
        option_and_then clash_between (option_map (both (in_memory contents)) o) ≡ option_and_then clash_between o
    pair_alike None of = refl
    pair_alike (Some pair) of = between_alike pair.0 pair.1 of.0 of.1

    values_alike : (cs : List Candidate) → All (IsAlike contents) cs →
        values (map (in_memory contents) cs) ≡ values cs
    unfolding values
    values_alike cs all =
        ap (λ (vs : List Value). fold with_value [] vs)
        (flat_same (IsAlike contents) values_of (in_memory contents)
        (λ c here. values_by c (outcome (in_memory contents c)) ∙ ap (values_with c) (same_outcome c here)) cs all)

    module _ (cs : List Candidate) (all : All (IsAlike contents) cs) where
      left_alike : remaining candidate_rules (map (in_memory contents) cs)
          ≡ map (in_memory contents) (remaining candidate_rules cs)
      left_alike =
          remaining_maps (IsAlike contents) candidate_rules candidate_rules (in_memory contents) maps_alike cs all

      forced_alike : forced candidate_rules (map (in_memory contents) cs)
          ≡ map (in_memory contents) (forced candidate_rules cs)
      forced_alike =
          forced_maps (IsAlike contents) candidate_rules candidate_rules (in_memory contents) maps_alike cs all

      sections_alike : (count : ℕ) → All (All (IsAlike contents)) (by_place count (forced candidate_rules cs))
      sections_alike count =
          let ones : List Candidate = forced candidate_rules cs in
          All-map (All (IsAlike contents)) (λ place. filter (is_of place) ones) (range_with_len 0 count)
          (λ k d lt. All-filter _ (IsAlike contents) ones (forced_each (IsAlike contents) candidate_rules cs all))

      reported_alike : (count : ℕ) → reported count (map (in_memory contents) cs) ≡ reported count cs
      unfolding reported
      reported_alike count =
          let ones : List Candidate = forced candidate_rules cs in
          ap (λ (l : List Candidate). option_and_then clash_between (conflict candidate_rules (by_place count l)))
          forced_alike
          ∙ ap (λ (l : List (List Candidate)). option_and_then clash_between (conflict candidate_rules l))
          (places_alike ones (range_with_len 0 count))
          ∙ ap (option_and_then clash_between) (conflict_maps (IsAlike contents) candidate_rules candidate_rules
          (in_memory contents) maps_alike (by_place count ones) (sections_alike count))
          ∙ pair_alike (conflict candidate_rules (by_place count ones))
          (conflict_pair (IsAlike contents) candidate_rules (by_place count ones) (sections_alike count))

-- ---- the answer
unless_alike : (o : Option Refusal) (cs ds : List Candidate) → values cs ≡ values ds →
    values_unless o cs ≡ values_unless o ds
unless_alike (Some refusal) cs ds same = refl
unless_alike None cs ds same = ap (λ (vs : List Value). Ok vs) same

module _ (matching : MatchAlike) (bodies : BodiesAlike) (have : HaveAlike) (faults : FaultsAlike) (one other : Running)
    (object : List NormalSection) (alike : RunAlike one other) (inside : All HasFieldsInside object) where
  all_alike : All (IsAlike other.contents) (candidates one object)
  all_alike =
      All-weaker (IsHere one object) (IsAlike other.contents)
      (λ c here. record {
        memory = subst (λ (m : Contents). AreAlike m other.contents) (sym (ap (λ (d : Candidate). d.contents) here.own))
            alike.memory;
        inside = subst (λ (l : List NormalSection). All HasFieldsInside l)
            (sym (ap (λ (d : Candidate). d.object) here.own)) inside;
      })
      (candidates one object) (candidates_here one object)

  pub left_of_alike : left_of other object ≡ map (in_memory other.contents) (left_of one object)
  left_of_alike =
      ap (remaining candidate_rules) (have one other object alike)
      ∙ left_alike other.contents matching bodies (candidates one object) all_alike

  obstacle_alike : obstacle one object ≡ obstacle other object
  unfolding obstacle
  obstacle_alike =
      let own = faults one other object alike inside in
      let told = sym (ap (reported (length object)) (have one other object alike)
      ∙ reported_alike other.contents matching bodies (candidates one object) all_alike (length object)) in
      let twice = sym (ap first_twins left_of_alike ∙ twins_alike other.contents (left_of one object)) in
      λ i. option_or (own i) (option_or (told i) (twice i))

  values_left : values (left_of one object) ≡ values (left_of other object)
  values_left =
      sym (ap values left_of_alike ∙ values_alike other.contents matching bodies (left_of one object)
      (remaining_each (IsAlike other.contents) candidate_rules (candidates one object) all_alike))

  pub solved_alike : solved object one.bodies one.contents one.symbols
      ≡ solved object other.bodies other.contents other.symbols
  unfolding solved
  solved_alike =
      unless_alike (obstacle one object) (left_of one object) (left_of other object) values_left
      ∙ ap (λ (o : Option Refusal). values_unless o (left_of other object)) obstacle_alike
