-- No candidate of a solution is excluded in any round.
use Rattle.std.proofs.Common.{◌≡◌, inl, inr, ℕ, zero, suc, Bool, true, false, not, ◌&&◌, ◌||◌, eqb, cond}
use Rattle.std.proofs.Common.{List, [], ◌∷◌, length, map, Option, Some, None, refl, sym, ap, subst, ◌∙◌}
use Rattle.std.specs.List.{All, filter, list_any, slice_get, range_with_len}
use Rattle.std.specs.Option.{option_and_then}
use Rattle.std.proofs.lemmas.Bool.{eq-eqb, eqb-true, false≢true}
use Rattle.std.proofs.lemmas.List.Elements.{All-map}
use Rattle.std.proofs.lemmas.Option.{same_Some}
use Rattle.ks_base.specs.declared.refusals.Refusal.{Refusal}
use Rattle.i386_reloc.specs.declared.types.NormalSection.{NormalSection}
use Rattle.run_pre_match.specs.Candidate.{Candidate}
use Rattle.run_pre_match.specs.Matched.{PreSection, outcome}
use Rattle.match_candidates.specs.Candidates.{Running, candidate_at, candidates_of, candidates}
use Rattle.match_candidates.specs.Candidates.{code_sections, homes_of, is_of, matches}
use Rattle.match_candidates.specs.OwnFaults.{mismatch_in, difference_in, first_mismatch}
use Rattle.propagation.specs.Rounds.{left_in, remaining, forced, is_forced, forced_among, clashes_with_one}
use Rattle.propagation.specs.Conflicts.{clashing, conflict}
use Rattle.symbol_solve.specs.Clashes.{clashes, candidate_rules}
use Rattle.symbol_solve.specs.Conflicts.{by_place, clash_between, reported}
use Rattle.symbol_solve.specs.Solution.{IsChoice, IsSolution}
use Rattle.symbol_solve.proofs.CandidateLaws.{placed, IsHere, candidates_here}
use Rattle.symbol_solve.proofs.Members.{Has, has_of, all_has, any_has, any_none, every_has, has_filter, filter_has}
use Rattle.symbol_solve.proofs.Members.{has_flat, flat_has, beside_left, beside_right, first_from, between_from}

second_of : (a b : Bool) → a ≡ true → (not a || (a && b)) ≡ true → b ≡ true
second_of true b is both = both
second_of false b is both = absurd cc

pub map_has : {X Y : Type 0} (f : X → Y) (xs : List X) (y : Y) → Has (map f xs) y → (x : X) × Has xs x × (f x ≡ y)
map_has f [] y has = absurd has
map_has f (x ∷ xs) y (inl is) = (x, inl refl, is)
map_has f (x ∷ xs) y (inr rest) =
    let (z, has, is) = map_has f xs y rest in
    (z, inr has, is)

module _ (running : Running) (object : List NormalSection) where
  pub place_of : (pre : PreSection) (c : Candidate) → Has (candidates_of running pre) c → c.place ≡ pre.place
  place_of pre c has =
      all_has (λ (d : Candidate). d.place ≡ pre.place) (candidates_of running pre) c
      (All-map (λ (d : Candidate). d.place ≡ pre.place)
      (candidate_at running pre) (homes_of running pre) (λ k d lt. refl)) has

  -- a candidate is determined by its section and home
  pub same_one : (c d : Candidate) → Has (candidates running object) c
      → Has (candidates running object) d → c.place ≡ d.place → c.home ≡ d.home → c ≡ d
  same_one c d has_c has_d place home =
      let here : IsHere running object c =
      all_has (IsHere running object) (candidates running object) c (candidates_here running object) has_c in
      let there : IsHere running object d =
      all_has (IsHere running object) (candidates running object) d (candidates_here running object) has_d in
      let section : c.section ≡ d.section =
      same_Some c.section d.section (sym here.at ∙ ap (slice_get object) place ∙ there.at) in
      here.own ∙ (λ i. candidate_at running (placed object (place i) (section i)) (home i)) ∙ sym there.own

  -- what is left of a forced one's section is that one
  pub only_one : (left : List Candidate) (c d : Candidate)
      → Has (candidates running object) c → Has (candidates running object) d → is_forced candidate_rules left d ≡ true
      → Has left c → c.place ≡ d.place → c ≡ d
  only_one left c d has_c has_d force here place =
      let both : (not (eqb c.place d.place) || (eqb c.place d.place && eqb c.home d.home)) ≡ true =
      every_has (λ y. not (candidate_rules.same_section y d) || candidate_rules.same y d) left c force here in
      same_one c d has_c has_d place (eqb-true c.home d.home
      (second_of (eqb c.place d.place) (eqb c.home d.home) (eq-eqb c.place d.place place) both))

  module _ (chosen : List Candidate) (it : IsSolution running object chosen) where
    pub chosen_here : (c : Candidate) → Has chosen c → Has (candidates running object) c
    unfolding candidates
    chosen_here c has =
        let (pre, has_pre, choice) = beside_right (IsChoice running) (code_sections object) chosen c it.choice has in
        has_flat (candidates_of running)
        (code_sections object) pre c has_pre (has_of (candidates_of running pre) c choice.among)

    pub chosen_match : (c : Candidate) → Has chosen c → matches c ≡ true
    chosen_match c has =
        let (pre, has_pre, choice) = beside_right (IsChoice running) (code_sections object) chosen c it.choice has in
        choice.matching

    -- one is chosen of each candidate's section
    rival : (d : Candidate) → Has (candidates running object) d → (e : Candidate) × Has chosen e × (e.place ≡ d.place)
    unfolding candidates
    rival d has =
        let (pre, has_pre, own) = flat_has (candidates_of running) (code_sections object) d has in
        let (e, has_e, choice) = beside_left (IsChoice running) (code_sections object) chosen pre it.choice has_pre in
        (e, has_e, place_of pre e (has_of (candidates_of running pre) e choice.among) ∙ sym (place_of pre d own))

    pub peace : (c d : Candidate) → Has chosen c → Has chosen d → clashes c d ≡ false
    peace c d has_c has_d =
        all_has (λ y. clashes c y ≡ false) chosen d
        (all_has (λ x. All (λ y. clashes x y ≡ false) chosen) chosen c it.peaceful has_c) has_d

    pub survives : (round : ℕ) (c : Candidate)
        → Has chosen c → Has (left_in candidate_rules round (candidates running object)) c
    unfolding left_in
    survives zero c has = has_filter matches (candidates running object) c (chosen_here c has) (chosen_match c has)
    survives (suc round) c has =
        let cs : List Candidate = candidates running object in
        let left : List Candidate = left_in candidate_rules round cs in
        let none : clashes_with_one candidate_rules (forced_among candidate_rules cs left) c ≡ false =
        any_none (clashes c) (forced_among candidate_rules cs left)
        (λ d has_d.
        let (there, force) = filter_has (is_forced candidate_rules left) cs d has_d in
        let (e, has_e, place) = rival d there in
        let one : e ≡ d = only_one left e d (chosen_here e has_e) there force (survives round e has_e) place in
        subst (λ x. clashes c x ≡ false) one (peace c e has has_e)) in
        has_filter (λ x. not (clashes_with_one candidate_rules (forced_among candidate_rules cs left) x)) left c
        (survives round c has) (ap not none)

    pub stays : (c : Candidate) → Has chosen c → Has (remaining candidate_rules (candidates running object)) c
    unfolding remaining
    stays c has = survives (length (candidates running object)) c has

    -- what is forced is chosen
    forced_chosen : (d : Candidate) → Has (forced candidate_rules (candidates running object)) d → Has chosen d
    unfolding forced
    forced_chosen d has =
        let (there, force) =
        filter_has (is_forced candidate_rules (remaining candidate_rules (candidates running object)))
        (candidates running object) d has in
        let (e, has_e, place) = rival d there in
        let one : e ≡ d = only_one (remaining candidate_rules (candidates running object)) e d
        (chosen_here e has_e) there force (stays e has_e) place in
        subst (Has chosen) one has_e

    -- so no two that are forced clash
    pub no_conflict : (count : ℕ) (pair : Candidate × Candidate) → conflict candidate_rules
        (by_place count (forced candidate_rules (candidates running object))) ≡ Some pair → ⊥
    no_conflict count pair is =
        let all : List Candidate = forced candidate_rules (candidates running object) in
        let (a, b, ones, others, has_ones, has_a, has_others, has_b, found) =
        between_from (clashing candidate_rules) (by_place count all) pair is in
        let (p, has_p, ones_are) = map_has (λ place. filter (is_of place) all) (range_with_len 0 count) ones has_ones in
        let (q, has_q, others_are) =
        map_has (λ place. filter (is_of place) all) (range_with_len 0 count) others has_others in
        let in_a : Has all a =
        (filter_has (is_of p) all a (subst (λ (l : List Candidate). Has l a) (sym ones_are) has_a)).0 in
        let in_b : Has all b =
        (filter_has (is_of q) all b (subst (λ (l : List Candidate). Has l b) (sym others_are) has_b)).0 in
        let quiet : clashes a b ≡ false = peace a b (forced_chosen a in_a) (forced_chosen b in_b) in
        let none : None ≡ Some pair = ap (λ t. cond t (Some (a, b)) None) (sym quiet) ∙ found in
        absurd cc

    pub none_reported : (count : ℕ) (refusal : Refusal) → reported count (candidates running object) ≡ Some refusal → ⊥
    unfolding reported
    none_reported count refusal is =
        by (conflict candidate_rules (by_place count (forced candidate_rules (candidates running object)))) refl is
      where
        by : (o : Option (Candidate × Candidate))
            → conflict candidate_rules (by_place count (forced candidate_rules (candidates running object))) ≡ o
            → option_and_then clash_between o ≡ Some refusal → ⊥
        by None at here = absurd cc
        by (Some pair) at here = no_conflict count pair at

    -- and no section has none that matches
    unmatched : (pre : PreSection) (refusal : Refusal) (cs : List Candidate)
        → mismatch_in pre cs ≡ Some refusal → list_any matches cs ≡ false
    unmatched pre refusal [] is = refl
    unmatched pre refusal (c ∷ cs) is = by (list_any matches (c ∷ cs)) refl is
      where
        by : (b : Bool) → list_any matches (c ∷ cs) ≡ b
            → cond b None (difference_in pre (outcome c)) ≡ Some refusal → list_any matches (c ∷ cs) ≡ false
        by true at here = absurd cc
        by false at here = at

    pub none_mismatched : (refusal : Refusal) → first_mismatch running object ≡ Some refusal → ⊥
    none_mismatched refusal is =
        let (pre, has_pre, found) =
        first_from (λ pre. mismatch_in pre (candidates_of running pre)) (code_sections object) refusal is in
        let (e, has_e, choice) = beside_left (IsChoice running) (code_sections object) chosen pre it.choice has_pre in
        let one : list_any matches (candidates_of running pre) ≡ true = any_has matches
        (candidates_of running pre) e (has_of (candidates_of running pre) e choice.among) choice.matching in
        false≢true (sym (unmatched pre refusal (candidates_of running pre) found) ∙ one)
