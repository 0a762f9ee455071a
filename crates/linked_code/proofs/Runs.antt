-- Linked code runs alike.
use Rattle.std.proofs.Common.{◌≡◌, ℕ, suc, ◌+◌, ◌-◌, ◌^◌, ◌≤◌, Bool, true, false, cond, List, [], ◌∷◌, ◌++◌}
use Rattle.std.proofs.Common.{length, map, min, Some, None, All, refl, sym, ap, subst, ◌∙◌, arith}
use Rattle.std.specs.List.{list_all, filter, reduce, AllByRecursion}
use Rattle.std.proofs.lemmas.Bool.{and_parts}
use Rattle.std.proofs.lemmas.List.{length-map}
use Rattle.std.proofs.lemmas.List.Elements.{All-from_recursion}
use Rattle.match_instructions.specs.Instructions.{Instruction, place_of, end_of, kept_of, through_kept, stands_for}
use Rattle.match_instructions.specs.Landing.{is_misplaced, goes_astray, broken_offsets, misplaced_offsets}
use Rattle.match_instructions.specs.Landing.{astray_offsets, unmet_offsets, empty_offsets, offsets_named, undecoded_offset}
use Rattle.match_instructions.specs.PreCode.{pre_instruction_at, pre_code}
use Rattle.match_instructions.specs.RunCode.{run_code}
use Rattle.run_pre_match.specs.Candidate.{Candidate, Pair, pairs_from, pairs, pre_list, run_list}
use Rattle.run_pre_match.specs.Match.{Agree}
use Rattle.linked_code.specs.Standing.{IsLinkedCode, stays_kept, HoldsItsFields, RunsAlike}
use Rattle.linked_code.proofs.Holding.{held}
use Rattle.linked_code.proofs.Meetings.{Laws, apart_first}
use Rattle.linked_code.proofs.Numbers.{kept_all, stands_met, stands_inside}
use Rattle.linked_code.proofs.Pairs.{Meets, StandAlike, agrees}
use Rattle.linked_code.proofs.RunLists.{IsClear, Chain, Begins, met_for, chained, length_listed, begins, kept_met}

-- ---- a section whose code can be matched
no_least : (xs : List ℕ) → reduce min xs ≡ None → xs ≡ []
no_least [] none = refl
no_least (x ∷ xs) none = absurd (cc)

first_empty : (xs ys : List ℕ) → xs ++ ys ≡ [] → xs ≡ []
first_empty [] ys none = refl
first_empty (x ∷ xs) ys none = absurd (cc)

last_empty : (xs ys : List ℕ) → xs ++ ys ≡ [] → ys ≡ []
last_empty [] ys none = none
last_empty (x ∷ xs) ys none = absurd (cc)

-- no place is told of three tests
all_clear : (p q s : Instruction → Bool) (is : List Instruction) → map place_of (filter p is) ≡ [] →
    map place_of (filter q is) ≡ [] → list_all s is ≡ true →
    AllByRecursion (λ i. (p i ≡ false) × (q i ≡ false) × (s i ≡ true)) is
all_clear p q s [] no_p no_q all = tt
all_clear p q s (i ∷ is) no_p no_q all =
    let parts = and_parts (s i) (list_all s is) all in
    let first = told p no_p in
    let second = told q no_q in
    ((first.0, second.0, parts.0), all_clear p q s is first.1 second.1 parts.1)
  where
    told : (t : Instruction → Bool) → map place_of (filter t (i ∷ is)) ≡ [] →
        (t i ≡ false) × (map place_of (filter t is) ≡ [])
    told t none = either (t i) none
      where
        either : (b : Bool) → map place_of (cond b (i ∷ filter t is) (filter t is)) ≡ [] →
            (b ≡ false) × (map place_of (filter t is) ≡ [])
        either true none = absurd (cc)
        either false none = (refl, none)

module _ (laws : Laws) (c : Candidate) (bytes : List ℕ) (linked : IsLinkedCode c bytes) where
  clear : AllByRecursion (IsClear c) (pre_code c.section)
  unfolding undecoded_offset
  clear =
      let code = pre_code c.section in
      let broken = broken_offsets (end_of 0 code) c.section.size in
      let misplaced = misplaced_offsets code in
      let astray = astray_offsets code in
      let unmet = unmet_offsets code (offsets_named c.object c.section.name) in
      let empty = empty_offsets code c.section.size in
      let none : broken ++ misplaced ++ astray ++ unmet ++ empty ≡ [] =
      no_least (broken ++ misplaced ++ astray ++ unmet ++ empty) linked.decodes in
      let three : broken ++ misplaced ++ astray ≡ [] =
      first_empty (broken ++ misplaced ++ astray) unmet
      (first_empty (broken ++ misplaced ++ astray ++ unmet) empty none) in
      all_clear is_misplaced (goes_astray code) (stays_kept c.contents c.base) code
      (last_empty broken misplaced (first_empty (broken ++ misplaced) astray three))
      (last_empty (broken ++ misplaced) astray three) linked.kept

  chain : Chain c bytes 0 (pre_code c.section)
  unfolding pre_code
  chain = chained laws c bytes linked c.section.size 0 (apart_first c.section.refs) clear

  list_short : length (pre_code c.section) ≤ c.section.size
  unfolding pre_code
  list_short = length_listed (pre_instruction_at c.section) c.section.size 0

  starts : Begins c (pre_code c.section) (run_code c.contents c.base)
  unfolding run_code
  starts =
      begins c bytes (pre_code c.section) 0 (2 ^ 32 - c.base) c.base (omega arith) chain
      (omega (arith, list_short, linked.stands.low, linked.filled.size))

  list : run_list c ≡ through_kept (length (kept_of (pre_list c))) (map (met_for c) (pre_list c) ++ starts.rest)
  list = ap (through_kept (length (kept_of (pre_list c)))) starts.whole

  kept_list : kept_of (run_list c) ≡ map (met_for c) (kept_of (pre_list c))
  kept_list = ap kept_of list ∙ kept_met c bytes starts.rest (pre_list c) 0 chain

  numbers : (offset k : ℕ) → stands_for (pre_list c) offset ≡ Some k →
      stands_for (run_list c) (c.base + offset) ≡ Some k
  numbers = stands_met c bytes starts.rest (pre_list c) (run_list c) chain list

  alike : StandAlike c
  alike = record {
    numbers = numbers;
    low = λ offset k stands.
        let inside = stands_inside c bytes starts.rest (pre_list c) (run_list c) chain list offset k stands in
        omega (arith, inside, linked.stands.low, linked.filled.size);
  }

  -- each pair is a kept instruction and the one that is met for it
  each_pair : (P : Pair → Type 0) → (n : ℕ) (is : List Instruction) →
      AllByRecursion (λ i. (index : ℕ) → P (record { index = index; pre = i; run = met_for c i })) is →
      AllByRecursion P (pairs_from n is (map (met_for c) is))
  unfolding pairs_from
  each_pair P n [] all = tt
  each_pair P n (i ∷ is) all = (all.0 n, each_pair P (suc n) is all.1)

  all_pairs : (P : Pair → Type 0) → ((index : ℕ) (i : Instruction) → Meets c bytes i (met_for c i) →
      P (record { index = index; pre = i; run = met_for c i })) → All P (pairs c)
  all_pairs P known =
      subst (λ (rs : List Instruction). All P (pairs_from 0 (kept_of (pre_list c)) rs)) (sym kept_list)
      (All-from_recursion P (pairs_from 0 (kept_of (pre_list c)) (map (met_for c) (kept_of (pre_list c))))
      (each_pair P 0 (kept_of (pre_list c))
      (kept_all c bytes (λ i. (index : ℕ) → P (record { index = index; pre = i; run = met_for c i }))
      (λ i m index. known index i m) (pre_list c) 0 chain)))

  pub runs_alike : RunsAlike c bytes
  runs_alike = record {
    whole = ap length kept_list ∙ length-map (kept_of (pre_list c)) (met_for c);
    code = all_pairs (Agree c) (λ index i m. agrees c bytes alike
        (record { index = index; pre = i; run = met_for c i }) m);
    held = all_pairs (HoldsItsFields c bytes) (λ index i m. held c.base bytes
        (record { index = index; pre = i; run = met_for c i }) m.runs m.place m.there);
    numbers = numbers;
  }
