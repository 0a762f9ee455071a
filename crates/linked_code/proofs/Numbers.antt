-- An address of running code stands for the number of its offset in the section.
use Rattle.std.proofs.Common.{◌≡◌, ℕ, zero, suc, ◌+◌, ◌≤◌, Bool, true, false, not, ◌||◌, cond, List, []}
use Rattle.std.proofs.Common.{◌∷◌, ◌++◌, length, map, nat_le, nat_lt, Option, Some, None, refl, sym, ap, ◌∙◌, arith}
use Rattle.std.proofs.Common.{inl, inr}
use Rattle.std.specs.Prelude.{◌==◌}
use Rattle.std.specs.List.{list_any, position, position_or_len, AllByRecursion}
use Rattle.std.proofs.lemmas.Bool.{or_cases, or_left, or_right, eqb-true, eq-eqb, leb-true}
use Rattle.std.proofs.lemmas.Bool.Decides.{nat_tests}
use Rattle.std.proofs.lemmas.List.{length-map, nil_from_length}
use Rattle.std.proofs.lemmas.List.Quantifiers.{position-Some}
use Rattle.std.proofs.lemmas.List.Folds.{list_any_at}
use Rattle.match_instructions.specs.Instructions.{Instruction, after, kept_of, through_kept, begins_at, stands_for}
use Rattle.run_pre_match.specs.Candidate.{Candidate}
use Rattle.linked_code.proofs.Pairs.{Meets}
use Rattle.linked_code.proofs.RunLists.{Chain, met_for, through_more, kept_met}

-- ---- the first that passes
position_len_alike : (p q : Instruction → Bool) (f : Instruction → Instruction) (xs : List Instruction) →
    AllByRecursion (λ x. p (f x) ≡ q x) xs → position_or_len p (map f xs) ≡ position_or_len q xs
position_len_alike p q f [] same = refl
position_len_alike p q f (x ∷ xs) same =
    ap (λ b. cond (not b) (1 + position_or_len p (map f xs)) 0) same.0
    ∙ ap (λ n. cond (not (q x)) (1 + n) 0) (position_len_alike p q f xs same.1)

position_alike : (p q : Instruction → Bool) (f : Instruction → Instruction) (xs : List Instruction) →
    AllByRecursion (λ x. p (f x) ≡ q x) xs → position p (map f xs) ≡ position q xs
position_alike p q f xs same =
    ap (λ n. cond (nat_lt n (length (map f xs))) (Some n) None) (position_len_alike p q f xs same)
    ∙ ap (λ n. cond (nat_lt (position_or_len q xs) n) (Some (position_or_len q xs)) None) (length-map xs f)

-- what has a position has an element that passes
pub some_passes : (p : Instruction → Bool) (xs : List Instruction) (k : ℕ) → position p xs ≡ Some k →
    list_any p xs ≡ true
some_passes p [] k is = absurd (cc)
some_passes p (x ∷ xs) k is =
    let it = position-Some p (x ∷ xs) k x is in list_any_at p (x ∷ xs) k x it.0 it.1

-- ---- what a place stands for
stands_parts : (is : List Instruction) (place k : ℕ) → stands_for is place ≡ Some k →
    (list_any (begins_at place) is ≡ true) × (position (λ i. nat_le place i.place) (kept_of is) ≡ Some k)
unfolding stands_for
stands_parts is place k stands =
    either (list_any (begins_at place) is) (position (λ i. nat_le place i.place) (kept_of is)) stands
  where
    either : (b : Bool) (o : Option ℕ) → cond b o None ≡ Some k → (b ≡ true) × (o ≡ Some k)
    either true o is = (refl, is)
    either false o is = absurd (cc)

stands_from : (is : List Instruction) (place k : ℕ) → list_any (begins_at place) is ≡ true →
    position (λ i. nat_le place i.place) (kept_of is) ≡ Some k → stands_for is place ≡ Some k
unfolding stands_for
stands_from is place k begins first = rw begins first

-- ---- chains
begins_from : (c : Candidate) (bytes : List ℕ) (offset : ℕ) (is : List Instruction) (o : ℕ) → Chain c bytes o is →
    list_any (begins_at offset) is ≡ true → o ≤ offset
begins_from c bytes offset [] o chain some = absurd (cc)
begins_from c bytes offset (i ∷ is) o chain some =
    elim (or_cases (i.place == offset) (list_any (begins_at offset) is) some) [
      | inl here ↦ let at = eqb-true i.place offset here in omega (arith, at, chain.0.place)
      | inr later ↦
          let behind = begins_from c bytes offset is (after i) chain.1 later in
          omega (arith, behind, chain.0.place)
    ]

begins_inside : (c : Candidate) (bytes : List ℕ) (offset : ℕ) (is : List Instruction) (o : ℕ) → Chain c bytes o is →
    list_any (begins_at offset) is ≡ true → offset ≤ c.section.size
begins_inside c bytes offset [] o chain some = absurd (cc)
begins_inside c bytes offset (i ∷ is) o chain some =
    elim (or_cases (i.place == offset) (list_any (begins_at offset) is) some) [
      | inl here ↦ let at = eqb-true i.place offset here in omega (arith, at, chain.0.inside)
      | inr later ↦ begins_inside c bytes offset is (after i) chain.1 later
    ]

-- what is known of each kept one
pub kept_all : (c : Candidate) (bytes : List ℕ) (P : Instruction → Type 0) →
    ((i : Instruction) → Meets c bytes i (met_for c i) → P i) → (is : List Instruction) (o : ℕ) → Chain c bytes o is →
    AllByRecursion P (kept_of is)
kept_all c bytes P known [] o chain = tt
kept_all c bytes P known (i ∷ is) o chain = either i.kept (kept_all c bytes P known is (after i) chain.1)
  where
    either : (b : Bool) → AllByRecursion P (kept_of is) → AllByRecursion P (cond b (i ∷ kept_of is) (kept_of is))
    either true rest = (known i chain.0.meets, rest)
    either false rest = rest

-- an instruction that begins before a kept one begins in what runs, too
begins_met : (c : Candidate) (bytes : List ℕ) (offset : ℕ) (rest is : List Instruction) (o : ℕ) → Chain c bytes o is →
    list_any (begins_at offset) is ≡ true → list_any (λ i. nat_le offset i.place) (kept_of is) ≡ true →
    list_any (begins_at (c.base + offset)) (through_kept (length (kept_of is)) (map (met_for c) is ++ rest)) ≡ true
begins_met c bytes offset rest [] o chain some passes = absurd (cc)
begins_met c bytes offset rest (i ∷ is) o chain some passes =
    either i.kept chain.0.meets.kept some passes
    (λ later more. begins_met c bytes offset rest is (after i) chain.1 later more)
  where
    not_here : list_any (begins_at offset) is ≡ true → nat_le offset i.place ≡ true → ⊥
    not_here later before =
        let behind = begins_from c bytes offset is (after i) chain.1 later in
        let low = leb-true offset i.place before in
        let long = chain.0.meets.some in
        omega (arith, behind, low, long)

    first_or_later : (n : ℕ) (b : Bool) → (met_for c i).kept ≡ b →
        ((i.place == offset) || list_any (begins_at offset) is) ≡ true →
        (list_any (begins_at offset) is ≡ true →
        list_any (begins_at (c.base + offset)) (through_kept (cond b n (suc n)) (map (met_for c) is ++ rest)) ≡ true) →
        list_any (begins_at (c.base + offset)) (through_kept (suc n) (met_for c i ∷ (map (met_for c) is ++ rest)))
        ≡ true
    first_or_later n b kept some later =
        ap (list_any (begins_at (c.base + offset))) (through_more n (met_for c i) (map (met_for c) is ++ rest))
        ∙ ap (λ t. ((met_for c i).place == c.base + offset)
        || list_any (begins_at (c.base + offset)) (through_kept (cond t n (suc n)) (map (met_for c) is ++ rest))) kept
        ∙ elim (or_cases (i.place == offset) (list_any (begins_at offset) is) some) [
          | inl here ↦
              let at = eqb-true i.place offset here in
              or_left _ _ (eq-eqb (met_for c i).place (c.base + offset) (omega (arith, chain.0.meets.place, at)))
          | inr there ↦ or_right _ _ (later there)
        ]

    left_out : (n : ℕ) → length (kept_of is) ≡ n → (met_for c i).kept ≡ false →
        ((i.place == offset) || list_any (begins_at offset) is) ≡ true →
        list_any (λ i. nat_le offset i.place) (kept_of is) ≡ true →
        (list_any (begins_at offset) is ≡ true →
        list_any (begins_at (c.base + offset)) (through_kept n (map (met_for c) is ++ rest)) ≡ true) →
        list_any (begins_at (c.base + offset)) (through_kept n (met_for c i ∷ (map (met_for c) is ++ rest))) ≡ true
    left_out zero many out some passes later =
        absurd (let no_more : false ≡ true =
        sym (ap (list_any (λ i. nat_le offset i.place)) (nil_from_length (kept_of is) many)) ∙ passes in cc)
    left_out (suc n) many out some passes later = first_or_later n false out some later

    either : (b : Bool) → (met_for c i).kept ≡ b → ((i.place == offset) || list_any (begins_at offset) is) ≡ true →
        list_any (λ i. nat_le offset i.place) (cond b (i ∷ kept_of is) (kept_of is)) ≡ true →
        (list_any (begins_at offset) is ≡ true → list_any (λ i. nat_le offset i.place) (kept_of is) ≡ true →
        list_any (begins_at (c.base + offset)) (through_kept (length (kept_of is)) (map (met_for c) is ++ rest))
        ≡ true) →
        list_any (begins_at (c.base + offset)) (through_kept (length (cond b (i ∷ kept_of is) (kept_of is)))
        (met_for c i ∷ (map (met_for c) is ++ rest))) ≡ true
    either true kept some passes later =
        first_or_later (length (kept_of is)) true kept some (λ there. later there
        (elim (or_cases (nat_le offset i.place) (list_any (λ i. nat_le offset i.place) (kept_of is)) passes) [
          | inl before ↦ absurd (not_here there before)
          | inr more ↦ more
        ]))
    either false kept some passes later =
        left_out (length (kept_of is)) refl kept some passes (λ there. later there passes)

-- ---- numbers
module _ (c : Candidate) (bytes : List ℕ) (rest is run : List Instruction) (chain : Chain c bytes 0 is)
    (list : run ≡ through_kept (length (kept_of is)) (map (met_for c) is ++ rest)) where
  pub stands_met : (offset k : ℕ) → stands_for is offset ≡ Some k → stands_for run (c.base + offset) ≡ Some k
  stands_met offset k stands =
      let parts = stands_parts is offset k stands in
      let some = some_passes (λ i. nat_le offset i.place) (kept_of is) k parts.1 in
      let kept : kept_of run ≡ map (met_for c) (kept_of is) = ap kept_of list ∙ kept_met c bytes rest is 0 chain in
      stands_from run (c.base + offset) k
      (ap (list_any (begins_at (c.base + offset))) list ∙ begins_met c bytes offset rest is 0 chain parts.0 some)
      (ap (position (λ i. nat_le (c.base + offset) i.place)) kept
      ∙ position_alike (λ i. nat_le (c.base + offset) i.place) (λ i. nat_le offset i.place) (met_for c) (kept_of is)
      (kept_all c bytes (λ i. nat_le (c.base + offset) (met_for c i).place ≡ nat_le offset i.place)
      (λ i m. ap (nat_le (c.base + offset)) m.place ∙ shifted c.base offset i.place) is 0 chain)
      ∙ parts.1)
    where
      shifted : (base a b : ℕ) → nat_le (base + a) (base + b) ≡ nat_le a b
      shifted base a b = grind (arith, nat_tests)

  pub stands_inside : (offset k : ℕ) → stands_for is offset ≡ Some k → offset ≤ c.section.size
  stands_inside offset k stands = begins_inside c bytes offset is 0 chain (stands_parts is offset k stands).0
