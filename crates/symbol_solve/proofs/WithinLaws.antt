-- Where the running body of a candidate that matches lies.
use Rattle.std.proofs.Common.{◌≡◌, ℕ, zero, suc, ◌+◌, ◌-◌, ◌<◌, ◌≤◌, Bool, true, ◌||◌, cond}
use Rattle.std.proofs.Common.{eqb, ltb, leb, List, [], ◌∷◌, length, Option, Some, None}
use Rattle.std.proofs.Common.{Result, Ok, Err, refl, sym, ◌∙◌, ap, subst, inl, inr, arith}
use Rattle.std.specs.List.{list_any, position, position_or_len}
use Rattle.std.proofs.lemmas.Bool.{cases_Bool, eqb-true, leb-true, ltb-true, false≢true}
use Rattle.std.proofs.lemmas.Option.{same_Some}
use Rattle.ks_base.specs.declared.refusals.Difference.{Difference}
use Rattle.image_memory.specs.Contents.{Contents}
use Rattle.run_pre_match.specs.declared.types.Matched.{Matched}
use Rattle.run_pre_match.specs.declared.types.MatchFault.{MatchFault}
use Rattle.match_instructions.specs.Instructions.{Instruction, after, end_of, listed, listed_on}
use Rattle.match_instructions.specs.Instructions.{through_kept, kept_of, begins_at, stands_for}
use Rattle.match_instructions.specs.RunCode.{run_instruction_at, run_code}
use Rattle.run_pre_match.specs.Candidate.{Candidate, pre_list, run_list, has_number, is_number, body_of}
use Rattle.run_pre_match.specs.Matched.{outcome, matched_unless}
use Rattle.run_pre_match.specs.Match.{Valuation, Match}
use Rattle.symbol_solve.specs.inside.Points.{LiesIn}

-- instructions one after another, from a place on
Follow : ℕ → List Instruction → Type 0
Follow place [] = Unit {0}
Follow place (i ∷ is) = (i.place ≡ place) × (0 < i.decoded.length) × Follow (after i) is

module _ (there : ℕ → Option Instruction) (each : (address : ℕ) (i : Instruction)
    → there address ≡ Some i → (i.place ≡ address) × (0 < i.decoded.length)) where
  met_follow : (n place : ℕ) → ((next : ℕ) → Follow next (listed there n next))
      → (o : Option Instruction) → there place ≡ o → Follow place (listed_on o (listed there n))
  unfolding Follow
  met_follow n place rest None is = tt
  met_follow n place rest (Some i) is = let own = each place i is in (own.0, own.1, rest (after i))

  listed_follow : (n place : ℕ) → Follow place (listed there n place)
  unfolding Follow listed
  listed_follow zero place = tt
  listed_follow (suc n) place = met_follow n place (listed_follow n) (there place) refl

through_follow : (is : List Instruction) (n place : ℕ) → Follow place is → Follow place (through_kept n is)
unfolding Follow through_kept
through_follow is zero place follow = tt
through_follow [] (suc n) place follow = tt
through_follow (i ∷ is) (suc n) place follow =
    (follow.0, follow.1, through_follow is (cond i.kept n (suc n)) (after i) follow.2)

rises : (is : List Instruction) (place : ℕ) → Follow place is → place ≤ end_of place is
unfolding Follow
rises [] place follow = omega arith
rises (i ∷ is) place follow =
    let at = follow.0 in
    let rest : after i ≤ end_of (after i) is = rises is (after i) follow.2 in
    omega (arith, at, rest)

begins_within : (is : List Instruction) (place address : ℕ)
    → Follow place is → list_any (begins_at address) is ≡ true → (place ≤ address) × (address < end_of place is)
unfolding Follow
begins_within [] place address follow any = absurd (false≢true any)
begins_within (i ∷ is) place address follow any =
    let at : i.place ≡ place = follow.0 in
    let some : 0 < i.decoded.length = follow.1 in
    elim (cases_Bool (eqb i.place address)) [
      | inl own ↦
          let is_here : i.place ≡ address = eqb-true i.place address own in
          let rest : after i ≤ end_of (after i) is = rises is (after i) follow.2 in
          (omega (arith, at, is_here), omega (arith, some, is_here, rest))
      | inr other ↦
          let later = begins_within is
          (after i) address follow.2 (sym (ap (λ b. b || list_any (begins_at address) is) other) ∙ any) in
          (let low = later.0 in omega (arith, at, low), later.1)
    ]

stands_within : (is : List Instruction) (place address k : ℕ)
    → Follow place is → stands_for is address ≡ Some k → (place ≤ address) × (address < end_of place is)
unfolding stands_for
stands_within is place address k follow found =
    begins_within is place address follow
    (elim (cases_Bool (list_any (begins_at address) is)) [
      | inl any ↦ any
      | inr none ↦
          let e : None ≡ Some k =
          sym (ap (λ b. cond b (position (λ (i : Instruction). leb address i.place) (kept_of is)) None) none)
          ∙ found in
          absurd cc
    ])

position_below : {X : Type 0} (p : X → Bool) (xs : List X) (k : ℕ) → position p xs ≡ Some k → k < length xs
position_below p xs k found =
    let n : ℕ = position_or_len p xs in
    elim (cases_Bool (ltb n (length xs))) [
      | inl below ↦
          let at : n ≡ k = same_Some n k (sym (ap (λ b. cond b (Some n) None) below) ∙ found) in
          subst (λ j. j < length xs) at (ltb-true n (length xs) below)
      | inr past ↦
          let e : None ≡ Some k = sym (ap (λ b. cond b (Some n) None) past) ∙ found in
          absurd cc
    ]

-- an offset stands for a number of the section's own
number_below : (is : List Instruction) (offset k : ℕ) → stands_for is offset ≡ Some k → k < length (kept_of is)
unfolding stands_for
number_below is offset k found =
    let there : Option ℕ = position (λ (i : Instruction). leb offset i.place) (kept_of is) in
    elim (cases_Bool (list_any (begins_at offset) is)) [
      | inl any ↦ position_below
          (λ (i : Instruction). leb offset i.place) (kept_of is) k (sym (ap (λ b. cond b there None) any) ∙ found)
      | inr none ↦
          let e : None ≡ Some k = sym (ap (λ b. cond b there None) none) ∙ found in
          absurd cc
    ]

-- that running instructions stand where they are met, and have bytes
abbrev pub AreMet : Contents → Type 0
AreMet contents = (address : ℕ) (i : Instruction)
    → run_instruction_at contents address ≡ Some i → (i.place ≡ address) × (0 < i.decoded.length)

run_follows : (contents : Contents)
    → AreMet contents → (base n : ℕ) → Follow base (through_kept n (run_code contents base))
unfolding run_code
run_follows contents met base n =
    through_follow (run_code contents base) n base (listed_follow (run_instruction_at contents) met _ base)

matched_in : Matched → Result Matched MatchFault → Matched
matched_in d (Ok m) = m
matched_in d (Err fault) = d

same_match : (o : Option Difference) (x m : Matched) → matched_unless o x ≡ Ok m → x ≡ m
unfolding matched_in
same_match None x m e = ap (matched_in m) e
same_match (Some d) x m e = absurd cc

length_of : (c : Candidate) (m : Matched) → outcome c ≡ Ok m → m.length ≡ end_of c.base (run_list c) - c.base
unfolding outcome
length_of c m is = sym (ap (λ (x : Matched). x.length) (same_match _ _ m is))

is_some_number : (k : ℕ) (there : Option ℕ) → is_number k there ≡ true → there ≡ Some k
is_some_number k None h = absurd (false≢true h)
is_some_number k (Some n) h = ap Some (eqb-true n k h)

number_there : (count k : ℕ) (there : Option ℕ) → has_number count there (Some k) ≡ true → k < count → there ≡ Some k
number_there count k there h below =
    elim (cases_Bool (leb count k)) [
      | inl past ↦ let le : count ≤ k = leb-true count k past in absurd (omega (arith, le, below))
      | inr within ↦ is_some_number k there (sym (ap (λ b. b || is_number k there) within) ∙ h)
    ]

-- a match lies in its bytes
module _ (some : (c : Candidate) (m : Matched) → outcome c ≡ Ok m → (v : Valuation) × Match c v)
    (c : Candidate) (m : Matched) (met : AreMet c.contents) (is : outcome c ≡ Ok m) (address : ℕ) where
  number_lies : (here : Option ℕ) (offset : ℕ) → stands_for (pre_list c) offset ≡ here
      → has_number (length (kept_of (run_list c))) (stands_for (run_list c) address) here ≡ true
      → (c.base ≤ address) × (address < c.base + m.length)
  number_lies None offset at h = absurd (false≢true h)
  number_lies (Some k) offset at h =
      let below : k < length (kept_of (pre_list c)) = number_below (pre_list c) offset k at in
      let whole : length (kept_of (run_list c)) ≡ length (kept_of (pre_list c)) = (some c m is).1.whole in
      let follow : Follow c.base (run_list c) = run_follows c.contents met c.base (length (kept_of (pre_list c))) in
      let there = number_there
      (length (kept_of (run_list c))) k (stands_for (run_list c) address) h (omega (arith, below, whole)) in
      let (low, high) = stands_within (run_list c) c.base address k follow there in
      let long = length_of c m is in
      let up = rises (run_list c) c.base follow in
      (low, omega (arith, high, long, up))

pub match_lies : ((c : Candidate) (m : Matched) → outcome c ≡ Ok m → (v : Valuation) × Match c v) → (c : Candidate)
    (m : Matched) → AreMet c.contents → outcome c ≡ Ok m → LiesIn (body_of c) c.base (c.base + m.length)
match_lies some c m met is offset address h =
    number_lies some c m met is address (stands_for (pre_list c) offset) offset refl h
