-- The pairs of kept instructions, one after another.
use Rattle.std.proofs.Common.{◌≡◌, ℕ, zero, suc, ◌+◌, ◌<◌, ◌≤◌, min, List, [], ◌∷◌, ◌++◌, length, take, drop, get_or}
use Rattle.std.proofs.Common.{Option, Some, None, option_map, append_assoc, refl, sym, ◌∙◌, ap, add-zero, zero-add}
use Rattle.std.proofs.Common.{add-one, arith}
use Rattle.std.specs.Option.{option_or}
use Rattle.std.proofs.lemmas.Option.{same_Some, slice_get_within, get_or_from_slice_get, slice_get-get_or}
use Rattle.std.proofs.lemmas.List.{take_more, take_all, drop_all, append-nil}
use Rattle.std.proofs.lemmas.List.Elements.{filter_map-append}
use Rattle.std.proofs.Math.Seq.{drop-cons}
use Rattle.std.proofs.lemmas.Grind.{flat_map-append}
use Rattle.std.specs.List.{slice_get, filter_map, flat_map}
use Rattle.match_instructions.specs.Instructions.{Instruction, kept_of}
use Rattle.run_pre_match.specs.Candidate.{Candidate, Pair, pairs_from, pairs, pre_list, run_list}
use Rattle.ks_base.specs.declared.refusals.DifferenceKind.{DifferenceKind}
use Rattle.ks_base.specs.declared.refusals.Difference.{Difference}
use Rattle.run_pre_match.specs.declared.stating.Said.{Said}
use Rattle.run_pre_match.specs.declared.values.Values.{Values}
use Rattle.run_pre_match.specs.Matched.{claim_of, interior_of, stated_by_pair}
use Rattle.match_constants.specs.Texts.{AreKnown}
use Rattle.run_pre_match.specs.inside.Kept.{Keeps, IsKind, Compared}
use Rattle.run_pre_match.specs.Found.{Found, own_home, found_in, found_from}
use Rattle.run_pre_match.specs.Differences.{kind_of, difference_at, break_of, difference_from}

pub length-pairs_from : (index : ℕ) (ps rs : List Instruction) →
    length (pairs_from index ps rs) ≡ min (length ps) (length rs)
unfolding pairs_from
length-pairs_from index [] rs = sym (omega arith)
length-pairs_from index (p ∷ ps) [] = sym (omega arith)
length-pairs_from index (p ∷ ps) (r ∷ rs) = let rest = length-pairs_from (suc index) ps rs in omega (arith, rest)

abbrev pub pair_of : ℕ → Instruction → Instruction → Pair
pair_of index p r = record { index = index; pre = p; run = r }

pub nth_pair : (index : ℕ) (ps rs : List Instruction) (k : ℕ) (p r : Instruction) → slice_get ps k ≡ Some p →
    slice_get rs k ≡ Some r →
    slice_get (pairs_from index ps rs) k ≡ Some (record { index = index + k; pre = p; run = r })
unfolding pairs_from
nth_pair index [] rs k p r at_p at_r = absurd cc
nth_pair index (p ∷ ps) [] k q r at_p at_r = absurd cc
nth_pair index (x ∷ ps) (y ∷ rs) zero p r at_p at_r =
    rw add-zero (ap (λ q. Some (pair_of index q y)) (same_Some x p at_p)
    ∙ ap (λ q. Some (pair_of index p q)) (same_Some y r at_r))
nth_pair index (x ∷ ps) (y ∷ rs) (suc k) p r at_p at_r =
    let e : suc index + k ≡ index + suc k = omega arith in
    nth_pair (suc index) ps rs k p r at_p at_r ∙ ap (λ n. Some (pair_of n p r)) e

-- what is found by one more pair
pub found_from-snoc : (c : Candidate) (before : List Found) (xs : List Pair) (x : Pair) →
    found_from c before (xs ++ x ∷ []) ≡ found_from c before xs ++ found_in c (found_from c before xs) x
unfolding found_from
found_from-snoc c before [] x = refl
found_from-snoc c before (y ∷ xs) x = found_from-snoc c (before ++ found_in c before y) xs x

-- the pairs from the k-th on begin with it
pub drop_pair : (P : List Pair) (k : ℕ) (pair : Pair) → slice_get P k ≡ Some pair → drop k P ≡ pair ∷ drop (k + 1) P
drop_pair P k pair at =
    drop-cons P k pair (slice_get_within P k pair at)
    ∙ rw add-one (ap (λ x. x ∷ drop (suc k) P) (get_or_from_slice_get P k pair pair at))

-- and those up to it end with it
pub take_pair : (P : List Pair) (k : ℕ) (pair : Pair) → slice_get P k ≡ Some pair →
    take (k + 1) P ≡ take k P ++ pair ∷ []
take_pair P k pair at = take_more P k pair (slice_get_within P k pair at)
    ∙ ap (λ x. take k P ++ x ∷ []) (get_or_from_slice_get P k pair pair at)

-- the first difference from a pair on
pub difference_next : (c : Candidate) (before : List Found) (P : List Pair) (k : ℕ) (pair : Pair) →
    slice_get P k ≡ Some pair →
    difference_from c before (drop k P) ≡ option_or
    (option_map (difference_at pair) (kind_of c (found_in c before pair) pair))
    (difference_from c (before ++ found_in c before pair) (drop (k + 1) P))
unfolding difference_from
difference_next c before P k pair at = rw (drop_pair P k pair at) refl

pub found_next : (c : Candidate) (before : List Found) (P : List Pair) (k : ℕ) (pair : Pair) →
    slice_get P k ≡ Some pair →
    found_from c before (take (k + 1) P) ≡ found_from c before (take k P)
    ++ found_in c (found_from c before (take k P)) pair
found_next c before P k pair at =
    ap (found_from c before) (take_pair P k pair at) ∙ found_from-snoc c before (take k P) pair

pub said_next : {X Y : Type 0} (f : X → Option Y) (g : Pair → List X) (P : List Pair) (k : ℕ) (pair : Pair)
    (old now new : List Y) → slice_get P k ≡ Some pair →
    now ≡ old ++ filter_map f (flat_map g (take k P)) → new ≡ now ++ filter_map f (g pair) →
    new ≡ old ++ filter_map f (flat_map g (take (k + 1) P))
said_next f g P k pair old now new at here more =
    let front : flat_map g (take (k + 1) P) ≡ flat_map g (take k P) ++ g pair =
    ap (flat_map g) (take_pair P k pair at) ∙ flat_map-append g (take k P) (pair ∷ [])
    ∙ ap (λ ys. flat_map g (take k P) ++ ys) (append-nil (g pair)) in
    more ∙ ap (λ ys. ys ++ filter_map f (g pair)) here ∙ append_assoc old _ _
    ∙ ap (λ ys. old ++ ys) (sym (filter_map-append f (flat_map g (take k P)) (g pair)))
    ∙ ap (λ xs. old ++ filter_map f xs) (sym front)

-- a number below that of the pairs has an instruction in both lists
pub none_within : (xs : List Instruction) (k n : ℕ) → None ≡ slice_get xs k → k < n → n ≤ length xs → ⊥
none_within [] k n none lt le = absurd (omega (arith, lt, le))
none_within (x ∷ xs) k n none lt le =
    let e : None ≡ Some (get_or (x ∷ xs) k x) = none ∙ slice_get-get_or (x ∷ xs) k x (omega arith) in cc

pub pair_there : (c : Candidate) (k : ℕ) (p r : Instruction) → Some p ≡ slice_get (kept_of (pre_list c)) k →
    Some r ≡ slice_get (kept_of (run_list c)) k → slice_get (pairs c) k ≡ Some (pair_of k p r)
pair_there c k p r at_p at_r =
    nth_pair 0 (kept_of (pre_list c)) (kept_of (run_list c)) k p r (sym at_p) (sym at_r)
    ∙ ap (λ n. Some (pair_of n p r)) (zero-add k)

-- the first k pairs agree
pub record ComparedTo (c : Candidate) (old new : Said) (kept : Values) (k : ℕ) : Type 0 where
  pub known : AreKnown c.object c.contents.pieces kept.texts
  pub keeps : Keeps c (found_from c (own_home c ∷ []) (take k (pairs c))) kept
  pub rest : difference_from c (own_home c ∷ []) (pairs c)
      ≡ difference_from c (found_from c (own_home c ∷ []) (take k (pairs c))) (drop k (pairs c))
  pub claims : new.claims ≡ old.claims ++ filter_map (claim_of c) (flat_map (stated_by_pair c) (take k (pairs c)))
  pub interiors : new.interiors ≡ old.interiors
      ++ filter_map (interior_of c) (flat_map (stated_by_pair c) (take k (pairs c)))

some_none : (d : Difference) → Some d ≡ None → ⊥
some_none d e = cc

-- nothing is compared yet
pub compared_none : (c : Candidate) (old : Said) (kept : Values) → Keeps c (own_home c ∷ []) kept →
    AreKnown c.object c.contents.pieces kept.texts → ComparedTo c old old kept 0
unfolding found_from
compared_none c old kept keeps known = record {
  known = known;
  keeps = keeps;
  rest = refl;
  claims = sym (append-nil old.claims);
  interiors = sym (append-nil old.interiors);
}

abbrev pub so_far : Candidate → ℕ → List Found
so_far c k = found_from c (own_home c ∷ []) (take k (pairs c))

-- the k-th pair differs
pub compared_differs : (c : Candidate) (old new : Said) (kept after : Values) (k : ℕ) (pair : Pair)
    (kind : DifferenceKind) (d : Difference) → slice_get (pairs c) k ≡ Some pair → ComparedTo c old new kept k →
    IsKind c (so_far c k) pair (Some kind) after → d ≡ difference_at pair kind → Compared c old new (Some d) after
compared_differs c old new kept after k pair kind d at before is same = record {
  first = ap (λ x. Some x) same ∙ sym (before.rest ∙ difference_next c (so_far c k) (pairs c) k pair at
      ∙ ap (λ o. option_or (option_map (difference_at pair) o)
      (difference_from c (so_far c k ++ found_in c (so_far c k) pair) (drop (k + 1) (pairs c)))) (sym is.first));
  keeps = λ none. absurd (some_none d none);
  claims = λ none. absurd (some_none d none);
  interiors = λ none. absurd (some_none d none);
}

-- it agrees
pub compared_more : (c : Candidate) (old now new : Said) (kept after : Values) (k : ℕ) (pair : Pair) →
    slice_get (pairs c) k ≡ Some pair → ComparedTo c old now kept k →
    IsKind c (so_far c k) pair None after → AreKnown c.object c.contents.pieces after.texts →
    new.claims ≡ now.claims ++ filter_map (claim_of c) (stated_by_pair c pair) →
    new.interiors ≡ now.interiors ++ filter_map (interior_of c) (stated_by_pair c pair) →
    ComparedTo c old new after (k + 1)
compared_more c old now new kept after k pair at before is known claims interiors =
    let next = found_next c (own_home c ∷ []) (pairs c) k pair at in
    record {
      known = known;
      keeps = rw next (is.keeps refl);
      rest = before.rest ∙ difference_next c (so_far c k) (pairs c) k pair at
          ∙ ap (λ o. option_or (option_map (difference_at pair) o)
          (difference_from c (so_far c k ++ found_in c (so_far c k) pair) (drop (k + 1) (pairs c)))) (sym is.first)
          ∙ ap (λ f. difference_from c f (drop (k + 1) (pairs c))) (sym next);
      claims = said_next (claim_of c) (stated_by_pair c)
          (pairs c) k pair old.claims now.claims new.claims at before.claims claims;
      interiors = said_next (interior_of c) (stated_by_pair c)
          (pairs c) k pair old.interiors now.interiors new.interiors at before.interiors interiors;
    }

-- all pairs agree
pub compared_all : (c : Candidate) (old new : Said) (kept : Values) (k : ℕ) (d : Option Difference) →
    length (pairs c) ≤ k → ComparedTo c old new kept k → d ≡ break_of c → Compared c old new d kept
unfolding difference_from
compared_all c old new kept k d le before is =
    let whole : take k (pairs c) ≡ pairs c = take_all k (pairs c) le in
    record {
      first = is ∙ sym (before.rest ∙ ap (difference_from c (so_far c k)) (drop_all k (pairs c) le));
      keeps = λ _. rw (sym whole) before.keeps;
      claims =
          λ _. before.claims ∙ ap (λ ps. old.claims ++ filter_map (claim_of c) (flat_map (stated_by_pair c) ps)) whole;
      interiors = λ _. before.interiors ∙ ap
          (λ ps. old.interiors ++ filter_map (interior_of c) (flat_map (stated_by_pair c) ps)) whole;
    }
