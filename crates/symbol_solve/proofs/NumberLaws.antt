-- What has a number, and what keeps it.
use Rattle.std.proofs.Common.{◌≡◌, ℕ, ◌+◌, ◌<◌, ◌≤◌, arith, true, false, ◌&&◌, eqb, List, length, take, get_or}
use Rattle.std.proofs.Common.{Option, Some, None, Result, Ok, Err, Contains, refl, sym, ◌∙◌, ap, subst}
use Rattle.std.specs.List.{All, slice_get}
use Rattle.std.specs.Cmp.Lexicographic.{bytes_decides}
use Rattle.std.proofs.lemmas.Bool.{and_parts, eqb-true, false≢true}
use Rattle.std.proofs.lemmas.List.{take_all}
use Rattle.std.proofs.lemmas.List.Elements.{All-nil, All-weaker, All-more}
use Rattle.i386_reloc.specs.declared.types.NormalSection.{NormalSection}
use Rattle.symbol_table.specs.declared.values.Unknown.{Unknown}
use Rattle.symbol_table.specs.declared.values.Unknown.TheVariants.{Code, Data, Outside}
use Rattle.symbol_table.specs.Unknowns.{same_unknown}
use Rattle.symbol_table.specs.contracts.values.UnknownPartialEq.TheImpl as unknowns
use Rattle.i386_reloc.specs.laws.NamedPlaces.{section_at_place}
use Rattle.i386_reloc.specs.Places.{place_named}
use Rattle.std.proofs.lemmas.Option.{slice_get_within, get_or_from_slice_get}
use Rattle.run_pre_match.specs.declared.types.Claim.{Claim}
use Rattle.run_pre_match.specs.declared.types.Interior.{Interior}
use Rattle.run_pre_match.specs.declared.types.Matched.{Matched}
use Rattle.run_pre_match.specs.declared.types.MatchFault.{MatchFault}
use Rattle.run_pre_match.specs.Candidate.{Candidate}
use Rattle.run_pre_match.specs.Matched.{outcome}
use Rattle.match_candidates.specs.Candidates.{is_match}
use Rattle.match_candidates.specs.OwnFaults.{length_of}
use Rattle.symbol_solve.specs.Clashes.{claims_in, interiors_in}
use Rattle.symbol_solve.specs.declared.numbers.Point.{Point}
use Rattle.symbol_solve.specs.contracts.numbers.PointPartialEq.TheImpl as points
use Rattle.symbol_solve.specs.inside.Numbers.{Numbers, Grows, HasPoint, IsUnknownNumbered}
use Rattle.symbol_solve.specs.inside.Numbers.{IsInteriorNumbered, IsNumbered, point_of, same_point}

-- ---- when two are one
equal_is_same : (a b : Unknown) → (unknowns.eq-value).it a b ≡ same_unknown a b
equal_is_same (Code a) (Code b) = refl
equal_is_same (Code a) (Data b) = refl
equal_is_same (Code a) (Outside b) = refl
equal_is_same (Data a) (Code b) = refl
equal_is_same (Data a) (Data b) = refl
equal_is_same (Data a) (Outside b) = refl
equal_is_same (Outside a) (Code b) = refl
equal_is_same (Outside a) (Data b) = refl
equal_is_same (Outside a) (Outside b) = refl

pub one_unknown : (a b : Unknown) → same_unknown a b ≡ true → a ≡ b
one_unknown (Code a) (Code b) h = ap Code ((bytes_decides a b).0 h)
one_unknown (Code a) (Data b) h = absurd cc
one_unknown (Code a) (Outside b) h = absurd cc
one_unknown (Data a) (Code b) h = absurd cc
one_unknown (Data a) (Data b) h = ap Data ((bytes_decides a b).0 h)
one_unknown (Data a) (Outside b) h = absurd cc
one_unknown (Outside a) (Code b) h = absurd cc
one_unknown (Outside a) (Data b) h = absurd cc
one_unknown (Outside a) (Outside b) h = ap Outside ((bytes_decides a b).0 h)

pub equal_unknown : (a b : Unknown) → (unknowns.eq-value).it a b ≡ true → a ≡ b
equal_unknown a b h = one_unknown a b (sym (equal_is_same a b) ∙ h)

pub point_is_same : (a b : Point) → (points.eq-value).it a b ≡ same_point a b
point_is_same a b = refl

pub one_point : (a b : Point) → same_point a b ≡ true → a ≡ b
one_point a b h =
    let (place, rest) = and_parts (eqb a.place b.place) (eqb a.offset b.offset && eqb a.address b.address) h in
    let (offset, address) = and_parts (eqb a.offset b.offset) (eqb a.address b.address) rest in
    λ i. record {
      place = eqb-true a.place b.place place i;
      offset = eqb-true a.offset b.offset offset i;
      address = eqb-true a.address b.address address i;
    }

pub equal_point : (a b : Point) → (points.eq-value).it a b ≡ true → a ≡ b
equal_point a b h = one_point a b h

-- ---- what keeps its number
pub grows_on : (a b c : Numbers) → Grows a b → Grows b c → Grows a c
grows_on a b c one two = record {
  unknowns = λ u h. two.unknowns u (one.unknowns u h);
  points = λ p h. two.points p (one.points p h);
}

claims_kept : (a b : Numbers) (claims : List Claim)
    → Grows a b → All (IsUnknownNumbered a) claims → All (IsUnknownNumbered b) claims
claims_kept a b claims grows each =
    All-weaker (IsUnknownNumbered a) (IsUnknownNumbered b) (λ claim. grows.unknowns claim.unknown) claims each

point_kept : (a b : Numbers) (p : Option Point) → Grows a b → HasPoint a.points p → HasPoint b.points p
point_kept a b None grows has = tt
point_kept a b (Some p) grows has = grows.points p has

interiors_kept : (object : List NormalSection) (a b : Numbers) (interiors : List Interior)
    → Grows a b → All (IsInteriorNumbered object a) interiors → All (IsInteriorNumbered object b) interiors
interiors_kept object a b interiors grows each =
    All-weaker (IsInteriorNumbered object a)
    (IsInteriorNumbered object b) (λ i. point_kept a b (point_of object i) grows) interiors each

numbers_kept : (object : List NormalSection) (a b : Numbers) (o : Result Matched MatchFault)
    → Grows a b → IsNumbered object a o → IsNumbered object b o
numbers_kept object a b o grows is = record {
  claims = claims_kept a b (claims_in o) grows is.claims;
  interiors = interiors_kept object a b (interiors_in o) grows is.interiors;
}

-- a match's claims and interiors
pub matched_numbered : (object : List NormalSection) (a b : Numbers)
    (claims : List Claim) (interiors : List Interior) (outcome : Result Matched MatchFault) (matched : Matched)
    → outcome ≡ Ok matched → claims ≡ matched.claims → interiors ≡ matched.interiors → Grows a b
    → All (IsUnknownNumbered a) claims → All (IsInteriorNumbered object b) interiors → IsNumbered object b outcome
matched_numbered object a b claims interiors outcome matched is claims_is interiors_is grows numbered met =
    subst (IsNumbered object b) (sym is)
    (record {
      claims = claims_kept a b matched.claims grows (subst (All (IsUnknownNumbered a)) claims_is numbered);
      interiors = subst (All (IsInteriorNumbered object b)) interiors_is met;
    })

-- what doesn't match has nothing to number
pub none_numbered : (object : List NormalSection) (n : Numbers) (came : Result Matched MatchFault)
    (kept : Result ℕ MatchFault) → length_of came ≡ kept → is_match kept ≡ false → IsNumbered object n came
none_numbered object n (Ok matched) kept is none = absurd (false≢true (sym none ∙ ap is_match (sym is)))
none_numbered object n (Err fault) kept is none = record {
  claims = All-nil (IsUnknownNumbered n);
  interiors = All-nil (IsInteriorNumbered object n);
}

-- a place in an object of few sections fits a word
pub place_fits : (object : List NormalSection) (name : List ℕ) (place : ℕ)
    → Some place ≡ place_named object name → length object ≤ 4096 → place < 4294967296
place_fits object name place there few =
    let (s, at, same) = section_at_place object name place (sym there) in
    let within = slice_get_within object place s at in omega arith

-- the point of an interior that was put in
pub point_numbered : (object : List NormalSection) (n : Numbers) (i : Interior) (point : Point)
    → Some point ≡ point_of object i → Contains n.points point → IsInteriorNumbered object n i
point_numbered object n i point is has = subst (HasPoint n.points) is has

-- ---- one more
-- what holds of each item up to a place holds of all where this is their end
pub at_end : {X : Type 0} (P : X → Type 0) (xs : List X) (i : ℕ) → length xs ≤ i → All P (take i xs) → All P xs
at_end P xs i end each = subst (All P) (take_all i xs end) each

pub claims_more : (a b : Numbers) (claims : List Claim) (i : ℕ) (d : Claim)
    → i < length claims → d ≡ get_or claims i d → Grows a b → IsUnknownNumbered b d
    → All (IsUnknownNumbered a) (take i claims) → All (IsUnknownNumbered b) (take (i + 1) claims)
claims_more a b claims i d within at grows own each =
    All-more (IsUnknownNumbered b) claims i d within
    (claims_kept a b (take i claims) grows each) (subst (IsUnknownNumbered b) at own)

pub interiors_more : (object : List NormalSection) (a b : Numbers) (interiors : List Interior) (i : ℕ) (d : Interior)
    → i < length interiors → d ≡ get_or interiors i d → Grows a b → IsInteriorNumbered object b d
    → All (IsInteriorNumbered object a) (take i interiors) → All (IsInteriorNumbered object b) (take (i + 1) interiors)
interiors_more object a b interiors i d within at grows own each =
    All-more (IsInteriorNumbered object b) interiors i d within
    (interiors_kept object a b (take i interiors) grows each) (subst (IsInteriorNumbered object b) at own)

pub outcomes_more : (object : List NormalSection) (a b : Numbers) (cs : List Candidate) (i : ℕ) (c : Candidate)
    → slice_get cs i ≡ Some c → Grows a b → IsNumbered object b (outcome c) → All
    (λ d. IsNumbered object a (outcome d)) (take i cs) → All (λ d. IsNumbered object b (outcome d)) (take (i + 1) cs)
outcomes_more object a b cs i c at grows own each =
    All-more (λ d. IsNumbered object b (outcome d)) cs i c (slice_get_within cs i c at)
    (All-weaker (λ d. IsNumbered object a (outcome d))
    (λ d. IsNumbered object b (outcome d)) (λ d. numbers_kept object a b (outcome d) grows) (take i cs) each)
    (subst (λ d. IsNumbered object b (outcome d)) (sym (get_or_from_slice_get cs i c c at)) own)

pub outcomes_kept : (object : List NormalSection) (a b : Numbers) (cs : List Candidate)
    → Grows a b → All (λ d. IsNumbered object a (outcome d)) cs → All (λ d. IsNumbered object b (outcome d)) cs
outcomes_kept object a b cs grows each =
    All-weaker (λ d. IsNumbered object a (outcome d))
    (λ d. IsNumbered object b (outcome d)) (λ d. numbers_kept object a b (outcome d) grows) cs each
