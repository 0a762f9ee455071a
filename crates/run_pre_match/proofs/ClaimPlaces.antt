-- Claims stand at the fields that make them, no two at one place.
use Rattle.std.proofs.Common.{◌≡◌, ◌≢◌, ℕ, suc, ◌+◌, true, false, List, [], ◌∷◌, map, get_or, Option, Some, None}
use Rattle.std.proofs.Common.{option_map, All, refl, sym, ◌∙◌, ap, subst, arith, Ok}
use mathlib.Core.Path.{fun_ext}
use Rattle.std.specs.Cmp.Lexicographic.{bytes_decides}
use Rattle.std.specs.List.{AllPairs, Contains, IsDistinct, slice_get, filter_map, flat_map}
use Rattle.std.proofs.lemmas.List.Elements.{All-nil, All-head, All-tail, All-weaker, All-map, All-filter, All-contains}
use Rattle.std.proofs.lemmas.List.Kept.{AllPairs-filter}
use Rattle.std.proofs.lemmas.Option.{slice_get_within, get_or_from_slice_get}
use Rattle.ks_base.specs.declared.places.Spot.{Spot}
use Rattle.i386_reloc.specs.declared.types.Ref.{Ref}
use Rattle.i386_reloc.specs.declared.types.NormalSection.{NormalSection}
use Rattle.i386_reloc.specs.Normal.{same_bytes, name_of}
use Rattle.symbol_table.specs.declared.values.Unknown.{Unknown}
use Rattle.match_instructions.specs.Instructions.{is_kept, kept_of}
use Rattle.run_pre_match.specs.declared.goals.Goal.TheVariants.{Constant}
use Rattle.run_pre_match.specs.declared.types.Claim.{Claim}
use Rattle.run_pre_match.specs.declared.types.Matched.{Matched}
use Rattle.run_pre_match.specs.Candidate.{Candidate, Pair, pre_list, run_list, pairs}
use Rattle.run_pre_match.specs.Found.{Found, first_value, all_found}
use Rattle.run_pre_match.specs.Matched.{Statement, spot_at, stated_in_pair, stated_by_pair, stated_in_constant}
use Rattle.run_pre_match.specs.Matched.{stated_at, stated_from, statements, unknown_of, claim_about, claim_of}
use Rattle.run_pre_match.specs.Matched.{home_claim, outcome}
use Rattle.run_pre_match.specs.Match.{Valuation, Match}
use Rattle.run_pre_match.specs.Places.{IsClaimAt, StandAtFields, HasFieldsApart}
use Rattle.run_pre_match.proofs.Claims.{no_difference, all_stated, name_apart}
use Rattle.run_pre_match.proofs.CodeFields.{DifferInOffset, FieldsApart, each_apart, HaveOwnFields, all_apart, OfPre}
use Rattle.run_pre_match.proofs.CodeFields.{each_pre, pairs_pre}
use Rattle.run_pre_match.proofs.ConstantGoals.{not_code, IsInObject, other_name}
use Rattle.run_pre_match.proofs.ListPairs.{pairs_nil, pairs_weaker, pairs_append, pairs_map, pairs_flat, pairs_said}
use Rattle.run_pre_match.proofs.ListParts.{SaysAll, all_flat, all_said, contains_said}
use Rattle.run_pre_match.proofs.Told.{Firsts, SaysField, constant_meant, all_fields, statement_at, field_stated, Made}
use Rattle.run_pre_match.proofs.Valuations.{matches, one_valuation}

-- ---- at their fields
claim_by : (c : Candidate) (s : Statement) (claim : Claim) (o : Option Unknown) → SaysField c s →
    unknown_of c s.given.goal ≡ o → option_map (claim_about s) o ≡ Some claim → IsClaimAt c (Firsts c) claim
claim_by c s claim None stands speaks is = absurd cc
claim_by c s claim (Some about) stands speaks is =
    let same : claim_about s about ≡ claim = cc in
    subst (IsClaimAt c (Firsts c)) same (record { field = s.given; stands = stands; speaks = speaks; gives = refl })

all_claims : (c : Candidate) → Match c (Firsts c) →
    All (IsClaimAt c (Firsts c)) (filter_map (claim_of c) (statements c (all_found c)))
all_claims c m =
    all_said (IsClaimAt c (Firsts c)) (claim_of c) (statements c (all_found c))
    (All-weaker (SaysField c) (SaysAll (IsClaimAt c (Firsts c)) (claim_of c))
    (λ s stands claim is. claim_by c s claim (unknown_of c s.given.goal) stands refl is)
    (statements c (all_found c)) (all_fields c m))

abbrev with_value : Claim → ℕ → Claim
with_value claim value = record { unknown = claim.unknown; value = value; place = claim.place }

claim_made : (c : Candidate) (claim : Claim) → IsClaimAt c (Firsts c) claim →
    Contains (filter_map (claim_of c) (statements c (all_found c))) claim
claim_made c claim by =
    let s : Statement = statement_at claim.place by.field in
    let says : claim_of c s ≡ Some (claim_about s claim.unknown) = ap (option_map (claim_about s)) by.speaks in
    subst (Contains (filter_map (claim_of c) (statements c (all_found c)))) (ap (with_value claim) by.gives)
    (contains_said (claim_of c) (statements c (all_found c)) s (claim_about s claim.unknown)
    (field_stated c claim.place by.field by.stands) says)

stand_at_fields : (c : Candidate) → Match c (Firsts c) → StandAtFields c (Firsts c) (Made c).claims
stand_at_fields c m = record {
  others = filter_map (claim_of c) (statements c (all_found c));
  parts = refl;
  each = λ claim. (
    (λ has. All-contains (IsClaimAt c (Firsts c)) (filter_map (claim_of c) (statements c (all_found c))) claim
        (all_claims c m) has),
    claim_made c claim,
  );
}

pub stand_under : (c : Candidate) (v : Valuation) (m : Matched) → Match c v → outcome c ≡ Ok m →
    StandAtFields c v m.claims
stand_under c v m match is =
    let (none, made) = no_difference c m is in
    let first : Match c (Firsts c) = matches c none in
    let same : Firsts c ≡ v = fun_ext (one_valuation c (Firsts c) v first match) in
    subst (λ (v : Valuation). StandAtFields c v m.claims) same
    (subst (λ (m : Matched). StandAtFields c (Firsts c) m.claims) (sym made) (stand_at_fields c first))

-- ---- each once: of one section
abbrev pub DifferInSpot : Statement → Statement → Type 0
DifferInSpot s other = s.spot ≢ other.spot

spots_differ : (name : List ℕ) (r other : Ref) → DifferInOffset r other →
    spot_at name r.offset ≢ spot_at name other.offset
spots_differ name r other apart = λ same. apart (ap (λ (spot : Spot). spot.offset) same)

own_spots : (c : Candidate) (pair : Pair) → FieldsApart pair.pre → AllPairs DifferInSpot (stated_by_pair c pair)
own_spots c pair apart =
    pairs_map DifferInSpot (stated_in_pair c pair) pair.pre.references
    (pairs_weaker DifferInOffset (λ r s. DifferInSpot (stated_in_pair c pair r) (stated_in_pair c pair s))
    (spots_differ c.section.name) pair.pre.references apart)

abbrev HaveOwnSpots : Candidate → Pair → Pair → Type 0
HaveOwnSpots c pair other = All (λ s. All (DifferInSpot s) (stated_by_pair c other)) (stated_by_pair c pair)

other_spots : (c : Candidate) (pair other : Pair) → HaveOwnFields pair.pre other.pre → HaveOwnSpots c pair other
other_spots c pair other apart =
    All-map (λ (s : Statement). All (DifferInSpot s) (stated_by_pair c other)) (stated_in_pair c pair)
    pair.pre.references
    (All-weaker (λ (r : Ref). All (DifferInOffset r) other.pre.references)
    (λ (r : Ref). All (DifferInSpot (stated_in_pair c pair r)) (stated_by_pair c other))
    (λ r others. All-map (DifferInSpot (stated_in_pair c pair r)) (stated_in_pair c other) other.pre.references
    (All-weaker (DifferInOffset r) (λ (s : Ref). DifferInSpot (stated_in_pair c pair r) (stated_in_pair c other s))
    (spots_differ c.section.name r) other.pre.references others)) pair.pre.references apart)

code_spots : (c : Candidate) → HasFieldsApart c.section →
    AllPairs DifferInSpot (flat_map (stated_by_pair c) (pairs c))
code_spots c fields =
    pairs_flat DifferInSpot (stated_by_pair c) (pairs c)
    (All-weaker (λ (pair : Pair). FieldsApart pair.pre) (λ (pair : Pair). AllPairs DifferInSpot (stated_by_pair c pair))
    (own_spots c) (pairs c)
    (each_pre FieldsApart 0 (kept_of (pre_list c)) (kept_of (run_list c))
    (All-filter is_kept FieldsApart (pre_list c) (each_apart c.section fields))))
    (pairs_weaker (OfPre HaveOwnFields) (HaveOwnSpots c) (other_spots c) (pairs c)
    (pairs_pre HaveOwnFields 0 (kept_of (pre_list c)) (kept_of (run_list c))
    (AllPairs-filter HaveOwnFields is_kept (pre_list c) (all_apart c.section))))

constant_spots : (c : Candidate) (section : NormalSection) (o : Option ℕ) → HasFieldsApart section →
    AllPairs DifferInSpot (stated_at c section o)
constant_spots c section None fields = pairs_nil DifferInSpot
constant_spots c section (Some base) fields =
    pairs_map DifferInSpot (stated_in_constant c section base) section.refs
    (pairs_weaker DifferInOffset
    (λ r s. DifferInSpot (stated_in_constant c section base r) (stated_in_constant c section base s))
    (spots_differ section.name) section.refs fields.apart)

-- ---- each once: of different sections
abbrev IsIn : List ℕ → Statement → Type 0
IsIn name s = s.spot.section ≡ name

in_code : (c : Candidate) (pair : Pair) → All (IsIn c.section.name) (stated_by_pair c pair)
in_code c pair =
    All-map (IsIn c.section.name) (stated_in_pair c pair) pair.pre.references (λ k d lt. refl)

in_constant : (c : Candidate) (section : NormalSection) (o : Option ℕ) →
    All (IsIn section.name) (stated_at c section o)
in_constant c section None = All-nil (IsIn section.name)
in_constant c section (Some base) =
    All-map (IsIn section.name) (stated_in_constant c section base) section.refs (λ k d lt. refl)

sections_differ : (name other : List ℕ) (s t : Statement) → name ≢ other → IsIn name s → IsIn other t →
    DifferInSpot s t
sections_differ name other s t apart here there =
    λ same. apart (sym here ∙ ap (λ (spot : Spot). spot.section) same ∙ there)

names_differ : (name other : List ℕ) → same_bytes name other ≡ false → name ≢ other
names_differ name other apart =
    λ same. absurd (let no : false ≡ true = sym apart ∙ (bytes_decides name other).1 same in cc)

-- from a statement of a section to those of another
to_constant : (c : Candidate) (s : Statement) (name : List ℕ) (section : NormalSection) (o : Option ℕ) → IsIn name s →
    name ≢ section.name → All (DifferInSpot s) (stated_at c section o)
to_constant c s name section o here apart =
    All-weaker (IsIn section.name) (DifferInSpot s) (λ t there. sections_differ name section.name s t apart here there)
    (stated_at c section o) (in_constant c section o)

constants_apart : (c : Candidate) (found : List Found) (place : ℕ) (sections : List NormalSection) →
    IsDistinct same_bytes (map name_of sections) → All HasFieldsApart sections →
    AllPairs DifferInSpot (stated_from c found place sections)
unfolding stated_from IsDistinct
constants_apart c found place [] distinct fields = pairs_nil DifferInSpot
constants_apart c found place (section ∷ sections) distinct fields =
    pairs_append DifferInSpot (stated_at c section (first_value found (Constant place)))
    (stated_from c found (suc place) sections)
    (constant_spots c section (first_value found (Constant place))
    (All-head HasFieldsApart section sections fields))
    (constants_apart c found (suc place) sections distinct.1 (All-tail HasFieldsApart section sections fields))
    (All-weaker (IsIn section.name) (λ (s : Statement). All (DifferInSpot s) (stated_from c found (suc place) sections))
    (λ s here. all_stated (DifferInSpot s) c found (suc place) sections (λ k other at.
    to_constant c s section.name other (first_value found (Constant (k + suc place))) here
    (names_differ section.name other.name (name_apart section.name sections distinct.0 k other at))))
    (stated_at c section (first_value found (Constant place)))
    (in_constant c section (first_value found (Constant place))))

-- a read-only section isn't the candidate's
from_code : (c : Candidate) → IsInObject c → Match c (Firsts c) → (s : Statement) → IsIn c.section.name s →
    (place : ℕ) (section : NormalSection) (o : Option ℕ) → slice_get c.object place ≡ Some section →
    Firsts c (Constant place) ≡ o → All (DifferInSpot s) (stated_at c section o)
from_code c own m s here place section None at is = All-nil (DifferInSpot s)
from_code c own m s here place section (Some base) at is =
    let by = constant_meant c m place base is in
    to_constant c s c.section.name section (Some base) here
    (other_name c own place section at (not_code c (Firsts c) by.field place section by.counts by.goes_there at))

apart_at : (object : List NormalSection) (place : ℕ) (section : NormalSection) → All HasFieldsApart object →
    slice_get object place ≡ Some section → HasFieldsApart section
apart_at object place section all at =
    subst HasFieldsApart (get_or_from_slice_get object place section section at)
    (all place section (slice_get_within object place section at))

pub spots_apart : (c : Candidate) → IsInObject c → All HasFieldsApart c.object → Match c (Firsts c) →
    AllPairs DifferInSpot (statements c (all_found c))
spots_apart c own fields m =
    pairs_append DifferInSpot (flat_map (stated_by_pair c) (pairs c)) (stated_from c (all_found c) 0 c.object)
    (code_spots c (apart_at c.object c.place c.section fields own.at))
    (constants_apart c (all_found c) 0 c.object own.names fields)
    (All-weaker (IsIn c.section.name)
    (λ (s : Statement). All (DifferInSpot s) (stated_from c (all_found c) 0 c.object))
    (λ s here. all_stated (DifferInSpot s) c (all_found c) 0 c.object (λ k section at.
    let same : k ≡ k + 0 = omega arith in
    from_code c own m s here (k + 0) section (first_value (all_found c) (Constant (k + 0)))
    (subst (λ (n : ℕ). slice_get c.object n ≡ Some section) same at) refl))
    (flat_map (stated_by_pair c) (pairs c))
    (all_flat (IsIn c.section.name) (stated_by_pair c) (pairs c) (λ k d lt. in_code c (get_or (pairs c) k d))))

abbrev DifferInPlace : Claim → Claim → Type 0
DifferInPlace claim other = claim.place ≢ other.place

place_of_claim : (s : Statement) (o : Option Unknown) (claim : Claim) → option_map (claim_about s) o ≡ Some claim →
    claim.place ≡ s.spot
place_of_claim s None claim is = absurd cc
place_of_claim s (Some about) claim is =
    let same : claim_about s about ≡ claim = cc in ap (λ (claim : Claim). claim.place) (sym same)

same_rest : {X : Type 0} (x y : X) (xs ys : List X) → x ∷ xs ≡ y ∷ ys → xs ≡ ys
same_rest x y xs ys is = cc

pub each_once : (c : Candidate) (m : Matched) → IsInObject c → All HasFieldsApart c.object → outcome c ≡ Ok m →
    (others : List Claim) → m.claims ≡ home_claim c ∷ others → AllPairs DifferInPlace others
each_once c m own fields is others parts =
    let (none, made) = no_difference c m is in
    let same : filter_map (claim_of c) (statements c (all_found c)) ≡ others =
    same_rest (home_claim c) (home_claim c) (filter_map (claim_of c) (statements c (all_found c))) others
    (sym (ap (λ (m : Matched). m.claims) made) ∙ parts) in
    subst (AllPairs DifferInPlace) same
    (pairs_said DifferInSpot DifferInPlace (claim_of c)
    (λ s t a b is_a is_b apart same. apart (sym (place_of_claim s (unknown_of c s.given.goal) a is_a)
    ∙ same ∙ place_of_claim t (unknown_of c t.given.goal) b is_b))
    (statements c (all_found c)) (spots_apart c own fields (matches c none)))
