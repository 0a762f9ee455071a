-- The choice of each code section's own place is a solution, and what is answered for the object is its values.
use Rattle.std.proofs.Common.{◌≡◌, ◌≢◌, ℕ, suc, ◌+◌, ◌==◌, Bool, true, false, ◌||◌, cond, List, [], ◌∷◌}
use Rattle.std.proofs.Common.{◌++◌, length, map, Option, Some, None, refl, sym, ap, subst, ◌∙◌, inl, inr, arith}
use Rattle.std.specs.Prelude.{◌↔◌, Result, Ok, Err}
use Rattle.std.specs.Option.{option_and_then, option_map, option_or}
use Rattle.std.specs.List.{All, AllZip, filter, find, flat_map, fold, list_any, slice_get}
use Rattle.std.specs.Cmp.Lexicographic.{bytes_decides}
use Rattle.std.proofs.lemmas.Bool.{and_parts}
use Rattle.std.proofs.lemmas.List.Elements.{All-nil, All-push}
use Rattle.std.proofs.lemmas.List.Folds.{list_any-append}
use Rattle.std.proofs.lemmas.Option.{same_Some}
use Rattle.ks_base.specs.declared.places.Spot.{Spot}
use Rattle.ks_base.specs.declared.refusals.ConflictName.{ConflictName}
use Rattle.ks_base.specs.declared.refusals.Difference.{Difference}
use Rattle.ks_base.specs.declared.refusals.Refusal.{Refusal}
use Rattle.ks_base.specs.declared.refusals.Refusal.TheVariants.{Ambiguous, Conflict, Mismatch}
use Rattle.symbol_table.specs.declared.symbols.Symbol.{Symbol}
use Rattle.symbol_table.specs.declared.values.Unknown.{Unknown}
use Rattle.symbol_table.specs.declared.values.Unknown.TheVariants as unknown
use Rattle.symbol_table.specs.declared.values.Solved.TheVariants.{Address}
use Rattle.symbol_table.specs.Symbols.{address_of, ascending, global_addresses, is_global_named}
use Rattle.i386_reloc.specs.declared.types.NormalSection.{NormalSection}
use Rattle.i386_reloc.specs.Classes.{is_code_class}
use Rattle.i386_reloc.specs.Normal.{function_name}
use Rattle.image_file.specs.Reading.{Contents}
use Rattle.link_post.specs.Places.{base_in}
use Rattle.match_instructions.specs.Landing.{undecoded_offset}
use Rattle.run_pre_match.specs.declared.types.Claim.{Claim}
use Rattle.run_pre_match.specs.declared.types.Matched.{Matched}
use Rattle.run_pre_match.specs.declared.types.MatchFault.{MatchFault}
use Rattle.run_pre_match.specs.declared.types.MatchFault.TheVariants.{Differs, Undecoded, Memory}
use Rattle.run_pre_match.specs.Candidate.{Candidate}
use Rattle.run_pre_match.specs.Matched.{PreSection, outcome}
use Rattle.propagation.specs.Conflicts.{first_some}
use Rattle.match_candidates.specs.Candidates.{Running, candidates_of, code_from, code_sections, matches}
use Rattle.match_candidates.specs.OwnFaults.{difference_in, first_mismatch, first_missing, mismatch_in}
use Rattle.match_candidates.specs.OwnFaults.{missing_in, own_fault, undecoded_in}
use Rattle.symbol_solve.specs.Clashes.{claims_of, clashes, contradict, interiors_of, is_unmet}
use Rattle.symbol_solve.specs.Conflicts.{claims_conflict, clash_between, conflict_of_claims, conflict_of_interiors}
use Rattle.symbol_solve.specs.Conflicts.{interior_conflict, reported}
use Rattle.symbol_solve.specs.Solution.{IsChoice, IsSolution}
use Rattle.symbol_solve.specs.Solve.{Value, address_value, body_value, first_twins, has_value, is_code_unknown, left_of}
use Rattle.symbol_solve.specs.Solve.{obstacle, solved, twins, values, values_of, with_value}
use Rattle.linked_code.specs.Standing.{LinkedCodeRunsAlike}
use Rattle.image_link.specs.Places.{Laid}
use Rattle.image_link.specs.Refused.{double_after, double_fault, is_double}
use Rattle.linked_places.specs.Held.{PlacesHoldSections}
use Rattle.linked_places.specs.Solves.{AnswersPlaces, AtPlaces, CanBeFound, IsNamed, IsPlace, StaysKept, Twins}
use Rattle.linked_places.specs.Solves.{base_of, memory_of, own_choice, placed_candidate, running}
use Rattle.linked_places.proofs.Members.{Has, all_has, all_of, any_has, flat_has, has_of, has_right, map_has}
use Rattle.linked_places.proofs.ReadObjects.{AreSections}
use Rattle.linked_places.proofs.LinkedParts.{IsLinking, is_linking, map_none, or_none}
use Rattle.linked_places.proofs.PlacedGoals.{outside_value, some_global}
use Rattle.linked_places.proofs.PlacedFields.{DecodedHaveBytes, DecodedLieInside, IsCode, candidate_of, pre_of, runs_there}
use Rattle.linked_places.proofs.PlacedChoice.{AgreeingInteriors, AgreeingMatch, AgreeingSay, chosen, claims_said, global_listed}
use Rattle.linked_places.proofs.PlacedChoice.{matched, peaceful, unknown_value}

-- ---- the code sections of the object
record IsListed (object : List NormalSection) (pre : PreSection) : Type 0 where
  place : ℕ
  section : NormalSection
  is : record { object = object; place = place; section = section } ≡ pre
  at : slice_get object place ≡ Some section
  code : is_code_class section.class ≡ true

record IsListedFrom (object : List NormalSection) (place : ℕ) (sections : List NormalSection) (pre : PreSection)
    : Type 0 where
  behind : ℕ
  section : NormalSection
  is : record { object = object; place = place + behind; section = section } ≡ pre
  at : slice_get sections behind ≡ Some section
  code : is_code_class section.class ≡ true

listed_more : (object : List NormalSection) (place : ℕ) (s : NormalSection) (sections : List NormalSection)
    (pre : PreSection) → IsListedFrom object (suc place) sections pre → IsListedFrom object place (s ∷ sections) pre
listed_more object place s sections pre it =
    let e : place + suc it.behind ≡ suc place + it.behind = omega arith in
    record {
      behind = suc it.behind;
      section = it.section;
      is = ap (λ p. record { object = object; place = p; section = it.section }) e ∙ it.is;
      at = it.at;
      code = it.code;
    }

listed_by : (object : List NormalSection) (place : ℕ) (s : NormalSection) (sections : List NormalSection)
    (pre : PreSection) (code : Bool) → is_code_class s.class ≡ code
    → (Has (code_from object (suc place) sections) pre → IsListedFrom object (suc place) sections pre)
    → Has (cond code (record { object = object; place = place; section = s } ∷ code_from object (suc place) sections)
    (code_from object (suc place) sections)) pre → IsListedFrom object place (s ∷ sections) pre
listed_by object place s sections pre true code later (inl is) =
    let e : place + 0 ≡ place = omega arith in
    record {
      behind = 0;
      section = s;
      is = ap (λ p. record { object = object; place = p; section = s }) e ∙ is;
      at = refl;
      code = code;
    }
listed_by object place s sections pre true code later (inr rest) =
    listed_more object place s sections pre (later rest)
listed_by object place s sections pre false code later rest =
    listed_more object place s sections pre (later rest)

listed_from : (object : List NormalSection) (place : ℕ) (sections : List NormalSection) (pre : PreSection)
    → Has (code_from object place sections) pre → IsListedFrom object place sections pre
unfolding code_from
listed_from object place [] pre has = absurd has
listed_from object place (s ∷ sections) pre has =
    listed_by object place s sections pre (is_code_class s.class) refl (listed_from object (suc place) sections pre) has

is_listed : (object : List NormalSection) (pre : PreSection) → Has (code_sections object) pre → IsListed object pre
is_listed object pre has =
    let it = listed_from object 0 object pre has in
    let e : it.behind ≡ 0 + it.behind = omega arith in
    record {
      place = it.behind;
      section = it.section;
      is = ap (λ p. record { object = object; place = p; section = it.section }) e ∙ it.is;
      at = it.at;
      code = it.code;
    }

first_none : {X Y : Type 0} (f : X → Option Y) (xs : List X) (x : X) → first_some f xs ≡ None → Has xs x → f x ≡ None
unfolding first_some
first_none f [] x none has = absurd has
first_none f (a ∷ xs) x none (inl is) = ap f (sym is) ∙ (or_none (f a) (first_some f xs) none).0
first_none f (a ∷ xs) x none (inr rest) = first_none f xs x (or_none (f a) (first_some f xs) none).1 rest

none_first_some : {X Y : Type 0} (f : X → Option Y) (xs : List X) → ((x : X) → Has xs x → f x ≡ None)
    → first_some f xs ≡ None
unfolding first_some
none_first_some f [] none = refl
none_first_some f (a ∷ xs) none =
    rw (none a (inl refl)) (none_first_some f xs (λ x has. none x (inr has)))

record IsPlacedPre (image : Contents) (laid : Laid) (pre : PreSection) : Type 0 where
  place : ℕ
  section : NormalSection
  is : pre_of laid place section ≡ pre
  code : IsCode image laid place section
  named : function_name section ≢ []

placed_pre : (files : List (List ℕ)) (objects : List (List NormalSection)) (image : Contents) (laid : Laid)
    → CanBeFound files objects image laid → (pre : PreSection) → Has (code_sections laid.object) pre
    → IsPlacedPre image laid pre
placed_pre files objects image laid can pre has =
    let it = is_listed laid.object pre has in
    let own = pre_of laid it.place it.section in
    let decodes : undecoded_in pre ≡ None =
    first_none undecoded_in (code_sections laid.object) pre can.decodes has in
    let named = all_has IsNamed (code_sections laid.object) pre can.named has in
    let kept = all_has (StaysKept image laid.places) (code_sections laid.object) pre can.kept has in
    record {
      place = it.place;
      section = it.section;
      is = it.is;
      code = record {
        at = it.at;
        code = it.code;
        decodes = subst (λ (p : PreSection). undecoded_offset p.object p.section ≡ None) (sym it.is)
            (map_none _ (undecoded_offset pre.object pre.section) decodes);
        kept = subst (λ (p : PreSection). StaysKept image laid.places p) (sym it.is) kept;
      };
      named = subst (λ (p : PreSection). IsNamed p) (sym it.is) named;
    }

zip_map : {X Y : Type 0} (R : X → Y → Type 0) (f : X → Y) (xs : List X) → ((x : X) → Has xs x → R x (f x))
    → AllZip R xs (map f xs)
zip_map R f [] each = tt
zip_map R f (x ∷ xs) each = (each x (inl refl), zip_map R f xs (λ y has. each y (inr has)))

-- ---- refusals by their kinds
record IsMismatch (refusal : Refusal) : Type 0 where
  name : List ℕ
  difference : Difference
  is : refusal ≡ Mismatch name difference

record IsConflict (refusal : Refusal) : Type 0 where
  name : ConflictName
  a : ℕ
  b : ℕ
  one : Spot
  other : Spot
  is : refusal ≡ Conflict name a b one other

record IsTwins (refusal : Refusal) : Type 0 where
  section : List ℕ
  a : ℕ
  b : ℕ
  is : refusal ≡ Ambiguous section a b

first_kind : {X : Type 0} (P : Refusal → Type 0) (f : X → Option Refusal) (xs : List X) (refusal : Refusal)
    → ((x : X) (y : Refusal) → f x ≡ Some y → P y) → first_some f xs ≡ Some refusal → P refusal
unfolding first_some
first_kind P f [] refusal each is = absurd cc
first_kind {X} P f (x ∷ xs) refusal each is = by (f x) refl (first_kind P f xs refusal each) is
  where
    by : (o : Option Refusal) → f x ≡ o → (first_some f xs ≡ Some refusal → P refusal)
        → option_or o (first_some f xs) ≡ Some refusal → P refusal
    by None none later rest = later rest
    by (Some y) found later here =
        subst P (same_Some y refusal here) (each x y found)

difference_kind : (pre : PreSection) (result : Result Matched MatchFault) (refusal : Refusal)
    → difference_in pre result ≡ Some refusal → IsMismatch refusal
difference_kind pre (Ok found) refusal is = absurd cc
difference_kind pre (Err (Differs difference)) refusal is =
    record { name = pre.section.name; difference = difference; is = sym (same_Some _ refusal is) }
difference_kind pre (Err (Undecoded offset)) refusal is = absurd cc
difference_kind pre (Err Memory) refusal is = absurd cc

mismatch_kind : (pre : PreSection) (cs : List Candidate) (refusal : Refusal) → mismatch_in pre cs ≡ Some refusal
    → IsMismatch refusal
mismatch_kind pre [] refusal is = absurd cc
mismatch_kind pre (c ∷ cs) refusal is = by (list_any matches (c ∷ cs)) is
  where
    by : (b : Bool) → cond b None (difference_in pre (outcome c)) ≡ Some refusal → IsMismatch refusal
    by true here = absurd cc
    by false here = difference_kind pre (outcome c) refusal here

or_kind : (P : Refusal → Type 0) (a b : Option Refusal) (refusal : Refusal) → (a ≡ Some refusal → P refusal)
    → (b ≡ Some refusal → P refusal) → option_or a b ≡ Some refusal → P refusal
or_kind P None b refusal first second is = second is
or_kind P (Some x) b refusal first second is = first is

map_kind : {X : Type 0} (P : Refusal → Type 0) (f : X → Refusal) (o : Option X) (refusal : Refusal)
    → ((x : X) → P (f x)) → option_map f o ≡ Some refusal → P refusal
map_kind P f None refusal each is = absurd cc
map_kind P f (Some x) refusal each is = subst P (same_Some (f x) refusal is) (each x)

claims_kind : (c d : Candidate) (refusal : Refusal) → conflict_of_claims c d ≡ Some refusal → IsConflict refusal
claims_kind c d refusal is =
    first_kind IsConflict (λ a. option_map (claims_conflict a) (find (contradict a) (claims_of d))) (claims_of c) refusal
    (λ a y here. map_kind IsConflict (claims_conflict a) (find (contradict a) (claims_of d)) y
    (λ b. record { name = _; a = _; b = _; one = _; other = _; is = refl }) here) is

interiors_kind : (c d : Candidate) (refusal : Refusal) → conflict_of_interiors c d ≡ Some refusal → IsConflict refusal
interiors_kind c d refusal is =
    map_kind IsConflict (interior_conflict d) (find (is_unmet d) (interiors_of c)) refusal
    (λ i. record { name = _; a = _; b = _; one = _; other = _; is = refl }) is

clash_kind : (pair : Candidate × Candidate) (refusal : Refusal) → clash_between pair ≡ Some refusal
    → IsConflict refusal
clash_kind pair refusal is =
    or_kind IsConflict (conflict_of_claims pair.0 pair.1)
    (option_or (conflict_of_interiors pair.0 pair.1) (conflict_of_interiors pair.1 pair.0)) refusal
    (claims_kind pair.0 pair.1 refusal)
    (or_kind IsConflict (conflict_of_interiors pair.0 pair.1) (conflict_of_interiors pair.1 pair.0) refusal
    (interiors_kind pair.0 pair.1 refusal) (interiors_kind pair.1 pair.0 refusal)) is

then_kind : (o : Option (Candidate × Candidate)) (refusal : Refusal) → option_and_then clash_between o ≡ Some refusal
    → IsConflict refusal
then_kind None refusal is = absurd cc
then_kind (Some pair) refusal is = clash_kind pair refusal is

reported_kind : (count : ℕ) (all : List Candidate) (refusal : Refusal) → reported count all ≡ Some refusal
    → IsConflict refusal
unfolding reported
reported_kind count all refusal is = then_kind _ refusal is

twins_kind : (c d : Candidate) (refusal : Refusal) → twins c d ≡ Some refusal → IsTwins refusal
twins_kind c d refusal is = by (c.place == d.place) is
  where
    by : (b : Bool) → cond b (Some (Ambiguous c.section.name c.home d.home)) None ≡ Some refusal → IsTwins refusal
    by true here = record { section = c.section.name; a = c.home; b = d.home; is = sym (same_Some _ refusal here) }
    by false here = absurd cc

first_twins_kind : (cs : List Candidate) (refusal : Refusal) → first_twins cs ≡ Some refusal → IsTwins refusal
unfolding first_twins
first_twins_kind [] refusal is = absurd cc
first_twins_kind (c ∷ []) refusal is = absurd cc
first_twins_kind (c ∷ d ∷ rest) refusal is =
    or_kind IsTwins (twins c d) (first_twins (d ∷ rest)) refusal (twins_kind c d refusal)
    (first_twins_kind (d ∷ rest) refusal) is

-- ---- each outside name has one address
double_is : (name : List ℕ) (earlier : List Symbol) (s : Symbol) → is_global_named name s ≡ true
    → list_any (is_global_named name) earlier ≡ true → is_double earlier s ≡ true
double_is name earlier s named some =
    let (global, same) = and_parts s.global _ named in
    let e : s.name ≡ name = (bytes_decides s.name name).0 same in
    rw (global, e) some

later_by : (name : List ℕ) (earlier : List Symbol) (s : Symbol) (symbols : List Symbol) (double named : Bool)
    → is_double earlier s ≡ double → is_global_named name s ≡ named
    → cond double (Some s.name) (double_after (earlier ++ s ∷ []) symbols) ≡ None
    → list_any (is_global_named name) earlier ≡ true
    → (double_after (earlier ++ s ∷ []) symbols ≡ None → filter (is_global_named name) symbols ≡ [])
    → cond named (s ∷ filter (is_global_named name) symbols) (filter (is_global_named name) symbols) ≡ []
later_by name earlier s symbols true named is_d is_n none some later = absurd cc
later_by name earlier s symbols false true is_d is_n none some later =
    absurd (let no : false ≡ true = sym is_d ∙ double_is name earlier s is_n some in cc)
later_by name earlier s symbols false false is_d is_n none some later = later none

or_either : (a b : Bool) → a ≡ true → (a || b) ≡ true
or_either true b is = refl
or_either false b is = absurd cc

none_later : (name : List ℕ) (earlier symbols : List Symbol) → double_after earlier symbols ≡ None
    → list_any (is_global_named name) earlier ≡ true → filter (is_global_named name) symbols ≡ []
unfolding double_after
none_later name earlier [] none some = refl
none_later name earlier (s ∷ symbols) none some =
    later_by name earlier s symbols (is_double earlier s) (is_global_named name s) refl refl none some
    (λ rest. none_later name (earlier ++ s ∷ []) symbols rest
    (list_any-append (is_global_named name) earlier (s ∷ [])
    ∙ or_either (list_any (is_global_named name) earlier) _ some))

record IsOnly (name : List ℕ) (symbols : List Symbol) : Type 0 where
  symbol : Symbol
  is : filter (is_global_named name) symbols ≡ symbol ∷ []

after_none : (earlier : List Symbol) (s : Symbol) (symbols : List Symbol) (b : Bool)
    → cond b (Some s.name) (double_after (earlier ++ s ∷ []) symbols) ≡ None
    → double_after (earlier ++ s ∷ []) symbols ≡ None
after_none earlier s symbols true none = absurd cc
after_none earlier s symbols false none = none

only_by : (name : List ℕ) (earlier : List Symbol) (s : Symbol) (symbols : List Symbol) (named : Bool)
    → is_global_named name s ≡ named → double_after (earlier ++ s ∷ []) symbols ≡ None
    → (list_any (is_global_named name) symbols ≡ true → IsOnly name symbols)
    → (named || list_any (is_global_named name) symbols) ≡ true → IsOnly name (s ∷ symbols)
only_by name earlier s symbols true is none later some = record {
  symbol = s;
  is = rw is (ap (λ ss. s ∷ ss) (none_later name (earlier ++ s ∷ []) symbols none
      (any_has (is_global_named name) (earlier ++ s ∷ []) s (has_right earlier (s ∷ []) s (inl refl)) is)));
}
only_by name earlier s symbols false is none later some =
    let it = later some in
    record { symbol = it.symbol; is = rw is it.is }

only_one : (name : List ℕ) (earlier symbols : List Symbol) → double_after earlier symbols ≡ None
    → list_any (is_global_named name) symbols ≡ true → IsOnly name symbols
unfolding double_after
only_one name earlier [] none some = absurd cc
only_one name earlier (s ∷ symbols) none some =
    let rest = after_none earlier s symbols (is_double earlier s) none in
    only_by name earlier s symbols (is_global_named name s) refl rest
    (only_one name (earlier ++ s ∷ []) symbols rest) some

one_address : (image : Contents) (name : List ℕ) (value : ℕ) → double_fault image.symbols ≡ None
    → outside_value image name ≡ Some value → global_addresses image.symbols name ≡ value ∷ []
one_address image name value single is =
    let it = only_one name [] image.symbols (map_none _ (double_after [] image.symbols) single)
    (some_global image.symbols name value is) in
    let all : global_addresses image.symbols name ≡ it.symbol.address ∷ [] =
    ap (λ (ss : List Symbol). ascending (map address_of ss)) it.is in
    let among : Has (it.symbol.address ∷ []) value =
    subst (λ (ns : List ℕ). Has ns value) all
    (has_of (global_addresses image.symbols name) value (global_listed image name value is)) in
    by it.symbol.address all among
  where
    by : (a : ℕ) → global_addresses image.symbols name ≡ a ∷ [] → Has (a ∷ []) value
        → global_addresses image.symbols name ≡ value ∷ []
    by a all (inl same) = all ∙ ap (λ n. n ∷ []) same
    by a all (inr none) = absurd none

-- ---- the values
values_all : (P : Value → Type 0) (before more : List Value) → All P before → ((v : Value) → Has more v → P v)
    → All P (fold with_value before more)
values_all P before [] all each = all
values_all P before (v ∷ more) all each =
    values_all P (with_value before v) more (by (has_value before v.0)) (λ w has. each w (inr has))
  where
    by : (b : Bool) → All P (cond b before (before ++ v ∷ []))
    by true = all
    by false = All-push P before v all (each v (inl refl))

abbrev RefusedMismatch : Type 0
RefusedMismatch = (running : Running) (object : List NormalSection) (name : List ℕ) (difference : Difference)
    → obstacle running object ≡ Some (Mismatch name difference)
    → (chosen : List Candidate) → IsSolution running object chosen → ⊥

abbrev RefusedConflict : Type 0
RefusedConflict = (running : Running)
    (object : List NormalSection) (name : ConflictName) (a b : ℕ) (one other : Spot)
    → obstacle running object ≡ Some (Conflict name a b one other)
    → (chosen : List Candidate) → IsSolution running object chosen → ⊥

abbrev OnlySolution : Type 0
OnlySolution = (running : Running) (object : List NormalSection) → obstacle running object ≡ None
    → (chosen : List Candidate) → IsSolution running object chosen → chosen ≡ left_of running object

abbrev AnswersOk : Type 0
AnswersOk = (running : Running) (object : List NormalSection) (answer : List Value)
    → (solved object running.bodies running.contents running.symbols ≡ Ok answer)
    ↔ ((obstacle running object ≡ None) × (answer ≡ values (left_of running object)))

abbrev AnswersErr : Type 0
AnswersErr = (running : Running) (object : List NormalSection) (refusal : Refusal)
    → (solved object running.bodies running.contents running.symbols ≡ Err refusal)
    ↔ (obstacle running object ≡ Some refusal)

module _ (are : AreSections) (have : DecodedHaveBytes) (lie : DecodedLieInside) (match : AgreeingMatch)
    (say : AgreeingSay) (interiors : AgreeingInteriors) (alike : LinkedCodeRunsAlike) (hold : PlacesHoldSections)
    (files : List (List ℕ)) (objects : List (List NormalSection)) (image : Contents) (laid : Laid)
    (can : CanBeFound files objects image laid) where
  linking : IsLinking image laid
  linking = is_linking are hold files objects image laid can

  choice_of : (pre : PreSection) → Has (code_sections laid.object) pre
      → IsChoice (running image) pre (placed_candidate image laid.places pre)
  choice_of pre has =
      let it = placed_pre files objects image laid can pre has in
      subst (λ (p : PreSection). IsChoice (running image) p (placed_candidate image laid.places p)) it.is
      (chosen match say interiors alike have lie image laid linking it.place it.section it.code it.named)

  peace_of : (pre other : PreSection) → Has (code_sections laid.object) pre → Has (code_sections laid.object) other
      → clashes (placed_candidate image laid.places pre) (placed_candidate image laid.places other) ≡ false
  peace_of pre other has has_other =
      let it = placed_pre files objects image laid can pre has in
      let next = placed_pre files objects image laid can other has_other in
      subst (λ (p : PreSection). clashes (placed_candidate image laid.places p)
      (placed_candidate image laid.places other) ≡ false) it.is
      (subst (λ (q : PreSection). clashes (candidate_of image laid it.place it.section)
      (placed_candidate image laid.places q) ≡ false) next.is
      (peaceful match say interiors alike have lie image laid linking it.place next.place it.section next.section
      it.code next.code))

  pub is_solution : IsSolution (running image) laid.object (own_choice image laid)
  unfolding own_choice
  is_solution =
      let pres = code_sections laid.object in
      let f = placed_candidate image laid.places in
      record {
        choice = zip_map (IsChoice (running image)) f pres (λ pre has. choice_of pre has);
        peaceful = all_of (λ c. All (λ d. clashes c d ≡ false) (map f pres)) (map f pres) (λ c has_c.
            all_of (λ d. clashes c d ≡ false) (map f pres) (λ d has_d.
            let (pre, has, is) = map_has f pres c has_c in
            let (other, has_other, is_other) = map_has f pres d has_d in
            subst (λ (x : Candidate). clashes x d ≡ false) is
            (subst (λ (y : Candidate). clashes (f pre) y ≡ false) is_other (peace_of pre other has has_other))));
      }

  claim_placed : (claim : Claim) (v : Value) → unknown_value image laid claim.unknown ≡ Some claim.value
      → Has (address_value claim) v → IsPlace image laid v
  claim_placed claim v said has = by claim.unknown refl has said
    where
      at_value : (w : Value) → Has (w ∷ []) v → IsPlace image laid w → IsPlace image laid v
      at_value w (inl is) placed = subst (IsPlace image laid) is placed
      at_value w (inr none) placed = absurd none

      by : (u : Unknown) → claim.unknown ≡ u → Has (cond (is_code_unknown u) [] ((u, Address claim.value) ∷ [])) v
          → unknown_value image laid u ≡ Some claim.value → IsPlace image laid v
      by (unknown.Code name) is none value = absurd none
      by (unknown.Data name) is here value = at_value (unknown.Data name, Address claim.value) here value
      by (unknown.Outside name) is here value =
          at_value (unknown.Outside name, Address claim.value) here (one_address image name claim.value linking.single
          value)

  values_placed : (place : ℕ) (section : NormalSection) (v : Value) → IsCode image laid place section
      → Has (values_of (candidate_of image laid place section)) v → IsPlace image laid v
  values_placed place section v it has =
      let c = candidate_of image laid place section in
      let (m, is) = matched match say interiors alike have lie image laid linking place section it in
      let there = runs_there alike have lie image laid linking place section it in
      let here : Has (body_value c m ∷ flat_map address_value m.claims) v = rw is at has in
      by m is (there.placed ∙ ap (λ n. Some n) (sym there.base_is)) here
    where
      by : (m : Matched) → outcome (candidate_of image laid place section) ≡ Ok m
          → base_in laid.places section.name ≡ Some (base_of laid.places (pre_of laid place section))
          → Has (body_value (candidate_of image laid place section) m ∷ flat_map address_value m.claims) v
          → IsPlace image laid v
      by m is placed (inl body) = subst (IsPlace image laid) body (placed, refl)
      by m is placed (inr rest) =
          let (claim, has_claim, inner) = flat_has address_value m.claims v rest in
          claim_placed claim v (claims_said match say interiors alike have lie image laid linking place section claim it
          (rw is has_claim)) inner

  all_placed : All (IsPlace image laid) (values (own_choice image laid))
  unfolding values own_choice
  all_placed =
      let f = placed_candidate image laid.places in
      values_all (IsPlace image laid) [] (flat_map values_of (map f (code_sections laid.object)))
      (All-nil (IsPlace image laid)) (λ v has.
      let (c, has_c, inner) = flat_has values_of (map f (code_sections laid.object)) v has in
      let (pre, has_pre, is) = map_has f (code_sections laid.object) c has_c in
      let it = placed_pre files objects image laid can pre has_pre in
      let own : Has (values_of (f pre)) v = subst (λ (x : Candidate). Has (values_of x) v) (sym is) inner in
      values_placed it.place it.section v it.code
      (subst (λ (p : PreSection). Has (values_of (placed_candidate image laid.places p)) v) (sym it.is) own))

  -- ---- nothing else can stand in the way
  missing_none : first_missing (running image) laid.object ≡ None
  missing_none =
      none_first_some (λ pre. missing_in pre (candidates_of (running image) pre)) (code_sections laid.object)
      (λ pre has. by pre (candidates_of (running image) pre)
      (has_of (candidates_of (running image) pre) (placed_candidate image laid.places pre) (choice_of pre has).among))
    where
      by : (pre : PreSection) (cs : List Candidate) → Has cs (placed_candidate image laid.places pre)
          → missing_in pre cs ≡ None
      by pre [] has = absurd has
      by pre (c ∷ cs) has = refl

  own_fault_is : own_fault (running image) laid.object ≡ first_mismatch (running image) laid.object
  unfolding own_fault
  own_fault_is = rw (can.decodes, missing_none) refl

  obstacle_kind : RefusedMismatch → RefusedConflict → (refusal : Refusal)
      → obstacle (running image) laid.object ≡ Some refusal → IsTwins refusal
  unfolding obstacle
  obstacle_kind mismatch clash refusal is =
      or_kind IsTwins (own_fault (running image) laid.object) _ refusal
      (λ own.
      let it = first_kind IsMismatch (λ pre. mismatch_in pre (candidates_of (running image) pre))
      (code_sections laid.object) refusal
      (λ pre y found. mismatch_kind pre (candidates_of (running image) pre) y found) (sym own_fault_is ∙ own) in
      absurd (mismatch (running image) laid.object it.name it.difference (is ∙ ap (λ x. Some x) it.is)
      (own_choice image laid) is_solution))
      (or_kind IsTwins (reported (length laid.object) _) (first_twins (left_of (running image) laid.object)) refusal
      (λ clashing.
      let it = reported_kind (length laid.object) _ refusal clashing in
      absurd (clash (running image) laid.object it.name it.a it.b it.one it.other (is ∙ ap (λ x. Some x) it.is)
      (own_choice image laid) is_solution))
      (first_twins_kind (left_of (running image) laid.object) refusal)) is

  pub answered : RefusedMismatch → RefusedConflict → OnlySolution → AnswersOk → AnswersErr
      → AnswersPlaces image laid (solved laid.object [] (memory_of image) image.symbols)
  answered mismatch clash only ok err = by (obstacle (running image) laid.object) refl
    where
      by : (o : Option Refusal) → obstacle (running image) laid.object ≡ o
          → AnswersPlaces image laid (solved laid.object [] (memory_of image) image.symbols)
      by None none =
          let same = only (running image) laid.object none (own_choice image laid) is_solution in
          let is : solved laid.object [] (memory_of image) image.symbols ≡ Ok (values (own_choice image laid)) =
          (ok (running image) laid.object (values (own_choice image laid))).1 (none, ap values same) in
          subst (AnswersPlaces image laid) (sym is) (AtPlaces all_placed)
      by (Some refusal) some =
          let it = obstacle_kind mismatch clash refusal some in
          let is : solved laid.object [] (memory_of image) image.symbols ≡ Err (Ambiguous it.section it.a it.b) =
          (err (running image) laid.object (Ambiguous it.section it.a it.b)).1 (some ∙ ap (λ x. Some x) it.is) in
          subst (AnswersPlaces image laid) (sym is) (Twins it.section it.a it.b)
