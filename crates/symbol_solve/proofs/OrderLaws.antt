-- The candidates of an object as choices: in order, each with claims that agree.
use Rattle.std.proofs.Common.{◌≡◌, ◌⊎◌, ℕ, zero, suc, ◌+◌, ◌<◌, ◌≤◌, Bool, true, false, cond}
use Rattle.std.proofs.Common.{List, [], ◌∷◌, ◌++◌, length, map, Option, Some, None, Result, Ok}
use Rattle.std.proofs.Common.{Err, Contains, refl, sym, ◌∙◌, ap, subst, inl, inr, le_refl, arith}
use Rattle.std.specs.List.{All, IsDistinct, filter, flat_map, range_with_len, slice_get}
use Rattle.std.specs.List.Sorted.{IsStrictlyIncreasing}
use Rattle.std.specs.Option.{option_map}
use Rattle.std.proofs.lemmas.List.Elements.{All-nil, All-cons, All-append, All-map}
use Rattle.std.proofs.lemmas.List.Elements.{All-head, All-tail, All-weaker, All-contains}
use Rattle.std.proofs.lemmas.List.FromFn.{length-range_with_len, get_or-range_with_len}
use Rattle.std.proofs.lemmas.List.Kept.{IsStrictlyIncreasing-filter}
use Rattle.std.proofs.lemmas.Option.{same_Some, slice_get-map, slice_get-get_or}
use Rattle.std.proofs.lemmas.Option.{slice_get_within, get_or_from_slice_get}
use Rattle.i386_reloc.specs.declared.types.NormalSection.{NormalSection}
use Rattle.i386_reloc.specs.Classes.{is_code_class}
use Rattle.i386_reloc.specs.Normal.{same_bytes, name_of, function_name}
use Rattle.symbol_table.specs.Symbols.{address_of, is_function_named, function_addresses}
use Rattle.symbol_table.specs.laws.AscendingLaws.{Above, Ascends, ascends-ascending}
use Rattle.run_pre_match.specs.declared.types.Claim.{Claim}
use Rattle.run_pre_match.specs.declared.types.Matched.{Matched}
use Rattle.run_pre_match.specs.declared.types.MatchFault.{MatchFault}
use Rattle.run_pre_match.specs.Candidate.{Candidate}
use Rattle.run_pre_match.specs.Matched.{PreSection, outcome}
use Rattle.propagation.specs.declared.choice.Claim as numbered
use Rattle.propagation.specs.Choices.{Agree, IsChoice, ComesBefore, AreChoices}
use Rattle.match_candidates.specs.Candidates.{Running, code_from, candidate_at, homes_of}
use Rattle.match_candidates.specs.Candidates.{candidates_of, candidates, is_match}
use Rattle.symbol_solve.specs.Clashes.{claims_in, claims_of}
use Rattle.symbol_solve.specs.inside.Numbers.{Numbers, claim_of, choice_of, met_among, IsUnknownNumbered}
use Rattle.symbol_solve.specs.inside.Claims.{IsAtOne}
use Rattle.symbol_solve.proofs.CandidateLaws.{placed, IsHere, candidates_here}
use Rattle.symbol_solve.proofs.MapLaws.{IsKnown, same_number_same_unknown}

-- ---- lists in order
abbrev pub Ordered : {X : Type 0} → (X → X → Type 0) → List X → Type 0
Ordered R [] = Unit {0}
Ordered R (x ∷ xs) = All (R x) xs × Ordered R xs

ordered_append : {X : Type 0} (R : X → X → Type 0) (xs ys : List X)
    → Ordered R xs → Ordered R ys → All (λ x. All (R x) ys) xs → Ordered R (xs ++ ys)
ordered_append R [] ys one two across = two
ordered_append R (x ∷ xs) ys one two across = (
  All-append (R x) xs ys one.0 (All-head (λ z. All (R z) ys) x xs across),
  ordered_append R xs ys one.1 two (All-tail (λ z. All (R z) ys) x xs across),
)

at_of : {X : Type 0} (P : X → Type 0) (xs : List X) (i : ℕ) (x : X) → All P xs → slice_get xs i ≡ Some x → P x
at_of P xs i x each at = subst P (get_or_from_slice_get xs i x x at) (each i x (slice_get_within xs i x at))

pub ordered_at : {X : Type 0} (R : X → X → Type 0) (xs : List X) (i j : ℕ) (a b : X)
    → Ordered R xs → i < j → slice_get xs i ≡ Some a → slice_get xs j ≡ Some b → R a b
ordered_at R [] i j a b order less at_i at_j = absurd cc
ordered_at R (x ∷ xs) zero zero a b order less at_i at_j = absurd (omega arith)
ordered_at {X} R (x ∷ xs) zero (suc j) a b order less at_i at_j =
    subst (λ (z : X). R z b) (same_Some x a at_i) (at_of (R x) xs j b order.0 at_j)
ordered_at R (x ∷ xs) (suc i) zero a b order less at_i at_j = absurd (omega arith)
ordered_at R (x ∷ xs) (suc i) (suc j) a b order less at_i at_j = ordered_at R xs i j a b order.1 (omega arith) at_i at_j

-- ---- candidates are in order
abbrev pub Before : Candidate → Candidate → Type 0
Before c d = (c.place < d.place) ⊎ ((c.place ≡ d.place) × (c.home < d.home))

above_filter : (n : ℕ) (p : ℕ → Bool) (ns : List ℕ) → Above n ns → Above n (filter p ns)
above_filter n p [] above = tt
above_filter n p (m ∷ ms) above =
    elim (p m) as (λ b. Above n (cond b (m ∷ filter p ms) (filter p ms)))
    [ true ↦ (above.0, above_filter n p ms above.1) | false ↦ above_filter n p ms above.1 ]

ascends_filter : (p : ℕ → Bool) (ns : List ℕ) → Ascends ns → Ascends (filter p ns)
ascends_filter p [] up = tt
ascends_filter p (m ∷ ms) up =
    elim (p m) as (λ b. Ascends (cond b (m ∷ filter p ms) (filter p ms)))
    [ true ↦ (above_filter m p ms up.0, ascends_filter p ms up.1) | false ↦ ascends_filter p ms up.1 ]

homes_above : (running : Running) (pre : PreSection) (home : ℕ) (homes : List ℕ)
    → Above home homes → All (Before (candidate_at running pre home)) (map (candidate_at running pre) homes)
homes_above running pre home [] above = All-nil (Before (candidate_at running pre home))
homes_above running pre home (h ∷ hs) above =
    All-cons (Before (candidate_at running pre home)) (candidate_at running pre h)
    (map (candidate_at running pre) hs) (inr (refl, above.0)) (homes_above running pre home hs above.1)

homes_ordered : (running : Running) (pre : PreSection) (homes : List ℕ)
    → Ascends homes → Ordered Before (map (candidate_at running pre) homes)
homes_ordered running pre [] up = tt
homes_ordered running pre (h ∷ hs) up = (homes_above running pre h hs up.0, homes_ordered running pre hs up.1)

of_one_ordered : (running : Running) (pre : PreSection) → Ordered Before (candidates_of running pre)
of_one_ordered running pre =
    homes_ordered running pre (homes_of running pre)
    (ascends_filter _ (function_addresses running.symbols (function_name pre.section))
    (ascends-ascending (map address_of (filter (is_function_named (function_name pre.section)) running.symbols))))

of_one_place : (running : Running) (pre : PreSection) (P : ℕ → Type 0)
    → P pre.place → All (λ (c : Candidate). P c.place) (candidates_of running pre)
of_one_place running pre P holds =
    All-map (λ (c : Candidate). P c.place) (candidate_at running pre) (homes_of running pre) (λ k d lt. holds)

-- those of the sections from a place on are not before it
none_before : (running : Running) (object : List NormalSection) (place : ℕ) (sections : List NormalSection)
    → All (λ (c : Candidate). place ≤ c.place) (flat_map (candidates_of running) (code_from object place sections))
unfolding code_from
none_before running object place [] = All-nil (λ (c : Candidate). place ≤ c.place)
none_before running object place (section ∷ sections) =
    let P : Candidate → Type 0 = λ c. place ≤ c.place in
    let rest : All P (flat_map (candidates_of running) (code_from object (suc place) sections)) =
    All-weaker (λ (c : Candidate). suc place ≤ c.place) P
    (λ c above. omega (arith, above)) _ (none_before running object (suc place) sections) in
    elim (is_code_class section.class) as (λ b. All P (flat_map (candidates_of running) (cond b (placed object
    place section ∷ code_from object (suc place) sections) (code_from object (suc place) sections)))) [
      | true ↦ All-append P (candidates_of running (placed object place section)) _
          (of_one_place running (placed object place section) (λ p. place ≤ p) (le_refl place)) rest
      | false ↦ rest
    ]

from_ordered : (running : Running) (object : List NormalSection) (place : ℕ) (sections : List NormalSection)
    → Ordered Before (flat_map (candidates_of running) (code_from object place sections))
unfolding code_from
from_ordered running object place [] = tt
from_ordered running object place (section ∷ sections) =
    let pre = placed object place section in
    let later : List Candidate = flat_map (candidates_of running) (code_from object (suc place) sections) in
    let rest : Ordered Before later = from_ordered running object (suc place) sections in
    let above : All (λ (c : Candidate). suc place ≤ c.place) later = none_before running object (suc place) sections in
    let behind : All (λ (c : Candidate). All (Before c) later) (candidates_of running pre) =
    All-weaker (λ (c : Candidate). c.place ≡ place) (λ (c : Candidate). All (Before c) later)
    (λ c is. All-weaker
    (λ (d : Candidate). suc place ≤ d.place) (Before c) (λ d up. inl (omega (arith, is, up))) later above)
    (candidates_of running pre) (of_one_place running pre (λ p. p ≡ place) refl) in
    elim (is_code_class section.class) as (λ b. Ordered Before (flat_map (candidates_of running)
    (cond b (pre ∷ code_from object (suc place) sections) (code_from object (suc place) sections)))) [
      | true ↦ ordered_append Before (candidates_of running pre) later (of_one_ordered running pre) rest behind
      | false ↦ rest
    ]

pub candidates_ordered : (running : Running) (object : List NormalSection) → Ordered Before (candidates running object)
unfolding candidates
candidates_ordered running object = from_ordered running object 0 object

-- ---- the claims of a choice agree
from_map : {X Y : Type 0} (f : X → Y) (xs : List X) (y : Y)
    → Contains (map f xs) y → (x : X) × Contains xs x × (f x ≡ y)
from_map {X} {Y} f xs y has = by (slice_get xs has.0) refl
  where
    there : slice_get (map f xs) has.0 ≡ Some y
    there = slice_get-get_or (map f xs) has.0 y has.1 ∙ ap (λ (z : Y). Some z) has.2

    by : (o : Option X) → slice_get xs has.0 ≡ o → (x : X) × Contains xs x × (f x ≡ y)
    by None at = absurd (let e : None ≡ Some y = sym (slice_get-map f xs has.0 ∙ ap (option_map f) at) ∙ there in cc)
    by (Some x) at = (
      x,
      (has.0, slice_get_within xs has.0 x at, get_or_from_slice_get xs has.0 x x at),
      same_Some (f x) y (sym (slice_get-map f xs has.0 ∙ ap (option_map f) at) ∙ there),
    )

-- that the claims of each match agree
abbrev pub MatchesAgree : Type 0
MatchesAgree = (c : Candidate) (m : Matched)
    → slice_get c.object c.place ≡ Some c.section → IsDistinct same_bytes (map name_of c.object) → outcome c ≡ Ok m →
    (a b : Claim) → Contains m.claims a → Contains m.claims b → a.unknown ≡ b.unknown → a.value ≡ b.value

claims_agree_in : MatchesAgree → (c : Candidate) → slice_get c.object c.place ≡ Some c.section
    → IsDistinct same_bytes (map name_of c.object) → (o : Result Matched MatchFault) → outcome c ≡ o →
    (a b : Claim) → Contains (claims_in o) a → Contains (claims_in o) b → a.unknown ≡ b.unknown → a.value ≡ b.value
claims_agree_in agree c at distinct (Ok m) is a b has_a has_b same = agree c m at distinct is a b has_a has_b same
claims_agree_in agree c at distinct (Err fault) is a b has_a has_b same = absurd (let lt = has_a.1 in omega (arith, lt))

choice_agrees : MatchesAgree → (numbers : Numbers) (c : Candidate)
    → slice_get c.object c.place ≡ Some c.section → IsDistinct same_bytes (map name_of c.object)
    → All (IsUnknownNumbered numbers) (claims_of c) → Agree (map (claim_of numbers) (claims_of c))
choice_agrees agree numbers c at distinct each = λ x y has_x has_y same.
    let (a, has_a, a_is) = from_map (claim_of numbers) (claims_of c) x has_x in
    let (b, has_b, b_is) = from_map (claim_of numbers) (claims_of c) y has_y in
    let one = same_number_same_unknown numbers.unknowns a.unknown b.unknown (All-contains (IsUnknownNumbered numbers)
    (claims_of c) a each has_a) (All-contains (IsUnknownNumbered numbers) (claims_of c) b each has_b)
    (ap (λ (z : numbered.Claim). z.unknown) a_is ∙ same ∙ sym (ap (λ (z : numbered.Claim). z.unknown) b_is)) in
    sym (ap (λ (z : numbered.Claim). z.value) a_is) ∙ claims_agree_in agree c at distinct
    (outcome c) refl a b has_a has_b one ∙ ap (λ (z : numbered.Claim). z.value) b_is

-- ---- the demands that are met ascend
range_ascends : (a n : ℕ) → IsStrictlyIncreasing (range_with_len a n)
range_ascends a n = λ k lt.
    let within : k + 1 < n = subst (λ m. k + 1 < m) (length-range_with_len a n) lt in
    let one = get_or-range_with_len a n k 0 (omega arith) in
    let two = get_or-range_with_len a n (k + 1) 0 within in
    omega (arith, one, two)

met_ascends : (numbers : Numbers) (c : Candidate) (b : Bool) → IsStrictlyIncreasing (cond b (met_among numbers c) [])
met_ascends numbers c true =
    IsStrictlyIncreasing-filter _ (range_with_len 0 (length numbers.points)) (range_ascends 0 (length numbers.points))
met_ascends numbers c false = λ k lt. absurd (omega arith)

-- ---- the choices of all candidates
module _ (agree : MatchesAgree) (running : Running)
    (object : List NormalSection) (numbers : Numbers) (distinct : IsDistinct same_bytes (map name_of object)) where
  is_choice : (c : Candidate) → IsKnown running object numbers c → IsChoice (choice_of object numbers c)
  unfolding choice_of
  is_choice c known =
      let own : c.object ≡ object = ap (λ (d : Candidate). d.object) known.here.own in
      record {
        agree =
            choice_agrees agree numbers c (ap (λ (o : List NormalSection). slice_get o c.place) own ∙ known.here.at)
            (subst (λ (o : List NormalSection). IsDistinct same_bytes (map name_of o)) (sym own) distinct)
            known.numbered.claims;
        ascend = met_ascends numbers c (is_match (outcome c));
      }

  before_alike : (cs : List Candidate) → Ordered Before cs → Ordered ComesBefore (map (choice_of object numbers) cs)
  unfolding choice_of
  before_alike [] order = tt
  before_alike (c ∷ cs) order = (
    All-map (ComesBefore (choice_of object numbers c)) (choice_of object numbers) cs (All-weaker (Before c)
        (λ d. ComesBefore (choice_of object numbers c) (choice_of object numbers d)) (λ d h. h) cs order.0),
    before_alike cs order.1,
  )

  pub are_choices : All (IsKnown running object numbers) (candidates running object)
      → AreChoices (map (choice_of object numbers) (candidates running object))
  are_choices known = record {
    each = All-map IsChoice (choice_of object numbers) (candidates running object) (All-weaker (IsKnown running
        object numbers) (λ c. IsChoice (choice_of object numbers c)) is_choice (candidates running object) known);
    order =
        λ i j a b less at_i at_j. ordered_at ComesBefore (map (choice_of object numbers) (candidates running object))
        i j a b (before_alike (candidates running object) (candidates_ordered running object)) less at_i at_j;
  }

-- the claims of each candidate agree
pub all_at_one : MatchesAgree → (running : Running) (object : List NormalSection)
    → IsDistinct same_bytes (map name_of object) → All IsAtOne (candidates running object)
all_at_one agree running object distinct =
    All-weaker (IsHere running object) IsAtOne
    (λ c here.
    let own : c.object ≡ object = ap (λ (d : Candidate). d.object) here.own in
    claims_agree_in agree c (ap (λ (o : List NormalSection). slice_get o c.place) own ∙ here.at)
    (subst (λ (o : List NormalSection). IsDistinct same_bytes (map name_of o)) (sym own) distinct)
    (outcome c) refl)
    (candidates running object) (candidates_here running object)
