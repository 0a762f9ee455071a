-- What holds of all candidates of an object.
use Rattle.std.proofs.Common.{◌≡◌, ℕ, suc, ◌+◌, ◌<◌, ◌≤◌, true, false, cond, List, [], ◌∷◌, length, take, get_or}
use Rattle.std.proofs.Common.{Option, Some, None, Ok, refl, sym, ◌∙◌, ap, subst, add-zero, zero-add, suc-add, add-suc}
use Rattle.std.specs.Option.{MatchOption, IsSomeAnd}
use Rattle.std.specs.List.{All, AllZip, slice_get, flat_map}
use Rattle.std.proofs.lemmas.List.{take_all}
use Rattle.std.proofs.lemmas.List.Elements.{All-nil, All-cons, All-append, All-map, All-head, All-tail, All-weaker}
use Rattle.std.proofs.lemmas.Option.{slice_get-get_or, slice_get_within, get_or_from_slice_get}
use Rattle.std.proofs.lemmas.Slice.Zip.{AllZip-right}
use Rattle.i386_reloc.specs.declared.types.NormalSection.{NormalSection}
use Rattle.i386_reloc.specs.Classes.{is_code_class}
use Rattle.run_pre_match.specs.Candidate.{Candidate}
use Rattle.run_pre_match.specs.Matched.{PreSection, outcome}
use Rattle.match_candidates.specs.declared.trials.Tried.{Tried}
use Rattle.match_candidates.specs.OwnFaults.{AreTried, IsTried, outcome_of}
use Rattle.match_candidates.specs.Candidates.{Running, code_from, code_sections, candidate_at}
use Rattle.match_candidates.specs.Candidates.{homes_of, candidates_of, candidates}
use Rattle.symbol_solve.specs.inside.Left.{IsOf, RunsIn}

-- a section with its place in an object
abbrev pub placed : List NormalSection → ℕ → NormalSection → PreSection
placed object place section = record { object = object; place = place; section = section }

-- that a section stands at its place in an object
pub record IsPlaced (object : List NormalSection) (pre : PreSection) : Type 0 where
  pub object_is : pre.object ≡ object
  pub at : slice_get object pre.place ≡ Some pre.section

-- that a candidate is that of its section and home
pub record IsHere (running : Running) (object : List NormalSection) (c : Candidate) : Type 0 where
  pub own : c ≡ candidate_at running (placed object c.place c.section) c.home
  pub at : slice_get object c.place ≡ Some c.section

-- ---- what comes of a candidate, by what is kept of it
pub runs_here : (running : Running) (object : List NormalSection) (c : Candidate)
    → IsHere running object c → RunsIn running c
runs_here running object c here = record {
  memory = ap (λ (d : Candidate). d.contents) here.own;
  symbols = ap (λ (d : Candidate). d.symbols) here.own;
}

again : (running : Running) (pre : PreSection) (c : Candidate) (t : Tried) → c.object ≡ pre.object
    → c.section ≡ pre.section → c.place ≡ pre.place → t.home ≡ c.home → t.base ≡ c.base → RunsIn running c
    → outcome c ≡ outcome_of running pre t
again running pre c t object section place home base runs =
    λ i. outcome (record {
      object = object i;
      place = place i;
      section = section i;
      contents = runs.memory i;
      symbols = runs.symbols i;
      home = sym home i;
      base = sym base i;
    })

pub again_of : (running : Running) (pre : PreSection) (c : Candidate) (t : Tried)
    → IsOf pre c t → RunsIn running c → outcome c ≡ outcome_of running pre t
again_of running pre c t is runs = again running pre c t is.object is.section is.place is.home is.base runs

-- the code of a candidate's section
pub code_here : (codes : List PreSection) (k : ℕ) (code pre : PreSection)
    → k < length codes → code ≡ get_or codes k code → slice_get codes k ≡ Some pre → code ≡ pre
code_here codes k code pre within is at =
    is ∙ get_or_from_slice_get codes k pre code at

pub again_tried : (running : Running) (codes : List PreSection) (code : PreSection) (c : Candidate) (t : Tried)
    → t.section < length codes → code ≡ get_or codes t.section code → IsTried codes c t → RunsIn running c
    → outcome c ≡ outcome_of running code t
again_tried running codes code c t within is tried runs =
    let same : placed c.object c.place c.section ≡ code =
    sym (code_here codes t.section code (placed c.object c.place c.section) within is tried.code) in
    again running code c t (ap (λ (p : PreSection). p.object) same)
    (ap (λ (p : PreSection). p.section) same) (ap (λ (p : PreSection). p.place) same) tried.home tried.base runs

-- ---- code sections stand at their places
Stand : List NormalSection → ℕ → List NormalSection → Type 0
Stand object place sections = (k : ℕ) → slice_get object (place + k) ≡ slice_get sections k

stand_on : (object : List NormalSection) (place : ℕ) (section : NormalSection) (sections : List NormalSection)
    → ((k : ℕ) → slice_get object (place + k) ≡ slice_get (section ∷ sections) k)
    → (k : ℕ) → slice_get object (suc place + k) ≡ slice_get sections k
stand_on object place section sections here k =
    ap (slice_get object) (suc-add place k ∙ sym (add-suc place k)) ∙ here (suc k)

codes_placed : (object : List NormalSection) (place : ℕ) (sections : List NormalSection)
    → ((k : ℕ) → slice_get object (place + k) ≡ slice_get sections k)
    → All (IsPlaced object) (code_from object place sections)
unfolding code_from
codes_placed object place [] here = All-nil (IsPlaced object)
codes_placed object place (section ∷ sections) here =
    let rest : All (IsPlaced object) (code_from object (suc place) sections) =
    codes_placed object (suc place) sections (stand_on object place section sections here) in
    let own : IsPlaced object (placed object place section) =
    record { object_is = refl; at = ap (slice_get object) (sym (add-zero place)) ∙ here 0 } in
    elim (is_code_class section.class) as (λ b. All (IsPlaced object) (cond b (placed object place section
    ∷ code_from object (suc place) sections) (code_from object (suc place) sections))) [
      | true ↦ All-cons (IsPlaced object) (placed object place section) (code_from object (suc place) sections) own rest
      | false ↦ rest
    ]

pub codes_here : (object : List NormalSection) → All (IsPlaced object) (code_sections object)
codes_here object = codes_placed object 0 object (λ k. ap (slice_get object) (zero-add k))

-- ---- and so do their candidates
here_at : (running : Running) (object : List NormalSection) (pre : PreSection)
    → IsPlaced object pre → (home : ℕ) → IsHere running object (candidate_at running pre home)
here_at running object pre is home = record {
  own = ap (λ (sections : List NormalSection). candidate_at running (placed sections pre.place pre.section) home)
      is.object_is;
  at = is.at;
}

flat_each : {X Y : Type 0} (P : Y → Type 0) (f : X → List Y) (xs : List X)
    → All (λ x. All P (f x)) xs → All P (flat_map f xs)
flat_each P f [] each = All-nil P
flat_each P f (x ∷ xs) each =
    All-append P (f x) (flat_map f xs)
    (All-head (λ y. All P (f y)) x xs each) (flat_each P f xs (All-tail (λ y. All P (f y)) x xs each))

pub candidates_here : (running : Running) (object : List NormalSection)
    → All (IsHere running object) (candidates running object)
unfolding candidates
candidates_here running object =
    flat_each (IsHere running object) (candidates_of running) (code_sections object)
    (All-weaker (IsPlaced object) (λ pre. All (IsHere running object) (candidates_of running pre))
    (λ pre is. All-map (IsHere running object)
    (candidate_at running pre) (homes_of running pre) (λ k d lt. here_at running object pre is _))
    (code_sections object) (codes_here object))

-- ---- lists side by side
some_and : {X : Type 0} (o : Option X) (P : X → Type 0) → IsSomeAnd o P → (x : X) × (o ≡ Some x) × P x
some_and None P h = absurd h
some_and (Some x) P h = (x, refl, h)

pub zip_here : {X Y : Type 0} (R : X → Y → Type 0) (xs : List X) (ys : List Y) (i : ℕ) (y : Y)
    → AllZip R xs ys → i < length ys → y ≡ get_or ys i y → (x : X) × (slice_get xs i ≡ Some x) × R x y
zip_here {X} {Y} R xs ys i y each within is =
    let there : slice_get ys i ≡ Some y = slice_get-get_or ys i y within ∙ ap (λ (z : Y). Some z) (sym is) in
    some_and (slice_get xs i) (λ x. R x y)
    (subst (λ o. MatchOption o (Unit {0}) (λ z. IsSomeAnd (slice_get xs i) (λ x. R x z))) there
    (AllZip-right R xs ys each i))

zip_length : {X Y : Type 0} (R : X → Y → Type 0) (xs : List X) (ys : List Y) → AllZip R xs ys → length xs ≡ length ys
zip_length R [] [] each = refl
zip_length R [] (y ∷ ys) each = absurd each
zip_length R (x ∷ xs) [] each = absurd each
zip_length R (x ∷ xs) (y ∷ ys) each = ap suc (zip_length R xs ys each.1)

-- what was tried at a place is the candidate there
tried_here : (running : Running) (object : List NormalSection)
    (codes : List PreSection) (tried items : List Tried) (i : ℕ) (t : Tried) → AreTried running object tried
    → items ≡ tried → codes ≡ code_sections object → i < length items → t ≡ get_or items i t
    → (c : Candidate) × (slice_get (candidates running object) i ≡ Some c) × IsTried codes c t
tried_here running object codes tried items i t each is codes_are within at =
    let found = zip_here (IsTried (code_sections object)) (candidates running object) tried i t each
    (subst (λ (l : List Tried). i < length l) is within) (at ∙ ap (λ (l : List Tried). get_or l i t) is) in
    (found.0, found.1, subst (λ (l : List PreSection). IsTried l found.0 t) (sym codes_are) found.2)

-- the item that is read of what was tried
abbrev pub unread : Tried
unread = record { section = 0; home = 0; base = 0; outcome = Ok 0 }

abbrev pub read : List Tried → ℕ → Tried
read items i = get_or items i unread

pub tried_read : (running : Running) (object : List NormalSection) (codes : List PreSection) (tried items : List Tried)
    (i : ℕ) → AreTried running object tried → items ≡ tried → codes ≡ code_sections object → i < length items
    → (c : Candidate) × (slice_get (candidates running object) i ≡ Some c) × IsTried codes c (read items i)
tried_read running object codes tried items i each is codes_are within =
    tried_here running object codes tried items i (read items i) each is codes_are within
    (sym (get_or_from_slice_get items i (read items i) (read items i) (slice_get-get_or items i unread within)))

pub tried_section : (codes : List PreSection) (c : Candidate) (t : Tried) → IsTried codes c t → t.section < length codes
tried_section codes c t is = slice_get_within codes t.section _ is.code

pub all_tried : (running : Running) (object : List NormalSection) (tried items : List Tried) (i : ℕ) → AreTried running
    object tried → items ≡ tried → length items ≤ i → take i (candidates running object) ≡ candidates running object
all_tried running object tried items i each is end =
    take_all i (candidates running object)
    (subst (λ k. k ≤ i) (ap (λ (l : List Tried). length l) is
    ∙ sym (zip_length (IsTried (code_sections object)) (candidates running object) tried each)) end)

-- a candidate at a place
pub here_of : (running : Running) (object : List NormalSection) (i : ℕ) (c : Candidate)
    → slice_get (candidates running object) i ≡ Some c → IsHere running object c
here_of running object i c at =
    let found = get_or_from_slice_get (candidates running object) i c c at in
    subst (IsHere running object) found
    (candidates_here running object i c (slice_get_within (candidates running object) i c at))
