-- The choice of a candidate.
use Rattle.std.proofs.Common.{◌≡◌, ℕ, ◌+◌, ◌<◌, Bool, true, false, ◌&&◌, cond, List, [], ◌∷◌, ◌++◌, length, map}
use Rattle.std.proofs.Common.{take, get_or, Option, Some, None, Result, Ok, Err, refl, subst, sym, ◌∙◌, ap, arith}
use Rattle.std.specs.List.{filter, slice_get}
use Rattle.std.specs.Option.{unwrap_or}
use Rattle.std.specs.Result.{IfOk}
use Rattle.std.proofs.lemmas.Bool.{false≢true}
use Rattle.std.proofs.lemmas.Result.{IfOk-weaker}
use Rattle.std.proofs.lemmas.List.{take_more, map-append}
use Rattle.std.proofs.lemmas.Option.{slice_get_within, get_or_from_slice_get}
use Rattle.std.proofs.lemmas.List.Elements.{filter_agree}
use Rattle.i386_reloc.specs.declared.types.NormalSection.{NormalSection}
use Rattle.image_memory.specs.Contents.{Contents}
use Rattle.run_pre_match.specs.Bodies.{body_at}
use Rattle.run_pre_match.specs.declared.types.Matched.{Matched}
use Rattle.run_pre_match.specs.declared.types.MatchFault.{MatchFault}
use Rattle.run_pre_match.specs.Match.{Valuation, Match}
use Rattle.run_pre_match.specs.Candidate.{Candidate, same_number, Body, body_of}
use Rattle.run_pre_match.specs.Matched.{PreSection, outcome}
use Rattle.match_candidates.specs.declared.trials.Tried.{Tried}
use Rattle.propagation.specs.declared.choice.Choice.{Choice}
use Rattle.match_candidates.specs.Candidates.{is_match}
use Rattle.match_candidates.specs.OwnFaults.{IsTried, length_of}
use Rattle.symbol_solve.specs.declared.numbers.Point.{Point}
use Rattle.symbol_solve.specs.inside.Numbers.{Numbers, is_at, points_at, stands, standing, meets}
use Rattle.symbol_solve.specs.inside.Numbers.{met_among, choice_from, choice_of, AreListed}
use Rattle.symbol_solve.proofs.CandidateLaws.{placed, code_here}
use Rattle.symbol_solve.specs.inside.Points.{LiesIn}
use Rattle.symbol_solve.proofs.PointLaws.{own_here}
use Rattle.symbol_solve.proofs.WithinLaws.{AreMet, match_lies}

filter_twice : {X : Type 0} (p q : X → Bool) (xs : List X) → filter p (filter q xs) ≡ filter (λ x. q x && p x) xs
filter_twice p q [] = refl
filter_twice p q (x ∷ xs) =
    elim (q x) as (λ b. filter p (cond b (x ∷ filter q xs) (filter q xs))
    ≡ cond (b && p x) (x ∷ filter (λ y. q y && p y) xs) (filter (λ y. q y && p y) xs)) [
      | true ↦ ap (λ l. cond (p x) (x ∷ l) l) (filter_twice p q xs)
      | false ↦ filter_twice p q xs
    ]

meets_by : (c : Candidate) (o : Option Point) → (is_at c.place o && stands (body_of c) o) ≡ meets c o
unfolding same_number
meets_by c None = refl
meets_by c (Some p) = refl

pub met_by_standing : (numbers : Numbers) (c : Candidate)
    → standing numbers.points (body_of c) (points_at numbers.points c.place) ≡ met_among numbers c
met_by_standing numbers c =
    filter_twice
    (λ n. stands (body_of c) (slice_get numbers.points n)) (λ n. is_at c.place (slice_get numbers.points n)) _
    ∙ filter_agree _ _ (λ n. meets_by c (slice_get numbers.points n)) _

pub choice_is : (object : List NormalSection) (numbers : Numbers) (c : Candidate) (code : PreSection) (t : Tried)
    (came : Result Matched MatchFault) (contents : Contents) (own : List ℕ) → own ≡ points_at numbers.points code.place
    → code ≡ placed c.object c.place c.section → t.home ≡ c.home → t.base ≡ c.base
    → outcome c ≡ came → c.contents ≡ contents → choice_from object numbers code.place t.home came
    (standing numbers.points (body_at code contents t.base) own) ≡ choice_of object numbers c
unfolding choice_of
choice_is object numbers c code t came contents own own_is code_is home base comes there =
    let place : code.place ≡ c.place = ap (λ (p : PreSection). p.place) code_is in
    let body : body_at code contents t.base ≡ body_of c =
    λ i. body_at (code_is i) (sym there i) (base i) in
    let met = (λ i. standing numbers.points (body i) ((own_is ∙ ap (points_at numbers.points) place) i))
    ∙ met_by_standing numbers c in
    λ i. choice_from object numbers (place i) (home i) (sym comes i) (met i)

-- what doesn't match says nothing
says_nothing : (object : List NormalSection) (numbers : Numbers) (place home : ℕ) (came : Result Matched MatchFault)
    (kept : Result ℕ MatchFault) (met : List ℕ) → length_of came ≡ kept → is_match kept ≡ false
    → choice_from object numbers place home came met
    ≡ record { section = place; home = home; matches = false; claims = []; demands = []; met = [] }
says_nothing object numbers place home (Ok matched) kept met is none =
    absurd (false≢true (sym none ∙ ap is_match (sym is)))
says_nothing object numbers place home (Err fault) kept met is none = refl

pub no_choice_of : (object : List NormalSection) (numbers : Numbers) (codes : List PreSection)
    (c : Candidate) (code : PreSection) (t : Tried) (choice : Choice) (place : ℕ) → t.section < length codes
    → code ≡ get_or codes t.section code → IsTried codes c t → is_match t.outcome ≡ false → place ≡ code.place
    → choice ≡ record { section = place; home = t.home; matches = false; claims = []; demands = []; met = [] }
    → choice ≡ choice_of object numbers c
unfolding choice_of
no_choice_of object numbers codes c code t choice place section code_is tried none place_is is =
    let same : code ≡ placed c.object c.place c.section =
    code_here codes t.section code (placed c.object c.place c.section) section code_is tried.code in
    let there : place ≡ c.place = place_is ∙ ap (λ (p : PreSection). p.place) same in
    is ∙ (λ i. record { section = there i; home = tried.home i; matches = false; claims = []; demands = []; met = [] })
    ∙ sym (says_nothing object numbers c.place c.home (outcome c) t.outcome (met_among numbers c) tried.outcome none)

-- where a candidate that was tried and matches lies
pub lies_tried : ((c : Candidate) (m : Matched) → outcome c ≡ Ok m → (v : Valuation) × Match c v)
    → ((contents : Contents) → AreMet contents) → (codes : List PreSection) (c : Candidate) (code : PreSection)
    (t : Tried) (came : Result Matched MatchFault) (contents : Contents) (m : Matched) → t.section < length codes
    → code ≡ get_or codes t.section code → IsTried codes c t → outcome c ≡ came
    → c.contents ≡ contents → came ≡ Ok m → LiesIn (body_at code contents t.base) t.base (t.base + m.length)
lies_tried some met codes c code t came contents m section code_is tried comes there is =
    let same : code ≡ placed c.object c.place c.section =
    code_here codes t.section code (placed c.object c.place c.section) section code_is tried.code in
    let body : body_at code contents t.base ≡ body_of c = λ i. body_at (same i) (sym there i) (tried.base i) in
    let lies = match_lies some c m (met c.contents) (comes ∙ is) in
    subst (λ (b : ℕ). LiesIn (body_at code contents t.base) b (b + m.length)) (sym tried.base)
    (subst (λ (y : Body). LiesIn y c.base (c.base + m.length)) (sym body) lies)

pub choice_of_tried : (object : List NormalSection)
    (numbers : Numbers) (table : List (List ℕ)) (codes : List PreSection) (c : Candidate)
    (code : PreSection) (place : ℕ) (t : Tried) (came : Result Matched MatchFault) (contents : Contents) (own : List ℕ)
    → t.section < length codes → code ≡ get_or codes t.section code → length table ≡ length object
    → AreListed numbers.points (length numbers.points) table
    → own ≡ unwrap_or (slice_get table place) [] → place ≡ code.place
    → IsTried codes c t → outcome c ≡ came → c.contents ≡ contents → slice_get object c.place ≡ Some c.section
    → choice_from object numbers code.place t.home came (standing numbers.points (body_at code contents t.base) own)
    ≡ choice_of object numbers c
choice_of_tried object numbers
    table codes c code place t came contents own section code_is count lists own_is place_is tried comes there at =
    let same : code ≡ placed c.object c.place c.section =
    code_here codes t.section code (placed c.object c.place c.section) section code_is tried.code in
    let place_same : code.place ≡ c.place = ap (λ (p : PreSection). p.place) same in
    let within : code.place < length table =
    let low = slice_get_within object c.place c.section at in omega (arith, low, place_same, count) in
    choice_is object numbers c code t came contents own (own_here numbers.points
    table place code.place own own_is place_is lists within) same tried.home tried.base comes there

-- one more
map_more : {X Y : Type 0} (f : X → Y) (xs : List X) (i : ℕ) (x : X)
    → slice_get xs i ≡ Some x → map f (take (i + 1) xs) ≡ map f (take i xs) ++ f x ∷ []
map_more f xs i x at =
    let here = get_or_from_slice_get xs i x x at in
    ap (map f) (take_more xs i x (slice_get_within xs i x at) ∙ ap (λ y. take i xs ++ y ∷ []) here)
    ∙ map-append f (take i xs) (x ∷ [])

pub push_choice : (f : Candidate → Choice)
    (cs : List Candidate) (i : ℕ) (c : Candidate) (old new : List Choice) (choice : Choice) → slice_get cs i ≡ Some c
    → old ≡ map f (take i cs) → choice ≡ f c → new ≡ old ++ choice ∷ [] → new ≡ map f (take (i + 1) cs)
push_choice f cs i c old new choice at before same pushed =
    pushed ∙ (λ j. before j ++ same j ∷ []) ∙ sym (map_more f cs i c at)

-- what a call answered, by a choice that is the same
pub told_as : {E : Type 0} (r : Result Choice E) (x y : Choice)
    → x ≡ y → IfOk r (λ choice. choice ≡ x) → IfOk r (λ choice. choice ≡ y)
told_as r x y same =
    IfOk-weaker r (λ choice. choice ≡ x) (λ choice. choice ≡ y) (λ choice is. is ∙ same)
