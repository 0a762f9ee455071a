-- The functions of the old object as they run are in use: each value of a section of code is that of a match.
use Rattle.std.proofs.Common.{◌≡◌, ◌⊎◌, inl, inr, ℕ, ◌+◌, Bool, true, false, cond, List, [], ◌∷◌, ◌++◌}
use Rattle.std.proofs.Common.{Option, Some, None, refl, sym, ap, subst}
use Rattle.std.specs.Prelude.{Result, Ok, Err}
use Rattle.std.specs.List.{All, AllZip, filter, flat_map, fold}
use Rattle.ks_base.specs.declared.refusals.Refusal.{Refusal}
use Rattle.i386_reloc.specs.declared.types.NormalSection.{NormalSection}
use Rattle.image_memory.specs.Ranges.{MeetsNone, from_to}
use Rattle.image_memory.specs.Contents.{Contents, IsValid, fence_range}
use Rattle.symbol_table.specs.declared.values.Unknown.{Unknown}
use Rattle.symbol_table.specs.declared.values.Unknown.TheVariants.{Code}
use Rattle.symbol_table.specs.declared.values.Solved.{Solved}
use Rattle.symbol_table.specs.declared.values.Solved.TheVariants.{Body, Address}
use Rattle.symbol_table.specs.Unknowns.{same_unknown}
use Rattle.symbol_solve.specs.Claim.{Claim}
use Rattle.symbol_solve.specs.MatchedType.{Matched}
use Rattle.symbol_solve.specs.MatchFault.{MatchFault}
use Rattle.symbol_solve.specs.Candidate.{Candidate}
use Rattle.symbol_solve.specs.Matched.{outcome}
use Rattle.symbol_solve.specs.Candidates.{Running, candidate_at, candidates_of, code_sections, homes_of}
use Rattle.symbol_solve.specs.Solve.{Value, address_value, has_value, is_code_unknown, left_of, obstacle}
use Rattle.symbol_solve.specs.Solve.{solved, values, values_of, values_unless, values_with, with_value}
use Rattle.symbol_solve.specs.Solution.{IsChoice, IsSolution}
use Rattle.extract_post.specs.declared.types.Extract.{Extract}
use Rattle.link_post.specs.Values.{ValueList, solved_as}
use Rattle.update_retired.specs.declared.types.OldFunction.{OldFunction}
use Rattle.update_retired.specs.Retired.{AreInUse}
use Rattle.update_plan.specs.Olds.{is_function, old_as, old_in, olds_of}
use Rattle.update_plan.proofs.SoundLists.{Has, all_of, flat_has, has_either, has_of, map_has}
use Rattle.update_plan.proofs.InUse.{AreWithin, matched_in_use}

-- what is said of answers: where nothing stands in the way, the candidates that are left are a solution
abbrev pub IsSolved : Type 0
IsSolved = (running : Running) (object : List NormalSection) → obstacle running object ≡ None →
    IsSolution running object (left_of running object)

-- ---- members
beside : {X Y : Type 0} (R : X → Y → Type 0) (xs : List X) (ys : List Y) (y : Y) → AllZip R xs ys → Has ys y
    → (x : X) × R x y
beside R [] [] y each has = absurd has
beside R [] (b ∷ ys) y each has = absurd each
beside R (a ∷ xs) [] y each has = absurd has
beside R (a ∷ xs) (b ∷ ys) y each (inl is) = (a, subst (R a) is each.0)
beside R (a ∷ xs) (b ∷ ys) y each (inr rest) = beside R xs ys y each.1 rest

-- ---- a function that runs has the value of its section
old_told : (extract : Extract) (section : NormalSection) (o : Option Solved) (old : OldFunction)
    → Has (old_as extract section o) old → o ≡ Some (Body old.home old.base old.length)
old_told extract section (Some (Body home base length)) old (inl here) =
    subst (λ (x : OldFunction). Some (Body home base length) ≡ Some (Body x.home x.base x.length)) here refl
old_told extract section (Some (Body home base length)) old (inr none) = absurd none
old_told extract section (Some (Address address)) old has = absurd has
old_told extract section None old has = absurd has

told_has : (which : Unknown) (solved : Solved) (values : ValueList) → solved_as values which ≡ Some solved
    → (about : Unknown) × Has values (about, solved)
told_has which solved [] is = absurd cc
told_has which solved (pair ∷ values) is =
    by (same_unknown which pair.0) (told_has which solved values) is
  where
    by : (b : Bool) → (solved_as values which ≡ Some solved → (about : Unknown) × Has values (about, solved))
        → cond b (Some pair.1) (solved_as values which) ≡ Some solved
        → (about : Unknown) × Has (pair ∷ values) (about, solved)
    by true later is = let same : pair.1 ≡ solved = cc in (pair.0, inl (ap (λ (s : Solved). (pair.0, s)) same))
    by false later is = let (about, has) = later is in (about, inr has)

-- ---- a value is one of a candidate that is left
put_has : (has : Bool) (acc : List Value) (x w : Value) → Has (cond has acc (acc ++ x ∷ [])) w → Has acc w ⊎ (x ≡ w)
put_has true acc x w there = inl there
put_has false acc x w there =
    elim (has_either acc (x ∷ []) w there) [
      | inl before ↦ inl before
      | inr last ↦ elim last [ inl is ↦ inr is | inr none ↦ absurd none ]
    ]

fold_has : (vs acc : List Value) (w : Value) → Has (fold with_value acc vs) w → Has acc w ⊎ Has vs w
fold_has [] acc w has = inl has
fold_has (x ∷ vs) acc w has =
    elim (fold_has vs (with_value acc x) w has) [
      | inl there ↦ elim (put_has (has_value acc x.0) acc x w there) [ inl before ↦ inl before | inr is ↦ inr (inl is) ]
      | inr later ↦ inr (inr later)
    ]

values_has : (chosen : List Candidate) (w : Value) → Has (values chosen) w
    → (c : Candidate) × Has chosen c × Has (values_of c) w
unfolding values
values_has chosen w has =
    elim (fold_has (flat_map values_of chosen) [] w has) [
      | inl none ↦ absurd none
      | inr there ↦ flat_has values_of chosen w there
    ]

-- the value of a body is that of the candidate's own section
no_body : (claim : Claim) (about : Unknown) (home base length : ℕ) (b : Bool)
    → Has {X = Value} (cond b [] ((claim.unknown, Address claim.value) ∷ [])) (about, Body home base length) → ⊥
no_body claim about home base length true has = has
no_body claim about home base length false (inr none) = none
no_body claim about home base length false (inl is) =
    let same : Address claim.value ≡ Body home base length = ap (λ (v : Value). v.1) is in absurd cc

record IsBodyOf (c : Candidate) (base length : ℕ) : Type 0 where
  matched : Matched
  matches : outcome c ≡ Ok matched
  base_is : c.base ≡ base
  length_is : matched.length ≡ length

abbrev base_in : Solved → ℕ
base_in (Body home base length) = base
base_in (Address address) = address

abbrev length_in : Solved → ℕ
length_in (Body home base length) = length
length_in (Address address) = address

body_of : (c : Candidate) (o : Result Matched MatchFault) (about : Unknown) (home base length : ℕ) → outcome c ≡ o
    → Has (values_with c o) (about, Body home base length) → IsBodyOf c base length
body_of c (Err fault) about home base length is has = absurd has
body_of c (Ok m) about home base length is (inl here) =
    let same : Body c.home c.base m.length ≡ Body home base length = ap (λ (v : Value). v.1) here in
    record {
      matched = m;
      matches = is;
      base_is = ap base_in same;
      length_is = ap length_in same;
    }
body_of c (Ok m) about home base length is (inr there) =
    let (claim, has_claim, inner) = flat_has address_value m.claims (about, Body home base length) there in
    absurd (no_body claim about home base length (is_code_unknown claim.unknown) inner)

unless_ok : (o : Option Refusal) (chosen : List Candidate) (vs : List Value) → values_unless o chosen ≡ Ok vs
    → (o ≡ None) × (values chosen ≡ vs)
unless_ok None chosen vs is = (refl, cc)
unless_ok (Some refusal) chosen vs is = absurd cc

-- ---- the candidates that are left stand beside the program's memory
left_here : (running : Running) (object : List NormalSection) (c : Candidate)
    → IsSolution running object (left_of running object) → Has (left_of running object) c
    → running.contents ≡ c.contents
left_here running object c solution has =
    let (pre, choice) = beside (IsChoice running) (code_sections object) (left_of running object) c solution.choice
    has in
    let (home, listed, is) = map_has (candidate_at running pre) (homes_of running pre) c
    (has_of (candidates_of running pre) c choice.among) in
    ap (λ (x : Candidate). x.contents) is

-- What holds of each match beside the program's memory holds of each function that runs.
module _ (law : IsSolved) (running : Running) (object : List NormalSection) (clear : obstacle running object ≡ None)
    (Q : ℕ → ℕ → Type 0)
    (each : (c : Candidate) (m : Matched) → running.contents ≡ c.contents → outcome c ≡ Ok m → Q c.base m.length) where
  value_has : (about : Unknown) (home base length : ℕ)
      → Has (values (left_of running object)) (about, Body home base length) → Q base length
  value_has about home base length has =
      let (c, has_c, inner) = values_has (left_of running object) (about, Body home base length) has in
      let it = body_of c (outcome c) about home base length refl inner in
      let here : running.contents ≡ c.contents = left_here running object c (law running object clear) has_c in
      subst (λ n. Q base n) it.length_is
      (subst (λ b. Q b it.matched.length) it.base_is (each c it.matched here it.matches))

  all_have : (extract : Extract)
      → All (λ (old : OldFunction). Q old.base old.length) (olds_of extract (values (left_of running object)) object)
  unfolding olds_of
  all_have extract =
      let found = values (left_of running object) in
      all_of (λ (old : OldFunction). Q old.base old.length)
      (flat_map (old_in extract found) (filter is_function object)) (λ old has.
      let (section, has_section, has_old) = flat_has (old_in extract found) (filter is_function object) old has in
      let told = old_told extract section (solved_as found (Code section.name)) old has_old in
      let (about, there) = told_has (Code section.name) (Body old.home old.base old.length) found told in
      value_has about old.home old.base old.length there)

pub olds_have : IsSolved → (running : Running) (object : List NormalSection) (found : ValueList) (extract : Extract)
    (Q : ℕ → ℕ → Type 0)
    → ((c : Candidate) (m : Matched) → running.contents ≡ c.contents → outcome c ≡ Ok m → Q c.base m.length)
    → solved object running.bodies running.contents running.symbols ≡ Ok found
    → All (λ (old : OldFunction). Q old.base old.length) (olds_of extract found object)
unfolding solved
olds_have law running object found extract Q each is =
    let (clear, same) = unless_ok (obstacle running object) (left_of running object) found is in
    subst (λ (vs : ValueList). All (λ (old : OldFunction). Q old.base old.length) (olds_of extract vs object)) same
    (all_have law running object clear Q each extract)

-- so they are in use
pub olds_in_use : AreWithin → IsSolved → (running : Running) (object : List NormalSection) (found : ValueList)
    (extract : Extract) → IsValid running.contents
    → solved object running.bodies running.contents running.symbols ≡ Ok found
    → AreInUse running.contents (olds_of extract found object)
olds_in_use within law running object found extract valid is =
    olds_have law running object found extract
    (λ base length. MeetsNone fence_range (from_to base (base + length)) running.contents.fences)
    (λ c m here at.
    subst (λ (contents : Contents). MeetsNone fence_range (from_to c.base (c.base + m.length)) contents.fences)
    (sym here) (matched_in_use within c m (subst IsValid here valid) at)) is
