-- Candidates in running programs that are alike.
use Rattle.std.proofs.Common.{◌≡◌, ℕ, suc, Bool, true, false, not, ◌||◌, cond, List, [], ◌∷◌, ◌++◌, map, Option, None}
use Rattle.std.proofs.Common.{refl, sym, ◌∙◌, ap, subst}
use mathlib.Core.Path.{fun_ext}
use Rattle.std.specs.Option.{option_or}
use Rattle.std.specs.List.{All, filter, flat_map, list_any}
use Rattle.std.proofs.lemmas.List.{map-append}
use Rattle.std.proofs.lemmas.List.Elements.{All-nil, All-cons, All-head, All-tail, All-map}
use Rattle.i386_reloc.specs.declared.types.NormalSection.{NormalSection}
use Rattle.i386_reloc.specs.Classes.{is_code_class}
use Rattle.image_memory.specs.Contents.{Contents}
use Rattle.image_memory.specs.Fetch.{view_at}
use Rattle.symbol_table.specs.Symbols.{function_addresses}
use Rattle.symbol_table.specs.Bodies.{newest}
use Rattle.run_pre_match.specs.Candidate.{Candidate}
use Rattle.run_pre_match.specs.Matched.{PreSection, candidate, outcome}
use Rattle.run_pre_match.specs.Alike.{AreAlike, HasFieldsInside, in_memory}
use Rattle.i386_reloc.specs.Normal.{function_name}
use Rattle.propagation.specs.Conflicts.{first_some}
use Rattle.match_candidates.specs.Candidates.{Running, code_from, code_sections, is_stray, is_gone}
use Rattle.match_candidates.specs.Candidates.{homes_of, candidate_at, candidates_of, candidates, is_match, matches}
use Rattle.match_candidates.specs.OwnFaults.{first_undecoded, missing_in, first_missing, difference_in, mismatch_in}
use Rattle.match_candidates.specs.OwnFaults.{first_mismatch, own_fault}
use Rattle.match_candidates.specs.Alike.{RunAlike}

-- what is said of matching: a candidate comes to the same in alike memories
abbrev pub MatchAlike : Type 0
MatchAlike = (c : Candidate) (contents : Contents) → AreAlike c.contents contents → All HasFieldsInside c.object →
    outcome c ≡ outcome (in_memory contents c)

map_twice : {X Y Z : Type 0} (f : X → Z) (g : Y → Z) (h : X → Y) → ((x : X) → f x ≡ g (h x)) → (xs : List X) →
    map f xs ≡ map g (map h xs)
map_twice f g h same [] = refl
map_twice f g h same (x ∷ xs) = λ i. same x i ∷ map_twice f g h same xs i

flat_through : {X Y Z : Type 0} (f : X → List Z) (g : Y → Z) (h : X → List Y) → ((x : X) → f x ≡ map g (h x)) →
    (xs : List X) → flat_map f xs ≡ map g (flat_map h xs)
flat_through f g h same [] = refl
flat_through f g h same (x ∷ xs) =
    (λ i. same x i ++ flat_through f g h same xs i) ∙ sym (map-append g (h x) (flat_map h xs))

-- the code sections of an object are of it
abbrev IsOf : List NormalSection → PreSection → Type 0
IsOf object pre = pre.object ≡ object

codes_of : (object : List NormalSection) (place : ℕ) (sections : List NormalSection) →
    All (IsOf object) (code_from object place sections)
unfolding code_from
codes_of object place [] = All-nil (IsOf object)
codes_of object place (section ∷ sections) =
    let rest : All (IsOf object) (code_from object (suc place) sections) = codes_of object (suc place) sections in
    let own : PreSection = record { object = object; place = place; section = section } in
    elim (is_code_class section.class) as (λ b. All (IsOf object)
    (cond b (own ∷ code_from object (suc place) sections) (code_from object (suc place) sections))) [
      | true ↦ All-cons (IsOf object) own (code_from object (suc place) sections) refl rest
      | false ↦ rest
    ]

first_same : {X Y : Type 0} (P : X → Type 0) (f g : X → Option Y) → ((x : X) → P x → f x ≡ g x) → (xs : List X) →
    All P xs → first_some f xs ≡ first_some g xs
unfolding first_some
first_same P f g same [] all = refl
first_same P f g same (x ∷ xs) all =
    λ i. option_or (same x (All-head P x xs all) i) (first_same P f g same xs (All-tail P x xs all) i)

-- whether a home's newest version is there
abbrev is_there : Running → ℕ → Bool
is_there running home = not (is_gone running home)

module _ (one other : Running) (alike : RunAlike one other) where
  gone_alike : (home : ℕ) → is_there one home ≡ is_there other home
  gone_alike home =
      ap (λ view. not (is_stray view)) (alike.memory.views (newest one.bodies home)
      ∙ ap (view_at other.contents) (alike.bases home))

  homes_alike : (pre : PreSection) → homes_of one pre ≡ homes_of other pre
  homes_alike pre =
      let there : is_there one ≡ is_there other = fun_ext gone_alike in
      λ i. filter (there i) (function_addresses (alike.symbols i) (function_name pre.section))

  candidate_alike : (pre : PreSection) (home : ℕ) →
      candidate_at other pre home ≡ in_memory other.contents (candidate_at one pre home)
  candidate_alike pre home =
      let symbols = sym alike.symbols in
      let base = sym (alike.bases home) in
      λ i. candidate pre other.contents (symbols i) home (base i)

  candidates_of_alike : (pre : PreSection) →
      candidates_of other pre ≡ map (in_memory other.contents) (candidates_of one pre)
  candidates_of_alike pre =
      ap (map (candidate_at other pre)) (sym (homes_alike pre))
      ∙ map_twice (candidate_at other pre) (in_memory other.contents) (candidate_at one pre) (candidate_alike pre)
      (homes_of one pre)

  pub candidates_alike : (object : List NormalSection) →
      candidates other object ≡ map (in_memory other.contents) (candidates one object)
  unfolding candidates
  candidates_alike object =
      flat_through (candidates_of other) (in_memory other.contents) (candidates_of one) candidates_of_alike
      (code_sections object)

  -- ---- what is wrong with a section by itself
  abbrev Same : Candidate → Type 0
  Same c = outcome c ≡ outcome (in_memory other.contents c)

  missing_alike : (pre : PreSection) (cs : List Candidate) →
      missing_in pre cs ≡ missing_in pre (map (in_memory other.contents) cs)
  missing_alike pre [] = refl
  missing_alike pre (c ∷ cs) = refl

  any_alike : (cs : List Candidate) → All Same cs →
      list_any matches cs ≡ list_any matches (map (in_memory other.contents) cs)
  any_alike [] all = refl
  any_alike (c ∷ cs) all =
      let here = All-head Same c cs all in
      λ i. is_match (here i) || any_alike cs (All-tail Same c cs all) i

  mismatch_alike : (pre : PreSection) (cs : List Candidate) → All Same cs →
      mismatch_in pre cs ≡ mismatch_in pre (map (in_memory other.contents) cs)
  mismatch_alike pre [] all = refl
  mismatch_alike pre (c ∷ cs) all =
      let here = All-head Same c cs all in
      λ i. cond (any_alike (c ∷ cs) all i) None (difference_in pre (here i))

  module _ (match : MatchAlike) (object : List NormalSection) (inside : All HasFieldsInside object) where
    all_same : (pre : PreSection) → pre.object ≡ object → All Same (candidates_of one pre)
    all_same pre is =
        All-map Same (candidate_at one pre) (homes_of one pre)
        (λ k d lt. match (candidate_at one pre _) other.contents alike.memory
        (subst (λ (l : List NormalSection). All HasFieldsInside l) (sym is) inside))

    pub own_fault_alike : own_fault one object ≡ own_fault other object
    unfolding own_fault
    own_fault_alike =
        let missing : first_missing one object ≡ first_missing other object =
        first_same (IsOf object) (λ pre. missing_in pre (candidates_of one pre))
        (λ pre. missing_in pre (candidates_of other pre))
        (λ pre is. missing_alike pre (candidates_of one pre) ∙ ap (missing_in pre) (sym (candidates_of_alike pre)))
        (code_sections object) (codes_of object 0 object) in
        let mismatch : first_mismatch one object ≡ first_mismatch other object =
        first_same (IsOf object) (λ pre. mismatch_in pre (candidates_of one pre))
        (λ pre. mismatch_in pre (candidates_of other pre))
        (λ pre is. mismatch_alike pre (candidates_of one pre) (all_same pre is)
        ∙ ap (mismatch_in pre) (sym (candidates_of_alike pre)))
        (code_sections object) (codes_of object 0 object) in
        λ i. option_or (first_undecoded object) (option_or (missing i) (mismatch i))
