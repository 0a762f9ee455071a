-- What an answer tells of each code section.
use Rattle.std.proofs.Common.{◌≡◌, inl, inr, ℕ, ◌+◌, ◌<◌, ◌≤◌, Bool, true, false, not, ◌||◌, cond, List, [], ◌∷◌, ◌++◌}
use Rattle.std.proofs.Common.{length, map, Option, Some, None, refl, sym, ◌∙◌, ap, subst}
use Rattle.std.specs.Prelude.{Result, Ok, Err}
use Rattle.std.specs.List.{All, IsDistinct, filter, flat_map, fold, list_any}
use Rattle.std.specs.Option.{option_map}
use Rattle.std.proofs.lemmas.Option.{same_Some}
use Rattle.ks_base.specs.declared.refusals.Refusal.{Refusal}
use Rattle.ks_base.specs.declared.refusals.Refusal.TheVariants.{PreUndecoded}
use Rattle.i386_reloc.specs.declared.types.NormalSection.{NormalSection}
use Rattle.i386_reloc.specs.Normal.{same_bytes, name_of, function_name}
use Rattle.i386_reloc.specs.Places.{place_named}
use Rattle.image_memory.specs.Contents.{IsValid}
use Rattle.symbol_table.specs.declared.values.Unknown.{Unknown}
use Rattle.symbol_table.specs.declared.values.Unknown.TheVariants.{Code}
use Rattle.symbol_table.specs.declared.values.Solved.TheVariants.{Address}
use Rattle.symbol_table.specs.Symbols.{function_addresses}
use Rattle.symbol_table.specs.Unknowns.{same_unknown}
use Rattle.run_pre_match.specs.declared.types.Claim.{Claim}
use Rattle.run_pre_match.specs.declared.types.Matched.{Matched}
use Rattle.run_pre_match.specs.declared.types.MatchFault.{MatchFault}
use Rattle.match_instructions.specs.Instructions.{kept_of}
use Rattle.match_instructions.specs.Landing.{undecoded_offset}
use Rattle.match_instructions.specs.PreCode.{pre_code}
use Rattle.run_pre_match.specs.Candidate.{Candidate}
use Rattle.run_pre_match.specs.Matched.{PreSection, outcome}
use Rattle.match_candidates.specs.Candidates.{Running, code_sections, is_gone, homes_of, candidate_at}
use Rattle.match_candidates.specs.Candidates.{candidates_of, candidates, is_match}
use Rattle.match_candidates.specs.OwnFaults.{undecoded_in}
use Rattle.symbol_solve.specs.Solve.{Value, left_of, obstacle, body_value, is_code_unknown, address_value, values_with}
use Rattle.symbol_solve.specs.Solve.{values_of, has_value, with_value, values, values_unless, solved}
use Rattle.symbol_solve.specs.Solution.{IsChoice}
use Rattle.symbol_solve.specs.Answered.{is_about, IsAnswered}
use Rattle.symbol_solve.proofs.NumberLaws.{one_unknown}
use Rattle.symbol_solve.proofs.MapLaws.{same_self}
use Rattle.symbol_solve.proofs.CandidateLaws.{IsHere, candidates_here}
use Rattle.symbol_solve.proofs.LeftLaws.{place_of_distinct}
use Rattle.symbol_solve.proofs.Members.{Has, has_of, contained, all_has, all_of, has_filter, filter_has, has_flat}
use Rattle.symbol_solve.proofs.Members.{flat_has, beside_left, no_first}
use Rattle.symbol_solve.proofs.SolutionLaws.{map_has}
use Rattle.symbol_solve.proofs.OnlyLaws.{parts_clear, solution_left, left_cands}
use Rattle.symbol_solve.proofs.SolvedLaws.{one_of, rising}

-- what is said of matching: a section that can be matched has a kept instruction, and its body lies in code
abbrev pub AreKept : Type 0
AreKept = (object : List NormalSection) (section : NormalSection) → undecoded_offset object section ≡ None →
    0 < length (kept_of (pre_code section))

abbrev pub AreSome : Type 0
AreSome = (c : Candidate) (m : Matched) → IsValid c.contents → 0 < length (kept_of (pre_code c.section)) →
    outcome c ≡ Ok m → 0 < m.length

abbrev pub AreLow : Type 0
AreLow = (c : Candidate) (m : Matched) → IsValid c.contents → 0 < length (kept_of (pre_code c.section)) →
    outcome c ≡ Ok m → c.base + m.length ≤ 0xFFFF_0000

-- ---- the values of one unknown among some that are put together
-- one of some, the first where there is none yet
abbrev pub first_or : List Value → List Value → List Value
first_or [] [] = []
first_or [] (v ∷ vs) = v ∷ []
first_or (a ∷ had) vs = a ∷ had

first_or_none : (had : List Value) → first_or had [] ≡ had
first_or_none [] = refl
first_or_none (a ∷ had) = refl

first_or_both : (had : List Value) (v : Value) (vs : List Value) →
    first_or (first_or had (v ∷ [])) vs ≡ first_or had (v ∷ vs)
first_or_both [] v vs = refl
first_or_both (a ∷ had) v vs = refl

none_pass : {X : Type 0} (p : X → Bool) (xs : List X) → list_any p xs ≡ false → filter p xs ≡ []
none_pass p [] none = refl
none_pass {X} p (x ∷ xs) none = by (p x) (none_pass p xs) none
  where
    by : (b : Bool) → (list_any p xs ≡ false → filter p xs ≡ []) → (b || list_any p xs) ≡ false →
        cond b (x ∷ filter p xs) (filter p xs) ≡ []
    by true later is = absurd cc
    by false later is = later is

some_pass : (p : Value → Bool) (xs more : List Value) → list_any p xs ≡ true → first_or (filter p xs) more ≡ filter p xs
some_pass p [] more some = absurd cc
some_pass p (x ∷ xs) more some = by (p x) (some_pass p xs more) some
  where
    by : (b : Bool) → (list_any p xs ≡ true → first_or (filter p xs) more ≡ filter p xs) → (b || list_any p xs) ≡ true →
        first_or (cond b (x ∷ filter p xs) (filter p xs)) more ≡ cond b (x ∷ filter p xs) (filter p xs)
    by true later is = refl
    by false later is = later is

filter_joined : (p : Value → Bool) (xs ys : List Value) → filter p (xs ++ ys) ≡ filter p xs ++ filter p ys
filter_joined p [] ys = refl
filter_joined p (x ∷ xs) ys = by (p x) (filter_joined p xs ys)
  where
    by : (b : Bool) → filter p (xs ++ ys) ≡ filter p xs ++ filter p ys →
        cond b (x ∷ filter p (xs ++ ys)) (filter p (xs ++ ys)) ≡ cond b (x ∷ filter p xs) (filter p xs) ++ filter p ys
    by true rest = ap (λ (l : List Value). x ∷ l) rest
    by false rest = rest

append_none : (xs : List Value) → xs ++ [] ≡ xs
append_none [] = refl
append_none (x ∷ xs) = ap (λ (l : List Value). x ∷ l) (append_none xs)

module _ (unknown : Unknown) where
  put_about : (acc : List Value) (x : Value) (has same : Bool) → has_value acc x.0 ≡ has → is_about unknown x ≡ same →
      filter (is_about unknown) (cond has acc (acc ++ x ∷ []))
      ≡ first_or (filter (is_about unknown) acc) (cond same (x ∷ []) [])
  put_about acc x true false has same = sym (first_or_none (filter (is_about unknown) acc))
  put_about acc x true true has same =
      let one : unknown ≡ x.0 = one_unknown unknown x.0 same in
      sym (some_pass (is_about unknown) acc (x ∷ [])
      (subst (λ (u : Unknown). has_value acc u ≡ true) (sym one) has))
  put_about acc x false false has same =
      filter_joined (is_about unknown) acc (x ∷ [])
      ∙ ap (λ b. filter (is_about unknown) acc ++ cond b (x ∷ []) []) same
      ∙ append_none (filter (is_about unknown) acc)
      ∙ sym (first_or_none (filter (is_about unknown) acc))
  put_about acc x false true has same =
      let one : unknown ≡ x.0 = one_unknown unknown x.0 same in
      let none : filter (is_about unknown) acc ≡ [] = none_pass (is_about unknown) acc
      (subst (λ (u : Unknown). has_value acc u ≡ false) (sym one) has) in
      filter_joined (is_about unknown) acc (x ∷ [])
      ∙ ap (λ b. filter (is_about unknown) acc ++ cond b (x ∷ []) []) same
      ∙ ap (λ (l : List Value). l ++ x ∷ []) none
      ∙ ap (λ (l : List Value). first_or l (x ∷ [])) (sym none)

  step_about : (same : Bool) (had : List Value) (x : Value) (vs : List Value) →
      first_or (first_or had (cond same (x ∷ []) [])) vs ≡ first_or had (cond same (x ∷ vs) vs)
  step_about true had x vs = first_or_both had x vs
  step_about false had x vs = ap (λ (l : List Value). first_or l vs) (first_or_none had)

  pub put_together : (vs acc : List Value) →
      filter (is_about unknown) (fold with_value acc vs)
      ≡ first_or (filter (is_about unknown) acc) (filter (is_about unknown) vs)
  put_together [] acc = sym (first_or_none (filter (is_about unknown) acc))
  put_together (x ∷ vs) acc =
      put_together vs (with_value acc x)
      ∙ ap (λ (l : List Value). first_or l (filter (is_about unknown) vs))
      (put_about acc x (has_value acc x.0) (is_about unknown x) refl refl)
      ∙ step_about (is_about unknown x) (filter (is_about unknown) acc) x (filter (is_about unknown) vs)

one_alone : (xs : List Value) (v : Value) → Has xs v → ((w : Value) → Has xs w → w ≡ v) → first_or [] xs ≡ v ∷ []
one_alone [] v has one = absurd has
one_alone (x ∷ xs) v has one = ap (λ (w : Value). w ∷ []) (one x (inl refl))

-- ---- the values of a candidate
pub matched_as : (o : Result Matched MatchFault) → is_match o ≡ true → (m : Matched) × (o ≡ Ok m)
matched_as (Ok m) is = (m, refl)
matched_as (Err fault) is = absurd cc

no_code : (claim : Claim) (name : List ℕ) (b : Bool) (w : Value) → is_code_unknown claim.unknown ≡ b →
    same_unknown (Code name) w.0 ≡ true → Has (cond b [] ((claim.unknown, Address claim.value) ∷ [])) w → ⊥
no_code claim name true w is same has = has
no_code claim name false w is same (inr none) = none
no_code claim name false w is same (inl here) =
    let one : Code name ≡ w.0 = one_unknown (Code name) w.0 same in
    let code : true ≡ false = ap is_code_unknown (one ∙ sym (ap (λ (v : Value). v.0) here)) ∙ is in
    absurd cc

-- a value of a section's own name that a candidate gives is that of its body, and the candidate is of the section
own_value : (d : Candidate) (o : Result Matched MatchFault) (name : List ℕ) (w : Value) → outcome d ≡ o →
    Has (values_with d o) w → same_unknown (Code name) w.0 ≡ true →
    (m : Matched) × (outcome d ≡ Ok m) × (w ≡ body_value d m) × (name ≡ d.section.name)
own_value d (Err fault) name w is has same = absurd has
own_value d (Ok m) name w is (inl here) same =
    let one : Code name ≡ Code d.section.name = one_unknown (Code name) w.0 same ∙ ap (λ (v : Value). v.0) (sym here) in
    (m, is, sym here, cc)
own_value d (Ok m) name w is (inr there) same =
    let (claim, has_claim, inner) = flat_has address_value m.claims w there in
    absurd (no_code claim name (is_code_unknown claim.unknown) w refl same inner)

pub not_clear : (o : Option Refusal) (cs : List Candidate) (vs : List Value) → values_unless o cs ≡ Ok vs →
    (o ≡ None) × (values cs ≡ vs)
not_clear None cs vs is = (refl, cc)
not_clear (Some refusal) cs vs is = absurd cc

not_undecoded : (name : List ℕ) (o : Option ℕ) → option_map (PreUndecoded name) o ≡ None → o ≡ None
not_undecoded name None is = refl
not_undecoded name (Some offset) is = absurd cc

same_result : (o : Result Matched MatchFault) (m n : Matched) → o ≡ Ok m → o ≡ Ok n → m ≡ n
same_result o m n one two = cc

not_gone : (b : Bool) → not b ≡ true → b ≡ false
not_gone true is = absurd cc
not_gone false is = refl

module _ (kept : AreKept) (some : AreSome) (low : AreLow) (running : Running) (object : List NormalSection)
    (valid : IsValid running.contents) (distinct : IsDistinct same_bytes (map name_of object))
    (clear : obstacle running object ≡ None) where
  named_at : (c : Candidate) → Has (left_of running object) c → place_named object c.section.name ≡ Some c.place
  named_at c has =
      let here = all_has (IsHere running object) (candidates running object) c (candidates_here running object)
      (left_cands running object c has) in
      place_of_distinct object c.place c.section distinct here.at

  -- candidates that are left are one where their sections have one name
  one_left : (c d : Candidate) → Has (left_of running object) c → Has (left_of running object) d →
      c.section.name ≡ d.section.name → c ≡ d
  one_left c d has_c has_d name =
      let place : c.place ≡ d.place = same_Some c.place d.place
      (sym (named_at c has_c) ∙ ap (place_named object) name ∙ named_at d has_d) in
      one_of (left_of running object) c d (rising running object (solution_left running object clear).choice) has_c
      has_d place

  told_of : (c : Candidate) (m : Matched) → Has (left_of running object) c → outcome c ≡ Ok m →
      filter (is_about (Code c.section.name)) (values (left_of running object)) ≡ body_value c m ∷ []
  unfolding values
  told_of c m has is =
      let all : List Value = flat_map values_of (left_of running object) in
      let own : Has (values_of c) (body_value c m) =
      subst (λ o. Has (values_with c o) (body_value c m)) (sym is) (inl refl) in
      let there : Has (filter (is_about (Code c.section.name)) all) (body_value c m) =
      has_filter (is_about (Code c.section.name)) all (body_value c m)
      (has_flat values_of (left_of running object) c (body_value c m) has own) (same_self (Code c.section.name)) in
      put_together (Code c.section.name) all []
      ∙ one_alone (filter (is_about (Code c.section.name)) all) (body_value c m) there (λ w has_w.
      let (in_all, same) = filter_has (is_about (Code c.section.name)) all w has_w in
      let (d, has_d, inner) = flat_has values_of (left_of running object) w in_all in
      let (n, is_d, w_is, name) = own_value d (outcome d) c.section.name w refl inner same in
      let one : d ≡ c = sym (one_left c d has has_d name) in
      let as_c : outcome c ≡ Ok n = ap outcome (sym one) ∙ is_d in
      w_is ∙ (λ i. body_value (one i) (same_result (outcome c) n m as_c is i)))

  decoded : (pre : PreSection) → Has (code_sections object) pre → undecoded_offset pre.object pre.section ≡ None
  decoded pre has =
      not_undecoded pre.section.name (undecoded_offset pre.object pre.section)
      (no_first undecoded_in (code_sections object) pre (parts_clear running object clear).0 has)

  answered_at : (pre : PreSection) (home : ℕ) (m : Matched) → Has (code_sections object) pre →
      Has (homes_of running pre) home → Has (left_of running object) (candidate_at running pre home) →
      outcome (candidate_at running pre home) ≡ Ok m → IsAnswered running (values (left_of running object)) pre
  answered_at pre home m has_pre has_home has_c is =
      let c : Candidate = candidate_at running pre home in
      let (listed, there) = filter_has (λ home. not (is_gone running home))
      (function_addresses running.symbols (function_name pre.section)) home has_home in
      let code = kept pre.object pre.section (decoded pre has_pre) in
      record {
        home = home;
        base = c.base;
        size = m.length;
        told = told_of c m has_c is;
        is_home = contained (function_addresses running.symbols (function_name pre.section)) home listed;
        is_base = refl;
        stays = not_gone (is_gone running home) there;
        some = some c m valid code is;
        low = low c m valid code is;
      }

  pub all_answered : All (IsAnswered running (values (left_of running object))) (code_sections object)
  all_answered =
      all_of (IsAnswered running (values (left_of running object))) (code_sections object) (λ pre has_pre.
      let (c, has_c, choice) = beside_left (IsChoice running) (code_sections object) (left_of running object) pre
      (solution_left running object clear).choice has_pre in
      let (home, has_home, at) = map_has (candidate_at running pre) (homes_of running pre) c
      (has_of (candidates_of running pre) c choice.among) in
      let (m, is) = matched_as (outcome c) choice.matching in
      answered_at pre home m has_pre has_home (subst (Has (left_of running object)) (sym at) has_c)
      (ap outcome at ∙ is))

pub answer_tells : AreKept → AreSome → AreLow → (running : Running) (object : List NormalSection) (vs : List Value) →
    IsValid running.contents → IsDistinct same_bytes (map name_of object) →
    solved object running.bodies running.contents running.symbols ≡ Ok vs →
    All (IsAnswered running vs) (code_sections object)
unfolding solved
answer_tells kept some low running object vs valid distinct is =
    let (clear, same) = not_clear (obstacle running object) (left_of running object) vs is in
    subst (λ (l : List Value). All (IsAnswered running l) (code_sections object)) same
    (all_answered kept some low running object valid distinct clear)
