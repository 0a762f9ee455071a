-- A candidate comes to the same in alike memories.
use Rattle.std.proofs.Common.{◌≡◌, ℕ, suc, ◌+◌, ◌-◌, ◌≤◌, not, ◌&&◌, ◌||◌, List, [], ◌∷◌, ◌++◌, length, Option, Some}
use Rattle.std.proofs.Common.{None, option_map, All, Ok, refl, ◌∙◌, ap, subst, arith, true}
use mathlib.Core.Path.{fun_ext}
use Rattle.std.specs.Option.{option_or}
use Rattle.std.specs.List.{filter_map, find, flat_map, list_any, slice_get}
use Rattle.ks_base.specs.declared.refusals.DifferenceKind.{DifferenceKind}
use Rattle.ks_base.specs.declared.refusals.DifferenceKind.TheVariants.{Opcode, Operand, Target, Value, Content}
use Rattle.ks_base.specs.declared.refusals.Difference.{Difference}
use Rattle.i386_reloc.specs.declared.types.Ref.{Ref}
use Rattle.i386_reloc.specs.declared.types.NormalSection.{NormalSection}
use Rattle.image_memory.specs.Contents.{Contents}
use Rattle.image_memory.specs.Fetch.{View}
use Rattle.ia32_decode.specs.declared.types.Branch.{Branch}
use Rattle.run_pre_match.specs.declared.goals.Goal.{Goal}
use Rattle.run_pre_match.specs.declared.goals.Goal.TheVariants.{Entry, Inside, Variable, Constant, Outside, Text}
use Rattle.run_pre_match.specs.declared.types.Matched.{Matched}
use Rattle.match_instructions.specs.Instructions.{Instruction, end_of, kept_of, direct_branch, target_of}
use Rattle.match_instructions.specs.Landing.{has_no_reference}
use Rattle.match_instructions.specs.RunCode.{break_kind}
use Rattle.run_pre_match.specs.Candidate.{Candidate, Pair, pre_list, pairs}
use Rattle.run_pre_match.specs.Found.{Found, first_value, section_lies, section_stands, found_in, found_from, own_home}
use Rattle.run_pre_match.specs.Found.{all_found}
use Rattle.run_pre_match.specs.Differences.{differs_in_opcode, differs_in_operand, differs_in_landing}
use Rattle.run_pre_match.specs.Differences.{differs_in_own_target, is_refused_here, is_unmet, is_there, kind_in}
use Rattle.run_pre_match.specs.Differences.{kind_of, difference_at, break_of, difference_from}
use Rattle.run_pre_match.specs.Matched.{Statement, spot_at, stated_in_constant, stated_by_pair, stated_at, stated_from}
use Rattle.run_pre_match.specs.Matched.{statements, unknown_of, claim_about, claim_of, home_claim, interior_at}
use Rattle.run_pre_match.specs.Matched.{interior_of, matched_by, matched_unless, outcome}
use Rattle.run_pre_match.specs.Alike.{AreAlike, HasFieldsInside, in_memory}
use Rattle.run_pre_match.proofs.Claims.{all_found_stand, first_stands, stands_lies}
use Rattle.run_pre_match.proofs.AlikeRuns.{same_views, same_list, same_pairs, same_number_of}
use Rattle.run_pre_match.proofs.AlikeFound.{map_same, inside_at, same_fields, same_found_in, same_found_from}

-- the break, by the run list and what is met
abbrev break_with : ℕ → ℕ → DifferenceKind → Instruction → Difference
break_with index address kind i = record { index = index; pre_offset = i.place; run_address = address; kind = kind }

abbrev break_by : Candidate → List Instruction → (ℕ → View) → Option Difference
break_by c run views =
    option_map (break_with (length (kept_of run)) (end_of c.base run) (break_kind (views (end_of c.base run))))
    (slice_get (kept_of (pre_list c)) (length (kept_of run)))

module _ (c : Candidate) (b : Contents) (alike : AreAlike c.contents b) where
  same_landing : (p r : Option Branch) (pair : Pair) →
      differs_in_landing p r c pair ≡ differs_in_landing p r (in_memory b c) pair
  same_landing (Some p) (Some r) pair =
      ap (λ n. has_no_reference pair.pre && not n) (same_number_of c b alike (target_of pair.pre) (target_of pair.run))
  same_landing None r pair = refl
  same_landing (Some p) None pair = refl

  same_own_target : (p r : Option Branch) (here : List Found) →
      differs_in_own_target p r c here ≡ differs_in_own_target p r (in_memory b c) here
  same_own_target (Some p) (Some r) here = refl
  same_own_target None r here = refl
  same_own_target (Some p) None here = refl

  same_kind : (here : List Found) (pair : Pair) → kind_of c here pair ≡ kind_of (in_memory b c) here pair
  unfolding kind_of
  same_kind here pair =
      let p : Option Branch = direct_branch pair.pre in
      let r : Option Branch = direct_branch pair.run in
      λ i. option_map kind_in (find is_there (
      (differs_in_opcode p r pair, Opcode)
      ∷ (differs_in_operand p r pair, Operand)
      ∷ (same_landing p r pair i || same_own_target p r here i, Target)
      ∷ (list_any is_refused_here here, Value)
      ∷ (list_any is_unmet here, Content)
      ∷ []))

  same_break : break_of c ≡ break_of (in_memory b c)
  same_break = λ i. break_by c (same_list c b alike i) (same_views c.contents b alike i)

  same_unknown : (goal : Goal) → unknown_of c goal ≡ unknown_of (in_memory b c) goal
  same_unknown (Entry place) = refl
  same_unknown (Variable place) = refl
  same_unknown (Outside name) = refl
  same_unknown (Inside place offset) = refl
  same_unknown (Constant place) = refl
  same_unknown (Text place offset text) = refl

  same_claim : (s : Statement) → claim_of c s ≡ claim_of (in_memory b c) s
  same_claim s = ap (option_map (claim_about s)) (same_unknown s.given.goal)

  same_interior_at : (s : Statement) (goal : Goal) → interior_at c s goal ≡ interior_at (in_memory b c) s goal
  same_interior_at s (Inside place offset) = refl
  same_interior_at s (Entry place) = refl
  same_interior_at s (Variable place) = refl
  same_interior_at s (Constant place) = refl
  same_interior_at s (Outside name) = refl
  same_interior_at s (Text place offset text) = refl

  same_interior : (s : Statement) → interior_of c s ≡ interior_of (in_memory b c) s
  same_interior s = same_interior_at s s.given.goal

  same_made : (said other : List Statement) → said ≡ other → matched_by c said ≡ matched_by (in_memory b c) other
  same_made said other same = λ i. record {
    length = end_of c.base (same_list c b alike i) - c.base;
    claims = home_claim c ∷ filter_map (fun_ext same_claim i) (same i);
    interiors = filter_map (fun_ext same_interior i) (same i);
  }

  module _ (inside : All HasFieldsInside c.object) where
    same_difference : (before : List Found) (ps : List Pair) →
        difference_from c before ps ≡ difference_from (in_memory b c) before ps
    unfolding difference_from
    same_difference before [] = same_break
    same_difference before (pair ∷ ps) =
        ap (λ (new : List Found). option_or (option_map (difference_at pair) (kind_of c new pair))
        (difference_from c (before ++ new) ps)) (same_found_in c b alike inside before pair)
        ∙ (let new : List Found = found_in (in_memory b c) before pair in
        let kind = same_kind new pair in
        let rest = same_difference (before ++ new) ps in
        λ i. option_or (option_map (difference_at pair) (kind i)) (rest i))

    same_first : difference_from c (own_home c ∷ []) (pairs c)
        ≡ difference_from (in_memory b c) (own_home (in_memory b c) ∷ []) (pairs (in_memory b c))
    same_first =
        same_difference (own_home c ∷ []) (pairs c)
        ∙ ap (difference_from (in_memory b c) (own_home c ∷ [])) (same_pairs c b alike)

    same_all_found : all_found c ≡ all_found (in_memory b c)
    same_all_found =
        same_found_from c b alike inside (own_home c ∷ []) (pairs c)
        ∙ ap (found_from (in_memory b c) (own_home c ∷ [])) (same_pairs c b alike)

    -- what is stated of a read-only section that stands where a field says
    same_stated_at : (place : ℕ) (section : NormalSection) (o : Option ℕ) →
        difference_from c (own_home c ∷ []) (pairs c) ≡ None → slice_get c.object place ≡ Some section →
        first_value (all_found c) (Constant place) ≡ o → stated_at c section o ≡ stated_at (in_memory b c) section o
    same_stated_at place section None none at is = refl
    same_stated_at place section (Some base) none at is =
        let here = inside_at c.object place section inside at in
        let stands = first_stands c (all_found c) place base (all_found_stand c none) is in
        let lies : section_lies c base (Some section) ≡ true =
        stands_lies c base section (subst (λ o. section_stands c base o ≡ true) at stands) in
        map_same (λ (r : Ref). r.offset + 4 ≤ length section.bytes) (stated_in_constant c section base)
        (stated_in_constant (in_memory b c) section base)
        (λ r within i. record {
          spot = spot_at section.name r.offset;
          given = same_fields c b alike base section here lies r within i;
        }) section.refs here.inside

    same_stated_from : (place : ℕ) (sections : List NormalSection) →
        ((k : ℕ) (section : NormalSection) → slice_get sections k ≡ Some section →
        stated_at c section (first_value (all_found c) (Constant (k + place)))
        ≡ stated_at (in_memory b c) section (first_value (all_found c) (Constant (k + place)))) →
        stated_from c (all_found c) place sections ≡ stated_from (in_memory b c) (all_found c) place sections
    unfolding stated_from
    same_stated_from place [] each = refl
    same_stated_from place (section ∷ sections) each =
        let zeroth : 0 + place ≡ place = omega arith in
        let here = subst (λ (n : ℕ). stated_at c section (first_value (all_found c) (Constant n))
        ≡ stated_at (in_memory b c) section (first_value (all_found c) (Constant n))) zeroth (each 0 section refl) in
        let rest = same_stated_from (suc place) sections (λ k s at.
        let next : suc k + place ≡ k + suc place = omega arith in
        subst (λ (n : ℕ). stated_at c s (first_value (all_found c) (Constant n))
        ≡ stated_at (in_memory b c) s (first_value (all_found c) (Constant n))) next (each (suc k) s at)) in
        λ i. here i ++ rest i

    same_statements : difference_from c (own_home c ∷ []) (pairs c) ≡ None →
        statements c (all_found c) ≡ statements (in_memory b c) (all_found (in_memory b c))
    same_statements none =
        ap (λ (ps : List Pair). flat_map (stated_by_pair c) ps ++ stated_from c (all_found c) 0 c.object)
        (same_pairs c b alike)
        ∙ ap (λ (said : List Statement). flat_map (stated_by_pair c) (pairs (in_memory b c)) ++ said)
        (same_stated_from 0 c.object (λ k section at.
        let same : k ≡ k + 0 = omega arith in
        same_stated_at (k + 0) section (first_value (all_found c) (Constant (k + 0))) none
        (subst (λ (n : ℕ). slice_get c.object n ≡ Some section) same at) refl))
        ∙ ap (λ (found : List Found). statements (in_memory b c) found) same_all_found

    by_difference : (o : Option Difference) → difference_from c (own_home c ∷ []) (pairs c) ≡ o →
        matched_unless o (matched_by c (statements c (all_found c)))
        ≡ matched_unless o (matched_by (in_memory b c) (statements (in_memory b c) (all_found (in_memory b c))))
    by_difference (Some difference) is = refl
    by_difference None none =
        ap (λ (m : Matched). Ok m) (same_made (statements c (all_found c))
        (statements (in_memory b c) (all_found (in_memory b c))) (same_statements none))

    pub same_outcome : outcome c ≡ outcome (in_memory b c)
    unfolding outcome
    same_outcome =
        by_difference (difference_from c (own_home c ∷ []) (pairs c)) refl
        ∙ ap (λ (o : Option Difference). matched_unless o (matched_by (in_memory b c)
        (statements (in_memory b c) (all_found (in_memory b c))))) same_first
