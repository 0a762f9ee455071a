-- The running list of a section's code is the section's, instruction by instruction.
use Rattle.std.proofs.Common.{◌≡◌, ℕ, zero, suc, ◌+◌, ◌≤◌, Bool, true, false, cond, List, []}
use Rattle.std.proofs.Common.{◌∷◌, ◌++◌, length, map, drop, Option, Some, None, option_map}
use Rattle.std.proofs.Common.{refl, sym, ap, subst, ◌∙◌, arith}
use Rattle.std.specs.List.{AllByRecursion}
use Rattle.std.proofs.lemmas.Bool.{not-false}
use Rattle.std.proofs.lemmas.List.{nil_from_length}
use Rattle.ia32_decode.specs.declared.types.Decoded.{Decoded}
use Rattle.ia32_decode.specs.Decode.{decoded_from}
use Rattle.match_instructions.specs.Instructions.{Instruction, after, listed, listed_on, kept_of, through_kept}
use Rattle.match_instructions.specs.PreCode.{code_bytes, pre_instruction, pre_instruction_at, pre_code, may_all_stand}
use Rattle.match_instructions.specs.Landing.{is_misplaced, goes_astray}
use Rattle.match_instructions.specs.RunCode.{run_instruction_at}
use Rattle.run_pre_match.specs.Candidate.{Candidate}
use Rattle.linked_code.specs.Standing.{IsLinkedCode, stays_kept}
use Rattle.linked_code.proofs.Pairs.{Meets}
use Rattle.linked_code.proofs.Meetings.{Laws, Apart, inside, meets, apart_after}

-- ---- the instruction that is met for one of the section
abbrev pub met_or : Instruction → Option Instruction → Instruction
met_or i None = i
met_or i (Some run) = run

abbrev pub met_for : Candidate → Instruction → Instruction
met_for c i = met_or i (run_instruction_at c.contents (c.base + i.place))

-- an instruction of a list can be matched, and stays kept
abbrev pub IsClear : Candidate → Instruction → Type 0
IsClear c i = (is_misplaced i ≡ false) × (goes_astray (pre_code c.section) i ≡ false)
    × (stays_kept c.contents c.base i ≡ true)

-- what is known of an instruction at an offset
pub record IsNext (c : Candidate) (bytes : List ℕ) (o : ℕ) (i : Instruction) : Type 0 where
  pub place : i.place ≡ o
  pub meets : Meets c bytes i (met_for c i)
  pub inside : after i ≤ c.section.size

-- instructions that follow one another from an offset on
abbrev pub Chain : Candidate → List ℕ → ℕ → List Instruction → Type 0
Chain c bytes o [] = Unit {0}
Chain c bytes o (i ∷ is) = IsNext c bytes o i × Chain c bytes (after i) is

module _ (laws : Laws) (c : Candidate) (bytes : List ℕ) (linked : IsLinkedCode c bytes) where
  next : (o : ℕ) (d : Decoded) → decoded_from (drop o (code_bytes c.section)) ≡ Some d → Apart c.section.refs o →
      IsClear c (pre_instruction c.section o d) → IsNext c bytes o (pre_instruction c.section o d)
  next o d found apart clear =
      let i : Instruction = pre_instruction c.section o d in
      let stands : may_all_stand i ≡ true = not-false (may_all_stand i) clear.0 in
      let it = meets laws c bytes linked o d found apart stands clear.1 clear.2 in
      record {
        place = refl;
        meets = subst (Meets c bytes i) (sym (ap (met_or i) it.1.met)) it.1;
        inside = inside laws c bytes linked o d found apart stands;
      }

  chained_on : (o : ℕ) (rest : ℕ → List Instruction) (found : Option Decoded) →
      decoded_from (drop o (code_bytes c.section)) ≡ found → Apart c.section.refs o →
      ((at : ℕ) → Apart c.section.refs at → AllByRecursion (IsClear c) (rest at) → Chain c bytes at (rest at)) →
      AllByRecursion (IsClear c) (listed_on (option_map (pre_instruction c.section o) found) rest) →
      Chain c bytes o (listed_on (option_map (pre_instruction c.section o) found) rest)
  chained_on o rest None is apart later clear = tt
  chained_on o rest (Some d) is apart later clear =
      let i : Instruction = pre_instruction c.section o d in
      let stands : may_all_stand i ≡ true = not-false (may_all_stand i) clear.0.0 in (
        next o d is apart clear.0,
        later (after i) (apart_after laws c bytes linked o d is apart stands) clear.1,
      )

  pub chained : (n o : ℕ) → Apart c.section.refs o →
      AllByRecursion (IsClear c) (listed (pre_instruction_at c.section) n o) →
      Chain c bytes o (listed (pre_instruction_at c.section) n o)
  unfolding listed pre_instruction_at
  chained zero o apart clear = tt
  chained (suc n) o apart clear =
      chained_on o (listed (pre_instruction_at c.section) n) (decoded_from (drop o (code_bytes c.section))) refl apart
      (λ at apart clear. chained n at apart clear) clear

-- ---- what is listed
pub length_listed : (there : ℕ → Option Instruction) (n o : ℕ) → length (listed there n o) ≤ n
unfolding listed
length_listed there zero o = omega arith
length_listed there (suc n) o = either (there o) (λ at. length_listed there n at)
  where
    either : (found : Option Instruction) → ((at : ℕ) → length (listed there n at) ≤ n) →
        length (listed_on found (listed there n)) ≤ suc n
    either None later = omega arith
    either (Some i) later = omega (arith, later (after i))

-- what runs begins with what is met for each instruction of a chain
pub record Begins (c : Candidate) (is : List Instruction) (run : List Instruction) : Type 0 where
  pub rest : List Instruction
  pub whole : run ≡ map (met_for c) is ++ rest

pub begins : (c : Candidate) (bytes : List ℕ) (is : List Instruction) (o n at : ℕ) → at ≡ c.base + o →
    Chain c bytes o is → length is ≤ n → Begins c is (listed (run_instruction_at c.contents) n at)
unfolding listed
begins c bytes [] o n at here chain few =
    record { rest = listed (run_instruction_at c.contents) n at; whole = refl }
begins c bytes (i ∷ is) o zero at here chain few = absurd (omega arith)
begins c bytes (i ∷ is) o (suc n) at here chain few =
    let m = chain.0.meets in
    let there : c.base + i.place ≡ at = omega (arith, chain.0.place, here) in
    let behind : after (met_for c i) ≡ c.base + after i =
    the_sum (met_for c i).place (met_for c i).decoded.length c.base i.place i.decoded.length m.place
    m.runs.filled.length in
    let later = begins c bytes is (after i) n (after (met_for c i)) behind chain.1 (omega arith) in
    let first : run_instruction_at c.contents at ≡ Some (met_for c i) =
    ap (run_instruction_at c.contents) (sym there) ∙ m.met in
    record {
      rest = later.rest;
      whole = ap (λ found. listed_on found (listed (run_instruction_at c.contents) n)) first
          ∙ ap (λ (rs : List Instruction). met_for c i ∷ rs) later.whole;
    }
  where
    the_sum : (run size base p n : ℕ) → run ≡ base + p → size ≡ n → run + size ≡ base + (p + n)
    the_sum run size base p n a b = omega arith

-- ---- kept instructions
pub through_more : (n : ℕ) (i : Instruction) (is : List Instruction) →
    through_kept (suc n) (i ∷ is) ≡ i ∷ through_kept (cond i.kept n (suc n)) is
unfolding through_kept
through_more n i is = refl

pub through_none : (is : List Instruction) → through_kept zero is ≡ []
unfolding through_kept
through_none is = refl

-- up to the last kept one, the kept ones of what runs are those that are met for the kept ones of a chain
pub kept_met : (c : Candidate) (bytes : List ℕ) (rest is : List Instruction) (o : ℕ) → Chain c bytes o is →
    kept_of (through_kept (length (kept_of is)) (map (met_for c) is ++ rest)) ≡ map (met_for c) (kept_of is)
kept_met c bytes rest [] o chain = ap kept_of (through_none rest)
kept_met c bytes rest (i ∷ is) o chain =
    either i.kept chain.0.meets.kept refl (kept_met c bytes rest is (after i) chain.1)
  where
    left_out : (n : ℕ) → length (kept_of is) ≡ n → (met_for c i).kept ≡ false →
        kept_of (through_kept (length (kept_of is)) (map (met_for c) is ++ rest)) ≡ map (met_for c) (kept_of is) →
        kept_of (through_kept n (met_for c i ∷ (map (met_for c) is ++ rest))) ≡ map (met_for c) (kept_of is)
    left_out zero many out later =
        ap kept_of (through_none (met_for c i ∷ (map (met_for c) is ++ rest)))
        ∙ sym (ap (map (met_for c)) (nil_from_length (kept_of is) many))
    left_out (suc n) many out later =
        ap kept_of (through_more n (met_for c i) (map (met_for c) is ++ rest))
        ∙ ap (λ b. cond b (met_for c i ∷ kept_of (through_kept (cond b n (suc n)) (map (met_for c) is ++ rest)))
        (kept_of (through_kept (cond b n (suc n)) (map (met_for c) is ++ rest)))) out
        ∙ sym (ap (λ k. kept_of (through_kept k (map (met_for c) is ++ rest))) many) ∙ later

    either : (b : Bool) → (met_for c i).kept ≡ b → i.kept ≡ b →
        kept_of (through_kept (length (kept_of is)) (map (met_for c) is ++ rest)) ≡ map (met_for c) (kept_of is) →
        kept_of (through_kept (length (cond b (i ∷ kept_of is) (kept_of is)))
        (met_for c i ∷ (map (met_for c) is ++ rest))) ≡ map (met_for c) (cond b (i ∷ kept_of is) (kept_of is))
    either true met own later =
        ap kept_of (through_more (length (kept_of is)) (met_for c i) (map (met_for c) is ++ rest))
        ∙ ap (λ b. cond b (met_for c i ∷ kept_of (through_kept (cond b (length (kept_of is)) (suc (length (kept_of is))))
        (map (met_for c) is ++ rest)))
        (kept_of (through_kept (cond b (length (kept_of is)) (suc (length (kept_of is))))
        (map (met_for c) is ++ rest)))) met
        ∙ ap (λ (rs : List Instruction). met_for c i ∷ rs) later
    either false met own later = left_out (length (kept_of is)) refl met later
