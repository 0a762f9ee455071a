-- A pair of an instruction of a section and the running one agrees.
use Rattle.std.proofs.Common.{◌≡◌, ℕ, ◌+◌, ◌%◌, ◌^◌, ◌<◌, Bool, true, false, not, ◌&&◌, List, Option, Some}
use Rattle.std.proofs.Common.{None, refl, sym, ap, ◌∙◌, arith}
use Rattle.std.specs.Prelude.{is_some}
use Rattle.std.proofs.lemmas.Bool.{eq-eqb}
use Rattle.ia32_decode.specs.declared.types.Branch.{Branch}
use Rattle.ia32_decode.specs.declared.types.BranchKind.{BranchKind}
use Rattle.ia32_decode.specs.declared.types.BranchKind.TheVariants.{Call, Jump, JumpIf, Loop}
use Rattle.ia32_decode.specs.declared.types.Decoded.{Decoded}
use Rattle.ia32_decode.specs.Branches.{branch_of, same_kind}
use Rattle.ia32_decode.specs.Encoding.{byte_in, condition_number}
use Rattle.match_instructions.specs.Instructions.{Instruction, after, direct_branch, displacement_in, target_of, stands_for}
use Rattle.match_instructions.specs.Landing.{has_no_reference, is_landing, goes_astray}
use Rattle.match_instructions.specs.PreCode.{pre_code}
use Rattle.match_instructions.specs.RunCode.{run_instruction_at}
use Rattle.run_pre_match.specs.Candidate.{Candidate, Pair, pre_list, run_list}
use Rattle.run_pre_match.specs.Match.{AgreeAs, Agree, StandForOne}
use Rattle.linked_code.specs.Filled.{SameBranch}
use Rattle.linked_code.proofs.Agreement.{RunsAs, prefixes_same, opcode_bytes_same, form_same, all_full}

-- an instruction of a candidate's section is met where it runs
pub record Meets (c : Candidate) (bytes : List ℕ) (i run : Instruction) : Type 0 where
  pub runs : RunsAs i run
  pub met : run_instruction_at c.contents (c.base + i.place) ≡ Some run
  pub place : run.place ≡ c.base + i.place
  pub there : (k : ℕ) → k < i.decoded.length → byte_in run.bytes k ≡ byte_in bytes (i.place + k)
  pub kept : run.kept ≡ i.kept
  pub near : goes_astray (pre_code c.section) i ≡ false
  pub alike : has_no_reference i ≡ true → run.decoded ≡ i.decoded
  pub some : 0 < i.decoded.length

-- each place stands for the number of its offset
pub record StandAlike (c : Candidate) : Type 0 where
  pub numbers : (offset k : ℕ) → stands_for (pre_list c) offset ≡ Some k →
      stands_for (run_list c) (c.base + offset) ≡ Some k
  pub low : (offset k : ℕ) → stands_for (pre_list c) offset ≡ Some k → c.base + offset < 2 ^ 32

same_kind_itself : (kind : BranchKind) → same_kind kind kind ≡ true
same_kind_itself Call = refl
same_kind_itself Jump = refl
same_kind_itself (JumpIf condition) = eq-eqb (condition_number condition) (condition_number condition) refl
same_kind_itself (Loop opcode) = eq-eqb opcode opcode refl

third : (a b c : Bool) → (a && b && not c) ≡ false → a ≡ true → b ≡ true → c ≡ true
third true true true is p q = refl
third true true false is p q = absurd (cc)
third true false c is p q = absurd (cc)
third false b c is p q = absurd (cc)

number_of : (o : Option ℕ) → is_some o ≡ true → (k : ℕ) × (o ≡ Some k)
number_of None is = absurd (cc)
number_of (Some k) is = (k, refl)

shifted : (base a : ℕ) → base + a % 2 ^ 32 < 2 ^ 32 → (base + a) % 2 ^ 32 ≡ base + a % 2 ^ 32
shifted base a low = omega arith

module _ (c : Candidate) (bytes : List ℕ) (stand : StandAlike c) (pair : Pair) (m : Meets c bytes pair.pre pair.run) where
  landing : (b : Branch) → direct_branch pair.pre ≡ Some b → has_no_reference pair.pre ≡ true →
      StandForOne c (target_of pair.pre) (target_of pair.run)
  landing b is bare =
      let code = pre_code c.section in
      let goes : is_some (direct_branch pair.pre) ≡ true = ap is_some is in
      let lands : is_landing code (target_of pair.pre) ≡ true =
      third (is_some (direct_branch pair.pre)) (has_no_reference pair.pre) (is_landing code (target_of pair.pre)) m.near
      goes bare in
      let it = number_of (stands_for code (target_of pair.pre)) lands in
      let same = m.alike bare in
      let sum : after pair.run + displacement_in (direct_branch pair.run)
      ≡ c.base + (after pair.pre + displacement_in (direct_branch pair.pre)) =
      ap (λ (d : Decoded). pair.run.place + d.length + displacement_in (branch_of d)) same
      ∙ the_sum pair.run.place c.base pair.pre.place pair.pre.decoded.length
      (displacement_in (direct_branch pair.pre)) m.place in
      let there : target_of pair.run ≡ c.base + target_of pair.pre =
      ap (λ k. k % 2 ^ 32) sum
      ∙ shifted c.base (after pair.pre + displacement_in (direct_branch pair.pre))
      (stand.low (target_of pair.pre) it.0 it.1) in
      record {
        number = it.0;
        by_offset = it.1;
        by_address = ap (stands_for (run_list c)) there ∙ stand.numbers (target_of pair.pre) it.0 it.1;
      }
    where
      the_sum : (run base p n goes : ℕ) → run ≡ base + p → run + n + goes ≡ base + (p + n + goes)
      the_sum run base p n goes is = omega arith

  pub agrees : Agree c pair
  agrees = either (direct_branch pair.pre) (direct_branch pair.run) refl m.runs.filled.branch
    where
      either : (o other : Option Branch) → direct_branch pair.pre ≡ o → SameBranch o other → AgreeAs c pair o other
      either None None is same = (
        opcode_bytes_same pair.pre pair.run m.runs,
        form_same pair.pre pair.run m.runs,
        all_full pair.pre pair.run m.runs,
      )
      either (Some a) (Some b) is same = (
        ap (same_kind a.kind) (sym same.0) ∙ same_kind_itself a.kind,
        prefixes_same pair.pre pair.run m.runs,
        λ bare. landing a is bare,
      )
      either None (Some b) is same = absurd same
      either (Some a) None is same = absurd same
