-- What runs is the same in alike memories.
use Rattle.std.proofs.Common.{◌≡◌, ℕ, ◌-◌, ◌^◌, List, length, Option, ap}
use mathlib.Core.Path.{fun_ext}
use Rattle.image_memory.specs.Contents.{Contents}
use Rattle.image_memory.specs.Fetch.{view_at}
use Rattle.match_instructions.specs.Instructions.{Instruction, kept_of, listed, stands_for, through_kept}
use Rattle.match_instructions.specs.RunCode.{run_instruction_in, run_instruction_at, run_code, run_body}
use Rattle.match_instructions.specs.PreCode.{pre_code}
use Rattle.run_pre_match.specs.Candidate.{Candidate, pre_list, run_list, pairs_from, pairs}
use Rattle.run_pre_match.specs.Candidate.{has_number, same_number, body_of}
use Rattle.match_constants.specs.Constants.{constant_at}
use Rattle.run_pre_match.specs.Matched.{PreSection}
use Rattle.run_pre_match.specs.Bodies.{body_at}
use Rattle.run_pre_match.specs.Alike.{AreAlike, in_memory}

pub same_views : (a b : Contents) → AreAlike a b → view_at a ≡ view_at b
same_views a b alike = fun_ext alike.views

pub same_constants : (a b : Contents) → AreAlike a b → constant_at a.pieces ≡ constant_at b.pieces
same_constants a b alike = fun_ext alike.constants

same_instructions : (a b : Contents) → AreAlike a b → run_instruction_at a ≡ run_instruction_at b
unfolding run_instruction_at
same_instructions a b alike = fun_ext (λ address. ap (run_instruction_in address) (alike.views address))

same_run : (a b : Contents) → AreAlike a b → (base n : ℕ) → run_body a base n ≡ run_body b base n
unfolding run_code
same_run a b alike base n =
    ap (λ (there : ℕ → Option Instruction). through_kept n (listed there (2 ^ 32 - base) base))
    (same_instructions a b alike)

pub same_body_at : (pre : PreSection) (a b : Contents) (base : ℕ) → AreAlike a b →
    body_at pre a base ≡ body_at pre b base
same_body_at pre a b base alike = λ i. record {
  pre = pre_code pre.section;
  run = same_run a b alike base (length (kept_of (pre_code pre.section))) i;
}

module _ (c : Candidate) (b : Contents) (alike : AreAlike c.contents b) where
  pub same_list : run_list c ≡ run_list (in_memory b c)
  same_list = same_run c.contents b alike c.base (length (kept_of (pre_list c)))

  pub same_body_of : body_of c ≡ body_of (in_memory b c)
  same_body_of = λ i. record { pre = pre_list c; run = same_list i }

  pub same_pairs : pairs c ≡ pairs (in_memory b c)
  same_pairs = ap (λ (is : List Instruction). pairs_from 0 (kept_of (pre_list c)) (kept_of is)) same_list

  pub same_number_of : (offset address : ℕ) → same_number c offset address ≡ same_number (in_memory b c) offset address
  unfolding same_number
  same_number_of offset address =
      ap (λ (is : List Instruction). has_number (length (kept_of is)) (stands_for is address)
      (stands_for (pre_list c) offset)) same_list
