-- With which status the session of a work ends.
use Rattle.std.proofs.Common.{◌≡◌, ◌⊎◌, inl, inr, ℕ, Bool, true, false, ◌==◌, if◌then◌else◌, List, codes, refl, ap, ◌∙◌, arith}
use Rattle.script_lines.specs.Lines.{lines_of}
use Rattle.work_gen.specs.Work.{work_of}
use Rattle.ksplice_calls.specs.declared.status.Status.{Status}
use Rattle.ksplice_calls.specs.Calls.{is_carried_out}
use Rattle.ksplice_calls.specs.Works.{count_with, gen_answer, summary_status, work_replies}

abbrev status_by : Bool → ℕ
status_by none = if none then 0 else 3

pub summary_ends : (lines : List (List ℕ)) → (summary_status lines ≡ 0) ⊎ (summary_status lines ≡ 3)
summary_ends lines = by (count_with (codes "refused ") lines == 0)
  where
    by : (none : Bool) → (status_by none ≡ 0) ⊎ (status_by none ≡ 3)
    by true = inl refl
    by false = inr refl

pub work_ends : (number : ℕ) → ((gen_answer number).status ≡ 0) ⊎ ((gen_answer number).status ≡ 3)
unfolding gen_answer
work_ends number = summary_ends (lines_of (work_replies (work_of number)))

pub work_ends_not_with_four : (number : ℕ) → 4 ≡ (gen_answer number).status → ⊥
work_ends_not_with_four number four = by (work_ends number)
  where
    by : ((gen_answer number).status ≡ 0) ⊎ ((gen_answer number).status ≡ 3) → ⊥
    by (inl e) = omega (arith, e, four)
    by (inr e) = omega (arith, e, four)

-- with what it ends once that was said, whatever became of the output
pub carried_out : (number : ℕ) (ended said : Status) → said.code ≡ (gen_answer number).status
    → (ended ≡ said) ⊎ (ended.code ≡ 5) ⊎ (ended.code ≡ 6) → is_carried_out ended.code ≡ true
carried_out number ended said is (inl same) = by (work_ends number)
  where
    by : ((gen_answer number).status ≡ 0) ⊎ ((gen_answer number).status ≡ 3) → is_carried_out ended.code ≡ true
    by (inl e) = let code : ended.code ≡ 0 = ap (λ (s : Status). s.code) same ∙ is ∙ e in rw code refl
    by (inr e) = let code : ended.code ≡ 3 = ap (λ (s : Status). s.code) same ∙ is ∙ e in rw code refl
carried_out number ended said is (inr (inl e)) = rw e refl
carried_out number ended said is (inr (inr e)) = rw e refl
