-- The first kind of difference of a pair.
use Rattle.std.proofs.Common.{◌≡◌, Bool, true, false, ◌&&◌, cond, List, [], ◌∷◌, option_map, Option, Some, None}
use Rattle.std.proofs.Common.{is_some, refl, sym, ◌∙◌, ap}
use Rattle.std.specs.List.{find, list_any}
use Rattle.ks_base.specs.declared.refusals.DifferenceKind.{DifferenceKind}
use Rattle.ks_base.specs.declared.refusals.DifferenceKind.TheVariants.{Opcode, Operand, Target, Value, Content}
use Rattle.ia32_decode.specs.declared.types.Branch.{Branch}
use Rattle.run_pre_match.specs.declared.values.Marks.{Marks}
use Rattle.run_pre_match.specs.declared.values.Values.{Values}
use Rattle.match_instructions.specs.Instructions.{direct_branch}
use Rattle.run_pre_match.specs.Candidate.{Candidate, Pair}
use Rattle.run_pre_match.specs.Found.{Found, found_in}
use Rattle.run_pre_match.specs.Differences.{differs_in_opcode, differs_in_operand, differs_in_landing}
use Rattle.run_pre_match.specs.Differences.{differs_in_own_target, is_refused_here, is_refused_target, is_unmet}
use Rattle.run_pre_match.specs.Differences.{is_there, kind_in, kind_of}
use Rattle.run_pre_match.specs.inside.Kept.{Follows, IsKind, marks_of, no_marks, kind_marked, joined}

pub kind_opcode : (c : Candidate) (here : List Found) (pair : Pair) →
    differs_in_opcode (direct_branch pair.pre) (direct_branch pair.run) pair ≡ true → kind_of c here pair ≡ Some Opcode
unfolding kind_of
kind_opcode c here pair is = rw is refl

pub kind_operand : (c : Candidate) (here : List Found) (pair : Pair) →
    differs_in_opcode (direct_branch pair.pre) (direct_branch pair.run) pair ≡ false →
    differs_in_operand (direct_branch pair.pre) (direct_branch pair.run) pair ≡ true →
    kind_of c here pair ≡ Some Operand
unfolding kind_of
kind_operand c here pair opcode is = rw (opcode, is) refl

pub kind_landing : (c : Candidate) (here : List Found) (pair : Pair) →
    differs_in_opcode (direct_branch pair.pre) (direct_branch pair.run) pair ≡ false →
    differs_in_operand (direct_branch pair.pre) (direct_branch pair.run) pair ≡ false →
    differs_in_landing (direct_branch pair.pre) (direct_branch pair.run) c pair ≡ true →
    kind_of c here pair ≡ Some Target
unfolding kind_of
kind_landing c here pair opcode operand is = rw (opcode, operand, is) refl

and_comm_some : (b : Bool) → b ≡ b && true
and_comm_some true = refl
and_comm_some false = refl

and_none : (b : Bool) → false ≡ b && false
and_none true = refl
and_none false = refl

own_target : (p r : Option Branch) (c : Candidate) (here : List Found) →
    differs_in_own_target p r c here ≡ list_any (is_refused_target c.place) here && (is_some p && is_some r)
own_target None r c here = and_none (list_any (is_refused_target c.place) here)
own_target (Some a) None c here = and_none (list_any (is_refused_target c.place) here)
own_target (Some a) (Some b) c here = and_comm_some (list_any (is_refused_target c.place) here)

three : (t v u : Bool) → option_map kind_in (find is_there ((t, Target) ∷ (v, Value) ∷ (u, Content) ∷ []))
    ≡ cond t (Some Target) (cond v (Some Value) (cond u (Some Content) None))
three true v u = refl
three false true u = refl
three false false true = refl
three false false false = refl

pub kind_by_marks : (c : Candidate) (here : List Found) (pair : Pair) →
    differs_in_opcode (direct_branch pair.pre) (direct_branch pair.run) pair ≡ false →
    differs_in_operand (direct_branch pair.pre) (direct_branch pair.run) pair ≡ false →
    differs_in_landing (direct_branch pair.pre) (direct_branch pair.run) c pair ≡ false →
    kind_of c here pair ≡ kind_marked (marks_of c here)
    (is_some (direct_branch pair.pre) && is_some (direct_branch pair.run))
unfolding kind_of
kind_by_marks c here pair opcode operand landing =
    rw (opcode, operand, landing, own_target (direct_branch pair.pre) (direct_branch pair.run) c here)
    (three (list_any (is_refused_target c.place) here
    && (is_some (direct_branch pair.pre) && is_some (direct_branch pair.run))) (list_any is_refused_here here)
    (list_any is_unmet here))

-- a kind that is there rules out that nothing differs
some_kind : (kind : DifferenceKind) → Some kind ≡ None → ⊥
some_kind kind e = cc

pub is_kind_some : (c : Candidate) (before : List Found) (pair : Pair) (kind : DifferenceKind) (kept : Values) →
    kind_of c (found_in c before pair) pair ≡ Some kind → IsKind c before pair (Some kind) kept
is_kind_some c before pair kind kept is = record { first = sym is; keeps = λ none. absurd (some_kind kind none) }

none_joined : (m : Marks) → joined no_marks m ≡ m
none_joined m = refl

pub is_kind_marked : (c : Candidate) (before : List Found) (pair : Pair) (marks : Marks) (branches : Bool)
    (kind : Option DifferenceKind) (kept : Values) →
    differs_in_opcode (direct_branch pair.pre) (direct_branch pair.run) pair ≡ false →
    differs_in_operand (direct_branch pair.pre) (direct_branch pair.run) pair ≡ false →
    differs_in_landing (direct_branch pair.pre) (direct_branch pair.run) c pair ≡ false →
    branches ≡ is_some (direct_branch pair.pre) && is_some (direct_branch pair.run) →
    kind ≡ kind_marked marks branches → Follows c before (found_in c before pair) no_marks marks kept →
    IsKind c before pair kind kept
is_kind_marked c before pair marks branches kind kept opcode operand landing both is follows = record {
  first = is ∙ ap (λ m. kind_marked m branches) follows.marks
      ∙ ap (kind_marked (marks_of c (found_in c before pair))) both
      ∙ sym (kind_by_marks c (found_in c before pair) pair opcode operand landing);
  keeps = λ _. follows.keeps;
}
