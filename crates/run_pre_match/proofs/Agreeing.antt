-- Pairs agree exactly where they don't differ but in what references say.
use Rattle.std.proofs.Common.{◌≡◌, ℕ, Bool, true, false, not, List, All}
use Rattle.std.proofs.Common.{Option, Some, None, IsTrue, refl, ap}
use Rattle.std.specs.List.{list_any}
use Rattle.std.specs.Cmp.Lexicographic.{bytes_decides}
use Rattle.std.proofs.lemmas.Bool.{and_from, and_parts, or_parts}
use Rattle.std.proofs.lemmas.List.Elements.{All-weaker}
use Rattle.std.proofs.lemmas.List.Folds.{list_any_none}
use Rattle.i386_reloc.specs.declared.types.Ref.{Ref}
use Rattle.i386_reloc.specs.Normal.{same_bytes}
use Rattle.ia32_decode.specs.declared.types.Branch.{Branch}
use Rattle.ia32_decode.specs.Branches.{same_kind}
use Rattle.match_instructions.specs.Instructions.{direct_branch, target_of}
use Rattle.match_instructions.specs.Landing.{has_no_reference}
use Rattle.run_pre_match.specs.Candidate.{Candidate, Pair, same_number}
use Rattle.run_pre_match.specs.WideForms.{form_bytes, is_full, is_cut}
use Rattle.run_pre_match.specs.Differences.{prefix_bytes, opcode_bytes, blanked_form, differs_in_opcode}
use Rattle.run_pre_match.specs.Differences.{differs_in_operand, differs_in_landing}
use Rattle.run_pre_match.specs.Match.{AgreeAs, Agree}
use Rattle.run_pre_match.proofs.MetLaws.{IsWhole, stand_for_one, one_number}
use Rattle.run_pre_match.proofs.MetLaws.{and_not_then, and_not_none}
use Rattle.run_pre_match.proofs.Claims.{none_pass}
use Rattle.run_pre_match.proofs.FormLaws.{equal_lists, neither}

-- a pair differs in nothing but what references say
pub record Alike (c : Candidate) (pair : Pair) (p r : Option Branch) : Type 0 where
  pub opcode : differs_in_opcode p r pair ≡ false
  pub operand : differs_in_operand p r pair ≡ false
  pub landing : differs_in_landing p r c pair ≡ false

not_not : (b : Bool) → not b ≡ false → b ≡ true
not_not true e = refl
not_not false e = absurd cc

same_lists : (xs ys : List ℕ) → not (same_bytes xs ys) ≡ false → xs ≡ ys
same_lists xs ys e = (bytes_decides xs ys).0 (not_not (same_bytes xs ys) e)

-- where no field at a reference is cut, each is full
all_full : (pair : Pair) (refs : List Ref) → list_any (is_cut pair.pre pair.run) refs ≡ false →
    All (λ r. IsTrue (is_full pair.pre pair.run r)) refs
all_full pair refs none =
    All-weaker (λ (r : Ref). is_cut pair.pre pair.run r ≡ false) (λ (r : Ref). IsTrue (is_full pair.pre pair.run r))
    (λ r uncut. not_not (is_full pair.pre pair.run r) uncut) refs
    (none_pass (is_cut pair.pre pair.run) refs none)

none_cut : (pair : Pair) (refs : List Ref) → All (λ r. IsTrue (is_full pair.pre pair.run r)) refs →
    list_any (is_cut pair.pre pair.run) refs ≡ false
none_cut pair refs full = list_any_none (is_cut pair.pre pair.run) refs
    (All-weaker (λ (r : Ref). IsTrue (is_full pair.pre pair.run r)) (λ (r : Ref). is_cut pair.pre pair.run r ≡ false)
    (λ r is. ap not is) refs full)

alike_agree : (c : Candidate) (pair : Pair) (p r : Option Branch) → IsWhole c → Alike c pair p r → AgreeAs c pair p r
alike_agree c pair (Some a) (Some b) whole alike =
    let (kind, prefix) = and_parts (same_kind a.kind b.kind)
    (same_bytes (prefix_bytes pair.pre) (prefix_bytes pair.run)) (not_not _ alike.opcode) in (
      kind,
      (bytes_decides (prefix_bytes pair.pre) (prefix_bytes pair.run)).0 prefix,
      λ none. stand_for_one c (target_of pair.pre) (target_of pair.run) whole
          (and_not_then (has_no_reference pair.pre)
          (same_number c (target_of pair.pre) (target_of pair.run)) alike.landing none),
    )
alike_agree c pair None None whole alike =
    let (bytes, cut) = or_parts (not (same_bytes (blanked_form pair) (form_bytes pair.pre)))
    (list_any (is_cut pair.pre pair.run) pair.pre.references) alike.operand in (
      same_lists (opcode_bytes pair.pre) (opcode_bytes pair.run) alike.opcode,
      same_lists (blanked_form pair) (form_bytes pair.pre) bytes,
      all_full pair pair.pre.references cut,
    )
alike_agree c pair (Some a) None whole alike = absurd (let no : true ≡ false = alike.opcode in cc)
alike_agree c pair None (Some b) whole alike = absurd (let no : true ≡ false = alike.opcode in cc)

pub agrees : (c : Candidate) (pair : Pair) → IsWhole c →
    Alike c pair (direct_branch pair.pre) (direct_branch pair.run) → Agree c pair
agrees c pair whole alike = alike_agree c pair (direct_branch pair.pre) (direct_branch pair.run) whole alike

agree_alike : (c : Candidate) (pair : Pair) (p r : Option Branch) → AgreeAs c pair p r → Alike c pair p r
agree_alike c pair (Some a) (Some b) (kind, prefix, landing) = record {
  opcode = ap not (and_from (same_kind a.kind b.kind) (same_bytes (prefix_bytes pair.pre) (prefix_bytes pair.run)) kind
      ((bytes_decides (prefix_bytes pair.pre) (prefix_bytes pair.run)).1 prefix));
  operand = refl;
  landing = and_not_none (has_no_reference pair.pre) (same_number c (target_of pair.pre) (target_of pair.run))
      (λ none. one_number c (target_of pair.pre) (target_of pair.run) (landing none));
}
agree_alike c pair None None (opcode, operand, full) = record {
  opcode = equal_lists (opcode_bytes pair.pre) (opcode_bytes pair.run) opcode;
  operand = neither (not (same_bytes (blanked_form pair) (form_bytes pair.pre)))
      (list_any (is_cut pair.pre pair.run) pair.pre.references)
      (equal_lists (blanked_form pair) (form_bytes pair.pre) operand) (none_cut pair pair.pre.references full);
  landing = refl;
}
agree_alike c pair (Some a) None never = absurd never
agree_alike c pair None (Some b) never = absurd never

pub alike : (c : Candidate) (pair : Pair) → Agree c pair →
    Alike c pair (direct_branch pair.pre) (direct_branch pair.run)
alike c pair agree = agree_alike c pair (direct_branch pair.pre) (direct_branch pair.run) agree
