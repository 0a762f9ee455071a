-- The first difference of a code section of an object and the running code.
use Rattle.std.specs.Prelude.{ℕ, Bool, true, false, not, ◌&&◌, ◌||◌, ◌==◌, List, [], ◌∷◌, ◌++◌, take, length, Option}
use Rattle.std.specs.Prelude.{Some, None}
use Rattle.std.specs.Prelude.{suc, if◌then◌else◌}
use Rattle.std.specs.Option.{option_map, option_or}
use Rattle.std.specs.List.{find, list_any, slice_get}
use Rattle.ks_base.specs.declared.refusals.DifferenceKind.{DifferenceKind}
use Rattle.ks_base.specs.declared.refusals.DifferenceKind.TheVariants.{Opcode, Operand, Target, Value, Content}
use Rattle.ks_base.specs.declared.refusals.Difference.{Difference}
use Rattle.i386_reloc.specs.declared.types.Ref.{Ref}
use Rattle.i386_reloc.specs.Normal.{same_bytes}
use Rattle.image_memory.specs.Fetch.{view_at}
use Rattle.ia32_decode.specs.declared.types.Branch.{Branch}
use Rattle.ia32_decode.specs.Branches.{same_kind}
use Rattle.run_pre_match.specs.declared.goals.Goal.{Goal}
use Rattle.run_pre_match.specs.declared.goals.Goal.TheVariants.{Entry, Inside, Variable, Constant, Outside, Text}
use Rattle.match_instructions.specs.Instructions.{Instruction, end_of, kept_of, direct_branch, target_of}
use Rattle.match_instructions.specs.Landing.{has_no_reference}
use Rattle.match_instructions.specs.RunCode.{break_kind}
use Rattle.run_pre_match.specs.Candidate.{Candidate, pre_list, run_list, Pair, pairs, same_number}
use Rattle.match_constants.specs.Constants.{covers}
use Rattle.run_pre_match.specs.declared.goals.Verdict.{Verdict}
use Rattle.run_pre_match.specs.declared.goals.Verdict.TheVariants.{Holds, Refused, Absent}
use Rattle.run_pre_match.specs.WideForms.{form_bytes, moved_references, is_cut}
use Rattle.run_pre_match.specs.Found.{Found, found_in}

abbrev pub prefix_bytes : Instruction → List ℕ
prefix_bytes i = take i.decoded.prefixes.count i.bytes

-- prefixes and opcode of the wide form
abbrev pub opcode_bytes : Instruction → List ℕ
opcode_bytes i = take i.decoded.fields.opcode_end (form_bytes i)

-- two direct branches of different prefixes or kinds, one direct branch alone, or different prefixes or opcode bytes of
-- the wide forms
abbrev pub differs_in_opcode : Option Branch → Option Branch → Pair → Bool
differs_in_opcode (Some a) (Some b) pair =
    not (same_kind a.kind b.kind && same_bytes (prefix_bytes pair.pre) (prefix_bytes pair.run))
differs_in_opcode None None pair = not (same_bytes (opcode_bytes pair.pre) (opcode_bytes pair.run))
differs_in_opcode (Some a) None pair = true
differs_in_opcode None (Some b) pair = true

-- bytes with zeros in the fields of references, the first byte standing at a place
unfoldable pub blanked : List Ref → ℕ → List ℕ → List ℕ
blanked refs place [] = []
blanked refs place (byte ∷ bytes) = (if list_any (covers place) refs then 0 else byte) ∷ blanked refs (suc place) bytes

-- bytes of the running instruction's wide form, with zeros in the fields of references
abbrev pub blanked_form : Pair → List ℕ
blanked_form pair = blanked (moved_references pair.pre) pair.pre.place (form_bytes pair.run)

-- Neither is a direct branch, and the bytes of the wide forms outside the fields of references, or their lengths,
-- aren't equal; or the running instruction, as it stands, hasn't four bytes where a reference stands.
abbrev pub differs_in_operand : Option Branch → Option Branch → Pair → Bool
differs_in_operand None None pair =
    not (same_bytes (blanked_form pair) (form_bytes pair.pre))
    || list_any (is_cut pair.pre pair.run) pair.pre.references
differs_in_operand (Some a) branch pair = false
differs_in_operand None (Some b) pair = false

-- Both are direct branches, the object's has no reference, and their targets stand for different numbers.
abbrev pub differs_in_landing : Option Branch → Option Branch → Candidate → Pair → Bool
differs_in_landing (Some a) (Some b) c pair =
    has_no_reference pair.pre && not (same_number c (target_of pair.pre) (target_of pair.run))
differs_in_landing None branch c pair = false
differs_in_landing (Some a) None c pair = false

-- whether a goal lies in the section at a place
abbrev pub is_in_section : ℕ → Goal → Bool
is_in_section place (Entry other) = other == place
is_in_section place (Inside other offset) = other == place
is_in_section place (Variable other) = false
is_in_section place (Constant other) = false
is_in_section place (Outside name) = false
is_in_section place (Text other offset text) = false

abbrev pub is_refused_verdict : Verdict → Bool
is_refused_verdict Holds = false
is_refused_verdict Refused = true
is_refused_verdict Absent = false

abbrev pub is_absent_verdict : Verdict → Bool
is_absent_verdict Holds = false
is_absent_verdict Refused = false
is_absent_verdict Absent = true

-- a field of the instruction itself gives a value that is refused
abbrev pub is_refused_here : Found → Bool
is_refused_here f = f.own && is_refused_verdict f.verdict

-- the same for a reference into the own section
abbrev pub is_refused_target : ℕ → Found → Bool
is_refused_target place f = is_refused_here f && is_in_section place f.goal

-- What a field refers to doesn't stand at the value, or a field of a read-only section gives a value that is refused.
abbrev pub is_unmet : Found → Bool
is_unmet f = is_absent_verdict f.verdict || not f.own && is_refused_verdict f.verdict

-- Both are direct branches, with a reference into the own section, and the target isn't the home, or doesn't stand for
-- the same number.
abbrev pub differs_in_own_target : Option Branch → Option Branch → Candidate → List Found → Bool
differs_in_own_target (Some a) (Some b) c here = list_any (is_refused_target c.place) here
differs_in_own_target None branch c here = false
differs_in_own_target (Some a) None c here = false

-- the kinds of difference of a pair in their order, each with whether it is there; here is what was found by the pair
abbrev pub kinds_between : Candidate → List Found → Pair → Option Branch → Option Branch → List (Bool × DifferenceKind)
kinds_between c here pair p r =
    (differs_in_opcode p r pair, Opcode)
    ∷ (differs_in_operand p r pair, Operand)
    ∷ (differs_in_landing p r c pair || differs_in_own_target p r c here, Target)
    ∷ (list_any is_refused_here here, Value)
    ∷ (list_any is_unmet here, Content)
    ∷ []

abbrev pub is_there : Bool × DifferenceKind → Bool
is_there kind = kind.0

abbrev pub kind_in : Bool × DifferenceKind → DifferenceKind
kind_in kind = kind.1

-- the first kind in which a pair differs
unfoldable pub kind_of : Candidate → List Found → Pair → Option DifferenceKind
kind_of c here pair =
    option_map kind_in (find is_there (kinds_between c here pair (direct_branch pair.pre) (direct_branch pair.run)))

abbrev pub difference_at : Pair → DifferenceKind → Difference
difference_at pair kind =
    record { index = pair.index; pre_offset = pair.pre.place; run_address = pair.run.place; kind = kind }

-- The run list breaks off before an instruction of the section.
abbrev pub break_before : Candidate → ℕ → Instruction → Difference
break_before c address i = record {
  index = length (kept_of (run_list c));
  pre_offset = i.place;
  run_address = address;
  kind = break_kind (view_at c.contents address);
}

abbrev pub break_of : Candidate → Option Difference
break_of c =
    option_map (break_before c (end_of c.base (run_list c)))
    (slice_get (kept_of (pre_list c)) (length (kept_of (run_list c))))

-- the first difference of some pairs, after what was found before, and then that the run list breaks off
unfoldable pub difference_from : Candidate → List Found → List Pair → Option Difference
difference_from c before [] = break_of c
difference_from c before (pair ∷ pairs) =
    option_or (option_map (difference_at pair) (kind_of c (found_in c before pair) pair))
    (difference_from c (before ++ found_in c before pair) pairs)
