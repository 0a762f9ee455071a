-- Where fields go: the entry or an interior to which one goes is of a code section of the object; and what goals are to
-- all sections together.
use Rattle.std.proofs.Common.{◌≡◌, ℕ, Bool, true, false, cond, List, Option, Some, None, refl, subst}
use Rattle.std.specs.List.{slice_get}
use Rattle.std.proofs.lemmas.Option.{same_Some}
use Rattle.i386_reloc.specs.Classes.{is_code_class}
use Rattle.i386_reloc.specs.Reaches.{is_read_only_class, is_interior}
use Rattle.i386_reloc.specs.Places.{place_of_target}
use Rattle.i386_reloc.specs.declared.types.Ref.{Ref}
use Rattle.i386_reloc.specs.declared.types.NormalSection.{NormalSection}
use Rattle.i386_reloc.specs.declared.types.Target.{Target as Kind}
use Rattle.i386_reloc.specs.declared.types.Target.TheVariants as target
use Rattle.match_instructions.specs.Landing.{interior_offset}
use Rattle.run_pre_match.specs.declared.goals.Goal.{Goal}
use Rattle.run_pre_match.specs.declared.goals.Goal.TheVariants.{Entry, Inside, Variable, Constant, Outside, Text}
use Rattle.run_pre_match.specs.declared.goals.Given.{Given}
use Rattle.run_pre_match.specs.Candidate.{Candidate}
use Rattle.run_pre_match.specs.Goals.{goal_in_code, goal_at_place, goal_to}
use Rattle.run_pre_match.specs.Match.{Valuation, IsField, InCode, InConstant}
use Rattle.run_pre_match.specs.Matched.{name_at, unknown_of}
use Rattle.symbol_table.specs.declared.values.Unknown.{Unknown}
use Rattle.symbol_table.specs.declared.values.Unknown.TheVariants as unknown
use Rattle.symbol_solve.specs.Assignment.{IsOf, OfFunction, OfData, OfName}

-- a code section stands at a place
abbrev pub IsCodeAt : List NormalSection → ℕ → Type 0
IsCodeAt object place =
    (section : NormalSection) × (slice_get object place ≡ Some section) × (is_code_class section.class ≡ true)

abbrev pub IsCodeGoal : List NormalSection → Goal → Type 0
IsCodeGoal object (Entry place) = IsCodeAt object place
IsCodeGoal object (Inside place offset) = IsCodeAt object place
IsCodeGoal object (Variable place) = Unit {0}
IsCodeGoal object (Constant place) = Unit {0}
IsCodeGoal object (Outside name) = Unit {0}
IsCodeGoal object (Text place offset text) = Unit {0}

in_code : (object : List NormalSection) (r : Ref) (place : ℕ) (section : NormalSection) (interior : Bool)
    → slice_get object place ≡ Some section → is_code_class section.class ≡ true
    → IsCodeGoal object (cond interior (Inside place (interior_offset r)) (Entry place))
in_code object r place section true at code = (section, at, code)
in_code object r place section false at code = (section, at, code)

in_section : (object : List NormalSection) (r : Ref) (place : ℕ) (section : NormalSection) (code constant : Bool)
    → slice_get object place ≡ Some section → is_code_class section.class ≡ code
    → IsCodeGoal object (cond code (goal_in_code r place) (cond constant (Constant place) (Variable place)))
in_section object r place section true constant at code = in_code object r place section (is_interior r) at code
in_section object r place section false true at code = tt
in_section object r place section false false at code = tt

at_place : (object : List NormalSection) (r : Ref) (name : List ℕ) (place : ℕ) (o : Option NormalSection)
    → slice_get object place ≡ o → IsCodeGoal object (goal_at_place r name place o)
at_place object r name place None at = tt
at_place object r name place (Some section) at =
    in_section object r place section (is_code_class section.class) (is_read_only_class section.class) at refl

goal_by : (object : List NormalSection) (r : Ref) (place : Option ℕ) (t : Kind)
    → IsCodeGoal object (goal_to object r place t)
goal_by object r place (target.Outside name) = tt
goal_by object r place (target.Text name offset text) = tt
goal_by object r None (target.Section name) = tt
goal_by object r (Some place) (target.Section name) = at_place object r name place (slice_get object place) refl

pub field_code : (c : Candidate) (v : Valuation) (field : Given) → IsField c v field → IsCodeGoal c.object field.goal
field_code c v field (InCode pair r in_pairs in_pair) =
    goal_by c.object r (place_of_target c.object r.target) r.target
field_code c v field (InConstant by place base section r counts goes value at in_section) =
    goal_by c.object r (place_of_target c.object r.target) r.target

-- ---- what goals are to all sections together
pub known_of : (c : Candidate) (goal : Goal) (about : Unknown) → IsOf c goal about → unknown_of c goal ≡ Some about
known_of c goal about (OfFunction place) = refl
known_of c goal about (OfData place) = refl
known_of c goal about (OfName name) = refl

pub of_known : (c : Candidate) (goal : Goal) (about : Unknown) → unknown_of c goal ≡ Some about → IsOf c goal about
of_known c (Entry place) about is =
    subst (IsOf c (Entry place)) (same_Some (unknown.Code (name_at c place)) about is) (OfFunction place)
of_known c (Variable place) about is =
    subst (IsOf c (Variable place)) (same_Some (unknown.Data (name_at c place)) about is) (OfData place)
of_known c (Outside name) about is =
    subst (IsOf c (Outside name)) (same_Some (unknown.Outside name) about is) (OfName name)
of_known c (Inside place offset) about is = absurd cc
of_known c (Constant place) about is = absurd cc
of_known c (Text place offset text) about is = absurd cc
