-- What references go to. A section is named by its place among the object's sections.
use Rattle.std.specs.Prelude.{ℕ, ◌+◌, ◌-◌, ◌%◌, ◌^◌, Bool, false, ◌==◌, if◌then◌else◌, List, Option, Some, None}
use Rattle.std.specs.Prelude.{unwrap_or}
use Rattle.std.specs.List.{slice_get}
use Rattle.i386_reloc.specs.declared.types.Class.{Class}
use Rattle.i386_reloc.specs.declared.types.Target.{Target}
use Rattle.i386_reloc.specs.declared.types.Target.TheVariants as target
use Rattle.i386_reloc.specs.declared.types.Ref.{Ref}
use Rattle.i386_reloc.specs.declared.types.NormalSection.{NormalSection}
use Rattle.i386_reloc.specs.Classes.{is_code_class}
use Rattle.i386_reloc.specs.Normal.{same_bytes}
use Rattle.i386_reloc.specs.Places.{place_of_target}
use Rattle.i386_reloc.specs.Reaches.{is_read_only_class, is_interior}
use Rattle.run_pre_match.specs.declared.goals.Goal.{Goal}
use Rattle.run_pre_match.specs.declared.goals.Goal.TheVariants.{Entry, Inside, Variable, Constant, Outside, Text}
use Rattle.run_pre_match.specs.declared.goals.Given.{Given}
use Rattle.match_instructions.specs.Landing.{interior_offset}

abbrev pub goal_in_code : Ref → ℕ → Goal
goal_in_code r place = if is_interior r then Inside place (interior_offset r) else Entry place

-- of a section of a class at a place: a function's entry or interior, read-only data, or data that the program may
-- change
abbrev pub goal_in_section : Ref → ℕ → Class → Goal
goal_in_section r place class =
    if is_code_class class then goal_in_code r place else if is_read_only_class class then Constant place
    else Variable place

-- In an object that was read the section that a reference names is there, so that its place has a section. The case
-- without one, where the name would be an outside one, never comes.
abbrev pub goal_at_place : Ref → List ℕ → ℕ → Option NormalSection → Goal
goal_at_place r name place None = Outside name
goal_at_place r name place (Some section) = goal_in_section r place section.class

-- There each section that is named has a place, too: that a section without one would be an outside name, and a text
-- without one would be at place 0, never comes, either.
abbrev pub goal_to : List NormalSection → Ref → Option ℕ → Target → Goal
goal_to object r place (target.Outside name) = Outside name
goal_to object r place (target.Text name offset text) = Text (unwrap_or place 0) offset text
goal_to object r None (target.Section name) = Outside name
goal_to object r (Some place) (target.Section name) = goal_at_place r name place (slice_get object place)

-- what a reference goes to
abbrev pub goal_of : List NormalSection → Ref → Goal
goal_of object r = goal_to object r (place_of_target object r.target) r.target

-- whether two goals have one value; texts and interiors are tested one by one
abbrev pub same_goal : Goal → Goal → Bool
same_goal (Entry a) (Entry b) = a == b
same_goal (Variable a) (Variable b) = a == b
same_goal (Constant a) (Constant b) = a == b
same_goal (Outside a) (Outside b) = same_bytes a b
same_goal _ _ = false

-- a difference modulo 2 ^ 32
abbrev pub minus : ℕ → ℕ → ℕ
minus a b = (a + (2 ^ 32 - b)) % 2 ^ 32

-- where the offset of an interior is in the running program, by the S of S + A
abbrev pub interior_address : ℕ → ℕ → ℕ
interior_address value offset = (value + offset) % 2 ^ 32

-- what the field of a reference says where it holds S + A
abbrev pub given_by : List NormalSection → Ref → ℕ → Given
given_by object r held = record { goal = goal_of object r; value = minus held r.addend }
