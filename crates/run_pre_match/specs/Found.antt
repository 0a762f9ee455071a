-- The values that a running body gives to what an object's code refers to, in the order in which they are found: by the
-- fields of its instructions, and by those of each read-only section when a field first says where it lies. Each is
-- found to hold or not.
use Rattle.std.specs.Prelude.{ℕ, zero, suc, ◌+◌, Bool, true, false, not, ◌&&◌, ◌||◌, ◌==◌, if◌then◌else◌, List, []}
use Rattle.std.specs.Prelude.{◌∷◌, ◌++◌, map, length, Option, Some, None, is_some}
use Rattle.std.specs.Option.{option_map}
use Rattle.std.specs.List.{find, list_any, slice_get}
use Rattle.i386_reloc.specs.declared.types.Ref.{Ref}
use Rattle.i386_reloc.specs.declared.types.NormalSection.{NormalSection}
use Rattle.image_memory.specs.Access.{dword_at}
use Rattle.symbol_table.specs.declared.symbols.Symbol.{Symbol}
use Rattle.symbol_table.specs.Symbols.{global_addresses}
use Rattle.ia32_decode.specs.declared.types.Branch.{Branch}
use Rattle.ia32_decode.specs.Encoding.{dword_in}
use Rattle.run_pre_match.specs.declared.goals.Goal.{Goal}
use Rattle.run_pre_match.specs.declared.goals.Goal.TheVariants.{Entry, Inside, Variable, Constant, Outside, Text}
use Rattle.run_pre_match.specs.declared.goals.Given.{Given}
use Rattle.run_pre_match.specs.declared.goals.Verdict.{Verdict}
use Rattle.run_pre_match.specs.declared.goals.Verdict.TheVariants.{Holds, Refused, Absent}
use Rattle.match_instructions.specs.Instructions.{direct_branch, target_of}
use Rattle.run_pre_match.specs.Candidate.{Candidate, Pair, pairs, same_number}
use Rattle.run_pre_match.specs.Goals.{same_goal, minus, interior_address, given_by}
use Rattle.run_pre_match.specs.WideForms.{field_for, offset_in}
use Rattle.match_constants.specs.Constants.{lie_in_constants, stand_at, stand_but_for_fields}

-- A value that was found for a goal: by a field of the instruction itself or by one of a read-only section, and what is
-- said of it.
pub record Found : Type 0 where
  pub goal : Goal
  pub value : ℕ
  pub own : Bool
  pub verdict : Verdict

abbrev pub is_for : Goal → Found → Bool
is_for goal f = same_goal f.goal goal

abbrev pub value_of : Found → ℕ
value_of f = f.value

-- the first value for a goal
abbrev pub first_value : List Found → Goal → Option ℕ
first_value found goal = option_map value_of (find (is_for goal) found)

abbrev pub is_other : ℕ → Option ℕ → Bool
is_other value None = false
is_other value (Some first) = not (first == value)

-- whether a value contradicts an earlier one
abbrev pub contradicts : List Found → Goal → ℕ → Bool
contradicts before goal value = is_other value (first_value before goal)

abbrev pub is_listed : List Symbol → List ℕ → ℕ → Bool
is_listed symbols name address = list_any (λ a. address == a) (global_addresses symbols name)

-- whether an address doesn't stand for the number of an offset of the candidate's own section
abbrev pub is_off : Candidate → ℕ → ℕ → ℕ → Bool
is_off c place offset address = place == c.place && not (same_number c offset address)

-- A value is refused where it contradicts an earlier one; for an outside name besides where no global symbol has both;
-- for an interior of the own section where the address doesn't stand for the same number. For texts, and for the
-- interiors of other sections, nothing is asked here.
abbrev pub is_refused : Candidate → List Found → Goal → ℕ → Bool
is_refused c before (Text place offset text) value = false
is_refused c before (Inside place offset) value = is_off c place offset (interior_address value offset)
is_refused c before (Outside name) value =
    contradicts before (Outside name) value || not (is_listed c.symbols name value)
is_refused c before (Entry place) value = contradicts before (Entry place) value
is_refused c before (Variable place) value = contradicts before (Variable place) value
is_refused c before (Constant place) value = contradicts before (Constant place) value

abbrev pub section_stands : Candidate → ℕ → Option NormalSection → Bool
section_stands c base None = false
section_stands c base (Some section) =
    stand_but_for_fields c.contents.pieces base section.refs section.bytes (length section.bytes)

-- A text stands at its value, with its zero, and so do the bytes of a read-only section outside its fields.
abbrev pub is_absent : Candidate → Goal → ℕ → Bool
is_absent c (Text place offset text) value = not (stand_at c.contents.pieces value text (length text))
is_absent c (Constant place) value = not (section_stands c value (slice_get c.object place))
is_absent c (Entry place) value = false
is_absent c (Inside place offset) value = false
is_absent c (Variable place) value = false
is_absent c (Outside name) value = false

abbrev pub verdict_on : Candidate → List Found → Goal → ℕ → Verdict
verdict_on c before goal value =
    if is_refused c before goal value then Refused else if is_absent c goal value then Absent else Holds

abbrev pub judged : Candidate → Bool → List Found → Given → Found
judged c own before g =
    record { goal = g.goal; value = g.value; own = own; verdict = verdict_on c before g.goal g.value }

abbrev pub section_lies : Candidate → ℕ → Option NormalSection → Bool
section_lies c base None = false
section_lies c base (Some section) = lie_in_constants c.contents.pieces base (length section.bytes)

-- what a field of a read-only section gives that lies at a base
abbrev pub given_in_constant : Candidate → ℕ → Ref → Given
given_in_constant c base r = given_by c.object r (dword_at c.contents.pieces (base + r.offset))

-- what all of them give, where the whole section lies in read-only memory
abbrev pub given_there : Candidate → ℕ → Option NormalSection → List Given
given_there c base None = []
given_there c base (Some section) =
    if lie_in_constants c.contents.pieces base (length section.bytes) then map (given_in_constant c base) section.refs
    else []

-- what a value gives besides itself: the fields of a read-only section, where it is the first for that section
abbrev pub opened_by : Candidate → List Found → Goal → ℕ → List Given
opened_by c before (Constant place) base =
    if is_some (first_value before (Constant place)) then [] else given_there c base (slice_get c.object place)
opened_by c before (Entry place) value = []
opened_by c before (Inside place offset) value = []
opened_by c before (Variable place) value = []
opened_by c before (Outside name) value = []
opened_by c before (Text place offset text) value = []

-- what is found by some fields one after another, by what is found by one
unfoldable pub found_by_all : (List Found → Given → List Found) → List Found → List Given → List Found
found_by_all found_by before [] = []
found_by_all found_by before (g ∷ gs) = found_by before g ++ found_by_all found_by (before ++ found_by before g) gs

-- What is found by a field: its value, and then what that opens, each with what it opens itself. Along such a chain
-- each section is opened once, so that the number of sections bounds its length.
unfoldable pub found_by : ℕ → Candidate → Bool → List Found → Given → List Found
found_by zero c own before g = judged c own before g ∷ []
found_by (suc n) c own before g =
    judged c own before g
    ∷ found_by_all (found_by n c false) (before ++ judged c own before g ∷ []) (opened_by c before g.goal g.value)

-- the S + A of a reference of an instruction: of a branch it is four less than its target, otherwise it stands in the
-- running instruction's field
abbrev pub held_with : Option Branch → Pair → Ref → ℕ
held_with None pair r = dword_in pair.run.bytes (offset_in (field_for pair.pre r pair.run.decoded.fields))
held_with (Some branch) pair r = minus (target_of pair.run) 4

abbrev pub given_in_pair : Candidate → Pair → Ref → Given
given_in_pair c pair r = given_by c.object r (held_with (direct_branch pair.pre) pair r)

-- what is found by the fields of a pair
abbrev pub found_in : Candidate → List Found → Pair → List Found
found_in c before pair =
    found_by_all (found_by (length c.object) c true) before (map (given_in_pair c pair) pair.pre.references)

-- a candidate's home, as if a reference to the section's entry stood before all others
abbrev pub own_home : Candidate → Found
own_home c = record { goal = Entry c.place; value = c.home; own = true; verdict = Holds }

-- all that is found by some pairs, after what was found before
unfoldable pub found_from : Candidate → List Found → List Pair → List Found
found_from c before [] = before
found_from c before (pair ∷ pairs) = found_from c (before ++ found_in c before pair) pairs

-- all that is found
abbrev pub all_found : Candidate → List Found
all_found c = found_from c (own_home c ∷ []) (pairs c)
