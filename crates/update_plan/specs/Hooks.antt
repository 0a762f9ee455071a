-- The functions that an update would run: those that the new object lists, each with its name and where it starts.
use Rattle.std.specs.Prelude.{ℕ, List, [], map, Option, Some, None, Result, Ok, Err}
use Rattle.std.specs.Option.{option_or}
use Rattle.i386_reloc.specs.declared.types.Target.{Target}
use Rattle.i386_reloc.specs.declared.types.Target.TheVariants.{Section, Outside, Text}
use Rattle.i386_reloc.specs.declared.types.Ref.{Ref}
use Rattle.i386_reloc.specs.declared.types.NormalSection.{NormalSection}
use Rattle.i386_reloc.specs.Normal.{section_named, function_name}
use Rattle.hook_list.specs.Listed.{listed}
use Rattle.link_post.specs.declared.types.Placed.{Placed}
use Rattle.link_post.specs.Values.{ValueList}
use Rattle.link_post.specs.Linked.{address_of}
use Rattle.update_plan.specs.declared.types.Hook.{Hook}

-- the function of a section, as the old object has it if it has that section, and else the new one
abbrev pub function_in : Option NormalSection → List ℕ
function_in None = []
function_in (Some section) = function_name section

abbrev pub function_at : (pre post : List NormalSection) → Target → List ℕ
function_at pre post (Section name) = function_in (option_or (section_named pre name) (section_named post name))
function_at pre post (Outside name) = []
function_at pre post (Text section offset text) = []

-- The function that a reference of the list goes to, and where that is: a function of the old object at its home, an
-- added one where it is placed.
abbrev pub hook_of : (pre post : List NormalSection) → List Placed → ValueList → Ref → Hook
hook_of pre post placement values r =
    record { function = function_at pre post r.target; address = address_of post placement values r }

-- the references of a list; none where there is no list, or a broken one
abbrev pub listed_or_none : Result (Option (List Ref)) ℕ → List Ref
listed_or_none (Err offset) = []
listed_or_none (Ok None) = []
listed_or_none (Ok (Some references)) = references

unfoldable pub hooks_of : (pre post : List NormalSection) → List Placed → ValueList → List Hook
hooks_of pre post placement values = map (hook_of pre post placement values) (listed_or_none (listed post))
