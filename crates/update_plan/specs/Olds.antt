-- The functions of the old object of an update, as they run, and what the update does with each.
use Rattle.std.specs.Prelude.{ℕ, Bool, if◌then◌else◌, List, [], ◌∷◌, Option, Some, None}
use Rattle.std.specs.List.{flat_map, filter}
use Rattle.symbol_table.specs.declared.values.Unknown.TheVariants as unknown
use Rattle.symbol_table.specs.declared.values.Solved.{Solved}
use Rattle.symbol_table.specs.declared.values.Solved.TheVariants.{Body, Address}
use Rattle.i386_reloc.specs.declared.types.NormalSection.{NormalSection}
use Rattle.i386_reloc.specs.Classes.{is_code_class}
use Rattle.i386_reloc.specs.Normal.{function_name}
use Rattle.extract_post.specs.declared.types.Extract.{Extract}
use Rattle.extract_post.specs.Roles.{is_among}
use Rattle.link_post.specs.Values.{ValueList, solved_as}
use Rattle.update_retired.specs.declared.types.Fate.{Fate}
use Rattle.update_retired.specs.declared.types.Fate.TheVariants.{Kept, Replaced, Dropped}
use Rattle.update_retired.specs.declared.types.OldFunction.{OldFunction}

-- what an update does with the function that is the section of a name of its old object
abbrev pub fate_of : Extract → List ℕ → Fate
fate_of extract name =
    if is_among extract.changed name then Replaced
    else (if is_among extract.dropped name then Dropped else Kept)

-- a section that has a body in the running program, as that function; a section of data is none
abbrev pub old_as : Extract → NormalSection → Option Solved → List OldFunction
old_as extract section (Some (Body home base length)) =
    record {
      section = section.name;
      function = function_name section;
      home = home;
      base = base;
      length = length;
      fate = fate_of extract section.name;
    } ∷ []
old_as extract section (Some (Address address)) = []
old_as extract section None = []

abbrev pub old_in : Extract → ValueList → NormalSection → List OldFunction
old_in extract values section = old_as extract section (solved_as values (unknown.Code section.name))

abbrev pub is_function : NormalSection → Bool
is_function section = is_code_class section.class

-- the functions in the order of the old object's sections
unfoldable pub olds_of : Extract → ValueList → List NormalSection → List OldFunction
olds_of extract values pre = flat_map (old_in extract values) (filter is_function pre)
