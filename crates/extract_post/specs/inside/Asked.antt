-- Which sections are asked for.
use Rattle.std.specs.Prelude.{ℕ, Bool, not, ◌&&◌, List}
use Rattle.i386_reloc.specs.declared.types.Class.{Class}
use Rattle.i386_reloc.specs.declared.types.NormalSection.{NormalSection}
use Rattle.i386_reloc.specs.Classes.{is_code_class}
use Rattle.i386_reloc.specs.Normal.{section_named}
use Rattle.i386_reloc.specs.Reaches.{is_read_only_class, is_constant_class, is_data_class, is_in}
use Rattle.extract_post.specs.declared.types.Asked.{Asked}
use Rattle.extract_post.specs.declared.types.Asked.TheVariants.{Here, InBoth, Alone, OtherClass}
use Rattle.extract_post.specs.declared.types.Wanted.{Wanted}
use Rattle.extract_post.specs.declared.types.Wanted.TheVariants.{Code, Data, ReadOnly, Constant}
use Rattle.extract_post.specs.Members.{is_there, is_in_both}
use Rattle.extract_post.specs.Extract.{other_class}

abbrev pub is_wanted : Wanted → Class → Bool
is_wanted Code = is_code_class
is_wanted Data = is_data_class
is_wanted ReadOnly = is_read_only_class
is_wanted Constant = is_constant_class

-- whether the section of a name is asked for, in one of two objects
abbrev pub passes : Asked → (here there : List NormalSection) → List ℕ → Bool
passes (Here wanted) here there name = is_in (is_wanted wanted) here name
passes (InBoth wanted) here there name = is_in_both (is_wanted wanted) there here name
passes (Alone wanted) here there name = is_in (is_wanted wanted) here name && not (is_there there name)
passes OtherClass here there name = other_class (section_named there name) (section_named here name)
