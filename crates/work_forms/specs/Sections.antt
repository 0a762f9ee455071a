-- The sections of a work's objects, as they are compared: function i is the code section `.text.fI`, which adds the
-- function's constant and, unless the function is the last, calls the next one.
use Rattle.std.specs.Prelude.{ℕ, ◌+◌, true, if◌then◌else◌, List, [], ◌∷◌, map, length, Some}
use Rattle.i386_reloc.specs.declared.types.Class.TheVariants.{Code}
use Rattle.i386_reloc.specs.declared.types.Form.TheVariants.{Relative}
use Rattle.i386_reloc.specs.declared.types.Target.TheVariants.{Section}
use Rattle.i386_reloc.specs.declared.types.Ref.{Ref}
use Rattle.i386_reloc.specs.declared.types.NormalSection.{NormalSection}
use Rattle.work_gen.specs.Functions.{functions, function_name, calls_next, function_code}
use Rattle.work_gen.specs.Objects.{section_name}

-- The call of the function behind function i: a field at offset 6, relative, to the start of its section, less 4 (as a
-- displacement is counted from the field's end).
abbrev pub call_of : ℕ → Ref
call_of i = record { offset = 6; form = Relative; target = Section (section_name (i + 1)); addend = 0xFFFF_FFFC }

abbrev pub calls_of : (count i : ℕ) → List Ref
calls_of count i = if calls_next count i then call_of i ∷ [] else []

-- the section of function i, with zeros in the call's field
abbrev pub section_of : (count : ℕ) → (constants : ℕ → ℕ) → (i : ℕ) → NormalSection
section_of count constants i =
    record {
      name = section_name i;
      class = Code;
      function = Some (function_name i);
      global = true;
      align = 16;
      size = length (function_code (calls_next count i) 0 (constants i));
      bytes = function_code (calls_next count i) 0 (constants i);
      refs = calls_of count i;
      objects = [];
    }

-- the sections of an object of so many functions that add such constants
unfoldable pub work_sections : (count : ℕ) → (constants : ℕ → ℕ) → List NormalSection
work_sections count constants = map (section_of count constants) (functions count)
