-- The difference between two objects: what becomes of each section of the second, and which functions go.
use Rattle.std.specs.Prelude.{ℕ, List, [], ◌∷◌, ◌++◌, codes, Option, Some, None}
use Rattle.std.specs.List.{flat_map}
use Rattle.ks_base.specs.Text.{shown_name}
use Rattle.i386_reloc.specs.declared.types.NormalSection.{NormalSection}
use Rattle.i386_reloc.specs.Normal.{section_named, function_name}
use Rattle.extract_post.specs.declared.types.Extract.{Extract}
use Rattle.extract_post.specs.declared.role.Role.{Role}
use Rattle.extract_post.specs.declared.role.Role.TheVariants.{Changed, Added, Carried, NewData}
use Rattle.extract_post.specs.Roles.{role_of}

-- the name of the function that a section is, where there is one
abbrev pub function_of : Option NormalSection → List ℕ
function_of None = []
function_of (Some section) = function_name section

-- a line: what becomes of a function or a section, and its name
abbrev pub verb_line : List ℕ → List ℕ → List ℕ
verb_line verb name = verb ++ shown_name name ++ 10 ∷ []

-- The line of a section of the second object, given the section of its name in the first. A changed function is called
-- as the first object calls it. A section of which nothing becomes has no line.
abbrev pub section_line : Option Role → Option NormalSection → NormalSection → List ℕ
section_line None old new = []
section_line (Some Changed) old new = verb_line (codes "changed ") (function_of old)
section_line (Some Added) old new = verb_line (codes "added ") (function_name new)
section_line (Some Carried) old new = verb_line (codes "carried ") new.name
section_line (Some NewData) old new = verb_line (codes "data ") new.name

abbrev pub line_in : (List ℕ → Option Role) → List NormalSection → NormalSection → List ℕ
line_in roles pre new = section_line (roles new.name) (section_named pre new.name) new

-- the line of a function of the first object that goes
abbrev pub dropped_line : List NormalSection → List ℕ → List ℕ
dropped_line pre name = verb_line (codes "dropped ") (function_of (section_named pre name))

-- The lines of the second object's sections in its order, and then those of the functions that go, in the first's
-- order; by what becomes of each section, and by an extract.
unfoldable pub listing_by : (List ℕ → Option Role) → List NormalSection → List NormalSection → List (List ℕ) → List ℕ
listing_by roles pre post dropped = flat_map (line_in roles pre) post ++ flat_map (dropped_line pre) dropped

unfoldable pub listing : List NormalSection → List NormalSection → Extract → List ℕ
listing pre post extract = listing_by (role_of extract) pre post extract.dropped
