-- The functions of the running program that a code section of an object may be.
use Rattle.std.specs.Prelude.{ℕ, suc, Bool, true, false, not, ◌==◌, if◌then◌else◌, List, [], ◌∷◌, map, Result, Ok, Err}
use Rattle.std.specs.List.{filter, flat_map}
use Rattle.i386_reloc.specs.declared.types.NormalSection.{NormalSection}
use Rattle.i386_reloc.specs.Classes.{is_code_class}
use Rattle.i386_reloc.specs.Normal.{function_name}
use Rattle.image_memory.specs.Contents.{Contents}
use Rattle.image_memory.specs.Fetch.{View, Unmapped, AtHome, Stray, Bytes, view_at}
use Rattle.symbol_table.specs.declared.symbols.Symbol.{Symbol}
use Rattle.symbol_table.specs.Symbols.{function_addresses}
use Rattle.symbol_table.specs.Bodies.{newest}
use Rattle.run_pre_match.specs.declared.types.MatchFault.{MatchFault}
use Rattle.run_pre_match.specs.Candidate.{Candidate}
use Rattle.run_pre_match.specs.Matched.{PreSection, candidate, outcome}

-- What an object is solved in: memory, the symbols, and the newest base of each home that has one.
pub record Running : Type 0 where
  pub contents : Contents
  pub symbols : List Symbol
  pub bodies : List (ℕ × ℕ)

-- the code sections among some that begin at a place of an object
unfoldable pub code_from : List NormalSection → ℕ → List NormalSection → List PreSection
code_from object place [] = []
code_from object place (section ∷ sections) =
    if is_code_class section.class
    then record { object = object; place = place; section = section } ∷ code_from object (suc place) sections
    else code_from object (suc place) sections

-- the code sections of an object, in order
abbrev pub code_sections : List NormalSection → List PreSection
code_sections object = code_from object 0 object

abbrev pub is_stray : View → Bool
is_stray Unmapped = false
is_stray AtHome = false
is_stray Stray = true
is_stray (Bytes bytes) = false

-- whether a range is retired at the newest base of a home, and no jump stands there
abbrev pub is_gone : Running → ℕ → Bool
is_gone running home = is_stray (view_at running.contents (newest running.bodies home))

-- the distinct addresses of function symbols of the section's function name, ascending, but for those at whose newest
-- base a range is retired
abbrev pub homes_of : Running → PreSection → List ℕ
homes_of running pre =
    filter (λ home. not (is_gone running home)) (function_addresses running.symbols (function_name pre.section))

abbrev pub candidate_at : Running → PreSection → ℕ → Candidate
candidate_at running pre home = candidate pre running.contents running.symbols home (newest running.bodies home)

-- the candidates of a section, by home, and those of all code sections, in section order
abbrev pub candidates_of : Running → PreSection → List Candidate
candidates_of running pre = map (candidate_at running pre) (homes_of running pre)

unfoldable pub candidates : Running → List NormalSection → List Candidate
candidates running object = flat_map (candidates_of running) (code_sections object)

-- whether a candidate is one of the section at a place
abbrev pub is_of : ℕ → Candidate → Bool
is_of place c = c.place == place

abbrev pub is_match : {X : Type 0} → Result X MatchFault → Bool
is_match (Ok found) = true
is_match (Err fault) = false

-- whether a candidate matches by itself
abbrev pub matches : Candidate → Bool
matches c = is_match (outcome c)
