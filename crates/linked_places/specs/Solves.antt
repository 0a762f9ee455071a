-- What linking is for matching: an object that was linked is found in the image where it was placed.
use Rattle.std.specs.Prelude.{◌≡◌, ◌≢◌, ℕ, true, List, [], ◌∷◌, map, Some, None, unwrap_or, Result, Ok, Err}
use Rattle.std.specs.List.{All, AllZip, Contains, list_all}
use Rattle.std.specs.Prelude.{◌<◌, slice_index}
use Rattle.ks_base.specs.declared.refusals.Refusal.{Refusal}
use Rattle.ks_base.specs.declared.refusals.Refusal.TheVariants.{Ambiguous}
use Rattle.i386_reloc.specs.declared.types.NormalSection.{NormalSection}
use Rattle.i386_reloc.specs.Normal.{function_name}
use Rattle.i386_reloc.specs.Sections.{sections_of}
use Rattle.image_memory.specs.Contents as memory
use Rattle.image_file.specs.Reading.{Contents}
use Rattle.symbol_table.specs.declared.values.Unknown.{Unknown}
use Rattle.symbol_table.specs.declared.values.Unknown.TheVariants.{Code, Data, Outside}
use Rattle.symbol_table.specs.declared.values.Solved.{Solved}
use Rattle.symbol_table.specs.declared.values.Solved.TheVariants.{Body, Address}
use Rattle.symbol_table.specs.Symbols.{global_addresses}
use Rattle.link_post.specs.declared.types.Placed.{Placed}
use Rattle.link_post.specs.Places.{base_in}
use Rattle.match_instructions.specs.PreCode.{pre_code}
use Rattle.run_pre_match.specs.Candidate.{Candidate}
use Rattle.run_pre_match.specs.Matched.{PreSection, candidate}
use Rattle.match_candidates.specs.Candidates.{Running, code_sections}
use Rattle.match_candidates.specs.OwnFaults.{first_undecoded}
use Rattle.symbol_solve.specs.Solve.{Value, values, solved}
use Rattle.symbol_solve.specs.Solution.{IsSolution}
use Rattle.image_link.specs.Places.{Laid, laid_out}
use Rattle.image_link.specs.Linked.{linked_image}
use Rattle.linked_code.specs.Standing.{stays_kept}

-- the memory of an image at its start, and the program that runs in it: nothing was replaced
abbrev pub memory_of : Contents → memory.Contents
memory_of image = record { pieces = image.pieces; fences = [] }

abbrev pub running : Contents → Running
running image = record { contents = memory_of image; symbols = image.symbols; bodies = [] }

-- where a code section was placed, and the section beside what runs there
abbrev pub base_of : List Placed → PreSection → ℕ
base_of places pre = unwrap_or (base_in places pre.section.name) 0

abbrev pub placed_candidate : Contents → List Placed → PreSection → Candidate
placed_candidate image places pre =
    candidate pre (memory_of image) image.symbols (base_of places pre) (base_of places pre)

-- the choice of each code section's own place
unfoldable pub own_choice : Contents → Laid → List Candidate
own_choice image laid = map (placed_candidate image laid.places) (code_sections laid.object)

-- each function has a name
abbrev pub IsNamed : PreSection → Type 0
IsNamed pre = function_name pre.section ≢ []

-- An instruction on which a reference stands is no padding once it is linked.
abbrev pub StaysKept : Contents → List Placed → PreSection → Type 0
StaysKept image places pre =
    list_all (stays_kept (memory_of image) (base_of places pre)) (pre_code pre.section) ≡ true

-- each byte of a file is below 256
abbrev pub IsOfBytes : List ℕ → Type 0
IsOfBytes file = (i : ℕ) → slice_index file i < 256

-- an object among those of some files that were linked, of which this is known
pub record CanBeFound
    (files : List (List ℕ)) (objects : List (List NormalSection)) (image : Contents) (laid : Laid) : Type 0 where
  pub bytes : All IsOfBytes files
  pub read : AllZip (λ file object. sections_of file ≡ Ok object) files objects
  pub linked : linked_image objects ≡ Ok image
  pub among : Contains (laid_out objects) laid
  pub named : All IsNamed (code_sections laid.object)
  pub decodes : first_undecoded laid.object ≡ None
  pub kept : All (StaysKept image laid.places) (code_sections laid.object)

-- The placement is a solution.
abbrev pub PlacesAreSolution : Type 0
PlacesAreSolution = (files : List (List ℕ)) (objects : List (List NormalSection)) (image : Contents) (laid : Laid) →
    CanBeFound files objects image laid → IsSolution (running image) laid.object (own_choice image laid)

-- A value is the place of its section, or the one address of the global symbols of an outside name.
abbrev pub IsPlaced : Contents → Laid → Unknown → Solved → Type 0
IsPlaced image laid (Code section) (Body home base size) =
    (base_in laid.places section ≡ Some home) × (base ≡ home)
IsPlaced image laid (Data section) (Address address) = base_in laid.places section ≡ Some address
IsPlaced image laid (Outside name) (Address address) = global_addresses image.symbols name ≡ address ∷ []
IsPlaced image laid unknown solved = ⊥

abbrev pub IsPlace : Contents → Laid → Value → Type 0
IsPlace image laid value = IsPlaced image laid value.0 value.1

-- The answer for the object: the values of its own choice, all of which are places; or that two candidates are left of
-- a section.
pub data AnswersPlaces (image : Contents) (laid : Laid) : Result (List Value) Refusal → Type 0 where
  AtPlaces : All (IsPlace image laid) (values (own_choice image laid)) →
      AnswersPlaces image laid (Ok (values (own_choice image laid)))
  Twins : (section : List ℕ) (a b : ℕ) → AnswersPlaces image laid (Err (Ambiguous section a b))

abbrev pub PlacesAreAnswered : Type 0
PlacesAreAnswered = (files : List (List ℕ)) (objects : List (List NormalSection)) (image : Contents) (laid : Laid) →
    CanBeFound files objects image laid →
    AnswersPlaces image laid (solved laid.object [] (memory_of image) image.symbols)
