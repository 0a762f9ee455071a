-- Each field of an update's new sections has an address.
use Rattle.std.specs.Prelude.{◌≡◌, ℕ, List, map, IsSome, Ok}
use Rattle.std.specs.List.{All}
use Rattle.ks_base.specs.declared.places.Range.{Range}
use Rattle.i386_reloc.specs.declared.types.NormalSection.{NormalSection}
use Rattle.i386_reloc.specs.Sections.{sections_of}
use Rattle.extract_post.specs.declared.types.Extract.{Extract}
use Rattle.extract_post.specs.Extracted.{extracted}
use Rattle.symbol_solve.specs.Candidates.{Running}
use Rattle.symbol_solve.specs.Solve.{solved}
use Rattle.link_post.specs.declared.types.Placed.{Placed}
use Rattle.link_post.specs.Values.{ValueList, resolved}
use Rattle.link_post.specs.Places.{base_in, placed}
use Rattle.link_post.specs.Linked.{target_address}
use Rattle.update_pieces.specs.Parts.{NewPart, size_of}
use Rattle.update_plan.specs.Placing.{parts_of, names_of}

-- What the steps of a plan come to, where none is refused: the sections of both objects, their difference, the old
-- object's values in the running program, the values of what the new sections refer to, and their places.
pub record AreSteps (running : Running) (gaps : List Range) (pre_file post_file : List ℕ) : Type 0 where
  pub pre : List NormalSection
  pub post : List NormalSection
  pub extract : Extract
  pub found : ValueList
  pub values : ValueList
  pub placement : List Placed
  pub pre_is : sections_of pre_file ≡ Ok pre
  pub post_is : sections_of post_file ≡ Ok post
  pub extract_is : extracted pre post ≡ Ok extract
  pub found_is : solved pre running.bodies running.contents running.symbols ≡ Ok found
  pub values_is : resolved pre post running.symbols (names_of (parts_of extract post)) found ≡ Ok values
  pub placement_is : placed (map size_of (parts_of extract post)) gaps ≡ Ok placement

-- A new section has a place, and what each of its references goes to has an address. So no field holds the 0 that
-- stands for what has none, and no field is counted from it.
pub record HasAddresses (post : List NormalSection) (placement : List Placed) (values : ValueList) (part : NewPart)
    : Type 0 where
  pub base : IsSome (base_in placement part.section.name)
  pub fields : All (λ r. IsSome (target_address post placement values r r.target)) part.section.refs
