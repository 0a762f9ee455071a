-- What stands for a replaced function of a report: a changed section of the new object, and the old function of that
-- section's name, whose place it takes.
use Rattle.std.specs.Prelude.{◌≡◌, List, Some}
use Rattle.std.specs.List.{Contains}
use Rattle.ks_base.specs.declared.reports.Replaced.{Replaced}
use Rattle.i386_reloc.specs.declared.types.NormalSection.{NormalSection}
use Rattle.link_post.specs.declared.types.Placed.{Placed}
use Rattle.link_post.specs.Values.{ValueList}
use Rattle.link_post.specs.Linked.{linked}
use Rattle.extract_post.specs.declared.role.Role.TheVariants.{Changed}
use Rattle.update_retired.specs.declared.types.OldFunction.{OldFunction}
use Rattle.update_pieces.specs.Parts.{NewPart, AtPlace, at_places}
use Rattle.link_post.specs.Sections.{kind_of_class}
use Rattle.update_pieces.specs.Pieces.{new_pieces}
use Rattle.update_pieces.specs.Reports.{old_named}

-- A replaced function is the old function of a changed section's name, and goes on at the base at which that section is
-- placed. There a piece of the update begins, with the section's linked bytes.
pub record HasNewText (post : List NormalSection) (parts : List NewPart) (placement : List Placed) (values : ValueList)
    (olds : List OldFunction) (replaced : Replaced) : Type 0 where
  pub part : AtPlace
  pub old : OldFunction
  pub listed : Contains (at_places parts placement) part
  pub changed : part.role ≡ Changed
  pub named : old_named olds part.section.name ≡ Some old
  pub function : replaced.function ≡ old.function
  pub home : replaced.home ≡ old.home
  pub length : replaced.length ≡ old.length
  pub base : replaced.base ≡ part.base
  pub text : Contains (new_pieces post parts placement values) (record {
    kind = kind_of_class part.section.class;
    base = replaced.base;
    bytes = linked post placement values part.section.name;
  })
