-- The new code of a function that an update replaces: what stands where the report says that the function goes on.
use Rattle.std.specs.Prelude.{◌≡◌, ℕ, List, Some}
use Rattle.std.specs.List.{All, Contains}
use Rattle.ks_base.specs.declared.places.Range.{Range}
use Rattle.ks_base.specs.declared.reports.Replaced.{Replaced}
use Rattle.image_memory.specs.declared.types.Kind.TheVariants as kinds
use Rattle.image_memory.specs.declared.types.Piece.{Piece}
use Rattle.symbol_table.specs.declared.values.Unknown.TheVariants as unknown
use Rattle.symbol_table.specs.declared.values.Solved.TheVariants.{Body}
use Rattle.i386_reloc.specs.declared.types.Class.TheVariants.{Code}
use Rattle.i386_reloc.specs.declared.types.NormalSection.{NormalSection}
use Rattle.i386_reloc.specs.Normal.{section_named, function_name}
use Rattle.extract_post.specs.declared.role.Role.TheVariants.{Changed}
use Rattle.extract_post.specs.Roles.{role_of}
use Rattle.symbol_solve.specs.Candidates.{Running}
use Rattle.link_post.specs.declared.types.Placed.{Placed}
use Rattle.link_post.specs.Values.{ValueList, solved_as}
use Rattle.link_post.specs.Places.{base_in}
use Rattle.link_post.specs.Linked.{linked}
use Rattle.update_plan.specs.declared.types.Plan.{Plan}
use Rattle.update_plan.specs.Addresses.{AreSteps}

-- a piece of code at an address: the linked bytes of the section of a name
abbrev pub linked_code : List NormalSection → List Placed → ValueList → List ℕ → ℕ → Piece
linked_code post placement values name base =
    record { kind = kinds.Code; base = base; bytes = linked post placement values name }

-- Two sections of one name stand for a replaced function. That of the old object is the function as the report names
-- it, which was found to run, with the report's home and length. That of the new object is changed code, whose place is
-- the report's base; there a piece begins with its linked bytes.
pub record HasNewCode (running : Running) (gaps : List Range) (pre_file post_file : List ℕ)
    (steps : AreSteps running gaps pre_file post_file) (pieces : List Piece) (replaced : Replaced) : Type 0 where
  pub old : NormalSection
  pub new : NormalSection
  pub old_is : section_named steps.pre new.name ≡ Some old
  pub new_is : section_named steps.post new.name ≡ Some new
  pub function : replaced.function ≡ function_name old
  pub ran_at : ℕ
  pub found : solved_as steps.found (unknown.Code new.name) ≡ Some (Body replaced.home ran_at replaced.length)
  pub changed : role_of steps.extract new.name ≡ Some Changed
  pub code : new.class ≡ Code
  pub placed : base_in steps.placement new.name ≡ Some replaced.base
  pub stands : Contains pieces (linked_code steps.post steps.placement steps.values new.name replaced.base)

-- The steps of a plan, and for each function that it replaces the new code among its pieces.
pub record BringsNewCode (running : Running) (gaps : List Range) (pre_file post_file : List ℕ) (plan : Plan)
    : Type 0 where
  pub steps : AreSteps running gaps pre_file post_file
  pub each : All (HasNewCode running gaps pre_file post_file steps plan.pieces) plan.report.replaced
