-- What is left of a plan once the objects are read, once they are compared and the old one is matched, and once the
-- sections to place, their values and the old functions are known.
use Rattle.std.specs.Prelude.{List, map, Result, Ok}
use Rattle.ks_base.specs.declared.places.Range.{Range}
use Rattle.ks_base.specs.declared.refusals.Refusal.{Refusal}
use Rattle.image_file.specs.Fields.{◌>>=◌}
use Rattle.i386_reloc.specs.declared.types.NormalSection.{NormalSection}
use Rattle.extract_post.specs.declared.types.Extract.{Extract}
use Rattle.extract_post.specs.Extracted.{extracted}
use Rattle.symbol_solve.specs.Candidates.{Running}
use Rattle.symbol_solve.specs.Solve.{solved}
use Rattle.link_post.specs.Values.{ValueList, resolved}
use Rattle.link_post.specs.Places.{placed}
use Rattle.update_retired.specs.declared.types.OldFunction.{OldFunction}
use Rattle.update_retired.specs.Overlaps.{code_refusal}
use Rattle.update_pieces.specs.Parts.{NewPart, size_of}
use Rattle.update_plan.specs.declared.types.Plan.{Plan}
use Rattle.update_plan.specs.Olds.{olds_of}
use Rattle.update_plan.specs.Placing.{parts_of, names_of}
use Rattle.update_plan.specs.Plan.{plan_of, unless}

unfoldable pub planned_at : Running → (gaps : List Range) → (pre post : List NormalSection) → List NewPart → ValueList
    → List OldFunction → Result Plan Refusal
planned_at running gaps pre post parts values olds = do
  placement ← placed (map size_of parts) gaps
  Ok (plan_of running pre post values olds parts placement)

unfoldable pub planned_with : Running → (retired gaps : List Range) → (pre post : List NormalSection) → Extract
    → ValueList → Result Plan Refusal
planned_with running retired gaps pre post extract found = do
  values ← resolved pre post running.symbols (names_of (parts_of extract post)) found
  olds ← unless
      (code_refusal running.contents running.symbols retired (olds_of extract found pre)) (olds_of extract found pre)
  planned_at running gaps pre post (parts_of extract post) values olds

unfoldable pub planned_between : Running → (retired gaps : List Range) → (pre post : List NormalSection)
    → Result Plan Refusal
planned_between running retired gaps pre post = do
  extract ← extracted pre post
  found ← solved pre running.bodies running.contents running.symbols
  planned_with running retired gaps pre post extract found
