-- What an update would do to a running program, or why it is refused: all refusals but those of the update's name and
-- of the threads.
use Rattle.std.specs.Prelude.{ℕ, List, [], map, Option, Some, None, Result, Ok, Err}
use Rattle.std.specs.List.{filter}
use Rattle.ks_base.specs.declared.places.Range.{Range}
use Rattle.ks_base.specs.declared.refusals.Refusal.{Refusal}
use Rattle.image_file.specs.Fields.{◌>>=◌}
use Rattle.image_memory.specs.declared.types.Fence.{Fence}
use Rattle.image_memory.specs.Contents.{Contents, spliced_at}
use Rattle.symbol_table.specs.declared.symbols.Symbol.{Symbol}
use Rattle.i386_reloc.specs.declared.types.NormalSection.{NormalSection}
use Rattle.i386_reloc.specs.Sections.{sections_of}
use Rattle.extract_post.specs.Extracted.{extracted}
use Rattle.symbol_solve.specs.Candidates.{Running}
use Rattle.symbol_solve.specs.Solve.{solved}
use Rattle.link_post.specs.declared.types.Placed.{Placed}
use Rattle.link_post.specs.Values.{ValueList, resolved}
use Rattle.link_post.specs.Places.{placed}
use Rattle.link_post.specs.Needs.{needs}
use Rattle.update_retired.specs.declared.types.OldFunction.{OldFunction}
use Rattle.update_retired.specs.Retired.{is_retired, retired_range, takes_jump, guarded}
use Rattle.update_retired.specs.Overlaps.{code_refusal}
use Rattle.update_pieces.specs.Parts.{NewPart, size_of}
use Rattle.update_pieces.specs.Pieces.{new_pieces}
use Rattle.update_pieces.specs.NewSymbols.{new_symbols}
use Rattle.update_pieces.specs.Reports.{report_of}
use Rattle.update_plan.specs.declared.types.Plan.{Plan}
use Rattle.update_plan.specs.Hooks.{hooks_of}
use Rattle.update_plan.specs.Olds.{olds_of}
use Rattle.update_plan.specs.Placing.{parts_of, names_of}

-- a running program in which nothing was replaced
abbrev pub untouched : Contents → List Symbol → Running
untouched contents symbols = record { contents = contents; bodies = []; symbols = symbols }

-- x, unless something is refused
abbrev pub unless : {X : Type 0} → Option Refusal → X → Result X Refusal
unless None x = Ok x
unless (Some refusal) x = Err refusal

-- what is retired of a function, and whether the jump is written at its low
abbrev pub fence_of : OldFunction → Fence
fence_of old = record { range = retired_range old; jump = takes_jump old }

abbrev pub fences_of : List OldFunction → List Fence
fences_of olds = map fence_of (filter (λ old. is_retired old.fate) olds)

-- the plan of new sections at their places, and of the functions of the old object
abbrev pub plan_of : Running → (pre post : List NormalSection) → ValueList → List OldFunction → List NewPart
    → List Placed → Plan
plan_of running pre post values olds parts placement =
    record {
      report = report_of parts placement olds;
      pieces = new_pieces post parts placement values;
      symbols = new_symbols parts placement;
      fences = fences_of olds;
      guarded = guarded (spliced_at running.contents.fences) olds;
      needs = map (needs post placement values) (names_of parts);
      hooks = hooks_of pre post placement values;
    }

-- The first refusal, in this order: what is wrong with the old object's file, then with the new one's; what can't be
-- changed between them; why the old object has no one reading in the running program; a name or data that the new
-- sections refer to without a value; no room for a jump, or code that overlaps; no place among the gaps. Otherwise the
-- plan.
unfoldable pub planned : Running → (retired gaps : List Range) → (pre_file post_file : List ℕ) → Result Plan Refusal
planned running retired gaps pre_file post_file = do
  pre ← sections_of pre_file
  post ← sections_of post_file
  extract ← extracted pre post
  found ← solved pre running.bodies running.contents running.symbols
  values ← resolved pre post running.symbols (names_of (parts_of extract post)) found
  olds ← unless
      (code_refusal running.contents running.symbols retired (olds_of extract found pre)) (olds_of extract found pre)
  placement ← placed (map size_of (parts_of extract post)) gaps
  Ok (plan_of running pre post values olds (parts_of extract post) placement)
