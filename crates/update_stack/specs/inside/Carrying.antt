-- What is kept of a plan that is carried out.
use Rattle.std.specs.Prelude.{◌≡◌, ℕ, ◌+◌, ◌≤◌, ◌^◌, List, [], ◌∷◌, ◌++◌, map, length, replicate}
use Rattle.std.specs.List.{All, filter}
use Rattle.std.specs.List.Sorted.{IsPermutation, IsNonDecreasingBy}
use Rattle.ks_base.specs.declared.reports.Replaced.{Replaced}
use Rattle.ks_base.specs.declared.reports.Report.{Report}
use Rattle.image_memory.specs.declared.types.Piece.{Piece}
use Rattle.image_memory.specs.Contents.{Contents, piece_range, fence_range}
use Rattle.image_memory.specs.Fetch.{HasCode}
use Rattle.splice_jump.specs.Jumps.{jumped_memory, olds_at}
use Rattle.update_memory.specs.declared.types.Jump.{Jump}
use Rattle.update_memory.specs.Added.{AreAddable, with_pieces}
use Rattle.update_memory.specs.Retired.{AreRetirable, with_fences}
use Rattle.update_memory.specs.Rows.{rows_of, olds_of}
use Rattle.image_threads.specs.Program.{Program}
use Rattle.update_plan.specs.declared.types.Plan.{Plan}
use Rattle.update_stack.specs.declared.updates.Arena.{Arena}
use Rattle.update_stack.specs.declared.updates.Update.{Update as Shown}
use Rattle.update_stack.specs.declared.updates.Kept.{Kept}
use Rattle.update_stack.specs.declared.updates.Prepared.{Prepared}
use Rattle.update_stack.specs.AbstractMachine.{is_text, jump_rows}
use Rattle.update_stack.specs.StandsFor.{seen}
use Rattle.update_stack.specs.Systems.{Holds, machine_of}
use Rattle.update_stack.specs.Apply.{committed}

-- where a piece begins
abbrev pub base_of_piece : Piece → ℕ
base_of_piece piece = piece.base

-- the jump of a replaced function, before the code at its home is noted
abbrev pub bare_jump : Replaced → Jump
bare_jump one = record { home = one.home; base = one.base; old = replicate 5 0 }

-- the jump at a home ends at an address of 32 bits
abbrev pub EndsLow : Replaced → Type 0
EndsLow one = one.home + 5 ≤ 2 ^ 32

pub record IsKeptOf (plan : Plan) (jumps : List Jump) (kept : Kept) : Type 0 where
  pub pieces : kept.pieces ≡ map base_of_piece plan.pieces
  pub retired : kept.retired ≡ map fence_range plan.fences
  pub symbols : kept.symbols ≡ plan.symbols
  pub needs : kept.needs ≡ plan.needs
  pub jumps_kept : kept.jumps ≡ jumps
  pub ranges : IsPermutation (map piece_range plan.pieces) kept.ranges
  pub code_ranges : IsPermutation (map piece_range (filter is_text plan.pieces)) kept.code_ranges
  pub order : IsNonDecreasingBy (λ range. range.low) kept.ranges
  pub code_order : IsNonDecreasingBy (λ range. range.low) kept.code_ranges
  pub count : kept.symbol_count ≡ length plan.symbols

-- A program after a plan was carried out: its pieces were added, its ranges retired, its jumps written, each over the
-- code that was noted, and its symbols added.
pub record IsCarriedOut (before after : Program) (plan : Plan) (jumps : List Jump) : Type 0 where
  pub seen_after : seen after ≡ record (seen before) {
    contents = jumped_memory (rows_of jumps) (with_fences (with_pieces before.contents plan.pieces) plan.fences);
    symbols = before.table.symbols ++ plan.symbols;
  }
  pub rows : rows_of jumps ≡ jump_rows plan.report.replaced
  pub olds : olds_of jumps ≡ olds_at before.contents.pieces (jump_rows plan.report.replaced)

-- a jump has five bytes of code at its home
abbrev pub HasHomeCode : List Piece → Jump → Type 0
HasHomeCode pieces jump = HasCode pieces jump.home 5

-- what the change of a program asks for, of a plan and its jumps
pub record FitsIn (contents : Contents) (plan : Plan) (jumps : List Jump) : Type 0 where
  pub addable : AreAddable contents plan.pieces
  pub retirable : AreRetirable (with_pieces contents plan.pieces) plan.fences
  pub code : All (HasHomeCode (with_fences (with_pieces contents plan.pieces) plan.fences).pieces) jumps

-- the update of a plan, as it is shown
abbrev pub shown_as : List ℕ → Report → Shown
shown_as name report = record { name = name; report = report }

-- what is made of a plan before it is carried out, in a memory
pub record IsPrepared (contents : Contents) (name : List ℕ) (plan : Plan) (prepared : Prepared) : Type 0 where
  pub shown : prepared.update ≡ shown_as name plan.report
  pub kept_of_plan : IsKeptOf plan prepared.jumps prepared.kept
  pub rows : rows_of prepared.jumps ≡ jump_rows plan.report.replaced
  pub olds : olds_of prepared.jumps ≡ olds_at contents.pieces (jump_rows plan.report.replaced)

-- what comes of a plan that is carried out: the system holds, as the machine after the update
pub record HoldsAfter
    (before after : Program) (arena : Arena) (updates : List Shown) (kept : List Kept)
    (name : List ℕ) (plan : Plan) (one : Kept) : Type 0 where
  pub holds : Holds after arena (updates ++ shown_as name plan.report ∷ []) (kept ++ one ∷ [])
  pub same : machine_of after arena (updates ++ shown_as name plan.report ∷ []) (kept ++ one ∷ [])
      ≡ committed (machine_of before arena updates kept) name plan
