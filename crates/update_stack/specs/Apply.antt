-- The update rule: the refusals in their order, and otherwise the machine with the new version of each changed
-- function.
use Rattle.std.specs.Prelude.{◌≡◌, ℕ, Bool, nat_le, List, [], ◌∷◌, ◌++◌, map, length, Option, Result, Ok}
use Rattle.std.specs.List.{fold, flat_map, list_any}
use Rattle.ks_base.specs.declared.places.Range.{Range}
use Rattle.ks_base.specs.declared.refusals.Refusal.{Refusal}
use Rattle.ks_base.specs.declared.refusals.Refusal.TheVariants.{TooMany, NameTaken}
use Rattle.ks_base.specs.declared.reports.Report.{Report}
use Rattle.i386_reloc.specs.Below.{first_of}
use Rattle.i386_reloc.specs.Normal.{same_bytes}
use Rattle.i386_reloc.specs.Refused.{refused_where}
use Rattle.image_file.specs.Fields.{◌>>=◌}
use Rattle.image_memory.specs.declared.types.Piece.{Piece}
use Rattle.image_memory.specs.Contents.{piece_range, fence_range}
use Rattle.image_memory.specs.Changes.{with_piece}
use Rattle.update_memory.specs.Retired.{with_ranges}
use Rattle.symbol_solve.specs.Candidates.{Running}
use Rattle.link_post.specs.Places.{unless_empty, without}
use Rattle.stack_scan.specs.Standing.{thread_refusal}
use Rattle.update_plan.specs.declared.types.Plan.{Plan}
use Rattle.update_plan.specs.Plan.{planned, unless}
use Rattle.update_stack.specs.AbstractMachine.{AbstractMachine, Update, with_replaced, bodies_in, contents_of}

-- so many updates may be live
abbrev pub most_updates : ℕ
most_updates = 64

abbrev pub has_name : List ℕ → Update → Bool
has_name name update = same_bytes update.name name

-- as many updates are live as may be; or a live one has the name
unfoldable pub name_refusal : AbstractMachine → List ℕ → Option Refusal
name_refusal k name =
    first_of (refused_where (nat_le most_updates (length k.updates)) TooMany)
    (refused_where (list_any (has_name name) k.updates) (NameTaken name))

-- the running program that functions are looked for in
abbrev pub running_of : AbstractMachine → Running
running_of k = record { contents = contents_of k; bodies = bodies_in k.table; symbols = k.symbols }

-- the ranges that live updates retired, those of the oldest first
abbrev pub retired_of : AbstractMachine → List Range
retired_of k = flat_map (λ update. update.retired) k.updates

-- what is free of the arena
abbrev pub gaps_of : AbstractMachine → List Range
gaps_of k = fold without (unless_empty k.arena) (map piece_range k.pieces)

unfoldable pub planned_in : AbstractMachine → (name pre_file post_file : List ℕ) → Result Plan Refusal
planned_in k name pre_file post_file = do
  free ← unless (name_refusal k name) k
  planned (running_of free) (retired_of free) (gaps_of free) pre_file post_file

-- a plan is what the machine has for an update of a name from some object file to another
pub record IsPlanned (k : AbstractMachine) (name : List ℕ) (plan : Plan) : Type 0 where
  pub pre_file : List ℕ
  pub post_file : List ℕ
  pub is : planned_in k name pre_file post_file ≡ Ok plan

-- the update, as the machine keeps it
abbrev pub update_as : List ℕ → Plan → Update
update_as name plan =
    record {
      name = name;
      report = plan.report;
      pieces = map (λ (piece : Piece). piece.base) plan.pieces;
      retired = map fence_range plan.fences;
      symbols = plan.symbols;
      needs = plan.needs;
    }

abbrev pub with_new_piece : List Piece → Piece → List Piece
with_new_piece pieces piece = with_piece piece pieces

-- The machine after an update of a name: its pieces are added, each changed function's new base is appended to its
-- home's row, what it replaces or drops is retired, its symbols are added, and it is the newest update.
unfoldable pub committed : AbstractMachine → List ℕ → Plan → AbstractMachine
committed k name plan = record k {
  pieces = fold with_new_piece k.pieces plan.pieces;
  table = fold with_replaced k.table plan.report.replaced;
  retired = with_ranges k.retired (map fence_range plan.fences);
  symbols = k.symbols ++ plan.symbols;
  updates = k.updates ++ update_as name plan ∷ [];
}

-- The plan of an update of a name from one object file to another, or the first refusal: that of the name, then the
-- plan's, and then that of the threads.
unfoldable pub accepted : AbstractMachine → (name pre_file post_file : List ℕ) → Result Plan Refusal
accepted k name pre_file post_file = do
  plan ← planned_in k name pre_file post_file
  unless (thread_refusal k.pieces plan.guarded k.threads) plan

-- The machine after that update, and its report.
unfoldable pub applied : AbstractMachine → (name pre_file post_file : List ℕ)
    → Result (AbstractMachine × Report) Refusal
applied k name pre_file post_file = do
  plan ← accepted k name pre_file post_file
  Ok (committed k name plan, plan.report)
