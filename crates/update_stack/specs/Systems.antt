-- A running system, seen as the abstract machine: the old code is put back over the jumps that its live updates wrote,
-- and what they replaced makes the table.
use Rattle.std.specs.Prelude.{◌≡◌, List, [], ◌∷◌, ◌++◌, map, length, None}
use Rattle.std.specs.List.{fold, flat_map, All}
use Rattle.ks_base.specs.declared.places.Range.{Range}
use Rattle.ks_base.specs.declared.reports.Replaced.{Replaced}
use Rattle.image_memory.specs.declared.types.Piece.{Piece}
use Rattle.image_memory.specs.Contents.{fence_range}
use Rattle.image_memory.specs.Fetch.{HasCode}
use Rattle.splice_jump.specs.declared.phase.Phase.{Phase}
use Rattle.splice_jump.specs.declared.phase.Phase.TheVariants.{Done}
use Rattle.splice_jump.specs.Jumps.{unjumped}
use Rattle.update_memory.specs.declared.types.Jump.{Jump}
use Rattle.update_memory.specs.Rows.{olds_of}
use Rattle.link_post.specs.Places.{unless_empty, without}
use Rattle.image_threads.specs.Program.{Program}
use Rattle.update_stack.specs.declared.updates.Arena.{Arena}
use Rattle.update_stack.specs.declared.updates.Update.{Update as Shown}
use Rattle.update_stack.specs.declared.updates.Kept.{Kept}
use Rattle.update_stack.specs.AbstractMachine.{AbstractMachine, Row, Update, with_replaced}
use Rattle.update_stack.specs.Phases.{StandsIn, IsOpenAt}
use Rattle.update_stack.specs.Scratch.{scratch_ranges}
use Rattle.update_stack.specs.Stacked.{IsBuilt, AreKept}

-- pieces with the old code of updates put back, that of the newest update first
abbrev pub text_of : List Kept → List Piece → List Piece
text_of [] pieces = pieces
text_of (kept ∷ later) pieces = unjumped (olds_of kept.jumps) (text_of later pieces)

-- the table that updates make
abbrev pub replaced_by : List Shown → List Replaced
replaced_by updates = flat_map (λ update. update.report.replaced) updates

abbrev pub table_of : List Shown → List Row
table_of updates = fold with_replaced [] (replaced_by updates)

-- an update with what is kept of it
abbrev pub live_update : Shown → Kept → Update
live_update update kept =
    record {
      name = update.name;
      report = update.report;
      pieces = kept.pieces;
      retired = kept.retired;
      symbols = kept.symbols;
      needs = kept.needs;
    }

abbrev pub live_updates : List Shown → List Kept → List Update
live_updates [] kept = []
live_updates (update ∷ updates) [] = []
live_updates (update ∷ updates) (one ∷ kept) = live_update update one ∷ live_updates updates kept

-- a program with its arena and its live updates, as the machine
abbrev pub machine_of : Program → Arena → List Shown → List Kept → AbstractMachine
machine_of program arena updates kept =
    record {
      pieces = text_of kept program.contents.pieces;
      table = table_of updates;
      retired = map fence_range program.contents.fences;
      symbols = program.table.symbols;
      stacks = program.stacks;
      arena = arena.range;
      scratch = arena.scratch;
      threads = program.threads;
      updates = live_updates updates kept;
    }

-- an arena in which nothing was placed, and that of a machine with its scratch piece; what is free of the first, and what
-- the scratch piece and the pieces of live updates leave of the second
abbrev pub bare : Range → Arena
bare range = record { range = range; scratch = None }

abbrev pub arena_of : AbstractMachine → Arena
arena_of k = record { range = k.arena; scratch = k.scratch }

abbrev pub gaps_in : Range → List Range
gaps_in arena = unless_empty arena

abbrev pub gaps_left : Arena → List Kept → List Range
gaps_left arena kept =
    fold without (gaps_in arena.range) (scratch_ranges arena.scratch ++ flat_map (λ one. one.ranges) kept)

-- the old bytes of a jump have their place in one piece of code
abbrev pub HasJumpCode : List Piece → Jump → Type 0
HasJumpCode pieces jump = HasCode pieces jump.home (length jump.old)

-- What holds of a system at every moment: its program stands for the machine, in the phase of its newest update, and
-- the home that is open then is that of this update; the machine's updates lie one upon the other; with each is kept
-- what taking it back needs; and the bytes that were kept have their place in code. The machine is the same in every
-- phase, since the newest update's old bytes are put back over whatever five stand at its home.
pub record HoldsIn (phase : Phase) (program : Program) (arena : Arena) (updates : List Shown) (kept : List Kept)
    : Type 0 where
  pub stands : StandsIn phase program (machine_of program arena updates kept)
  pub opened : IsOpenAt phase (machine_of program arena updates kept)
  pub built : IsBuilt (machine_of program arena updates kept)
  pub are_kept : AreKept (machine_of program arena updates kept) kept
  pub code : All (λ one. All (HasJumpCode program.contents.pieces) one.jumps) kept
  pub paired : length kept ≡ length updates

-- the same where no update is being written
abbrev pub Holds : Program → Arena → List Shown → List Kept → Type 0
Holds program arena updates kept = HoldsIn Done program arena updates kept
