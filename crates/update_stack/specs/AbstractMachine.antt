-- The abstract machine, whose code is never patched. A table says where the newest version of each replaced function
-- begins, and a thread that comes to the function's home goes on there; the text of every version stays as it was
-- placed.
use Rattle.std.specs.Prelude.{ℕ, ◌-◌, Bool, ◌==◌, if◌then◌else◌, List, [], ◌∷◌, ◌++◌, map, replicate, Option, None, unwrap_or}
use Rattle.std.specs.List.{list_any, last_or}
use Rattle.ks_base.specs.declared.places.Range.{Range}
use Rattle.ks_base.specs.declared.reports.Report.{Report}
use Rattle.ks_base.specs.declared.reports.Replaced.{Replaced}
use Rattle.image_file.specs.Reading.{Contents as Image}
use Rattle.image_memory.specs.declared.types.Kind.TheVariants.{Writable}
use Rattle.image_memory.specs.declared.types.Piece.{Piece}
use Rattle.image_memory.specs.declared.types.Fence.{Fence}
use Rattle.image_memory.specs.Contents.{Contents}
use Rattle.image_memory.specs.Changes.{with_piece}
use Rattle.image_memory.specs.Fetch.{View, view, is_code}
use Rattle.symbol_table.specs.declared.symbols.Symbol.{Symbol}
use Rattle.symbol_table.specs.Bodies.{newest}
use Rattle.link_post.specs.declared.types.Needs.{Needs}
use Rattle.ia32_step.specs.declared.types.Thread.{Thread}
use Rattle.update_stack.specs.declared.updates.Update.{Update as Shown}

-- a home, and the bases of its function's later versions, the newest last
pub record Row : Type 0 where
  pub home : ℕ
  pub bases : List ℕ

-- An update that is live: its name and report, the bases of its pieces, the ranges that it retired, the symbols that it
-- added, and what the fields of its new sections need. The homes that it replaced are those of its report's replaced
-- functions.
pub record Update : Type 0 where
  pub name : List ℕ
  pub report : Report
  pub pieces : List ℕ
  pub retired : List Range
  pub symbols : List Symbol
  pub needs : List Needs

-- Text and data, ascending, the text being the pieces of code; the table; the retired ranges, ascending; the symbols;
-- the image's stacks in order and its arena, which never change; the range of the scratch piece, if there is one, which is
-- data that are there for a while only; all threads by number, those that have ended among them; and the live
-- updates, oldest first.
pub record AbstractMachine : Type 0 where
  pub pieces : List Piece
  pub table : List Row
  pub retired : List Range
  pub symbols : List Symbol
  pub stacks : List Range
  pub arena : Range
  pub scratch : Option Range
  pub threads : List Thread
  pub updates : List Update

-- whether an address is a home with a row
abbrev pub is_home : List Row → ℕ → Bool
is_home table pc = list_any (λ row. row.home == pc) table

-- a row as its home and its newest base, and all of them
abbrev pub newest_in : Row → ℕ × ℕ
newest_in row = (row.home, unwrap_or (last_or None row.bases) row.home)

abbrev pub bodies_in : List Row → List (ℕ × ℕ)
bodies_in table = map newest_in table

-- where the newest version of a home's function begins: the home itself where it has no row
abbrev pub base_of : AbstractMachine → ℕ → ℕ
base_of k home = newest (bodies_in k.table) home

-- whether a piece is text
abbrev pub is_text : Piece → Bool
is_text piece = is_code piece.kind

-- what a thread meets at an address
unfoldable pub view_in : AbstractMachine → ℕ → View
view_in k pc = view (is_home k.table) k.retired k.pieces pc

-- the machine as a memory: its own text, and a fence for each retired range, with a jump where that begins at a home
-- with a row
abbrev pub fence_in : List Row → Range → Fence
fence_in table range = record { range = range; jump = is_home table range.low }

abbrev pub contents_of : AbstractMachine → Contents
contents_of k = record { pieces = k.pieces; fences = map (fence_in k.table) k.retired }

-- a stack at first: writable memory that holds zeros
abbrev pub stack_piece : Range → Piece
stack_piece stack = record { kind = Writable; base = stack.low; bytes = replicate (stack.high - stack.low) 0 }

-- the regions of an image and its stacks, ascending
unfoldable pub all_pieces : List Piece → List Range → List Piece
all_pieces regions [] = regions
all_pieces regions (stack ∷ stacks) = with_piece (stack_piece stack) (all_pieces regions stacks)

-- the machine at its start: nothing was replaced, and there is no thread, no update and no scratch piece
abbrev pub first_machine : Image → AbstractMachine
first_machine image = record {
  pieces = all_pieces image.pieces image.stacks;
  table = [];
  retired = [];
  symbols = image.symbols;
  stacks = image.stacks;
  arena = image.arena;
  scratch = None;
  threads = [];
  updates = [];
}

-- a new base appended to its home's row, which is made where there is none
abbrev pub with_replaced : List Row → Replaced → List Row
with_replaced [] new = record { home = new.home; bases = new.base ∷ [] } ∷ []
with_replaced (row ∷ rows) new =
    if row.home == new.home
    then record row { bases = row.bases ++ new.base ∷ [] } ∷ rows else row ∷ with_replaced rows new

-- replaced functions as homes with their new bases
abbrev pub jump_row : Replaced → ℕ × ℕ
jump_row one = (one.home, one.base)

abbrev pub jump_rows : List Replaced → List (ℕ × ℕ)
jump_rows replaced = map jump_row replaced

-- what is shown of an update
abbrev pub shown_update : Update → Shown
shown_update update = record { name = update.name; report = update.report }
