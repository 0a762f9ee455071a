-- The laws on taking back: what an event that takes an update back restores of what was just before the event that
-- accepted the update.
use Rattle.std.specs.Prelude.{◌≡◌, ℕ, ◌+◌, Bool, true, false, not, List, [], ◌∷◌, ◌++◌, take, drop, map, Some, None}
use Rattle.std.specs.Prelude.{Result, Ok, Err, IsSomeAnd}
use Rattle.std.specs.List.{filter, last_or, slice_get}
use Rattle.ks_base.specs.declared.places.Range.{Range}
use Rattle.ks_base.specs.declared.refusals.Refusal.{Refusal}
use Rattle.image_file.specs.Reading.{Contents as Image, image_of}
use Rattle.image_memory.specs.declared.types.Piece.{Piece}
use Rattle.symbol_table.specs.declared.symbols.Symbol.{Symbol}
use Rattle.splice_jump.specs.Jumps.{olds_at, unjumped}
use Rattle.update_memory.specs.Withdrawn.{without_pieces}
use Rattle.update_stack.specs.AbstractMachine.{AbstractMachine, Row, Update, is_text, jump_rows, first_machine}
use Rattle.update_stack.specs.StandsFor.{patched}
use Rattle.update_stack.specs.Stacked.{IsBuilt}
use Rattle.update_stack.specs.Undo.{newest_update, place_of}
use Rattle.update_stack.specs.Events.{Event, Answer, Happened, Spawned, Stepped, Applied, Hooked, Undone}
use Rattle.update_stack.specs.Events.{answered, update_taken, after_event, after_events}

-- what taking back the newest update restores: text, the system's code (the text with the jumps at the homes), table,
-- retired ranges, symbols, and where data stand, but no byte of data
pub record Lasting : Type 0 where
  pub text : List Piece
  pub code : List Piece
  pub table : List Row
  pub retired : List Range
  pub symbols : List Symbol
  pub data_bases : List ℕ

unfoldable pub lasting : AbstractMachine → Lasting
lasting k = record {
  text = filter is_text k.pieces;
  code = filter is_text (patched k).pieces;
  table = k.table;
  retired = k.retired;
  symbols = k.symbols;
  data_bases = map (λ (piece : Piece). piece.base) (filter (λ piece. not (is_text piece)) k.pieces);
}

-- Of a live update: the machine just before the event that accepted it, and whether each older update that was live
-- then is live still.
pub record Before : Type 0 where
  pub machine : AbstractMachine
  pub is_whole : Bool

abbrev pub before_update : AbstractMachine → Before
before_update k = record { machine = k; is_whole = true }

abbrev pub no_longer_whole : Before → Before
no_longer_whole before = record before { is_whole = false }

-- the same where the update at a place is taken back: that of each later one is whole no longer
abbrev pub without_update : ℕ → List Before → List Before
without_update place befores = take place befores ++ map no_longer_whole (drop (place + 1) befores)

abbrev pub befores_after : List Before → AbstractMachine → Answer → List Before
befores_after befores k (Spawned thread) = befores
befores_after befores k (Stepped outcome) = befores
befores_after befores k (Applied report) = befores ++ before_update k ∷ []
befores_after befores k (Hooked done) = befores ++ before_update k ∷ []
befores_after befores k (Undone name) = without_update (place_of name k.updates) befores

abbrev pub befores_by : List Before → AbstractMachine → Result Happened Refusal → List Before
befores_by befores k (Err refusal) = befores
befores_by befores k (Ok now) = befores_after befores k now.answer

-- for each live update, oldest first, what was before it
unfoldable pub befores_along : List Before → AbstractMachine → List Event → List Before
befores_along befores k [] = befores
befores_along befores k (event ∷ events) =
    befores_along (befores_by befores k (answered k event)) (after_event k event) events

-- Events from the start of an image, and one more that takes an update back.
pub record TakesBack (image : Image) (events : List Event) (k : AbstractMachine) (update : Update) (now : AbstractMachine)
    : Type 0 where
  pub file : List ℕ
  pub read : image_of file ≡ Ok image
  pub before : k ≡ after_events (first_machine image) events
  pub event : Event
  pub takes : update_taken k event ≡ Some update
  pub happened : Happened
  pub accepted : answered k event ≡ Ok happened
  pub leaves : now ≡ happened.machine

-- An event that takes back the newest update, where no older one was taken back since, restores what was just before
-- the event that accepted it: each byte of the system's code, jumps included, and what else lasts.
abbrev pub RestoresAll : Before → AbstractMachine → Type 0
RestoresAll before now = before.is_whole ≡ true → lasting before.machine ≡ lasting now

abbrev pub TakenBackIsRestored : Type 0
TakenBackIsRestored =
    (image : Image) (events : List Event) (k : AbstractMachine) (update : Update) (now : AbstractMachine)
    → TakesBack image events k update now
    → newest_update k ≡ Some update
    → IsSomeAnd (last_or None (befores_along [] (first_machine image) events)) (λ before. RestoresAll before now)

-- What is left of a memory where an update is taken back: at each home that it replaced the five bytes that stood there
-- in another, its pieces are gone, and every other byte stays.
abbrev pub restored_from : AbstractMachine → Update → List Piece → List Piece
restored_from before update pieces =
    without_pieces update.pieces (unjumped (olds_at (patched before).pieces (jump_rows update.report.replaced)) pieces)

-- An event that takes back any update restores the five bytes at its homes that stood there just before the event that
-- accepted it.
abbrev pub HomesAreRestored : Type 0
HomesAreRestored =
    (image : Image) (events : List Event) (k : AbstractMachine) (update : Update) (now : AbstractMachine)
    → TakesBack image events k update now
    → IsSomeAnd (slice_get (befores_along [] (first_machine image) events) (place_of update.name k.updates))
    (λ before. (patched now).pieces ≡ restored_from before.machine update (patched k).pieces)

-- after every list of events from the start, what holds of the machine at every moment
abbrev pub MachinesAreBuilt : Type 0
MachinesAreBuilt =
    (file : List ℕ) (image : Image) (events : List Event)
    → image_of file ≡ Ok image → IsBuilt (after_events (first_machine image) events)
