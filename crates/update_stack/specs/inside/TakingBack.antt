-- What taking an update back comes to, part by part. It is told by its place among the live ones: those before it, it
-- itself, and those after it.
use Rattle.std.specs.Prelude.{◌≡◌, ◌≢◌, ℕ, ◌-◌, ◌≤◌, false, List, ◌∷◌, ◌++◌, length, Option, Some, None}
use Rattle.std.specs.Prelude.{Result, Ok, Err}
use Rattle.std.specs.List.{All, AllPairs, flat_map}
use Rattle.ks_base.specs.declared.refusals.Refusal.{Refusal}
use Rattle.image_memory.specs.Ranges.{are_same}
use Rattle.image_memory.specs.Changes.{HasPiece, IsRetired}
use Rattle.image_memory.specs.Fetch.{HasCode}
use Rattle.symbol_table.specs.declared.symbols.Symbol.{Symbol}
use Rattle.symbol_table.specs.Table.{without_symbols}
use Rattle.update_memory.specs.declared.types.Jump.{Jump}
use Rattle.update_memory.specs.Rows.{olds_of}
use Rattle.update_memory.specs.Withdrawn.{withdrawn_memory}
use Rattle.image_threads.specs.Program.{Program}
use Rattle.update_stack.specs.declared.updates.Arena.{Arena}
use Rattle.update_stack.specs.declared.updates.Update.{Update as Shown}
use Rattle.update_stack.specs.declared.updates.Kept.{Kept}
use Rattle.update_stack.specs.AbstractMachine.{AbstractMachine, Update}
use Rattle.update_stack.specs.StandsFor.{Seen}
use Rattle.update_stack.specs.Undo.{named, withdrawn, withdrawal_refusal}
use Rattle.update_stack.specs.Systems.{live_update, machine_of, Holds}

-- why an update isn't taken back: there is none, or it is refused
abbrev pub refusal_of : AbstractMachine → Refusal → Option Update → Option Refusal
refusal_of k missing None = Some missing
refusal_of k missing (Some update) = withdrawal_refusal k update

-- what comes of taking back an update, if there is one
abbrev pub ComesOfUndo : Refusal → Option Update → (old new : AbstractMachine) → Result (List ℕ) Refusal → Type 0
ComesOfUndo missing None old new result = (result ≡ Err missing) × (new ≡ old)
ComesOfUndo missing (Some update) old new result = (result ≡ Ok update.name) × (new ≡ withdrawn old update)

-- What is asked of a program from which an update is taken away: its pieces and its retired ranges are there, each
-- once; five bytes of code stand at its homes; and its symbols are there, before those of the later ones.
pub record CanBeTaken (program : Program) (one : Kept) (later : List Kept) : Type 0 where
  pub pieces : All (HasPiece program.contents) one.pieces
  pub bases : AllPairs (λ (a b : ℕ). a ≢ b) one.pieces
  pub retired : All (IsRetired program.contents) one.retired
  pub ranges : AllPairs (λ a b. are_same a b ≡ false) one.retired
  pub code : All (λ (jump : Jump). HasCode program.contents.pieces jump.home 5) one.jumps
  pub symbols : length (one.symbols ++ flat_map (λ (k : Kept). k.symbols) later) ≤ length program.table.symbols
  pub count : one.symbol_count ≡ length one.symbols

-- where its symbols begin
abbrev pub first_of_symbols : List Symbol → Kept → List Kept → ℕ
first_of_symbols symbols one later = length symbols - length (one.symbols ++ flat_map (λ (k : Kept). k.symbols) later)

-- what is seen of a program after that
abbrev pub after_taking : Kept → List Kept → Seen → Seen
after_taking one later s = record s {
  contents = withdrawn_memory one.pieces one.retired (olds_of one.jumps) s.contents;
  symbols = without_symbols (first_of_symbols s.symbols one later) one.symbol_count s.symbols;
}

-- live updates, one of them, with what is kept of each
pub record AtUpdate (updates : List Shown) (kept : List Kept) : Type 0 where
  pub earlier : List Shown
  pub update : Shown
  pub later : List Shown
  pub kept_earlier : List Kept
  pub one : Kept
  pub kept_later : List Kept
  pub updates_are : updates ≡ earlier ++ update ∷ later
  pub kept_are : kept ≡ kept_earlier ++ one ∷ kept_later
  pub beside : length kept_earlier ≡ length earlier

-- The system holds without the update, which is gone from the machine. (So it is where none of the later ones covers
-- it.)
pub record IsHeldWithout
    (before after : Program) (arena : Arena) (updates : List Shown) (kept : List Kept) (at : AtUpdate updates kept)
    : Type 0 where
  pub live : named (machine_of before arena updates kept) at.update.name ≡ Some (live_update at.update at.one)
  pub holds : Holds after arena (at.earlier ++ at.later) (at.kept_earlier ++ at.kept_later)
  pub same : machine_of after arena (at.earlier ++ at.later) (at.kept_earlier ++ at.kept_later)
      ≡ withdrawn (machine_of before arena updates kept) (live_update at.update at.one)
