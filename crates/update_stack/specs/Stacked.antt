-- What holds of the machine at every moment, and of what a system keeps of its live updates: each of these lies on
-- what was before it.
use Rattle.std.specs.Prelude.{◌≡◌, ◌≢◌, ℕ, ◌≤◌, ◌<◌, false, List, [], ◌∷◌, ◌++◌, length, Some}
use Rattle.std.specs.List.{fold, list_any, All, Any, AllPairs, Contains}
use Rattle.std.specs.List.Sorted.{IsPermutation, IsNonDecreasingBy}
use Rattle.ks_base.specs.declared.places.Range.{Range}
use Rattle.ks_base.specs.declared.reports.Replaced.{Replaced}
use Rattle.image_memory.specs.declared.types.Piece.{Piece}
use Rattle.image_memory.specs.Ranges.{are_same}
use Rattle.image_memory.specs.Changes.{HasPiece}
use Rattle.splice_jump.specs.Jumps.{jumped, olds_at}
use Rattle.update_memory.specs.Rows.{rows_of, olds_of}
use Rattle.link_post.specs.Places.{unless_empty}
use Rattle.image_threads.specs.Spawning.{AreStacks}
use Rattle.update_plan.specs.Sound.{IsCode, IsVersion, BeginsAt}
use Rattle.update_stack.specs.declared.updates.Kept.{Kept}
use Rattle.update_stack.specs.AbstractMachine.{AbstractMachine, Update, is_home, base_of, bodies_in, contents_of}
use Rattle.update_stack.specs.AbstractMachine.{with_replaced, jump_rows}
use Rattle.update_stack.specs.Apply.{has_name, gaps_of}
use Rattle.update_stack.specs.Scratch.{unscratched, HasScratch, LeavesScratch}
use Rattle.update_stack.specs.Jumps.{CanJump}
use Rattle.update_stack.specs.Undo.{without_last, withdrawn, ranges_in, code_ranges_in, newest_update}

-- The jumps of a machine can stand in its memory, each stack is a piece of that, its arena ends where code may, what is
-- retired is code, and its scratch piece, if it has one, is a piece of data and no
-- stack.
pub record IsSound (k : AbstractMachine) : Type 0 where
  pub jumps : CanJump k
  pub stacks : AreStacks k.pieces k.stacks
  pub arena : k.arena.low < k.arena.high → k.arena.high ≤ 0xFFFF_0000
  pub retired : All (IsCode k.pieces) k.retired
  pub scratch : HasScratch k

-- a base of an update is where one of its pieces of code begins
pub record IsVersionOf (k : AbstractMachine) (update : Update) (one : Replaced) : Type 0 where
  pub own : Contains update.pieces one.base
  pub code : Any (IsVersion one.base) k.pieces

-- An update on what is there without it: its rows end with its bases, no other retired range is one of its homes',
-- and what it added and retired is there, each once. Its bases are code of its own, and it retired what ran before
-- them: a range that begins where the newest version of each home did. No update before it has its name, and the scratch
-- piece is none of its pieces.
pub record IsOnTop (k : AbstractMachine) (update : Update) : Type 0 where
  pub table : k.table ≡ fold with_replaced (withdrawn k update).table update.report.replaced
  pub once : AllPairs (λ (a b : Replaced). a.home ≢ b.home) update.report.replaced
  pub marked : All (λ (range : Range). is_home k.table range.low ≡ is_home (withdrawn k update).table range.low)
      (withdrawn k update).retired
  pub pieces : All (HasPiece (contents_of k)) update.pieces
  pub bases : AllPairs (λ (a b : ℕ). a ≢ b) update.pieces
  pub retired : All (Contains k.retired) update.retired
  pub ranges : AllPairs (λ a b. are_same a b ≡ false) update.retired
  pub symbols : length update.symbols ≤ length k.symbols
  pub versions : All (IsVersionOf k update) update.report.replaced
  pub over : All (λ (one : Replaced). Any (BeginsAt (base_of (withdrawn k update) one.home)) update.retired)
      update.report.replaced
  pub name : list_any (has_name update.name) (without_last 1 k.updates) ≡ false
  pub scratch : LeavesScratch k update

-- a machine without updates, or with one on a machine of which this holds
pub data IsBuilt : AbstractMachine → Type 0 where
  Untouched : (k : AbstractMachine) → IsSound k → k.updates ≡ [] → k.table ≡ [] → k.retired ≡ [] → IsBuilt k
  Updated : (k : AbstractMachine) (update : Update) → IsSound k → newest_update k ≡ Some update → IsOnTop k update
      → IsBuilt (withdrawn k update) → IsBuilt k

-- code as it was before the newest update, with the jumps of those before it
abbrev pub code_before : AbstractMachine → Update → List Piece
code_before k update = jumped (bodies_in (withdrawn k update).table) k.pieces

-- What is kept of the newest update: the five bytes that stand at each of its homes without it, with the jumps of the
-- updates before it; the ranges of its pieces, and of those that are code, by their lows; and how many symbols it added.
pub record IsKept (k : AbstractMachine) (update : Update) (one : Kept) : Type 0 where
  pub rows : rows_of one.jumps ≡ jump_rows update.report.replaced
  pub olds : olds_of one.jumps ≡ olds_at (code_before k update) (jump_rows update.report.replaced)
  pub ranges : IsPermutation one.ranges (ranges_in k update)
  pub code_ranges : IsPermutation one.code_ranges (code_ranges_in k update)
  pub order : IsNonDecreasingBy (λ range. range.low) one.ranges
  pub code_order : IsNonDecreasingBy (λ range. range.low) one.code_ranges
  pub count : one.symbol_count ≡ length update.symbols

-- What is kept of each live update, the newest last, over a machine of whose arena no piece but the scratch piece takes
-- anything.
pub data AreKept : AbstractMachine → List Kept → Type 0 where
  NoneKept : (k : AbstractMachine) (kept : List Kept) → k.updates ≡ [] → kept ≡ []
      → gaps_of (unscratched k) ≡ unless_empty k.arena → AreKept k kept
  OneKept : (k : AbstractMachine) (update : Update) (earlier kept : List Kept) (one : Kept)
      → newest_update k ≡ Some update → kept ≡ earlier ++ one ∷ [] → IsKept k update one
      → AreKept (withdrawn k update) earlier → AreKept k kept
