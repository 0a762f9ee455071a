-- A plan can be carried out: its pieces fit beside those that are there, what it retires is code and lies apart, and
-- each jump has its five bytes of code.
use Rattle.std.specs.Prelude.{◌≡◌, ◌≢◌, ◌≤◌, ◌<◌, ℕ, ◌^◌, ◌==◌, Bool, true, false, List, ◌++◌}
use Rattle.std.specs.List.{All, Any, AllPairs, Contains, list_any}
use Rattle.ks_base.specs.declared.places.Range.{Range}
use Rattle.ks_base.specs.declared.reports.Replaced.{Replaced}
use Rattle.image_memory.specs.declared.types.Kind.TheVariants.{Code}
use Rattle.image_memory.specs.declared.types.Fence.{Fence}
use Rattle.image_memory.specs.declared.types.Piece.{Piece}
use Rattle.image_memory.specs.Ranges.{Ascends, lies_in, meets, MeetsNone}
use Rattle.image_memory.specs.Contents.{Contents, piece_range, fence_range}
use Rattle.image_memory.specs.Changes.{ArePlaceable}
use Rattle.image_memory.specs.Fetch.{HasCode}
use Rattle.symbol_table.specs.Bodies.{newest}
use Rattle.splice_jump.specs.Jumps.{IsFenced}
use Rattle.update_plan.specs.declared.types.Plan.{Plan}

-- ranges in which pieces may be placed: they ascend, and share no address with a piece that is there
pub record AreGaps (contents : Contents) (gaps : List Range) : Type 0 where
  pub ascend : Ascends (λ range. range) 0 gaps
  pub low : All (λ gap. gap.high ≤ 0xFFFF_0000) gaps
  pub free : All (λ gap. MeetsNone piece_range gap contents.pieces) gaps

-- each range that is retired is listed
abbrev pub AreListed : Contents → List Range → Type 0
AreListed contents retired = All (λ (fence : Fence). Contains retired fence.range) contents.fences

-- each address of a range is one of code
abbrev pub IsCode : List Piece → Range → Type 0
IsCode pieces range = (address : ℕ) → lies_in address range ≡ true → HasCode pieces address 1

-- A function that is replaced: a jump fits at its home, which a range that is retired begins with, one of these or one
-- that is retired already.
pub record IsJumpTo (contents : Contents) (fences : List Fence) (replaced : Replaced) : Type 0 where
  pub code : HasCode contents.pieces replaced.home 5
  pub fence : Any (IsFenced replaced.home) (fences ++ contents.fences)
  pub base : replaced.base < 2 ^ 32

-- whether a function is replaced that has its home at an address
abbrev pub is_replaced_at : List Replaced → ℕ → Bool
is_replaced_at replaced address = list_any (λ (one : Replaced). one.home == address) replaced

-- a piece of code that begins at an address
pub record IsVersion (base : ℕ) (piece : Piece) : Type 0 where
  pub kind : piece.kind ≡ Code
  pub begins : piece.base ≡ base

-- a range that begins at an address and isn't empty
pub record BeginsAt (address : ℕ) (range : Range) : Type 0 where
  pub low : range.low ≡ address
  pub full : range.low < range.high

-- The new version of a replaced function is a piece of code of the plan, and what ran before it is retired: a range
-- that begins where the newest version did.
pub record ReplacesNewest (bodies : List (ℕ × ℕ)) (plan : Plan) (replaced : Replaced) : Type 0 where
  pub version : Any (IsVersion replaced.base) plan.pieces
  pub over : Any (λ (fence : Fence). BeginsAt (newest bodies replaced.home) fence.range) plan.fences

abbrev pub AllReplaceNewest : List (ℕ × ℕ) → Plan → Type 0
AllReplaceNewest bodies plan = All (ReplacesNewest bodies plan) plan.report.replaced

pub record CanBeMade (contents : Contents) (plan : Plan) : Type 0 where
  -- the pieces have some bytes and don't end above 0xFFFF0000; no two meet, and none meets one that is there
  pub placeable : ArePlaceable plan.pieces
  pub apart : AllPairs (λ a b. meets (piece_range a) (piece_range b) ≡ false) plan.pieces
  pub alone : All (λ piece. MeetsNone piece_range (piece_range piece) contents.pieces) plan.pieces
  -- the ranges that are retired aren't empty, and are code; no two meet, and none meets one that is retired already
  pub full : All (λ (fence : Fence). fence.range.low < fence.range.high) plan.fences
  pub code : All (λ (fence : Fence). IsCode contents.pieces fence.range) plan.fences
  pub retired_apart : AllPairs (λ (a b : Fence). meets a.range b.range ≡ false) plan.fences
  pub in_use : All (λ (fence : Fence). MeetsNone fence_range fence.range contents.fences) plan.fences
  -- each jump fits, no two have one home, and those retired ranges are marked that begin at one
  pub jumps : All (IsJumpTo contents plan.fences) plan.report.replaced
  pub once : AllPairs (λ (a b : Replaced). a.home ≢ b.home) plan.report.replaced
  pub marked : All (λ (fence : Fence). fence.jump ≡ is_replaced_at plan.report.replaced fence.range.low) plan.fences
