-- Words that bytes spell, ranges in order, and words that are addresses of some.
use Rattle.std.specs.Prelude.{◌≡◌, ℕ, ◌+◌, ◌*◌, ◌≤◌, ◌<◌, List, [], ◌∷◌, slice_index, get_or, true, false}
use Rattle.std.specs.Int.{w32, from_le_bytes}
use Rattle.ks_base.specs.declared.places.Range.{Range}
use Rattle.stack_scan.specs.Standing.{in_one}

-- the word of a number that bytes spell, four each, the lowest byte first
abbrev pub spelled : List ℕ → ℕ → ℕ
spelled bytes k =
    from_le_bytes w32
    (slice_index bytes
    (4 * k) ∷ slice_index bytes (4 * k + 1) ∷ slice_index bytes (4 * k + 2) ∷ slice_index bytes (4 * k + 3) ∷ [])

-- each of the first n ranges begins and ends within bounds
abbrev pub AreWithin : (low high n : ℕ) → List Range → Type 0
AreWithin low high n ranges =
    (k : ℕ) (d : Range) → k < n → (low ≤ (get_or ranges k d).low) × ((get_or ranges k d).high ≤ high)

-- none of the first n ranges ends below its beginning, and each begins where those before it have ended, or above
pub record AreInOrder (n : ℕ) (ranges : List Range) : Type 0 where
  pub even : (k : ℕ) (d : Range) → k < n → (get_or ranges k d).low ≤ (get_or ranges k d).high
  pub apart : (i j : ℕ) (d : Range) → i < j → j < n → (get_or ranges i d).high ≤ (get_or ranges j d).low

-- no word from one index up to another is an address of a range
abbrev pub NoneBetween : List Range → List ℕ → (start end : ℕ) → Type 0
NoneBetween ranges words start end = (k : ℕ) → start ≤ k → k < end → in_one ranges (get_or words k 0) ≡ false

-- the first word from one index up to another that is an address of a range stands at an index
pub record IsFirstBetween (ranges : List Range) (words : List ℕ) (start end index : ℕ) : Type 0 where
  pub low : start ≤ index
  pub high : index < end
  pub before : NoneBetween ranges words start index
  pub here : in_one ranges (get_or words index 0) ≡ true
