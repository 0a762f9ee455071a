-- What room at the home of a first version means, in the words of the rule and by no computation of it.
use Rattle.std.specs.Prelude.{◌≡◌, ℕ, ◌+◌, ◌≤◌, ◌<◌, List, Some}
use Rattle.std.specs.List.{All}
use Rattle.image_memory.specs.Contents.{Contents}
use Rattle.image_memory.specs.Fetch.{HasCode, view_at}
use Rattle.symbol_table.specs.declared.symbols.Symbol.{Symbol}
use Rattle.update_retired.specs.Room.{padding_length}

-- From an address up to an end one padding instruction follows another, each of them met whole; or there is none, and
-- the end is the address.
pub data PaddedTo (contents : Contents) : ℕ → ℕ → Type 0 where
  Ends : (address : ℕ) → PaddedTo contents address address
  Follows : (address length end : ℕ) → padding_length (view_at contents address) ≡ Some length →
      PaddedTo contents (address + length) end → PaddedTo contents address end

-- a symbol's address lies above a home and below an end
abbrev pub LiesBetween : (home end : ℕ) → Symbol → Type 0
LiesBetween home end symbol = (home < symbol.address) × (symbol.address < end)

-- There is room for n bytes at the home of a body of so many bytes.
pub record HasRoom (contents : Contents) (symbols : List Symbol) (home length n : ℕ) : Type 0 where
  -- the first n bytes from the home on lie in one code piece
  pub code : HasCode contents.pieces home n
  -- they lie in the body and the padding instructions that directly follow it, up to an end
  pub end : ℕ
  pub padding : PaddedTo contents (home + length) end
  pub within : home + n ≤ end
  -- no symbol's address lies above the home and below where they end
  pub free : All (λ symbol. LiesBetween home (home + n) symbol → ⊥) symbols
