-- The least address above an address, by the indices of addresses.
use Rattle.std.specs.Prelude.{◌≡◌, ℕ, Bool, true, false, ◌&&◌, ◌==◌, nat_lt, List, Option, Some, None, if◌then◌else◌}
use Rattle.std.specs.List.{list_any}
use Rattle.symbol_table.specs.declared.entries.Entry.{Entry}

-- whether the address of some entry passes a test
abbrev pub any_address : List Entry → (ℕ → Bool) → Bool
any_address entries test = list_any (λ entry. test entry.address) entries

-- of numbers, given by whether some number passes a test, the least above a number
abbrev pub IsNext : ℕ → ((ℕ → Bool) → Bool) → Option ℕ → Type 0
IsNext low any None = any (nat_lt low) ≡ false
IsNext low any (Some n) = (nat_lt low n ≡ true) × (any (λ m. n == m) ≡ true)
    × (any (λ m. nat_lt low m && nat_lt m n) ≡ false)

-- the lesser of two numbers that may be missing
abbrev pub lesser : Option ℕ → Option ℕ → Option ℕ
lesser None other = other
lesser (Some n) None = Some n
lesser (Some n) (Some m) = if nat_lt m n then Some m else Some n
