-- The least of numbers.
use Rattle.std.specs.Prelude.{ℕ, Bool, true, false, List, min, Option, Some, None}
use Rattle.std.specs.List.{reduce}

abbrev pub least : List ℕ → Option ℕ
least xs = reduce min xs

-- the lesser of two, where there are two
abbrev pub lesser : Option ℕ → Option ℕ → Option ℕ
lesser None other = other
lesser (Some x) None = Some x
lesser (Some x) (Some y) = Some (min x y)

-- with a number, where it is one of them
abbrev pub noted : Bool → ℕ → Option ℕ → Option ℕ
noted false x among = among
noted true x among = lesser among (Some x)
