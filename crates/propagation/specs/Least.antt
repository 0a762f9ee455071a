-- The sets of excluded and of forced items, as what two rules lead to.
use Rattle.std.specs.Prelude.{◌≡◌, Bool, true, false, List}
use Rattle.std.specs.List.{Contains}
use Rattle.propagation.specs.Rounds.{Rules, remaining, forced}

-- Sets of items that the rules lead to nothing outside of: an item is excluded where it doesn't match by itself or
-- clashes with a forced one, and forced where all others of its section are excluded.
pub record AreClosed {X : Type 0} (rules : Rules X) (all : List X) (excluded forced : X → Bool) : Type 0 where
  pub unmatched : (x : X) → Contains all x → rules.matches x ≡ false → excluded x ≡ true
  pub clashing : (x y : X) → Contains all x → Contains all y → forced y ≡ true → rules.clashes x y ≡ true
      → excluded x ≡ true
  pub alone : (x : X) → Contains all x
      → ((y : X) → Contains all y → rules.same_section y x ≡ true → rules.same y x ≡ false → excluded y ≡ true)
      → forced x ≡ true

-- The same of those that aren't among the remaining items, and of the forced ones.
pub record RoundsAreClosed {X : Type 0} (rules : Rules X) (all : List X) : Type 0 where
  pub unmatched : (x : X) → Contains (remaining rules all) x → rules.matches x ≡ true
  pub clashing : (x y : X) → Contains (forced rules all) y → rules.clashes x y ≡ true
      → Contains (remaining rules all) x → ⊥
  pub alone : (x : X) → Contains all x
      → ((y : X) → Contains all y → rules.same_section y x ≡ true → rules.same y x ≡ false
      → Contains (remaining rules all) y → ⊥)
      → Contains (forced rules all) x

-- Sets that exclude and force at least what the rounds do: what they don't exclude remains, and what is forced they
-- force.
pub record HaveAtLeast {X : Type 0} (rules : Rules X) (all : List X) (excluded forced_there : X → Bool) : Type 0 where
  pub remains : (x : X) → Contains all x → excluded x ≡ false → Contains (remaining rules all) x
  pub forced : (x : X) → Contains (forced rules all) x → forced_there x ≡ true
