-- What holds of the numbers below a bound.
use Rattle.std.specs.Prelude.{ℕ, zero, suc, ◌+◌, Bool, false, ◌||◌, if◌then◌else◌}
use Rattle.std.specs.Prelude.{List, [], ◌∷◌, ◌++◌, Option, Some, None}

-- the first of two, where there is one
abbrev pub first_of : {X : Type 0} → Option X → Option X → Option X
first_of (Some x) second = Some x
first_of None second = second

-- what each number below a bound has, in order
abbrev pub each_below : {X : Type 0} → (ℕ → X) → ℕ → List X
each_below f zero = []
each_below f (suc n) = each_below f n ++ f n ∷ []

-- what all numbers below a bound have together, in order
abbrev pub all_below : {X : Type 0} → (ℕ → List X) → ℕ → List X
all_below f zero = []
all_below f (suc n) = all_below f n ++ f n

-- whether some number below the bound passes the test
abbrev pub any_below : (ℕ → Bool) → ℕ → Bool
any_below test zero = false
any_below test (suc n) = any_below test n || test n

-- the sum over the numbers below the bound
abbrev pub sum_below : (ℕ → ℕ) → ℕ → ℕ
sum_below f zero = 0
sum_below f (suc n) = sum_below f n + f n

-- how many of the numbers below the bound pass the test
abbrev pub count_below : (ℕ → Bool) → ℕ → ℕ
count_below test n = sum_below (λ i. if test i then 1 else 0) n

-- what the least number below the bound that has one has
abbrev pub first_below : {X : Type 0} → (ℕ → Option X) → ℕ → Option X
first_below f zero = None
first_below f (suc n) = first_of (first_below f n) (f n)

-- the least number below the bound that passes the test
abbrev pub least_below : (ℕ → Bool) → ℕ → Option ℕ
least_below test n = first_below (λ i. if test i then Some i else None) n
