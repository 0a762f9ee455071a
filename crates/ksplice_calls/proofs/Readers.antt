-- What is read of a reader of which no more than a limit and one bytes are asked.
use Rattle.std.proofs.Common.{◌≡◌, ◌++◌, ℕ, ◌+◌, ◌≤◌, List, [], length, min, take}
use Rattle.std.proofs.Common.{IfSome, Option, Some, None, ◌∙◌, ap, subst, arith}
use Rattle.std.specs.Option.{option_map}
use Rattle.std.specs.Io.Take.{take_remaining}
use Rattle.std.specs.declared.io.traits.Take.{Take}
use Rattle.std.proofs.lemmas.List.{take_all, length-take}

-- where no more were read than the limit, all were read
all_read : (left : Option (List ℕ)) (limit : ℕ) (old bytes : List ℕ) → old ≡ []
    → IfSome (option_map (take (limit + 1)) left) (λ xs. bytes ≡ old ++ xs)
    → length bytes ≤ limit → IfSome left (λ xs. bytes ≡ xs)
all_read None limit old bytes none is few = tt
all_read (Some xs) limit old bytes none is few =
    let read : bytes ≡ take (limit + 1) xs = is ∙ ap (λ before. before ++ take (limit + 1) xs) none in
    let len : length bytes ≡ length (take (limit + 1) xs) = ap length read in
    let cut : length (take (limit + 1) xs) ≡ min (limit + 1) (length xs) = length-take (limit + 1) xs in
    read ∙ take_all (limit + 1) xs (omega (arith, len, cut, few))

pub whole_read : {S : Type 0}
    (remaining : S → Option (List ℕ)) (source : S) (front : Take S) (limit number : ℕ) (old bytes : List ℕ)
    → front.inner ≡ source → front.limit ≡ number + 1 → number ≡ limit → old ≡ []
    → IfSome (take_remaining remaining front) (λ xs. bytes ≡ old ++ xs)
    → length bytes ≤ limit → IfSome (remaining source) (λ xs. bytes ≡ xs)
whole_read remaining source front limit number old bytes inner most same none is few =
    let P : ℕ → Type 0 = λ n. IfSome (option_map (take n) (remaining front.inner)) (λ xs. bytes ≡ old ++ xs) in
    let Q : Option (List ℕ) → Type 0 = λ o. IfSome (option_map (take (limit + 1)) o) (λ xs. bytes ≡ old ++ xs) in
    all_read (remaining source) limit old bytes none
    (subst Q (ap remaining inner) (subst P (most ∙ ap (λ n. n + 1) same) is)) few
