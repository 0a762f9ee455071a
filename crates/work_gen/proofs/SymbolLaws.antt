-- Symbols of functions and their names, one after another.
use Rattle.std.proofs.Common.{◌≡◌, ℕ, ◌+◌, List, [], ◌∷◌, ◌++◌, map, length, append_assoc, ap, sym, ◌∙◌, arith}
use Rattle.std.proofs.Common.{length-append}
use Rattle.std.specs.List.{flat_map, range_with_len}
use Rattle.std.proofs.lemmas.List.{append-nil, map-append, flat_map_more}
use Rattle.work_gen.specs.Encoding.{ended}
use Rattle.work_gen.specs.Functions.{function_name, object_code}
use Rattle.work_gen.specs.Objects.{symbol, function_symbols}
use Rattle.work_gen.proofs.AppendLaws.{range_more}

-- the symbols of functions and of one more
symbols_more : (count : ℕ) (constants : ℕ → ℕ) (name : ℕ) (is : List ℕ) (i : ℕ)
    → function_symbols count constants name (is ++ i ∷ [])
    ≡ function_symbols count constants name is
    ++ symbol (name + length (flat_map ended (map function_name is))) (length (object_code count constants i)) 0x12 (i + 1)
unfolding function_symbols
symbols_more count constants name [] i =
    let n : name + 0 ≡ name = omega arith in
    append-nil (symbol name (length (object_code count constants i)) 0x12 (i + 1))
    ∙ ap (λ k. symbol k (length (object_code count constants i)) 0x12 (i + 1)) (sym n)
symbols_more count constants name (first ∷ is) i =
    let one = symbol name (length (object_code count constants first)) 0x12 (first + 1) in
    let named = name + length (function_name first) + 1 in
    let n : named + length (flat_map ended (map function_name is))
    ≡ name + length (ended (function_name first) ++ flat_map ended (map function_name is))
    = omega (
      arith,
      length-append (ended (function_name first)) (flat_map ended (map function_name is)),
      length-append (function_name first) (0 ∷ []),
    ) in
    ap (λ l. one ++ l) (symbols_more count constants named is i)
    ∙ sym (append_assoc one (function_symbols count constants named is) _)
    ∙ ap (λ k. (one ++ function_symbols count constants named is)
    ++ symbol k (length (object_code count constants i)) 0x12 (i + 1)) n

-- the entries and the names of the functions below a number, and of that number's
pub entries_more : (count : ℕ) (constants : ℕ → ℕ) (o names : List ℕ) (i : ℕ)
    → (o ++ function_symbols count constants (length names) (range_with_len 0 i))
    ++ symbol (length (names ++ flat_map ended (map function_name (range_with_len 0 i))))
    (length (object_code count constants i)) 0x12 (i + 1)
    ≡ o ++ function_symbols count constants (length names) (range_with_len 0 (i + 1))
entries_more count constants o names i =
    let is = range_with_len 0 i in
    let size = length (object_code count constants i) in
    let long = length-append names (flat_map ended (map function_name is)) in
    append_assoc o (function_symbols count constants (length names) is) _
    ∙ ap (λ k. o ++ (function_symbols count constants (length names) is ++ symbol k size 0x12 (i + 1))) long
    ∙ ap (λ l. o ++ l) (sym (symbols_more count constants (length names) is i))
    ∙ ap (λ l. o ++ function_symbols count constants (length names) l) (sym (range_more i))

pub names_more : (o : List ℕ) (i : ℕ) → (o ++ flat_map ended (map function_name (range_with_len 0 i)))
    ++ ended (function_name i)
    ≡ o ++ flat_map ended (map function_name (range_with_len 0 (i + 1)))
names_more o i =
    flat_map_more ended o (map function_name (range_with_len 0 i)) (function_name i)
    ∙ ap (λ l. o ++ flat_map ended l) (sym (map-append function_name (range_with_len 0 i) (i ∷ [])))
    ∙ ap (λ l. o ++ flat_map ended (map function_name l)) (sym (range_more i))
