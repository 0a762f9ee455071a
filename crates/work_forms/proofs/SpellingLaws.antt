-- The image file of a work is the spelling of its image.
use Rattle.std.proofs.Common.{◌≡◌, ℕ, ◌-◌, ◌*◌, ◌≤◌, Bool, true, false, List, [], ◌∷◌, ◌++◌, map, codes, length}
use Rattle.std.proofs.Common.{replicate, refl, ap, sym, ◌∙◌, arith, length-append}
use Rattle.std.specs.List.{flat_map}
use Rattle.std.proofs.lemmas.List.{append-nil, length-replicate}
use Rattle.std.proofs.lemmas.List.FromFn.{length-range_with_len, length-map-range_with_len}
use Rattle.image_file.specs.Spelling.{region_spelling, symbol_spelling, stack_spelling, header_spelling, spelling}
use Rattle.work_gen.specs.Functions.{function_count, functions, calls_next, old_constant, function_code, running_code}
use Rattle.work_gen.specs.Image.{counts_and_arena, code_region, image_symbol, stack_lows, stack_bounds, image_file}
use Rattle.work_gen.specs.Work.{work_of}
use Rattle.work_forms.specs.Program.{code_piece, symbol_of, stack_from, work_image}

pub short_code : (calls : Bool) (displacement constant : ℕ) → length (function_code calls displacement constant) ≤ 32
unfolding function_code
short_code true displacement constant = omega arith
short_code false displacement constant = omega arith

one_code : (number i : ℕ) → length (running_code number i) ≡ 32
unfolding running_code
one_code number i =
    let code = function_code (calls_next (function_count number) i) 22 (old_constant number i) in
    let short = short_code (calls_next (function_count number) i) 22 (old_constant number i) in
    omega (
      arith,
      short,
      length-append code (replicate (32 - length code) 0x90),
      length-replicate {A = ℕ} (32 - length code) 0x90,
    )

some_codes : (number : ℕ) (is : List ℕ) → length (flat_map (running_code number) is) ≡ 32 * length is
some_codes number [] = refl
some_codes number (i ∷ is) =
    omega (
      arith,
      length-append (running_code number i) (flat_map (running_code number) is),
      one_code number i,
      some_codes number is,
    )

-- how many symbols there are, and how long the code is
pub symbol_count : (number : ℕ) → length (map symbol_of (functions (function_count number))) ≡ function_count number
symbol_count number = length-map-range_with_len symbol_of 0 (function_count number)

pub code_length : (number : ℕ) → length (code_piece number).bytes ≡ 32 * function_count number
code_length number =
    some_codes number (functions (function_count number))
    ∙ ap (λ n. 32 * n) (length-range_with_len 0 (function_count number))

header_same : (number : ℕ)
    → header_spelling (work_image number) ≡ codes "KIM1" ++ counts_and_arena (function_count number)
unfolding header_spelling counts_and_arena work_image
header_same number = rw (symbol_count number) refl

region_same : (number : ℕ) → region_spelling (code_piece number) ≡ code_region number
unfolding region_spelling code_region
region_same number = rw (code_length number) refl

one_symbol : (i : ℕ) → symbol_spelling (symbol_of i) ≡ image_symbol i
unfolding image_symbol symbol_spelling
one_symbol i = refl

symbols_same : (is : List ℕ) → flat_map symbol_spelling (map symbol_of is) ≡ flat_map image_symbol is
symbols_same [] = refl
symbols_same (i ∷ is) =
    ap (λ s. s ++ flat_map symbol_spelling (map symbol_of is)) (one_symbol i)
    ∙ ap (λ s. image_symbol i ++ s) (symbols_same is)

stacks_same : flat_map stack_spelling (map stack_from stack_lows) ≡ flat_map stack_bounds stack_lows
unfolding stack_bounds stack_spelling
stacks_same = refl

parts_same : (number : ℕ) → spelling (work_image number)
    ≡ ((header_spelling (work_image number) ++ flat_map region_spelling (code_piece number ∷ []))
    ++ flat_map symbol_spelling (map symbol_of (functions (function_count number))))
    ++ flat_map stack_spelling (map stack_from stack_lows)
unfolding spelling work_image
parts_same number = refl

file_same : (number : ℕ) → spelling (work_image number) ≡ image_file number
unfolding image_file
file_same number =
    let regions : flat_map region_spelling (code_piece number ∷ []) ≡ code_region number =
    append-nil (region_spelling (code_piece number)) ∙ region_same number in
    parts_same number
    ∙ rw (header_same number, regions, symbols_same (functions (function_count number)), stacks_same) refl

pub image_spelled : (number : ℕ) → (work_of number).image ≡ spelling (work_image number)
unfolding work_of
image_spelled number = sym (file_same number)
