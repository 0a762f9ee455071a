-- The image file of a work: one code region with all functions, the global symbol of each, an arena and four stacks.
use Rattle.std.specs.Prelude.{ℕ, ◌+◌, ◌*◌, List, [], ◌∷◌, ◌++◌, codes, length}
use Rattle.std.specs.List.{flat_map}
use Rattle.work_gen.specs.Encoding.{word}
use Rattle.work_gen.specs.Functions.{function_count, functions, function_name, stride, running_code}

-- where function 0 begins
abbrev pub code_base : ℕ
code_base = 0x0010_0000

-- the lowest addresses of the stacks, and how many bytes each has
abbrev pub stack_lows : List ℕ
stack_lows = 0x0040_0000 ∷ 0x0042_0000 ∷ 0x0044_0000 ∷ 0x0046_0000 ∷ []

abbrev pub stack_size : ℕ
stack_size = 0x1_0000

-- how many regions, symbols and stacks there are, and the low and the high address of the arena
unfoldable pub counts_and_arena : ℕ → List ℕ
counts_and_arena count = word 1 ++ word count ++ word 4 ++ word 0x0080_0000 ++ word 0x0090_0000

-- the region: its kind, code (1), its base, its length and its bytes
unfoldable pub code_region : ℕ → List ℕ
code_region number =
    word 1 ++ word code_base ++ word (stride * function_count number)
    ++ flat_map (running_code number) (functions (function_count number))

-- a symbol: its address, its kind, function (1), its binding, global (1), the length of its name and the name
unfoldable pub image_symbol : ℕ → List ℕ
image_symbol i =
    word (code_base + stride * i) ++ word 1 ++ word 1 ++ word (length (function_name i)) ++ function_name i

-- a stack: its low and its high address
unfoldable pub stack_bounds : ℕ → List ℕ
stack_bounds low = word low ++ word (low + stack_size)

unfoldable pub image_file : ℕ → List ℕ
image_file number =
    codes "KIM1"
    ++ counts_and_arena (function_count number)
    ++ code_region number
    ++ flat_map image_symbol (functions (function_count number))
    ++ flat_map stack_bounds stack_lows
