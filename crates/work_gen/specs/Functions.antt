-- The functions of a work: each adds a constant to EAX, calls the next one, and returns; the last calls none.
use Rattle.std.specs.Prelude.{ℕ, ◌+◌, ◌-◌, ◌*◌, ◌%◌, ◌==◌, nat_lt, Bool, if◌then◌else◌, List, [], ◌∷◌, ◌++◌, codes}
use Rattle.std.specs.Prelude.{length, replicate}
use Rattle.std.specs.List.{range_with_len}
use Rattle.ks_base.specs.Text.{number_text}
use Rattle.work_gen.specs.Encoding.{word}

-- how many functions there are, from 16 to 512
abbrev pub function_count : ℕ → ℕ
function_count number = 16 + number % 497

-- the functions' numbers, from 0 on
abbrev pub functions : ℕ → List ℕ
functions count = range_with_len 0 count

-- whether a function calls the next one: all but the last do
abbrev pub calls_next : (count i : ℕ) → Bool
calls_next count i = nat_lt (i + 1) count

unfoldable pub function_name : ℕ → List ℕ
function_name i = codes "f" ++ number_text i

-- The constant that function i adds, and the one that it adds after the update, which changes every fourth function; it
-- may be 65,536.
unfoldable pub old_constant : (number i : ℕ) → ℕ
old_constant number i = (number * (i + 1)) % 65536

unfoldable pub new_constant : (number i : ℕ) → ℕ
new_constant number i = if i % 4 == 1 then old_constant number i + 1 else old_constant number i

-- ADD EAX (05) with a constant, CALL (E8) with a displacement, unless the function calls none, and RET (C3)
abbrev pub call_next : Bool → (displacement : ℕ) → List ℕ
call_next calls displacement = if calls then 0xE8 ∷ word displacement else []

unfoldable pub function_code : Bool → (displacement constant : ℕ) → List ℕ
function_code calls displacement constant = 0x05 ∷ word constant ++ call_next calls displacement ++ 0xC3 ∷ []

-- how many bytes each function takes in the running program
abbrev pub stride : ℕ
stride = 32

-- The code of function i in the running program, filled up by NOP (90). The call's field ends 10 bytes behind the
-- function's start, so the next function begins 22 bytes further.
abbrev pub filled_up : List ℕ → List ℕ
filled_up code = code ++ replicate (stride - length code) 0x90

unfoldable pub running_code : (number i : ℕ) → List ℕ
running_code number i = filled_up (function_code (calls_next (function_count number) i) 22 (old_constant number i))

-- The code of function i in an object: the addend -4 stands in the call's field.
unfoldable pub object_code : (count : ℕ) → (constants : ℕ → ℕ) → (i : ℕ) → List ℕ
object_code count constants i = function_code (calls_next count i) 0xFFFF_FFFC (constants i)
