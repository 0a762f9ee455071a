-- Small facts on numbers of k bits.
use Rattle.std.proofs.Common.{◌≡◌, ap, to_z, of_z, ℕ, ℤ, pos, negsuc, ◌<◌, ◌≤◌, ◌^◌, arith}
use Rattle.std.specs.Prelude.{Bool, true, false, FitsSigned, int_div, None, ◌≢◌}
use Rattle.std.specs.Int.{w64, from_bool, IsNonZero, CanDivide}
use Rattle.std.proofs.lemmas.Int.{ints, to_z-of_z}
use Rattle.std.proofs.lemmas.Bool.Decides.{nat_tests}
use Rattle.ia32_alu.specs.declared.types.Width.{Width}
use Rattle.ia32_alu.specs.declared.types.Width.TheVariants.{Byte, Word, Dword}
use Rattle.ia32_alu.specs.Numbers.{size, unsigned, highest, signed, fits_signed}
use Rattle.ia32_alu.specs.Arithmetic.{settled}
use Rattle.ia32_alu.specs.Products.{divided}

-- one result for one pair of integers
pub settled-same : (k : ℕ) (u v s t : ℤ) → u ≡ v → s ≡ t → settled k u s ≡ settled k v t
settled-same k u v s t p q = cc

-- 0 in two's complement is 0
pub signed-zero : (w : Width) (n : ℕ) → signed (size w) n ≡ pos 0 → unsigned (size w) n ≡ 0
unfolding signed highest
signed-zero Byte n e = grind (arith, ints, nat_tests)
signed-zero Word n e = grind (arith, ints, nat_tests)
signed-zero Dword n e = grind (arith, ints, nat_tests)

-- what doesn't fit 64 bits fits no operand
pub fits-no_operand : (w : Width) (z : ℤ) → ¬ (FitsSigned w64 z) → fits_signed (size w) z ≡ false
unfolding fits_signed
fits-no_operand Byte z n = grind (arith, ints, nat_tests)
fits-no_operand Word z n = grind (arith, ints, nat_tests)
fits-no_operand Dword z n = grind (arith, ints, nat_tests)

-- a flag counts at most 1
pub from_bool-le : (b : Bool) → from_bool b ≤ 1
from_bool-le true = omega arith
from_bool-le false = omega arith

-- a number that isn't 0 has bits that aren't 0
is_non_zero : (y : ℤ) → FitsSigned w64 y → y ≢ pos 0 → IsNonZero w64 y
is_non_zero (pos n) f h = let g : n ≢ 0 = λ e. h (ap pos e) in omega (arith, g)
is_non_zero (negsuc n) f h = let g : n < 2 ^ 63 = f.sfits in omega arith

-- a quotient that doesn't fit 64 bits fits no operand
pub divided-too_wide : (w : Width) (x y : ℤ) → FitsSigned w64 x → FitsSigned w64 y → y ≢ pos 0
    → ¬ (CanDivide w64 (to_z w64 (of_z w64 x)) (to_z w64 (of_z w64 y))) → divided true (size w) x y ≡ None
divided-too_wide w x y f g h cannot =
    let known = simp to_z-of_z at cannot in
    rw (fits-no_operand w (int_div x y) (λ k. known (is_non_zero y g h, k)))
