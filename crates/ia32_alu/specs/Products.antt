-- MUL, IMUL, DIV and IDIV (Intel SDM volume 2). What is marked as own the manual leaves undefined.
use Rattle.std.specs.Prelude.{ℕ, ◌*◌, Bool, true, false, not, ℤ, pos, ◌*ℤ◌, int_div, int_rem, Option, Some, None}
use Rattle.std.specs.Prelude.{◌==◌, if◌then◌else◌}
use Rattle.ia32_alu.specs.declared.types.Flags.{Flags}
use Rattle.ia32_alu.specs.Numbers.{unsigned, signed, wrapped, fits_unsigned, fits_signed}

-- the lowest k bits as an integer: in two's complement, or unsigned
abbrev pub number : Bool → ℕ → ℕ → ℤ
number true k n = signed k n
number false k n = pos (unsigned k n)

-- an integer is a number of k bits
abbrev pub fits : Bool → ℕ → ℤ → Bool
fits true k z = fits_signed k z
fits false k z = fits_unsigned k z

-- CF and OF alike, the others clear (own)
abbrev pub product_flags : Bool → Flags
product_flags wide = record { cf = wide; pf = false; zf = false; sf = false; of = wide }

-- the product of two numbers of k bits in 2 k bits; CF and OF where it doesn't fit k bits
unfoldable pub product_of : Bool → ℕ → ℕ → ℕ → ℕ × Flags
product_of sign k a b =
    let z : ℤ = number sign k a *ℤ number sign k b in
    (wrapped (2 * k) z, product_flags (not (fits sign k z)))

-- the quotient, rounded toward zero, and the remainder, which has the dividend's sign; the divide error (#DE) where the
-- divisor is 0 or the quotient doesn't fit k bits
abbrev pub divided : Bool → ℕ → ℤ → ℤ → Option (ℕ × ℕ)
divided sign k x y =
    if not (fits sign k (int_div x y)) then None else Some (wrapped k (int_div x y), wrapped k (int_rem x y))

-- a dividend of 2 k bits by a divisor of k bits
unfoldable pub quotient_of : Bool → ℕ → ℕ → ℕ → Option (ℕ × ℕ)
quotient_of sign k high_low by =
    if unsigned k by == 0 then None else divided sign k (number sign (2 * k) high_low) (number sign k by)
