-- Operands of 8, 16 and 32 bits as numbers, unsigned and in two's complement (Intel SDM volume 1, section 4.2.1), and
-- the flags of a result (section 3.4.3.1). A number of bits is called k.
use Rattle.std.specs.Prelude.{ℕ, ◌-◌, ◌%◌, ◌^◌, Bool, true, false, ◌&&◌, not, ℤ, pos, ◌-ℤ◌, neg_ℤ, unsigned_abs}
use Rattle.std.specs.Prelude.{int_lt, int_le, count_ones, nat_le, ◌==◌, if◌then◌else◌}
use Rattle.std.specs.Int.{int_rem_euclid}
use Rattle.ia32_alu.specs.declared.types.Width.{Width}
use Rattle.ia32_alu.specs.declared.types.Width.TheVariants.{Byte, Word, Dword}
use Rattle.ia32_alu.specs.declared.types.Flags.{Flags}

-- how many bits an operand has
abbrev pub size : Width → ℕ
size Byte = 8
size Word = 16
size Dword = 32

-- the lowest k bits of n, as an unsigned number: an operand counts by these alone
abbrev pub unsigned : ℕ → ℕ → ℕ
unsigned k n = n % 2 ^ k

-- the highest of the k bits
unfoldable pub highest : ℕ → ℕ → Bool
highest k n = nat_le (2 ^ (k - 1)) (unsigned k n)

-- the lowest k bits of n in two's complement: the highest of them counts as -2 ^ (k - 1)
unfoldable pub signed : ℕ → ℕ → ℤ
signed k n = if highest k n then pos (unsigned k n) -ℤ pos (2 ^ k) else pos (unsigned k n)

-- the lowest k bits of an integer
unfoldable pub wrapped : ℕ → ℤ → ℕ
wrapped k z = unsigned_abs (int_rem_euclid z (pos (2 ^ k)))

-- z is from 0 to 2 ^ k - 1, and so an unsigned number of k bits
unfoldable pub fits_unsigned : ℕ → ℤ → Bool
fits_unsigned k z = int_le (pos 0) z && int_lt z (pos (2 ^ k))

-- z is from -2 ^ (k - 1) to 2 ^ (k - 1) - 1, and so a signed number of k bits
unfoldable pub fits_signed : ℕ → ℤ → Bool
fits_signed k z = int_le (neg_ℤ (pos (2 ^ (k - 1)))) z && int_lt z (pos (2 ^ (k - 1)))

-- PF: the lowest byte has an even number of ones
unfoldable pub even_parity : ℕ → Bool
even_parity n = count_ones (n % 0x100) % 2 == 0

-- ZF, SF and PF of a result of k bits, beside a carry and an overflow
unfoldable pub flags_of : ℕ → ℕ → Bool → Bool → Flags
flags_of k n carry overflow = record { cf = carry; pf = even_parity n; zf = n == 0; sf = highest k n; of = overflow }

-- two flags aren't the same
abbrev pub differ : Bool → Bool → Bool
differ true b = not b
differ false b = b
