-- Sums, differences and bitwise operations: ADD, ADC, SUB, SBB, CMP, NEG, INC, DEC, AND, OR, XOR, TEST and NOT (Intel
-- SDM volume 2, under these names; the flags are those of volume 1, section 3.4.3.1). Each gives the lowest k bits of a
-- result, and the flags.
use Rattle.std.specs.Prelude.{ℕ, ◌-◌, ◌^◌, Bool, false, not, ℤ, pos, ◌+ℤ◌, ◌-ℤ◌, bit_and, bit_or, bit_xor}
use Rattle.std.specs.Int.{from_bool}
use Rattle.ia32_alu.specs.declared.types.Flags.{Flags}
use Rattle.ia32_alu.specs.declared.types.Binary.{Binary}
use Rattle.ia32_alu.specs.declared.types.Binary.TheVariants.{Add, Or, Adc, Sbb, And, Sub, Xor, Cmp, Test}
use Rattle.ia32_alu.specs.declared.types.Unary.{Unary}
use Rattle.ia32_alu.specs.declared.types.Unary.TheVariants.{Inc, Dec, Not, Neg}
use Rattle.ia32_alu.specs.Numbers.{unsigned, signed, wrapped, fits_unsigned, fits_signed, flags_of}

-- The result of one computation, on the operands as unsigned numbers (u) and as signed ones (s). Their lowest k bits
-- are the same. CF: the unsigned result doesn't fit k bits; OF: the signed one doesn't.
unfoldable pub settled : ℕ → ℤ → ℤ → ℕ × Flags
settled k u s = (wrapped k u, flags_of k (wrapped k u) (not (fits_unsigned k u)) (not (fits_signed k s)))

-- a + b and a carry
unfoldable pub sum_of : ℕ → ℕ → ℕ → Bool → ℕ × Flags
sum_of k a b carry = settled k
    ((pos (unsigned k a) +ℤ pos (unsigned k b)) +ℤ pos (from_bool carry))
    ((signed k a +ℤ signed k b) +ℤ pos (from_bool carry))

-- a - b less a borrow
unfoldable pub difference_of : ℕ → ℕ → ℕ → Bool → ℕ × Flags
difference_of k a b borrow = settled k
    ((pos (unsigned k a) -ℤ pos (unsigned k b)) -ℤ pos (from_bool borrow))
    ((signed k a -ℤ signed k b) -ℤ pos (from_bool borrow))

-- a bitwise operation on the operands' bits clears CF and OF
unfoldable pub bitwise : (ℕ → ℕ → ℕ) → ℕ → ℕ → ℕ → ℕ × Flags
bitwise f k a b = (f (unsigned k a) (unsigned k b), flags_of k (f (unsigned k a) (unsigned k b)) false false)

-- the flags alone; the first operand stays
abbrev pub compared : ℕ → ℕ → ℕ × Flags → ℕ × Flags
compared k a given = (unsigned k a, given.1)

-- all but CF, which stays
abbrev pub keeping_carry : Flags → ℕ × Flags → ℕ × Flags
keeping_carry flags given = (given.0, record given.1 { cf = flags.cf })

abbrev pub binary_of : Binary → ℕ → ℕ → ℕ → Flags → ℕ × Flags
binary_of Add k a b flags = sum_of k a b false
binary_of Adc k a b flags = sum_of k a b flags.cf
binary_of Sub k a b flags = difference_of k a b false
binary_of Sbb k a b flags = difference_of k a b flags.cf
binary_of Cmp k a b flags = compared k a (difference_of k a b false)
binary_of And k a b flags = bitwise bit_and k a b
binary_of Or k a b flags = bitwise bit_or k a b
binary_of Xor k a b flags = bitwise bit_xor k a b
binary_of Test k a b flags = compared k a (bitwise bit_and k a b)

-- NOT inverts each bit, and no flag changes
abbrev pub unary_of : Unary → ℕ → ℕ → Flags → ℕ × Flags
unary_of Inc k a flags = keeping_carry flags (sum_of k a 1 false)
unary_of Dec k a flags = keeping_carry flags (difference_of k a 1 false)
unary_of Neg k a flags = difference_of k 0 a false
unary_of Not k a flags = (2 ^ k - 1 - unsigned k a, flags)
