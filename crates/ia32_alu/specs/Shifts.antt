-- Shifts and rotations: SHL, SHR and SAR (Intel SDM volume 2, SAL/SAR/SHL/SHR), ROL and ROR (RCL/RCR/ROL/ROR). The
-- count is masked to 5 bits, and 0 changes nothing. What is marked as own the manual leaves undefined.
use Rattle.std.specs.Prelude.{ℕ, ◌-◌, ◌*◌, ◌/◌, ◌%◌, ◌^◌, Bool, false, ◌&&◌, nat_lt, ◌==◌, if◌then◌else◌}
use Rattle.std.specs.Int.{w32, int_shr, bit_at, rotate_left, rotate_right}
use Rattle.ia32_alu.specs.declared.types.Flags.{Flags}
use Rattle.ia32_alu.specs.declared.types.Shift.{Shift}
use Rattle.ia32_alu.specs.declared.types.Shift.TheVariants.{Rol, Ror, Shl, Shr, Sar}
use Rattle.ia32_alu.specs.Numbers.{unsigned, highest, signed, wrapped, flags_of, differ}

-- the lowest five bits of the count
abbrev pub masked : ℕ → ℕ
masked count = count % 32

-- Times 2 ^ c. CF is the bit just above the k bits, and clear where all bits are shifted out (own). OF after one place:
-- the sign has changed; after more: clear (own).
unfoldable pub shifted_left : ℕ → ℕ → ℕ → ℕ × Flags
shifted_left k a c =
    let value : ℕ = unsigned k (unsigned k a * 2 ^ c) in
    let carry : Bool = nat_lt c k && bit_at (unsigned k a * 2 ^ c) k == 1 in
    (value, flags_of k value carry (c == 1 && differ (highest k value) carry))

-- Divided by 2 ^ c, rounded down. CF is bit c - 1 of the operand, and clear where all bits are shifted out (own). OF
-- after one place: the operand's highest bit; after more: clear (own).
unfoldable pub shifted_right : ℕ → ℕ → ℕ → ℕ × Flags
shifted_right k a c =
    let value : ℕ = unsigned k a / 2 ^ c in
    (value, flags_of k value (nat_lt c k && bit_at (unsigned k a) (c - 1) == 1) (c == 1 && highest k a))

-- The signed operand divided by 2 ^ c, rounded down. CF is bit c - 1 of the signed operand, the sign bit where c is k
-- or more: the lowest bit after one place less. OF is clear after one place, and after more (own).
unfoldable pub shifted_right_signed : ℕ → ℕ → ℕ → ℕ × Flags
shifted_right_signed k a c =
    let value : ℕ = wrapped k (int_shr (signed k a) c) in
    (value, flags_of k value (wrapped 1 (int_shr (signed k a) (c - 1)) == 1) false)

-- 32 bits rotated to the left. CF is the result's lowest bit. OF after one place: highest bit and CF differ; after
-- more: clear (own). ZF, SF and PF stay.
unfoldable pub rotated_left : ℕ → ℕ → Flags → ℕ × Flags
rotated_left a c flags =
    let value : ℕ = rotate_left w32 (unsigned 32 a) c in
    let carry : Bool = bit_at value 0 == 1 in
    (value, record flags { cf = carry; of = c == 1 && differ (highest 32 value) carry })

-- 32 bits rotated to the right. CF is the result's highest bit. OF after one place: the two highest bits differ; after
-- more: clear (own). ZF, SF and PF stay.
unfoldable pub rotated_right : ℕ → ℕ → Flags → ℕ × Flags
rotated_right a c flags =
    let value : ℕ = rotate_right w32 (unsigned 32 a) c in
    (value, record flags { cf = highest 32 value; of = c == 1 && differ (highest 32 value) (bit_at value 30 == 1) })

-- by a count that isn't 0; rotations are of 32 bits alone
abbrev pub moved : Shift → ℕ → ℕ → ℕ → Flags → ℕ × Flags
moved Rol k a c flags = rotated_left a c flags
moved Ror k a c flags = rotated_right a c flags
moved Shl k a c flags = shifted_left k a c
moved Shr k a c flags = shifted_right k a c
moved Sar k a c flags = shifted_right_signed k a c

abbrev pub shift_of : Shift → ℕ → ℕ → ℕ → Flags → ℕ × Flags
shift_of op k a count flags = if masked count == 0 then (unsigned k a, flags) else moved op k a (masked count) flags
