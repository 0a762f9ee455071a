-- The value of a field that a relocation changes (Intel386 supplement, "Relocation Types"): S + A for R_386_32,
-- S + A - P for R_386_PC32 and R_386_PLT32, S being the target's address, A the addend and P the field's address.
use Rattle.std.specs.Prelude.{ℕ, ◌+◌, ◌-◌, ◌%◌, ◌^◌}
use Rattle.i386_reloc.specs.declared.types.Form.{Form}
use Rattle.i386_reloc.specs.declared.types.Form.TheVariants.{Absolute, Relative}

abbrev pub value_of : Form → ℕ → ℕ → ℕ → ℕ
value_of Absolute s a p = (s + a) % 2 ^ 32
value_of Relative s a p = (s + a + (2 ^ 32 - p)) % 2 ^ 32
