use Rattle.std.proofs.Common.{ap, arith}
use Rattle.elf32_object.proofs.Entries.{entry_in_file}
use Rattle.elf32_object.proofs.relocations.Patch.entry.Goals as goal

pub entry_at-requires : goal.entry_at-requires
entry_at-requires c =
    omega (
      arith,
      entry_in_file c.args.layout.now.bytes.now c.args.self.now.index c.args.k c.requires.sections c.requires.entry,
      ap (λ h. h.offset) c.requires.patch.header_is,
    )
