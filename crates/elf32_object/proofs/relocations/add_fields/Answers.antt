use Rattle.std.proofs.Common.{arith}
use Rattle.elf32_object.proofs.Entries.{entry_in_file}
use Rattle.elf32_object.proofs.relocations.add_fields.Goals as goal

pub add_field-requires-clause-in_file : goal.add_field-requires-clause-in_file
add_field-requires-clause-in_file c =
    entry_in_file c.args.layout.now.bytes.now c.args.i c.loop-k.k c.requires.sections (omega arith)
