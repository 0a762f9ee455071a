use Rattle.std.proofs.Common.{ap, arith}
use Rattle.elf32_object.proofs.Entries.{target_within}
use Rattle.elf32_object.proofs.relocations.Patch.new.Goals as goal

pub header-requires : goal.header-requires
header-requires c =
    omega (
      arith,
      ap (λ h. h.info) c.header-header.ensures,
      target_within c.args.layout.now.bytes.now c.args.i 0 c.requires.entry,
    )

pub returns-clause-patch : goal.returns-clause-patch
returns-clause-patch c =
    record {
      within = omega arith;
      header_is = c.header-header.ensures;
      target_within = omega (
        arith,
        ap (λ h. h.info) c.header-header.ensures,
        target_within c.args.layout.now.bytes.now c.args.i 0 c.requires.entry,
      );
      target_is = c.header.ensures;
    }
