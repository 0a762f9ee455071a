use Rattle.std.proofs.Common.{subst, sym, ap, length, arith}
use Rattle.elf32_object.specs.declared.rows.Spot.{Spot}
use Rattle.elf32_object.specs.declared.types.Reloc.{Reloc}
use Rattle.elf32_object.specs.Fields.{section_count, IsRelocation}
use Rattle.elf32_object.proofs.Entries.{entry_in_file}
use Rattle.elf32_object.proofs.Spots.{length-row, row_spot, spot_relocation}
use Rattle.elf32_object.proofs.table.relocation_of.Goals as goal

pub spot_at-spot-requires : goal.spot_at-spot-requires
spot_at-spot-requires c =
    let bytes = c.args.layout.now.bytes.now in
    let row = c.index-rows-section.result in
    omega (
      arith,
      ap (length {A = Spot}) c.as_slice.ensures.value,
      row.ok.0,
      c.requires.below,
      length-row bytes
          c.args.rows.now c.args.section (section_count bytes) row c.requires.rows c.requires.within
          c.index-rows-section.is,
    )

pub entry-requires-clause-within : goal.entry-requires-clause-within
entry-requires-clause-within c =
    let bytes = c.args.layout.now.bytes.now in
    let is = row_spot bytes c.args.rows.now c.args.section
    (section_count bytes) c.index-rows-section.result c.args.k c.spot_at-spot.result c.requires.rows
    c.requires.within c.index-rows-section.is c.requires.below
    (rw c.as_slice.ensures.value at c.spot_at-spot.ensures) in
    omega (arith, is.below)

pub entry-requires-clause-in_file : goal.entry-requires-clause-in_file
entry-requires-clause-in_file c =
    let bytes = c.args.layout.now.bytes.now in
    let is = row_spot bytes c.args.rows.now c.args.section
    (section_count bytes) c.index-rows-section.result c.args.k c.spot_at-spot.result c.requires.rows
    c.requires.within c.index-rows-section.is c.requires.below
    (rw c.as_slice.ensures.value at c.spot_at-spot.ensures) in
    entry_in_file bytes c.spot_at-spot.result.from c.spot_at-spot.result.index c.requires.sections is.in_range

pub returns : goal.returns
returns c =
    let bytes = c.args.layout.now.bytes.now in
    let is = row_spot bytes c.args.rows.now c.args.section
    (section_count bytes) c.index-rows-section.result c.args.k c.spot_at-spot.result c.requires.rows
    c.requires.within c.index-rows-section.is c.requires.below
    (rw c.as_slice.ensures.value at c.spot_at-spot.ensures) in
    subst (λ (r : Reloc). IsRelocation bytes c.args.section c.args.k r) (sym c.entry.ensures)
    (spot_relocation bytes c.args.section (section_count bytes) c.args.k c.spot_at-spot.result is)
