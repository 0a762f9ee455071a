use Rattle.std.proofs.Common.{arith}
use Rattle.elf32_object.specs.Fields.{section_count}
use Rattle.elf32_object.proofs.Totals.{few_entries, below_all}
use Rattle.elf32_object.proofs.Spots.{length-row}
use Rattle.elf32_object.proofs.table.count_of.Goals as goal

pub overflow_cast-result : goal.overflow_cast-result
overflow_cast-result c =
    let bytes = c.args.layout.now.bytes.now in
    let row = c.index-rows-section.result in
    omega (
      arith,
      row.ok.0,
      few_entries bytes (section_count bytes) c.requires.sections,
      below_all bytes c.args.section (section_count bytes),
      length-row bytes c.args.rows.now c.args.section (section_count bytes) row c.requires.rows c.requires.within
          c.index-rows-section.is,
    )

pub returns-clause-count : goal.returns-clause-count
returns-clause-count c =
    let bytes = c.args.layout.now.bytes.now in
    let row = c.index-rows-section.result in
    omega (
      arith,
      row.ok.0,
      length-row bytes c.args.rows.now c.args.section
          (section_count bytes) row c.requires.rows c.requires.within c.index-rows-section.is,
    )

pub returns-clause-few : goal.returns-clause-few
returns-clause-few c =
    let bytes = c.args.layout.now.bytes.now in
    let row = c.index-rows-section.result in
    omega (
      arith,
      row.ok.0,
      few_entries bytes (section_count bytes) c.requires.sections,
      below_all bytes c.args.section (section_count bytes),
      length-row bytes c.args.rows.now c.args.section (section_count bytes) row c.requires.rows c.requires.within
          c.index-rows-section.is,
    )
