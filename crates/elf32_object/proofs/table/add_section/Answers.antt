use Rattle.std.proofs.Common.{sym, ap, ◌∙◌, slice_set, get_or, [], ◌++◌, arith}
use Rattle.std.proofs.lemmas.List.{length-map}
use Rattle.std.proofs.lemmas.Result.{on_ok_weaker}
use Rattle.std.specs.Vec.{vec_items}
use Rattle.elf32_object.specs.Fields.{section_header}
use Rattle.elf32_object.specs.inside.Rows.{rows_of, spot_of}
use Rattle.elf32_object.specs.Below.{each_below}
use Rattle.elf32_object.proofs.Entries.{patches}
use Rattle.elf32_object.proofs.Loads.{loaded_within}
use Rattle.elf32_object.proofs.Spots.{same_rows, more_rows}
use Rattle.elf32_object.proofs.table.add_section.Goals as goal

pub returns-then-not-patches_loaded : goal.returns-then-not-patches_loaded
returns-then-not-patches_loaded c =
    same_rows c.args.layout.now.bytes.now c.args.i (rows_of c.args.rows.now.items)
    (sym c.patches_loaded.ensures ∙ c.if-not-patches_loaded.true) c.requires.rows

pub add_entries-requires : goal.add_entries-requires
add_entries-requires c =
    let bytes = c.args.layout.now.bytes.now in
    let within = loaded_within bytes (section_header bytes c.args.i).info
    (patches bytes c.args.i (sym c.patches_loaded.ensures ∙ c.if-not-patches_loaded.false)).3 in
    omega (
      arith,
      within,
      ap (λ h. h.info) c.header.ensures,
      c.requires.rows.counted,
      c.args.rows.now.ok.0,
      length-map
          c.args.rows.now.items vec_items,
    )

pub returns : goal.returns
returns c =
    let bytes = c.args.layout.now.bytes.now in
    let patched = sym c.patches_loaded.ensures ∙ c.if-not-patches_loaded.false in
    let rows = rows_of c.args.rows.now.items in
    let more = rows_of c.add_entries.new.rows.items in
    let target = ap (λ h. h.info) c.header.ensures in
    on_ok_weaker c.add_entries.result
    (λ added. more_rows bytes c.args.i rows more patched
    (loaded_within bytes (section_header bytes c.args.i).info (patches bytes c.args.i patched).3)
    (added
    ∙ ap (λ s. slice_set rows s (get_or rows s [] ++ each_below (spot_of c.args.i) c.entry_count.result)) target
    ∙ ap (λ n. slice_set rows (section_header bytes c.args.i).info
    (get_or rows (section_header bytes c.args.i).info [] ++ each_below (spot_of c.args.i) n)) c.entry_count.ensures)
    c.requires.rows)
    c.add_entries.ensures
