use Rattle.std.proofs.Common.{◌∙◌, arith}
use Rattle.std.proofs.lemmas.List.{length-map}
use Rattle.std.specs.Vec.{vec_items}
use Rattle.elf32_object.specs.inside.Rows.{rows_of}
use Rattle.elf32_object.proofs.Spots.{row_more}
use Rattle.elf32_object.proofs.table.add_entries.Goals as goal

pub loop-index-preserved : goal.loop-index-preserved
loop-index-preserved c =
    let start = c.args.rows.now in (
      row_more (rows_of start.items) (rows_of c.loop-index.rows.items)
          (rows_of c.add_spot.new.rows.items) c.args.section c.args.from c.loop-index.index
          (omega (arith, start.ok.0, length-map start.items vec_items)) c.loop-index.invariant.0
          c.in_ok-add_spot.ensures.added,
      c.in_ok-add_spot.ensures.len ∙ c.loop-index.invariant.1,
    )
