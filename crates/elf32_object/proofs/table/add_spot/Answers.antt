use Rattle.std.proofs.Common.{arith}
use Rattle.elf32_object.proofs.Spots.{row_set}
use Rattle.elf32_object.proofs.table.add_spot.Goals as goal

pub returns-clause-added : goal.returns-clause-added
returns-clause-added c =
    row_set c.args.rows.now.items c.args.section c.index_mut.result.now c.push.new.self c.args.spot
    (omega (arith, c.args.rows.now.ok.0)) c.index_mut.ensures.value c.in_ok-push.ensures.items
