use Rattle.symbol_table.proofs.BodyLaws.{newest_moved}
use Rattle.symbol_table.proofs.bodies.Bodies.new.Goals as goal

pub returns-clause-newest : goal.returns-clause-newest
returns-clause-newest c = newest_moved c.args.rows.items c.by_home.result.items c.requires c.by_home.ensures.same
