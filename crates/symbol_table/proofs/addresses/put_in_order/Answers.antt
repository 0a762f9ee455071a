use Rattle.std.proofs.Common.{eqb}
use Rattle.std.proofs.lemmas.List.Filters.{dedup_is}
use Rattle.symbol_table.specs.laws.AscendingLaws.{dedup_is_ascending}
use Rattle.symbol_table.proofs.addresses.put_in_order.Goals as goal

pub returns : goal.returns
returns c = dedup_is_ascending _ _ _ c.in_ok-sorted.ensures.same c.in_ok-sorted.ensures.rise
    (dedup_is eqb _ _ c.each_once.ensures)
