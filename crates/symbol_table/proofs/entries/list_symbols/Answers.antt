use Rattle.std.proofs.Common.{arith}
use Rattle.symbol_table.proofs.EntryLaws.{listed_more}
use Rattle.symbol_table.proofs.entries.list_symbols.Goals as goal

pub loop-place-preserved : goal.loop-place-preserved
loop-place-preserved c =
    let held = c.loop-place.invariant in
    record {
      listed = listed_more c.args.index c.args.symbols.now c.index-symbols-place.result c.loop-place.place
          c.loop-place.entries.items _ c.loop-place-test.true c.index-symbols-place.is c.push_symbol.ensures.items
          held.listed;
      len = omega (arith, held.len, c.push_symbol.ensures.len);
      capacity = omega (arith, held.capacity, c.push_symbol.ensures.capacity);
    }
