use Rattle.std.proofs.Common.{◌≡◌, ◌≤◌, [], ◌∷◌, ◌++◌, length, ap, arith}
use Rattle.std.proofs.lemmas.Result.{err_from_is_err_and}
use Rattle.symbol_table.specs.declared.symbols.Symbol.{Symbol}
use Rattle.symbol_table.specs.Table.{Table}
use Rattle.image_file.specs.Fields.{items_at}
use Rattle.image_file.specs.Reading.{symbol_at, symbol_width}
use Rattle.std.proofs.Common.{length-append, IsTrue}
use Rattle.std.proofs.lemmas.List.Elements.{All-push}
use Rattle.image_file.specs.Keeps.{keeps_symbol}
use Rattle.image_file.proofs.Items.{goes_on, ends, is_done}
use Rattle.image_file.proofs.symbols.symbols_of.Goals as goal

pub returns-in_err-symbol-clause-exact : goal.returns-in_err-symbol-clause-exact
returns-in_err-symbol-clause-exact c =
    let p = err_from_is_err_and c.from_residual.result c.from_residual.ensures.1 in
    let item = symbol_at c.args.bytes.now c.args.pieces.now in
    rw (p.1, p.2) (ends item symbol_width c.args.count c.loop.counter c.loop.symbols.items c.loop.offset
    c.in_err-symbol.field-0.0
    (items_at c.args.count item symbol_width [] c.args.first) c.loop-test.true
    (λ other. c.in_err-symbol.ensures.exact other) c.loop.invariant.reads)

pub loop-preserved : goal.loop-preserved
loop-preserved c =
    let symbol = c.in_ok-symbol.symbol in
    let inv = c.loop.invariant in
    let item = symbol_at c.args.bytes.now c.args.pieces.now in
    let e : c.push_reserved.new.self.items ≡ c.loop.symbols.items ++ symbol ∷ [] = cc in
    let long : c.len.result ≡ length symbol.name = c.len.ensures in
    let short : length symbol.name ≤ 4096 = c.in_ok-symbol.ensures.short in
    rw (e, long) (record {
      reads = goes_on item symbol_width c.args.count c.loop.counter c.loop.symbols.items c.loop.offset symbol
          (items_at c.args.count item symbol_width [] c.args.first) c.loop-test.true c.in_ok-symbol.ensures.exact
          inv.reads;
      place = omega arith;
      count_is = omega (arith, length-append c.loop.symbols.items (symbol ∷ []));
      kept = All-push (λ (x : Symbol). IsTrue (keeps_symbol c.args.pieces.now x)) c.loop.symbols.items symbol inv.kept
          c.in_ok-symbol.ensures.kept;
    })

pub returns-clause-exact : goal.returns-clause-exact
returns-clause-exact c =
    let item = symbol_at c.args.bytes.now c.args.pieces.now in
    rw (ap (λ (t : Table). t.symbols) c.in_ok-from_symbols.ensures)
    (is_done item symbol_width c.args.count c.loop.counter c.loop.symbols.items c.loop.offset
    (items_at c.args.count item symbol_width [] c.args.first) c.loop-test.false c.loop.invariant.reads)
