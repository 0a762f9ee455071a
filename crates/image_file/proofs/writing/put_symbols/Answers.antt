use Rattle.std.proofs.Common.{◌≡◌, Some}
use Rattle.std.specs.List.{slice_get}
use Rattle.image_file.specs.Spelling.{symbol_spelling}
use Rattle.image_file.proofs.Spelled.{one_more}
use Rattle.image_file.proofs.writing.put_symbols.Goals as goal

pub loop-i-preserved : goal.loop-i-preserved
loop-i-preserved c =
    let symbols = c.args.symbols.now.symbols in
    let there : slice_get symbols c.loop-i.i ≡ Some c.in-Some.symbol.now = cc c.in-Some.ensures in
    let more = one_more symbol_spelling c.args.out.now.items symbols c.loop-i.i c.in-Some.symbol.now there in
    cc (c.in_ok-put_symbol.ensures, c.loop-i.invariant)
