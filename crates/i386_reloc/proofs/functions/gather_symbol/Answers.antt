use Rattle.i386_reloc.proofs.FunctionSymbols.{are_functions_more}
use Rattle.i386_reloc.proofs.functions.gather_symbol.Goals as goal

pub returns-then-k-gt0 : goal.returns-then-k-gt0
returns-then-k-gt0 c =
    let e = c.symbol.ensures in
    are_functions_more c.args.source.now.object.now c.args.k c.args.table.now c.note.new.table c.symbol.result.now.info
    c.symbol.result.now.section c.symbol.result.now.value c.if-k-gt0.true e.info e.section e.value c.note.auto.table
    c.note.ensures c.requires.before
