use Rattle.std.proofs.Common.{arith}
use Rattle.i386_reloc.proofs.ObjectSymbols.{are_objects_null, are_objects_noted}
use Rattle.i386_reloc.proofs.objects.gather_object.Goals as goal

pub returns-then-k-eq0 : goal.returns-then-k-eq0
returns-then-k-eq0 c = are_objects_null c.args.source.now.object.now c.args.k _ c.if-k-eq0.true c.requires.before

pub returns : goal.returns
returns c =
    let e = c.symbol.ensures in
    are_objects_noted c.note.result c.args.source.now.object.now c.args.k _ c.note.new.table.items
    c.symbol.result.now.name c.symbol.result.now.info c.symbol.result.now.section c.symbol.result.now.value
    (omega arith) e.name e.info e.section e.value c.note.ensures.len c.note.ensures.each c.requires.before
