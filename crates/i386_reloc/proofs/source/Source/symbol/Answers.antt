use Rattle.std.proofs.Common.{ap}
use Rattle.i386_reloc.proofs.KnownSections.{named_here}
use Rattle.i386_reloc.proofs.source.Source.symbol.Goals as goal

pub returns-clause-name : goal.returns-clause-name
returns-clause-name c =
    ap (λ n. n.name) (named_here c.args.self.now.object.now c.args.self.now.symbols.items c.args.k c.index.result.now
    c.args.self.now.named c.requires.above_null c.requires.within c.index.ensures)

pub returns-clause-value : goal.returns-clause-value
returns-clause-value c =
    ap (λ n. n.value) (named_here c.args.self.now.object.now c.args.self.now.symbols.items c.args.k c.index.result.now
    c.args.self.now.named c.requires.above_null c.requires.within c.index.ensures)

pub returns-clause-info : goal.returns-clause-info
returns-clause-info c =
    ap (λ n. n.info) (named_here c.args.self.now.object.now c.args.self.now.symbols.items c.args.k c.index.result.now
    c.args.self.now.named c.requires.above_null c.requires.within c.index.ensures)

pub returns-clause-section : goal.returns-clause-section
returns-clause-section c =
    ap (λ n. n.section) (named_here c.args.self.now.object.now c.args.self.now.symbols.items c.args.k c.index.result.now
    c.args.self.now.named c.requires.above_null c.requires.within c.index.ensures)
