use Rattle.i386_reloc.proofs.FunctionSymbols.{symbol_read}
use Rattle.i386_reloc.proofs.reading.add_section.Goals as goal

pub read_section-requires-clause-function : goal.read_section-requires-clause-function
read_section-requires-clause-function c =
    symbol_read _ _ _ _ _ _ _ c.in-Some.ensures c.requires.functions c.requires.within c.class_of.ensures
    c.symbol_of-function.ensures
