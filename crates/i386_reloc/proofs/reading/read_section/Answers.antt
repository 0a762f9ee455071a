use Rattle.std.proofs.Common.{sym, ◌∙◌}
use Rattle.i386_reloc.proofs.FunctionSymbols.{function_symbol_in}
use Rattle.i386_reloc.proofs.reading.read_section.Goals as goal

pub function_name-requires : goal.function_name-requires
function_name-requires c = λ k found. function_symbol_in c.args.source.now.object.now c.args.i k
    (sym c.requires.function ∙ found)

pub is_global_function-requires : goal.is_global_function-requires
is_global_function-requires c = λ k found. function_symbol_in c.args.source.now.object.now c.args.i k
    (sym c.requires.function ∙ found)
