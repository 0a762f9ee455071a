use Rattle.work_forms.proofs.SymbolLaws.{pre_symbols, post_symbols}
use Rattle.work_forms.proofs.laws.object_symbols_are_read.Goals as goal

pub returns-clause-pre : goal.returns-clause-pre
returns-clause-pre c = pre_symbols

pub returns-clause-post : goal.returns-clause-post
returns-clause-post c = post_symbols
