use Rattle.std.proofs.Common.{length, ap, sym}
use Rattle.work_gen.specs.Functions.{function_code}
use Rattle.work_gen.proofs.functions.code_size.Goals as goal

pub returns-then-calls : goal.returns-then-calls
unfolding function_code
returns-then-calls c = λ displacement constant.
    ap (λ calls. length (function_code calls displacement constant)) (sym c.if-calls.true)

pub returns-else-calls : goal.returns-else-calls
unfolding function_code
returns-else-calls c = λ displacement constant.
    ap (λ calls. length (function_code calls displacement constant)) (sym c.if-calls.false)
