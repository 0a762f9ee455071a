use Rattle.std.proofs.Common.{◌≡◌, ap, refl, arith}
use Rattle.std.proofs.lemmas.Result.{err_from_is_err_and}
use Rattle.elf32_object.specs.Fields.{symbol_count}
use Rattle.elf32_object.specs.Rules.{symbol_fault}
use Rattle.elf32_object.specs.laws.BelowLaws.{first_at}
use Rattle.elf32_object.proofs.symbols.check_symbols.Goals as goal

pub loop-k-init : goal.loop-k-init
unfolding symbol_fault
loop-k-init c = refl

pub returns-in_err-check_symbol : goal.returns-in_err-check_symbol
returns-in_err-check_symbol c =
    let p = err_from_is_err_and c.from_residual.result c.from_residual.ensures.1 in
    let bytes = c.args.layout.now.bytes.now in
    let same : symbol_count c.args.symbols.now.bytes.now ≡ symbol_count bytes = ap symbol_count c.requires in
    rw (p.1, p.2) (λ other. first_at (symbol_fault bytes) (symbol_count bytes) c.loop-k.k _ c.loop-k.invariant
    (c.in_err-check_symbol.ensures other) (omega (arith, c.args.symbols.now.count_is)))
