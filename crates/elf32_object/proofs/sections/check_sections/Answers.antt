use Rattle.std.proofs.Common.{refl, arith}
use Rattle.std.proofs.lemmas.Result.{err_from_is_err_and}
use Rattle.elf32_object.specs.Fields.{section_count}
use Rattle.elf32_object.specs.Rules.{section_fault}
use Rattle.elf32_object.specs.laws.BelowLaws.{first_at}
use Rattle.elf32_object.proofs.Loads.{null_totals}
use Rattle.elf32_object.proofs.sections.check_sections.Goals as goal

pub loop-i-init : goal.loop-i-init
unfolding section_fault
loop-i-init c = (refl, null_totals c.args.layout.now.bytes.now)

pub returns-in_err-totals : goal.returns-in_err-totals
returns-in_err-totals c =
    let p = err_from_is_err_and c.from_residual.result c.from_residual.ensures.1 in
    let bytes = c.args.layout.now.bytes.now in
    rw (p.1, p.2) (λ other. first_at (section_fault bytes) (section_count bytes) c.loop-i.i _ c.loop-i.invariant.0
    (c.in_err-totals.ensures.finds other) (omega arith))
