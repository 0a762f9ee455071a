use Rattle.std.proofs.Common.{arith}
use Rattle.std.proofs.lemmas.Result.{err_from_is_err_and}
use Rattle.elf32_object.specs.Fields.{section_count}
use Rattle.i386_reloc.specs.Refused.{name_fault, name_fault_at}
use Rattle.i386_reloc.proofs.Firsts.{finds_first}
use Rattle.i386_reloc.proofs.names.places.Goals as goal

pub returns-in_err-place_section-clause-finds : goal.returns-in_err-place_section-clause-finds
unfolding name_fault
returns-in_err-place_section-clause-finds c =
    let p = err_from_is_err_and c.from_residual.result c.from_residual.ensures.1 in
    rw (p.1, p.2)
    (finds_first (name_fault_at c.args.object.now) c.loop-i.i (section_count c.args.object.now) _ c.loop-i.invariant.0
    (omega arith) c.in_err-place_section.ensures.finds)
