use Rattle.std.proofs.Common.{refl, arith}
use Rattle.std.proofs.lemmas.Result.{err_from_is_err_and}
use Rattle.i386_reloc.specs.Refused.{relocation_fault_of}
use Rattle.i386_reloc.proofs.RelocationFaults.{finds_among, among_more}
use Rattle.i386_reloc.proofs.relocation_checks.check_relocations.Goals as goal

pub returns-in_err-check_relocation : goal.returns-in_err-check_relocation
returns-in_err-check_relocation c =
    let p = err_from_is_err_and c.from_residual.result c.from_residual.ensures.1 in
    rw (p.1, p.2)
    (finds_among (relocation_fault_of c.args.source.now.object.now c.args.i) c.args.relocations.now c.loop-r.r-index _ _
    _ c.loop-r.invariant (omega arith) refl c.in_err-check_relocation.ensures)

pub loop-r-preserved : goal.loop-r-preserved
loop-r-preserved c =
    among_more (relocation_fault_of c.args.source.now.object.now c.args.i) c.args.relocations.now c.loop-r.r-index _ _
    (omega arith) refl c.loop-r.invariant c.in_ok-check_relocation.ensures
