use Rattle.std.proofs.Common.{true, false, sym, ◌∙◌}
use Rattle.i386_reloc.proofs.RelocationFaults.{target_read}
use Rattle.i386_reloc.proofs.relocation_checks.check_target.Goals as goal

pub returns-then-not-has_target-clause-finds : goal.returns-then-not-has_target-clause-finds
returns-then-not-has_target-clause-finds c = λ _.
    rw (c.in_ok-from_slice.ensures, c.requires.section.name)
    (target_read c.args.source.now.object.now c.args.i c.args.r false
    (sym c.if-not-has_target.true ∙ c.has_target.ensures))

pub returns-clause-finds : goal.returns-clause-finds
returns-clause-finds c =
    target_read c.args.source.now.object.now c.args.i c.args.r true
    (sym c.if-not-has_target.false ∙ c.has_target.ensures)
