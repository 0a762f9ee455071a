use Rattle.std.proofs.Common.{true, false, sym, ◌∙◌}
use Rattle.i386_reloc.proofs.RelocationFaults.{text_read}
use Rattle.i386_reloc.proofs.relocation_checks.check_text.Goals as goal

pub returns-then-not-has_end : goal.returns-then-not-has_end
returns-then-not-has_end c = λ _.
    rw (c.in_ok-from_slice.ensures, c.requires.section.name)
    (text_read c.args.source.now.object.now c.args.i c.args.r c.addend.result false c.addend.ensures
    (sym c.if-not-has_end.true ∙ c.has_end.ensures))

pub returns : goal.returns
returns c =
    text_read c.args.source.now.object.now c.args.i c.args.r c.addend.result true c.addend.ensures
    (sym c.if-not-has_end.false ∙ c.has_end.ensures)
