use Rattle.std.proofs.Common.{true, false, sym, ◌∙◌}
use Rattle.i386_reloc.proofs.RelocationFaults.{kind_read}
use Rattle.i386_reloc.proofs.relocation_checks.check_kind.Goals as goal

pub returns-then-not-is_known-clause-finds : goal.returns-then-not-is_known-clause-finds
returns-then-not-is_known-clause-finds c = λ _.
    rw (c.in_ok-from_slice.ensures, c.requires.section.name)
    (kind_read c.args.source.now.object.now c.args.i c.args.section.now c.class_of.result c.args.r
    c.names_strings.result false c.requires.section c.class_of.ensures c.names_strings.ensures
    (sym c.if-not-is_known.true ∙ c.is_known.ensures))

pub returns-clause-finds : goal.returns-clause-finds
returns-clause-finds c =
    kind_read c.args.source.now.object.now c.args.i c.args.section.now c.class_of.result c.args.r c.names_strings.result
    true c.requires.section c.class_of.ensures c.names_strings.ensures
    (sym c.if-not-is_known.false ∙ c.is_known.ensures)
