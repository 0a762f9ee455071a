use Rattle.std.proofs.Common.{sym, ◌∙◌}
use Rattle.i386_reloc.proofs.RightFields.{strings_loaded}
use Rattle.i386_reloc.proofs.relocation_checks.has_end.Goals as goal

pub section-known-requires : goal.section-known-requires
section-known-requires c =
    strings_loaded c.args.source.now.object.now c.symbol-symbol.result.now.section
    (sym c.is_strings.ensures ∙ c.if-not-is_strings.false)
