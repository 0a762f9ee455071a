use Rattle.std.proofs.Common.{◌∙◌}
use Rattle.i386_reloc.proofs.KnownSections.{loaded_known}
use Rattle.i386_reloc.proofs.source.Source.is_loaded.Goals as goal

pub returns : goal.returns
returns c = c.is_some.ensures ∙ loaded_known c.args.self.now.object.now c.args.j c.known.result c.known.ensures
