use Rattle.i386_reloc.proofs.Wholes.{all_whole}
use Rattle.i386_reloc.proofs.laws.sections_are_whole.Goals as goal

pub returns : goal.returns
returns c = all_whole
