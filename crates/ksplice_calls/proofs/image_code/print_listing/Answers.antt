use Rattle.ks_io.specs.laws.KeptLaws.{SinkKept-trans}
use Rattle.ksplice_calls.proofs.image_code.print_listing.Goals as goal

pub returns-in-Some-clause-out : goal.returns-in-Some-clause-out
returns-in-Some-clause-out g c = SinkKept-trans c.loop-status.invariant.kept c.print_page.ensures.out
