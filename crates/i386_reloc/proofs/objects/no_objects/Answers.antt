use Rattle.std.proofs.Common.{arith}
use Rattle.i386_reloc.proofs.ObjectSymbols.{are_no_objects}
use Rattle.i386_reloc.proofs.objects.no_objects.Goals as goal

pub returns : goal.returns
returns c =
    are_no_objects c.args.object.now c.loop.table.items (omega (arith, c.loop.table.ok.0, c.loop.invariant.0))
    (λ i d within. c.loop.invariant.1 i d (omega arith))
