use Rattle.std.proofs.Common.{◌∙◌, arith}
use Rattle.std.proofs.lemmas.List.{take_all}
use Rattle.std.proofs.lemmas.List.Elements.{All-push, All-same}
use Rattle.i386_reloc.specs.References.{relocations_of}
use Rattle.i386_reloc.specs.inside.Fields.{IsPlaced}
use Rattle.i386_reloc.proofs.RelocationLists.{take_relocation, length-relocations}
use Rattle.i386_reloc.proofs.relocations.relocations.Goals as goal

pub loop-k-preserved : goal.loop-k-preserved
loop-k-preserved c =
    let bytes = c.args.object.now in
    let r = c.reloc.result in
    record {
      items = c.in_ok-push.ensures.items ∙ take_relocation bytes c.args.i c.loop-k.k r c.loop-k.list.items
          c.loop-k.invariant.items (omega arith) c.reloc.ensures.relocation;
      placed = All-same (λ x. IsPlaced bytes c.args.i x) _ _ c.in_ok-push.ensures.items
          (All-push (λ x. IsPlaced bytes c.args.i x) c.loop-k.list.items r c.loop-k.invariant.placed
          (record {
            symbol = c.reloc.ensures.symbol;
            begins = c.reloc.ensures.begins;
            within =
                c.reloc.ensures.field;
          }));
    }

pub returns-clause-items : goal.returns-clause-items
returns-clause-items c =
    c.loop-k.invariant.items
    ∙ take_all c.loop-k.k (relocations_of c.args.object.now c.args.i)
    (omega (arith, length-relocations c.args.object.now c.args.i))
