use Rattle.std.proofs.Common.{◌≡◌, ◌+◌, ◌++◌, ◌∷◌, [], take, arith}
use Rattle.std.proofs.lemmas.Grind.{common_steps}
use Rattle.match_instructions.specs.inside.Named.{naming}
use Rattle.match_instructions.proofs.NamedLaws.{named_step}
use Rattle.match_instructions.proofs.named.take_references.Goals as goal

pub loop-k-preserved : goal.loop-k-preserved
loop-k-preserved c =
    let more : take (c.loop-k.k + 1) c.as_slice-references.result.now ≡ take c.loop-k.k c.as_slice-references.result.now
    ++ c.index-references-k.result ∷ [] = grind (arith, common_steps) in
    named_step c.args.normal.now (naming (take c.args.i c.args.normal.now)) c.as_slice-references.result.now c.loop-k.k
    c.index-references-k.result c.loop-k.table.items c.take_reference.new.table.items
    c.requires.distinct more c.loop-k.invariant c.in_ok-take_reference.ensures
