use Rattle.std.proofs.Common.{◌∙◌, ◌++◌, ap, arith}
use Rattle.std.specs.List.{flat_map}
use Rattle.std.proofs.lemmas.List.{take_all}
use Rattle.ks_base.specs.inside.Parts.{part_text}
use Rattle.ks_base.proofs.TextLaws.{parts_flat}
use Rattle.ks_base.proofs.parts.put_parts.Goals as goal

pub returns : goal.returns
returns c =
    let parts = c.args.parts.now in
    c.loop-part.invariant
    ∙ ap (λ ps. c.args.line.now ++ flat_map part_text ps) (take_all c.loop-part.part-index parts (omega arith))
    ∙ ap (λ text. c.args.line.now ++ text) (parts_flat parts)
