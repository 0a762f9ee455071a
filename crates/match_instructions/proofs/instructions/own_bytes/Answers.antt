use Rattle.std.proofs.Common.{take, arith}
use Rattle.std.proofs.lemmas.List.{take-take}
use Rattle.match_instructions.proofs.instructions.own_bytes.Goals as goal

pub returns-clause-spelt : goal.returns-clause-spelt
returns-clause-spelt c =
    let w = c.args.window.now in
    let d = c.args.decoded.now in
    c.decoding_rests_on_its_bytes.ensures w (take d.length w) d c.requires
    (take-take d.length d.length w (omega arith))
