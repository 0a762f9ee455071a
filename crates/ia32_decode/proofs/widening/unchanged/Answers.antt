use Rattle.std.proofs.Common.{length, arith, ap, ◌∙◌, ◌++◌}
use Rattle.ia32_decode.specs.Wide.{padded}
use Rattle.ia32_decode.proofs.WideForms.{parts, same_form}
use Rattle.ia32_decode.proofs.widening.unchanged.Goals as goal

pub first_bytes-requires : goal.first_bytes-requires
first_bytes-requires c = (parts _ _ c.requires.decoded).within

pub push-requires : goal.push-requires
push-requires c =
    let p = parts _ _ c.requires.decoded in
    omega (arith, p.short, ap length c.new-form.ensures, c.first_bytes.ensures.length)

pub returns : goal.returns
returns c =
    same_form _ _ c.requires.decoded c.requires.none _
    (c.padded.ensures ∙ ap padded (c.push.ensures ∙ ap (λ l. l ++ c.first_bytes.result.now) c.new-form.ensures
    ∙ c.first_bytes.ensures.value))
