use Rattle.std.proofs.Common.{◌≡◌, ◌+◌, ◌-◌, get_or, take, drop, sym, ap, ◌∙◌, arith}
use Rattle.i386_reloc.proofs.ZeroPlaces.{rising_zeros, text_found, text_missing}
use Rattle.i386_reloc.proofs.texts.Texts.end.Goals as goal

pub first_from-place-requires : goal.first_from-place-requires
first_from-place-requires c =
    rising_zeros c.self.inside.bytes.now c.deref.result.now (c.deref.ensures.value ∙ c.self.invariant)

pub returns-then-place-len : goal.returns-then-place-len
returns-then-place-len c =
    let bytes = c.self.inside.bytes.now in
    let z = c.index.result.now in
    let offset = c.args.offset in
    let found = text_found bytes c.deref.result.now offset c.first_from-place.result z
    (c.deref.ensures.value ∙ c.self.invariant) c.first_from-place.ensures (omega arith)
    (c.index.ensures ∙ ap (λ zs. get_or zs c.first_from-place.result z) (sym c.deref.ensures.value)) in
    let size : z + 1 - offset ≡ z - offset + 1 = omega (arith, found.0) in
    rw (sym c.self.view_is)
    (omega (arith, found.0), omega (arith, found.1), found.2, ap (λ n. take n (drop offset bytes)) size ∙ found.3)

pub returns-else-place-len : goal.returns-else-place-len
returns-else-place-len c =
    rw (sym c.self.view_is)
    (text_missing c.self.inside.bytes.now c.deref.result.now c.args.offset c.first_from-place.result
    (c.deref.ensures.value ∙ c.self.invariant) c.first_from-place.ensures (omega arith))
