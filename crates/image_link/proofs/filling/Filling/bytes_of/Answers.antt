use Rattle.std.proofs.Common.{refl, sym, ap, ◌∙◌, arith}
use Rattle.std.specs.List.{slice_get}
use Rattle.std.proofs.lemmas.Option.{slice_get_read}
use Rattle.i386_reloc.specs.Places.{reference_in}
use Rattle.image_link.proofs.filling.Filling.bytes_of.Goals as goal

pub fill_field-requires-clause-reference : goal.fill_field-requires-clause-reference
fill_field-requires-clause-reference c =
    let k = c.loop-k.k in
    ap (λ s. reference_in s k) c.requires.section ∙ ap (λ refs. slice_get refs k) (sym c.as_slice-refs.ensures)
    ∙ slice_get_read c.as_slice-refs.result.now _ k c.index-refs-k.result refl (omega arith) c.index-refs-k.is
