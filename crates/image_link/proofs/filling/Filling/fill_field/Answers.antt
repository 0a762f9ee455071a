use Rattle.std.proofs.Common.{◌≡◌, ap, ◌∙◌, arith, length, take, drop, ◌++◌, unwrap_or}
use Rattle.std.proofs.Math.Seq.{take-append_seam}
use Rattle.i386_reloc.specs.Places.{place_of_reference, place_of_target, reference_at}
use Rattle.i386_reloc.specs.Value.{value_of}
use Rattle.link_post.specs.Linked.{beyond, filled, with_word}
use Rattle.image_link.specs.inside.Filling.{address_at}
use Rattle.image_link.proofs.PlacedFields.{filled_by}
use Rattle.image_link.proofs.filling.Filling.fill_field.Goals as goal

pub returns : goal.returns
returns c =
    let self = c.args.self.now in
    let object = self.laid.now.object in
    let places = self.laid.now.places in
    let values = self.values.now.entries in
    let r = c.args.r.now in
    let old = c.args.bytes.now.items in
    let new = c.put_word.new.bytes in
    let target : c.target_place-target.result ≡ place_of_target object r.target =
    c.target_place-target.ensures
    ∙ ap (λ o. place_of_reference o (reference_at o self.place c.args.k)) c.object.ensures.object
    ∙ ap (place_of_reference object) c.requires.reference in
    let address : c.in_ok-address.address ≡ address_at places values c.target_place-target.result r.target =
    c.in_ok-address.ensures
    ∙ ap (λ ps. address_at ps values c.target_place-target.result r.target)
    (c.as_slice-placement.ensures ∙ c.placement.ensures.places) in
    let put : new ≡ filled object places values self.base old r =
    c.put_word.ensures
    ∙ ap (λ word. with_word c.as_mut_slice.result.now r.offset word)
    (c.field_value.ensures
    ∙ ap (λ s. value_of r.form s r.addend (beyond self.base r.offset)) c.unwrap_or.ensures)
    ∙ ap (λ bytes. with_word bytes r.offset (value_of r.form (unwrap_or c.in_ok-address.address 0) r.addend
    (beyond self.base r.offset))) c.as_mut_slice.ensures.value
    ∙ filled_by object places values self.base old r _ _ c.placement.ensures.placed c.requires.values target address in
    let long : c.args.bytes.now.len ≡ length new = omega (arith, c.put_word.auto.bytes, c.as_mut_slice.ensures.len) in
    ap (λ n. take n (new ++ drop (length new) old)) long ∙ take-append_seam new (drop (length new) old) ∙ put
