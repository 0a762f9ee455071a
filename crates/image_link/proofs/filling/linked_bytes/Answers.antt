use Rattle.std.proofs.Common.{◌≡◌, ◌≢◌, Some, None, refl, sym, ap, ◌∙◌, rules, replicate, unwrap_or}
use Rattle.std.specs.Prelude.{IfOk}
use Rattle.std.specs.List.{slice_get}
use Rattle.std.proofs.lemmas.Option.{slice_get_past, slice_get_read}
use Rattle.std.proofs.lemmas.Result.{IfOk-weaker}
use Rattle.i386_reloc.specs.declared.types.Class.TheVariants.{Zero}
use Rattle.i386_reloc.specs.Places.{place_named}
use Rattle.image_link.specs.inside.Filling.{base_at}
use Rattle.image_link.proofs.PlacedFields.{no_bytes, nothing_there, zeros_there, filled_there}
use Rattle.image_link.proofs.filling.linked_bytes.Goals as goal

pub returns-in_default : goal.returns-in_default
returns-in_default c =
    let laid = c.args.laid.now in
    let none : place_named laid.object c.args.name.now ≡ None =
    ap (λ o. place_named o c.args.name.now) (sym c.object-object.ensures.object) ∙ sym c.place.ensures ∙ c.in_default.is in
    c.new.ensures.items ∙ no_bytes laid.object laid.places c.args.values.now.entries c.args.name.now none

pub returns-in_default-get : goal.returns-in_default-get
returns-in_default-get c =
    let laid = c.args.laid.now in
    let place = c.in-Some.place in
    let is : place_named laid.object c.args.name.now ≡ Some place =
    ap (λ o. place_named o c.args.name.now) (sym c.object-object.ensures.object) ∙ sym c.place.ensures ∙ c.in-Some.is in
    let gone : slice_get laid.object place ≡ None =
    ap (λ o. slice_get o place) (sym (c.as_slice.ensures.sections ∙ c.object-object.ensures.object))
    ∙ slice_get_past c.as_slice.result.now place c.in_default-get.ensures.lookup.3 in
    c.new-in_default-get.ensures.items
    ∙ nothing_there laid.object laid.places c.args.values.now.entries c.args.name.now place is gone

pub returns-in-Zero : goal.returns-in-Zero
returns-in-Zero c =
    let laid = c.args.laid.now in
    let place = c.in-Some.place in
    let section = c.in-Some-get.section.now in
    let is : place_named laid.object c.args.name.now ≡ Some place =
    ap (λ o. place_named o c.args.name.now) (sym c.object-object.ensures.object) ∙ sym c.place.ensures ∙ c.in-Some.is in
    let there : slice_get laid.object place ≡ Some section =
    ap (λ o. slice_get o place) (sym (c.as_slice.ensures.sections ∙ c.object-object.ensures.object))
    ∙ slice_get_read c.as_slice.result.now _ place section refl c.in-Some-get.ensures.lookup.3.0
    c.in-Some-get.ensures.lookup.1 in
    let zeros : IfOk c.vec.result (λ bytes. bytes.items ≡ replicate section.size 0) = search rules in
    IfOk-weaker c.vec.result _ _ (λ bytes made. made
    ∙ zeros_there laid.object laid.places c.args.values.now.entries c.args.name.now place section is there c.in-Zero.is)
    zeros

pub bytes_of-requires : goal.bytes_of-requires
bytes_of-requires c =
    let laid = c.args.laid.now in
    let place = c.in-Some.place in
    record {
      section =
          ap (λ o. slice_get o place) (sym (c.as_slice.ensures.sections ∙ c.object-object.ensures.object))
          ∙ slice_get_read c.as_slice.result.now _ place c.in-Some-get.section.now refl c.in-Some-get.ensures.lookup.3.0
          c.in-Some-get.ensures.lookup.1;
      values = c.requires;
    }

pub returns : goal.returns
returns c =
    let laid = c.args.laid.now in
    let place = c.in-Some.place in
    let section = c.in-Some-get.section.now in
    let is : place_named laid.object c.args.name.now ≡ Some place =
    ap (λ o. place_named o c.args.name.now) (sym c.object-object.ensures.object) ∙ sym c.place.ensures ∙ c.in-Some.is in
    let there : slice_get laid.object place ≡ Some section =
    ap (λ o. slice_get o place) (sym (c.as_slice.ensures.sections ∙ c.object-object.ensures.object))
    ∙ slice_get_read c.as_slice.result.now _ place section refl c.in-Some-get.ensures.lookup.3.0
    c.in-Some-get.ensures.lookup.1 in
    let base : c.unwrap_or.result ≡ unwrap_or (base_at laid.places (Some place)) 0 =
    c.unwrap_or.ensures ∙ ap (λ o. unwrap_or o 0)
    (c.base_at.ensures ∙ ap (λ ps. base_at ps (Some place)) (c.as_slice-2.ensures ∙ c.placement.ensures.places)) in
    let other : section.class ≢ Zero = c.in_default-class.not-Zero in
    IfOk-weaker c.bytes_of.result _ _ (λ bytes made. made
    ∙ filled_there laid.object laid.places c.args.values.now.entries c.args.name.now place section _
    c.placement.ensures.placed is there other base) c.bytes_of.ensures
