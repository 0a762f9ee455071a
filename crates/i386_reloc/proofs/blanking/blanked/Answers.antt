use Rattle.std.proofs.Common.{◌≡◌, ◌∙◌, sym, refl, length, arith}
use Rattle.std.proofs.lemmas.List.{with_items_is}
use Rattle.i386_reloc.proofs.Blanks.{blanked_none, blanked_more}
use Rattle.i386_reloc.proofs.blanking.blanked.Goals as goal

pub loop-r-init : goal.loop-r-init
loop-r-init c = c.in_ok-copy.ensures.items ∙ sym (blanked_none 0 c.args.bytes.now)

pub loop-r-preserved : goal.loop-r-preserved
loop-r-preserved c =
    let same : length c.blank.new.bytes ≡ c.loop-r.copy.len = omega arith in
    rw (with_items_is c.loop-r.copy c.blank.new.bytes same)
    (blanked_more c.args.fields.now c.loop-r.r-index _ _ c.args.bytes.now c.as_mut_slice.result.now c.blank.new.bytes
    (omega arith) refl (c.as_mut_slice.ensures.value ∙ c.loop-r.invariant) c.blank.auto.bytes c.blank.ensures)
