use Rattle.std.proofs.Common.{◌≡◌, ◌==◌, ◌||◌, true, false, length, Some, sym, ap, ◌∙◌}
use Rattle.elf32_object.specs.Numbers.{SHN_UNDEF, SHN_COMMON}
use Rattle.i386_reloc.specs.Normal.{loaded_below}
use Rattle.i386_reloc.specs.References.{symbol_of, is_outside}
use Rattle.i386_reloc.proofs.Going.{place_outside, place_inside}
use Rattle.i386_reloc.proofs.targets.place.Goals as goal

pub returns-then-is_outside : goal.returns-then-is_outside
returns-then-is_outside c =
    let bytes = c.args.source.now.object.now in
    let outside : is_outside (symbol_of bytes c.args.r) ≡ true =
    ap (λ s. s == SHN_UNDEF || s == SHN_COMMON) (sym c.symbol-symbol.ensures.section)
    ∙ sym c.if-is_outside.ensures in
    sym (place_outside bytes c.args.r outside)

pub returns : goal.returns
returns c =
    let bytes = c.args.source.now.object.now in
    let inside : is_outside (symbol_of bytes c.args.r) ≡ false =
    ap (λ s. s == SHN_UNDEF || s == SHN_COMMON) (sym c.symbol-symbol.ensures.section)
    ∙ sym c.if-is_outside.ensures in
    ap Some (c.section.ensures.place ∙ ap (λ j. length (loaded_below bytes j)) c.symbol-symbol.ensures.section)
    ∙ sym (place_inside bytes c.args.r inside)
