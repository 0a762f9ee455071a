use Rattle.std.proofs.Common.{◌≡◌, ◌==◌, ◌||◌, ◌+◌, ◌%◌, ◌^◌, true, false, sym, ap, ◌∙◌}
use Rattle.elf32_object.specs.Numbers.{SHN_UNDEF, SHN_COMMON, STT_SECTION}
use Rattle.elf32_object.specs.Fields.{section_name, symbol_name}
use Rattle.i386_reloc.specs.declared.types.Target.TheVariants as to
use Rattle.i386_reloc.specs.Classes.{is_strings}
use Rattle.i386_reloc.specs.References.{symbol_of, is_outside, is_section_symbol, reference_to, text_target, addend_in}
use Rattle.i386_reloc.proofs.Going.{outside_row, section_row, addend_row, value_row, text_read}
use Rattle.i386_reloc.proofs.references.reference.Goals as goal

pub returns-then-is_outside : goal.returns-then-is_outside
returns-then-is_outside c =
    let bytes = c.args.source.now.object.now in
    let r = c.args.r in
    let outside : is_outside (symbol_of bytes r) ≡ true =
    ap (λ s. s == SHN_UNDEF || s == SHN_COMMON) (sym c.symbol-symbol.ensures.section)
    ∙ sym c.if-is_outside.ensures in
    c.made.ensures
    ∙ ap (λ n. reference_to r (to.Outside n) c.addend-addend.result)
    (c.new.ensures ∙ c.as_slice.ensures ∙ c.symbol-symbol.ensures.name)
    ∙ ap (λ a. reference_to r (to.Outside (symbol_name bytes r.symbol)) a) c.addend-addend.ensures
    ∙ sym (outside_row bytes c.args.i r outside)

pub returns-then-not-is_strings : goal.returns-then-not-is_strings
returns-then-not-is_strings c =
    let bytes = c.args.source.now.object.now in
    let r = c.args.r in
    let e = c.symbol-symbol.ensures in
    let inside : is_outside (symbol_of bytes r) ≡ false =
    ap (λ s. s == SHN_UNDEF || s == SHN_COMMON) (sym e.section) ∙ sym c.if-is_outside.ensures in
    let texts : is_strings bytes (symbol_of bytes r).section ≡ false =
    ap (is_strings bytes) (sym e.section) ∙ sym c.section-known.ensures.class ∙ sym c.if-not-is_strings.ensures in
    c.made-then-not-is_strings.ensures
    ∙ ap (λ n. reference_to r (to.Section n) ((c.addend-addend.result + c.symbol-symbol.result.now.value) % 2 ^ 32))
    (c.new-name.ensures ∙ c.as_slice-then-not-is_strings.ensures ∙ c.section-known.ensures.name
    ∙ ap (section_name bytes) e.section)
    ∙ ap (λ a. reference_to r (to.Section (section_name bytes (symbol_of bytes r).section))
    ((a + c.symbol-symbol.result.now.value) % 2 ^ 32)) c.addend-addend.ensures
    ∙ sym (section_row bytes c.args.i r inside texts ∙ ap
    (λ v. reference_to r (to.Section (section_name bytes (symbol_of bytes r).section))
    ((addend_in bytes c.args.i r + v) % 2 ^ 32)) (sym e.value))

pub returns-then-is_section_symbol : goal.returns-then-is_section_symbol
returns-then-is_section_symbol c =
    let bytes = c.args.source.now.object.now in
    let r = c.args.r in
    let e = c.symbol-symbol.ensures in
    let inside : is_outside (symbol_of bytes r) ≡ false =
    ap (λ s. s == SHN_UNDEF || s == SHN_COMMON) (sym e.section) ∙ sym c.if-is_outside.ensures in
    let here : is_strings bytes c.symbol-symbol.result.now.section ≡ true =
    sym c.section-known.ensures.class ∙ sym c.if-not-is_strings.ensures in
    let named : is_section_symbol (symbol_of bytes r) ≡ true =
    ap (λ n. n % 16 == STT_SECTION) (sym e.info) ∙ sym c.if-is_section_symbol.ensures in
    c.made-then-is_section_symbol.ensures
    ∙ ap (λ t. reference_to r t 0) (c.text.ensures ∙ text_read bytes _ _
    (symbol_of bytes r).section _ _ _ e.section c.section-known.ensures.name
    (c.section-known.ensures.texts here) c.addend-addend.ensures)
    ∙ sym (addend_row bytes c.args.i r inside (ap (is_strings bytes) (sym e.section) ∙ here) named)

pub returns-else-is_section_symbol : goal.returns-else-is_section_symbol
returns-else-is_section_symbol c =
    let bytes = c.args.source.now.object.now in
    let r = c.args.r in
    let e = c.symbol-symbol.ensures in
    let inside : is_outside (symbol_of bytes r) ≡ false =
    ap (λ s. s == SHN_UNDEF || s == SHN_COMMON) (sym e.section) ∙ sym c.if-is_outside.ensures in
    let here : is_strings bytes c.symbol-symbol.result.now.section ≡ true =
    sym c.section-known.ensures.class ∙ sym c.if-not-is_strings.ensures in
    let named : is_section_symbol (symbol_of bytes r) ≡ false =
    ap (λ n. n % 16 == STT_SECTION) (sym e.info) ∙ sym c.if-is_section_symbol.ensures in
    c.made-else-is_section_symbol.ensures
    ∙ ap (λ t. reference_to r t c.addend-addend.result)
    (c.text-else-is_section_symbol.ensures ∙ text_read bytes _ _
    (symbol_of bytes r).section _ _ _ e.section c.section-known.ensures.name
    (c.section-known.ensures.texts here) e.value)
    ∙ ap (λ a. reference_to r (text_target bytes (symbol_of bytes r).section (symbol_of bytes r).value) a)
    c.addend-addend.ensures
    ∙ sym (value_row bytes c.args.i r inside (ap (is_strings bytes) (sym e.section) ∙ here) named)
