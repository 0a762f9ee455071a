use Rattle.std.proofs.Common.{◌≡◌, ◌==◌, ◌+◌, ◌≤◌, false, length, ℕ, ◌<◌, List, ap, ◌∙◌, sym, subst}
use Rattle.elf32_object.specs.Numbers.{SHT_NOBITS}
use Rattle.elf32_object.specs.Fields.{section_header, section_bytes, symbol_count, section_count}
use Rattle.elf32_object.specs.Fields.{is_loaded, relocations_below, IsRelocation}
use Rattle.elf32_object.proofs.Loads.{loaded_within}
use Rattle.elf32_object.proofs.Offered.{apart, placed, field_in_bytes}
use Rattle.elf32_object.proofs.Rules.{sections_kept}
use Rattle.elf32_object.proofs.object.Object.reloc.Goals as goal

pub relocation_of-requires-clause-within : goal.relocation_of-requires-clause-within
relocation_of-requires-clause-within c =
    loaded_within c.self.inside.layout.bytes.now c.args.section
    (ap (λ b. is_loaded b c.args.section) c.self.view_is ∙ c.requires.loaded)

pub relocation_of-requires-clause-below : goal.relocation_of-requires-clause-below
relocation_of-requires-clause-below c =
    subst (λ (b : List ℕ). c.args.k < relocations_below b c.args.section (section_count b))
    (sym c.self.view_is) c.requires.within

pub relocation_of-requires-clause-sections : goal.relocation_of-requires-clause-sections
relocation_of-requires-clause-sections c =
    sections_kept c.self.inside.layout.bytes.now c.self.invariant.no_fault

pub returns-clause-symbol : goal.returns-clause-symbol
returns-clause-symbol c =
    let bytes = c.self.inside.layout.bytes.now in
    let is = placed bytes c.args.section c.args.k c.relocation_of.result c.self.invariant.no_fault
    c.relocation_of.ensures in
    subst (λ (b : List ℕ). c.relocation_of.result.symbol < symbol_count b) c.self.view_is is.symbol

pub returns-clause-filled : goal.returns-clause-filled
returns-clause-filled c =
    let bytes = c.self.inside.layout.bytes.now in
    let is = placed bytes c.args.section c.args.k c.relocation_of.result c.self.invariant.no_fault
    c.relocation_of.ensures in
    subst (λ (b : List ℕ). ((section_header b c.args.section).kind == SHT_NOBITS) ≡ false) c.self.view_is is.filled

pub returns-clause-begins : goal.returns-clause-begins
returns-clause-begins c =
    let bytes = c.self.inside.layout.bytes.now in
    let is = placed bytes c.args.section c.args.k c.relocation_of.result c.self.invariant.no_fault
    c.relocation_of.ensures in
    subst (λ (b : List ℕ). c.relocation_of.result.offset < (section_header b c.args.section).size) c.self.view_is
    is.begins

pub returns-clause-field : goal.returns-clause-field
returns-clause-field c = λ has.
    let bytes = c.self.inside.layout.bytes.now in
    let is = placed bytes c.args.section c.args.k c.relocation_of.result c.self.invariant.no_fault
    c.relocation_of.ensures in
    let loaded = ap (λ b. is_loaded b c.args.section) c.self.view_is ∙ c.requires.loaded in
    subst (λ (b : List ℕ). c.relocation_of.result.offset + 4 ≤ length (section_bytes b c.args.section)) c.self.view_is
    (field_in_bytes bytes c.args.section c.relocation_of.result c.self.invariant.no_fault loaded is has)

pub returns-clause-apart : goal.returns-clause-apart
returns-clause-apart c = λ j other l is.
    let bytes = c.self.inside.layout.bytes.now in
    apart bytes c.args.section j c.args.k other c.relocation_of.result c.self.invariant.no_fault
    (subst (λ (b : List ℕ). IsRelocation b c.args.section j other) (sym c.self.view_is) is) c.relocation_of.ensures l
