use Rattle.std.proofs.Common.{◌≡◌, ℕ, ◌<◌, ◌≤◌, true, List, length, None, sym, subst, ap, ◌∙◌, arith}
use Rattle.elf32_object.specs.declared.types.SymbolEntry.{SymbolEntry}
use Rattle.elf32_object.specs.Fields.{symbol_count, ends_in, symbol_names, symbol_entry, is_loaded, section_header}
use Rattle.elf32_object.specs.Rules.{object_fault, is_section_of_symbol}
use Rattle.elf32_object.proofs.Rules.{symbol_name_ends}
use Rattle.elf32_object.proofs.Offered.{short_symbol, known_section, stands_within}
use Rattle.elf32_object.proofs.object.Object.symbol.Goals as goal

pub name-requires-clause-ends : goal.name-requires-clause-ends
name-requires-clause-ends c =
    subst (λ (bytes : List ℕ). ends_in (symbol_names bytes) (symbol_entry bytes c.args.k).name ≡ true)
    (sym c.self.invariant.same_bytes)
    (symbol_name_ends c.self.inside.layout.bytes.now c.args.k c.self.invariant.no_fault c.requires.above_null
    (subst (λ (bytes : List ℕ). c.args.k < symbol_count bytes) (sym c.self.view_is) c.requires.within))

pub returns-clause-short_name : goal.returns-clause-short_name
returns-clause-short_name c =
    let bytes = c.self.inside.symbols.bytes.now in
    let view = c.self.invariant.same_bytes ∙ c.self.view_is in
    let kept = subst (λ (b : List ℕ). object_fault b ≡ None)
    (sym c.self.invariant.same_bytes) c.self.invariant.no_fault in
    let within = subst (λ (b : List ℕ). c.args.k < symbol_count b) (sym view) c.requires.within in
    omega (arith, ap length c.name.ensures, short_symbol bytes c.args.k kept c.requires.above_null within)

pub returns-clause-known_section : goal.returns-clause-known_section
returns-clause-known_section c =
    let bytes = c.self.inside.symbols.bytes.now in
    let view = c.self.invariant.same_bytes ∙ c.self.view_is in
    let kept = subst (λ (b : List ℕ). object_fault b ≡ None)
    (sym c.self.invariant.same_bytes) c.self.invariant.no_fault in
    let within = subst (λ (b : List ℕ). c.args.k < symbol_count b) (sym view) c.requires.within in
    ap (λ b. is_section_of_symbol b c.entry-entry.result.section) (sym view)
    ∙ ap (λ s. is_section_of_symbol bytes s.section) c.entry-entry.ensures
    ∙ known_section bytes c.args.k kept c.requires.above_null within

pub returns-clause-within : goal.returns-clause-within
returns-clause-within c =
    let bytes = c.self.inside.symbols.bytes.now in
    let view = c.self.invariant.same_bytes ∙ c.self.view_is in
    let kept = subst (λ (b : List ℕ). object_fault b ≡ None)
    (sym c.self.invariant.same_bytes) c.self.invariant.no_fault in
    let within = subst (λ (b : List ℕ). c.args.k < symbol_count b) (sym view) c.requires.within in
    let file = c.args.self.now in
    subst (λ (s : SymbolEntry). is_loaded file s.section ≡ true → s.value ≤ (section_header file s.section).size)
    (sym c.entry-entry.ensures)
    (subst (λ (b : List ℕ). is_loaded b (symbol_entry bytes c.args.k).section ≡ true
    → (symbol_entry bytes c.args.k).value ≤ (section_header b (symbol_entry bytes c.args.k).section).size) view
    (stands_within bytes c.args.k kept c.requires.above_null within))
