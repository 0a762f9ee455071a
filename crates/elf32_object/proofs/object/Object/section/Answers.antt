use Rattle.std.proofs.Common.{◌<◌, length, ℕ, List, sym, ap, ◌∙◌, subst, arith}
use Rattle.elf32_object.specs.Fields.{section_count, section_header, has_no_bytes}
use Rattle.elf32_object.specs.Rules.{is_alignment}
use Rattle.elf32_object.proofs.Rules.{sections_kept, name_ends, bytes_in_file}
use Rattle.elf32_object.proofs.Offered.{short_name, whole_bytes, aligned, small_size}
use Rattle.elf32_object.proofs.object.Object.section.Goals as goal

pub name-requires-clause-ends : goal.name-requires-clause-ends
name-requires-clause-ends c =
    name_ends c.self.inside.layout.bytes.now c.args.i
    (sections_kept c.self.inside.layout.bytes.now c.self.invariant.no_fault) c.requires.above_null
    (subst (λ (bytes : List ℕ). c.args.i < section_count bytes) (sym c.self.view_is) c.requires.within)

pub content-requires-clause-in_file : goal.content-requires-clause-in_file
content-requires-clause-in_file c =
    bytes_in_file c.self.inside.layout.bytes.now c.args.i
    (sections_kept c.self.inside.layout.bytes.now c.self.invariant.no_fault) c.requires.above_null
    (subst (λ (bytes : List ℕ). c.args.i < section_count bytes) (sym c.self.view_is) c.requires.within)

pub returns-clause-short_name : goal.returns-clause-short_name
returns-clause-short_name c =
    let bytes = c.self.inside.layout.bytes.now in
    let within = subst (λ (b : List ℕ). c.args.i < section_count b) (sym c.self.view_is) c.requires.within in
    omega (
      arith,
      ap length c.name.ensures,
      short_name bytes c.args.i c.self.invariant.no_fault c.requires.above_null
          within,
    )

pub returns-clause-whole : goal.returns-clause-whole
returns-clause-whole c = λ stored.
    let bytes = c.self.inside.layout.bytes.now in
    let within = subst (λ (b : List ℕ). c.args.i < section_count b) (sym c.self.view_is) c.requires.within in
    ap length c.content.ensures
    ∙ whole_bytes bytes c.args.i c.self.invariant.no_fault c.requires.above_null within
    (ap (λ b. has_no_bytes (section_header b c.args.i)) c.self.view_is ∙ stored)
    ∙ sym (ap (λ h. h.size) c.header-header.ensures)

pub returns-clause-aligned : goal.returns-clause-aligned
returns-clause-aligned c = λ loaded.
    let bytes = c.self.inside.layout.bytes.now in
    let within = subst (λ (b : List ℕ). c.args.i < section_count b) (sym c.self.view_is) c.requires.within in
    ap (λ h. is_alignment h.align) c.header-header.ensures
    ∙ aligned bytes c.args.i c.self.invariant.no_fault c.requires.above_null within
    (sym c.is_loaded.ensures.test ∙ loaded)

pub returns-clause-small : goal.returns-clause-small
returns-clause-small c = λ loaded.
    let bytes = c.self.inside.layout.bytes.now in
    let within = subst (λ (b : List ℕ). c.args.i < section_count b) (sym c.self.view_is) c.requires.within in
    omega (
      arith,
      ap (λ h. h.size) c.header-header.ensures,
      small_size bytes c.args.i c.self.invariant.no_fault
          c.requires.above_null within (sym c.is_loaded.ensures.test ∙ loaded),
    )
