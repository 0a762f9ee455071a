use Rattle.std.proofs.Common.{◌≡◌, ℕ, true, sym, ap, subst, ◌∙◌, nat_cmp, arith}
use Rattle.std.specs.BTreeSet.{Updates}
use Rattle.elf32_object.specs.Rules.{has_field}
use Rattle.elf32_object.specs.Fields.{relocation, section_header}
use Rattle.elf32_object.specs.inside.Taken.{field_key}
use Rattle.elf32_object.proofs.Apart.{same_taken, more_taken}
use Rattle.elf32_object.proofs.relocations.add_field.Goals as goal

pub returns-then-not-has_field : goal.returns-then-not-has_field
returns-then-not-has_field c =
    same_taken c.args.layout.now.bytes.now c.args.i c.args.k c.args.fields.now
    (sym (ap has_field c.entry-reloc.ensures) ∙ sym c.has_field.ensures ∙ c.if-not-has_field.true) c.requires.taken

pub returns : goal.returns
returns c =
    let bytes = c.args.layout.now.bytes.now in
    let offset = ap (λ r. r.offset) c.entry-reloc.ensures in
    let key : c.field_key.result ≡ field_key (section_header bytes c.args.i).info
    (relocation bytes c.args.i c.args.k).offset =
    c.field_key.ensures ∙ ap (λ h. field_key h.info c.entry-reloc.result.offset) c.header.ensures
    ∙ ap (field_key (section_header bytes c.args.i).info) offset in
    more_taken bytes c.args.i c.args.k c.args.fields.now c.insert.new.self
    (sym (ap has_field c.entry-reloc.ensures) ∙ sym c.has_field.ensures ∙ c.if-not-has_field.false)
    (omega arith)
    (subst (λ (n : ℕ). Updates nat_cmp c.args.fields.now c.insert.new.self n true) key c.in_ok-insert.ensures.updates)
    c.requires.taken
