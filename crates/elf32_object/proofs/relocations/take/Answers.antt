use Rattle.std.proofs.Common.{◌≡◌, ◌+◌, ℕ, true, not, ap, arith, sym, subst, ◌∙◌, nat_cmp}
use Rattle.std.specs.BTreeSet.{Updates}
use Rattle.elf32_object.specs.Fields.{relocation, section_header}
use Rattle.elf32_object.specs.Rules.{has_field}
use Rattle.elf32_object.specs.inside.Taken.{field_key}
use Rattle.elf32_object.proofs.Apart.{more_taken}
use Rattle.elf32_object.proofs.Held.{ahead_is_apart, more_ahead}
use Rattle.elf32_object.proofs.relocations.take.Goals as goal

pub returns-then-key-taken-clause-apart : goal.returns-then-key-taken-clause-apart
returns-then-key-taken-clause-apart c =
    sym (ap not (ahead_is_apart c.args.layout.now.bytes.now c.args.target c.args.reloc.offset c.args.i c.args.k
    c.args.taken.now.end c.requires.small (omega (arith, c.field_key-key.ensures))
    (c.requires.taken.ahead c.if-taken.true)))

pub returns-then-key-taken-clause-taken : goal.returns-then-key-taken-clause-taken
returns-then-key-taken-clause-taken c = λ _.
    let bytes = c.args.layout.now.bytes.now in
    let key : c.field_key-key.result ≡ field_key (section_header bytes c.args.i).info
    (relocation bytes c.args.i c.args.k).offset =
    c.field_key-key.ensures ∙ ap (λ t. field_key t c.args.reloc.offset) c.requires.target
    ∙ ap (λ r. field_key (section_header bytes c.args.i).info r.offset) c.requires.reloc in
    more_ahead bytes c.args.i c.args.k c.args.taken.now _ c.if-taken.true c.if-taken.true (omega (arith, key))
    (ap (λ n. n + 4) key) c.requires.taken

pub returns-clause-taken : goal.returns-clause-taken
returns-clause-taken c = λ _.
    let bytes = c.args.layout.now.bytes.now in
    let key : c.field_key-key.result ≡ field_key (section_header bytes c.args.i).info
    (relocation bytes c.args.i c.args.k).offset =
    c.field_key-key.ensures ∙ ap (λ t. field_key t c.args.reloc.offset) c.requires.target
    ∙ ap (λ r. field_key (section_header bytes c.args.i).info r.offset) c.requires.reloc in
    record {
      ahead = λ rising. absurd (grind (arith, rising, c.in_ok-list.ensures.listed));
      listed = λ _.
          more_taken bytes c.args.i c.args.k c.list.new.taken.fields c.insert.new.self
          (sym (ap has_field c.requires.reloc) ∙ c.requires.field)
          (omega (arith, c.requires.small, ap (λ r. r.offset) c.requires.reloc))
          (subst (λ (n : ℕ). Updates nat_cmp c.list.new.taken.fields c.insert.new.self n true) key
          c.in_ok-insert.ensures.updates)
          c.in_ok-list.ensures.fields;
    }
