use Rattle.std.proofs.Common.{ap, sym, ◌∙◌}
use Rattle.i386_reloc.specs.Refused.{first_among, relocation_fault_of}
use Rattle.i386_reloc.proofs.RelocationFaults.{fields_are, fields_right, fields_by_offset}
use Rattle.i386_reloc.proofs.reading.checked_fields.Goals as goal

pub returns-clause-items : goal.returns-clause-items
returns-clause-items c =
    fields_are c.args.source.now.object.now c.args.i c.deref-2.result.now _
    (c.deref-2.ensures.value ∙ c.in_ok-relocations.ensures.items)
    (rw c.deref-2.ensures.value c.in_ok-relocations.ensures.placed) c.in_ok-fields.ensures.same
    c.in_ok-fields.ensures.sorted

pub returns-clause-each : goal.returns-clause-each
returns-clause-each c =
    fields_right c.args.source.now.object.now c.args.i c.deref-2.result.now _
    (rw c.deref-2.ensures.value c.in_ok-relocations.ensures.placed)
    (ap (first_among (relocation_fault_of c.args.source.now.object.now c.args.i))
    (c.deref-2.ensures.value ∙ sym c.deref.ensures.value) ∙ c.in_ok-check_relocations.ensures)
    c.in_ok-fields.ensures.same

pub returns-clause-order : goal.returns-clause-order
returns-clause-order c =
    let list = c.deref-2.ensures.value ∙ c.in_ok-relocations.ensures.items in
    fields_by_offset c.args.source.now.object.now c.args.i c.deref-2.result.now _ list
    (fields_are c.args.source.now.object.now c.args.i c.deref-2.result.now _ list
    (rw c.deref-2.ensures.value c.in_ok-relocations.ensures.placed) c.in_ok-fields.ensures.same
    c.in_ok-fields.ensures.sorted)
    c.in_ok-fields.ensures.same c.in_ok-fields.ensures.rises
