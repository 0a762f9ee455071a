use Rattle.std.proofs.Common.{refl, arith}
use Rattle.std.proofs.lemmas.Grind.{common_steps}
use Rattle.std.proofs.lemmas.Result.{err_from_is_err_and}
use Rattle.elf32_object.specs.Fields.{section_count, symbol_count}
use Rattle.i386_reloc.specs.inside.Objects.{AreObjects}
use Rattle.i386_reloc.specs.Refused.{relocation_fault, relocation_fault_at}
use Rattle.i386_reloc.proofs.Firsts.{finds_first}
use Rattle.i386_reloc.proofs.RelocationFaults.{no_order}
use Rattle.i386_reloc.proofs.ObjectSymbols.{all_left}
use Rattle.i386_reloc.proofs.reading.read_all.Goals as goal

pub loop-i-init : goal.loop-i-init
loop-i-init c =
    let bytes = c.args.source.now.object.now in
    let are : AreObjects bytes (symbol_count bytes) c.in_ok-objects.objects.items = grind (arith, common_steps) in
    record {
      none = refl;
      sections = c.new.ensures;
      targets = c.new-2.ensures;
      order = no_order bytes;
      objects = all_left bytes c.in_ok-objects.objects.items are;
    }

pub returns-in_err-add_section-clause-finds : goal.returns-in_err-add_section-clause-finds
unfolding relocation_fault
returns-in_err-add_section-clause-finds c =
    let bytes = c.args.source.now.object.now in
    let p = err_from_is_err_and c.from_residual-in_err-add_section.result
    c.from_residual-in_err-add_section.ensures.1 in
    rw (p.1, p.2)
    (finds_first (relocation_fault_at bytes) c.loop-i.i (section_count bytes) _ c.loop-i.invariant.none
    (omega arith) c.in_err-add_section.ensures.finds)
