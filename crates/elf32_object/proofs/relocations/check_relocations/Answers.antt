use Rattle.std.proofs.Common.{refl, arith}
use Rattle.std.proofs.lemmas.Result.{err_from_is_err_and}
use Rattle.elf32_object.specs.Fields.{section_count}
use Rattle.elf32_object.specs.Rules.{relocations_fault}
use Rattle.elf32_object.specs.laws.BelowLaws.{first_at}
use Rattle.elf32_object.proofs.Held.{none_held}
use Rattle.elf32_object.proofs.relocations.check_relocations.Goals as goal

pub loop-i-init : goal.loop-i-init
loop-i-init c = (refl, none_held c.args.layout.now.bytes.now _ refl)

pub returns-in_err-check_entries : goal.returns-in_err-check_entries
returns-in_err-check_entries c =
    let p = err_from_is_err_and c.from_residual.result c.from_residual.ensures.1 in
    let bytes = c.args.layout.now.bytes.now in
    rw (p.1, p.2) (λ other. first_at (relocations_fault bytes) (section_count bytes) c.loop-i.i _ c.loop-i.invariant.0
    (c.in_err-check_entries.ensures.finds other) (omega arith))
