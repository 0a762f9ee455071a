use Rattle.std.proofs.Common.{subst, sym, ℕ, add-one}
use Rattle.elf32_object.specs.inside.Taken.{AreTaken}
use Rattle.elf32_object.proofs.Apart.{none_taken, next_taken}
use Rattle.elf32_object.proofs.relocations.fields_before.Goals as goal

pub loop-j-init : goal.loop-j-init
loop-j-init c = none_taken c.args.layout.now.bytes.now c.new-fields.result c.new-fields.ensures.empty

pub loop-j-preserved : goal.loop-j-preserved
loop-j-preserved c =
    let bytes = c.args.layout.now.bytes.now in
    let fields = c.add_fields.new.fields in
    subst (λ (j : ℕ). AreTaken bytes j 0 fields) (sym (add-one c.loop-j.j))
    (next_taken bytes c.loop-j.j fields
    (subst (λ (k : ℕ). AreTaken bytes c.loop-j.j k fields) c.entry_count.ensures (c.in_ok-add_fields.ensures)))
