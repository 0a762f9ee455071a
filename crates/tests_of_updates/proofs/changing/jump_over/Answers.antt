use Rattle.std.proofs.Common.{sym, subst, All}
use Rattle.image_memory.specs.Contents.{Contents}
use Rattle.image_memory.specs.Fetch.{HasCode}
use Rattle.update_memory.specs.declared.types.Jump.{Jump}
use Rattle.tests_of_updates.proofs.SmallLaws.{jump_fits}
use Rattle.tests_of_updates.proofs.changing.jump_over.Goals as goal

pub write_jumps-requires : goal.write_jumps-requires
write_jumps-requires c =
    let jumps = c.note_old_code.new.jumps in
    subst (λ (contents : Contents). All (λ (jump : Jump). HasCode contents.pieces jump.home 5) jumps) (sym c.requires)
    (jump_fits jumps 0x0080_0010 c.note_old_code.ensures.rows)
