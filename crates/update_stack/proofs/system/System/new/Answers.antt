use Rattle.std.proofs.Common.{List, [], sym, subst}
use Rattle.image_memory.specs.Contents.{IsValid}
use Rattle.update_stack.specs.declared.updates.Update.{Update}
use Rattle.update_stack.specs.Systems.{bare, Holds}
use Rattle.update_stack.proofs.HoldsLaws.{holds_at_first}
use Rattle.update_stack.proofs.system.System.new.Goals as goal

pub invariant_of-result : goal.invariant_of-result
invariant_of-result g c =
    let valid : IsValid c.args.machine.contents =
    subst IsValid c.space-space.ensures.contents (g.met.S.Space.valid c.space-space.result.now) in
    subst (λ (updates : List Update). Holds c.args.machine (bare c.args.arena) updates c.new-2.result) (sym c.new.ensures)
    (subst (Holds c.args.machine (bare c.args.arena) []) (sym c.new-2.ensures)
    (holds_at_first c.args.machine c.args.arena valid c.requires.none_retired c.requires.stacks c.requires.gaps))
