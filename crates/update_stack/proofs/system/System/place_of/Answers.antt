use Rattle.std.proofs.Common.{◌≡◌, ◌<◌, length, slice_get, None, MatchOption, ◌∙◌, ap, subst, List}
use Rattle.std.specs.List.{position}
use Rattle.i386_reloc.specs.Normal.{same_bytes}
use Rattle.update_stack.specs.declared.updates.Update.{Update as Shown}
use Rattle.update_stack.specs.AbstractMachine.{AbstractMachine}
use Rattle.update_stack.specs.Undo.{named}
use Rattle.update_stack.proofs.LiveLaws.{found_at}
use Rattle.update_stack.proofs.PhaseLaws.{machine_seen}
use Rattle.update_stack.proofs.system.System.place_of.Goals as goal

pub returns : goal.returns
returns g c =
    let inside = c.self.inside in
    let name = c.args.name.now in
    subst (λ (k : AbstractMachine). MatchOption c.place_of.result (named k name ≡ None)
    (λ at. (at < length k.updates) × (slice_get k.updates at ≡ named k name))) (machine_seen c.self.view_is)
    (found_at inside.updates inside.kept name c.self.invariant.paired c.place_of.result
    (c.place_of.ensures ∙ ap (λ (us : List Shown). position (λ (u : Shown). same_bytes u.name name) us)
    c.as_slice.ensures))
