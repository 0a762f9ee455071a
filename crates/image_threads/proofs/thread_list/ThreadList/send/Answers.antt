use Rattle.std.proofs.Common.{◌≡◌, List, IsSome, true, refl, sym, subst, ap}
use Rattle.ia32_step.specs.declared.types.Thread.{Thread}
use Rattle.ia32_step.specs.Threads.{runs, is_running}
use Rattle.image_threads.specs.Program.{running_at}
use Rattle.image_threads.proofs.ListLaws.{listed_running}
use Rattle.image_threads.proofs.thread_list.ThreadList.send.Goals as goal

pub invariant_of-self : goal.invariant_of-self
invariant_of-self c =
    let P : List Thread → Type 0 = λ threads. IsSome (running_at threads c.args.thread.number) in
    let sent : Thread = record c.args.thread { pc = c.args.pc } in
    let still : runs sent ≡ true = ap is_running c.requires.running in
    rw c.set.ensures
    (listed_running c.self.inside.threads c.self.inside.running.items c.args.thread.number sent c.self.invariant
    (subst P (sym c.self.view_is) c.requires.listed) refl still)
