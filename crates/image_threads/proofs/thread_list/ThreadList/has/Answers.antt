use Rattle.image_threads.proofs.TakenLaws.{taken_by_running}
use Rattle.image_threads.proofs.thread_list.ThreadList.has.Goals as goal

pub returns : goal.returns
returns c =
    let taken = taken_by_running
    c.self.inside.threads c.self.inside.running.items c.args.stack c.self.invariant.0 c.self.invariant.1.0 in
    cc (taken, c.any_has.ensures, c.as_slice.ensures, c.as_slice-2.ensures.value, c.self.view_is)
