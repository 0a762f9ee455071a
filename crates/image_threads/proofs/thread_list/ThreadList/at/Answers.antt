use Rattle.image_threads.proofs.ListLaws.{number_at}
use Rattle.image_threads.proofs.thread_list.ThreadList.at.Goals as goal

pub returns-clause-number : goal.returns-clause-number
returns-clause-number c =
    number_at c.self.inside.threads c.args.number _ c.self.invariant.0 (rw c.as_slice.ensures at c.thread_at.ensures)
