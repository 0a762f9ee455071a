use Rattle.std.proofs.Common.{sym, ◌∙◌, subst}
use Rattle.std.specs.List.Sorted.{IsNonDecreasing}
use Rattle.image_threads.proofs.RisingLaws.{numbers_rise}
use Rattle.image_threads.proofs.thread_list.ThreadList.running.Goals as goal

pub returns-clause-ascend : goal.returns-clause-ascend
returns-clause-ascend c =
    subst IsNonDecreasing (sym (c.as_slice.ensures.value ∙ c.self.invariant.1.0))
    (numbers_rise 0 c.self.inside.threads c.self.invariant.0)
