-- What halving finds, where the lows rise.
use Rattle.std.proofs.Common.{◌≡◌, rules, leb, true, false}
use Rattle.std.proofs.lemmas.Bool.{leb-true, leb-false}
use Rattle.std.specs.List.Sorted.{IsPartitionedBy, IsPartitionPoint}
use Rattle.std.proofs.lemmas.List.Sorted.{IsPartitionPoint-from_clause, IsPartitionedBy-leb}
use Rattle.image_memory.specs.laws.RangeLaws.{lows_rise}
use Rattle.frame_watch.specs.Frames.{Watched, stack_of}
use Rattle.frame_watch.proofs.list.ThreadList.begun.Goals as goal

point : (c : goal.After-partition_point)
    → IsPartitionPoint (λ (w : Watched). leb w.stack.low c.args.address ≡ true)
    (λ w. leb w.stack.low c.args.address ≡ false)
    c.args.self.now c.partition_point.result
point c =
    let e = c.deref.ensures.value in
    let rise = IsPartitionedBy-leb (λ (w : Watched). w.stack.low) c.self.inside.threads.items c.args.address
    (lows_rise stack_of 0 c.self.inside.threads.items c.self.invariant.0) in
    let rises : IsPartitionedBy (λ (w : Watched). leb w.stack.low c.args.address) c.deref.result.now = rw e rise in
    let found = IsPartitionPoint-from_clause (λ (w : Watched). leb w.stack.low c.args.address) c.deref.result.now
    c.partition_point.result c.partition_point.ensures.partitioned rises (λ a r f' k. search rules) in
    rw c.self.view_is at (rw e at found)

pub returns-clause-below : goal.returns-clause-below
returns-clause-below c = λ k d l m. leb-true _ _ ((point c).0 k d l m)

pub returns-clause-above : goal.returns-clause-above
returns-clause-above c = λ k d l m. leb-false _ _ ((point c).1 k d l m)
