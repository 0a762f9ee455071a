-- What halving finds, where the slots fall.
use Rattle.std.proofs.Common.{◌≡◌, rules, nat_lt, ap, true, false}
use Rattle.std.proofs.lemmas.Bool.{ltb-true, ltb-false}
use Rattle.std.specs.List.Sorted.{IsPartitionedBy, IsPartitionPoint}
use Rattle.std.proofs.lemmas.List.Sorted.{IsPartitionPoint-from_clause}
use Rattle.ia32_step.specs.declared.types.Frame.{Frame}
use Rattle.frame_watch.specs.Frames.{Watched}
use Rattle.frame_watch.proofs.FrameLaws.{parted}
use Rattle.frame_watch.proofs.thread.ThreadFrames.above.Goals as goal

point : (c : goal.After-partition_point)
    → IsPartitionPoint (λ (f : Frame). nat_lt c.args.slot f.slot ≡ true) (λ f. nat_lt c.args.slot f.slot ≡ false)
    c.args.self.now.frames c.partition_point.result
point c =
    let same : c.self.inside.frames.items ≡ c.args.self.now.frames = ap (λ (w : Watched). w.frames) c.self.view_is in
    let e = c.deref.ensures.value in
    let fall = parted c.args.slot c.self.inside.frames.items c.self.invariant.1 in
    let falls : IsPartitionedBy (λ (f : Frame). nat_lt c.args.slot f.slot) c.deref.result.now = rw e fall in
    let found = IsPartitionPoint-from_clause (λ (f : Frame). nat_lt c.args.slot f.slot) c.deref.result.now
    c.partition_point.result c.partition_point.ensures.partitioned falls (λ a r f' k. search rules) in
    rw same at (rw e at found)

pub returns-clause-above : goal.returns-clause-above
returns-clause-above c = λ k d l m. ltb-true _ _ ((point c).0 k d l m)

pub returns-clause-below : goal.returns-clause-below
returns-clause-below c = λ k d l m. ltb-false _ _ ((point c).1 k d l m)
