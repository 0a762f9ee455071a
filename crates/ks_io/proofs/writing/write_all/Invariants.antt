use Rattle.std.proofs.Common.{◌≡◌, List, ℕ, ◌++◌, length}
use Rattle.ks_io.specs.Kept.{SinkKept}
use Rattle.ks_io.specs.Outside.{grown}
use Rattle.ks_io.proofs.writing.write_all.Given as goal

-- what was written so far is the prefix of the piece before the rest
abbrev pub invariant-loop-rest : goal.invariant-loop-rest
invariant-loop-rest g l = record {
  front : List ℕ;
  splits : front ++ l.rest ≡ l.piece;
  written : g.O.Sink.taken l.out ≡ grown (g.O.Sink.taken l.initial.out) front;
  steady : g.O.Sink.faults l.out ≡ g.O.Sink.faults l.initial.out;
  kept : SinkKept g.O.Sink.faults g.O.Sink.quiet l.initial.out l.out;
}

abbrev pub decreases-loop-rest : goal.decreases-loop-rest
decreases-loop-rest g l = length l.rest
