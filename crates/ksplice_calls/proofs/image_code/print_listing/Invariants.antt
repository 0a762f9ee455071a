use Rattle.std.proofs.Common.{◌≡◌, ℕ, List, Option, length}
use Rattle.ks_io.specs.Kept.{SinkKept}
use Rattle.ksplice_calls.specs.Answer.{ComesOut, answer_of}
use Rattle.ksplice_calls.proofs.image_code.print_listing.Given as goal

-- whatever comes out of the rest is the whole that comes out
abbrev pub invariant-loop-status : goal.invariant-loop-status
invariant-loop-status g l = record {
  comes_out : (now : Option (List ℕ)) (status : ℕ) → ComesOut (answer_of l.listing 0) (g.O.Sink.taken l.out) now status
      → ComesOut (answer_of l.fn.listing 0) (g.O.Sink.taken l.fn.out) now status;
  steady : g.O.Sink.faults l.out ≡ g.O.Sink.faults l.fn.out;
  kept : SinkKept g.O.Sink.faults g.O.Sink.quiet l.fn.out l.out;
}

abbrev pub decreases-loop-status : goal.decreases-loop-status
decreases-loop-status g l = length l.listing
