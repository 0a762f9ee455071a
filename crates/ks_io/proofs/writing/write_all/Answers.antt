-- After a write the prefix of the piece that was taken has grown by what the write took.
use Rattle.std.proofs.Common.{◌≡◌, ◌++◌, ℕ, List, take, drop, ◌∙◌, ap, arith, append_assoc}
use Rattle.std.proofs.lemmas.List.{take-append-drop}
use Rattle.std.proofs.lemmas.Grind.{common_steps}
use Rattle.ks_io.specs.Outside.{grown}
use Rattle.ks_io.specs.laws.Fronts.{grown-append}
use Rattle.ks_io.specs.laws.KeptLaws.{SinkKept-trans}
use Rattle.ks_io.proofs.writing.write_all.Goals as goal

splits_further : (front rest piece : List ℕ) (n : ℕ)
    → front ++ rest ≡ piece → (front ++ take n rest) ++ drop n rest ≡ piece
splits_further front rest piece n h =
    append_assoc front (take n rest) (drop n rest) ∙ ap (λ bytes. front ++ bytes) (take-append-drop n rest) ∙ h

pub loop-rest-preserved : goal.loop-rest-preserved
loop-rest-preserved g c =
    let before = c.loop-rest.invariant in
    let n : ℕ = c.in_ok-count.count in
    let further = splits_further before.front c.loop-rest.rest.now c.args.piece.now n before.splits in
    record {
      front = before.front ++ take n c.loop-rest.rest.now;
      splits = grind (arith, common_steps, further);
      written = c.in_ok-count.ensures.took
          ∙ ap (λ was. grown was (take n c.loop-rest.rest.now)) before.written ∙ grown-append _ _ _;
      steady = c.in_ok-count.ensures.steady (omega arith) ∙ before.steady;
      kept = SinkKept-trans before.kept (record {
        never_falls = c.write.ensures.never_falls;
        quiet_kept = c.write.ensures.quiet_kept;
        quiet_faults = c.write.ensures.quiet_faults;
      });
    }
