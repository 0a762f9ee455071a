use Rattle.std.proofs.Common.{ℕ, ◌∙◌, ◌+◌, length, ap}
use Rattle.std.proofs.lemmas.List.{length-map, length_push, map-append}
use Rattle.ks_io.specs.laws.KeptLaws.{FilesKept-trans}
use Rattle.ks_io.specs.Loads.{bytes_of}
use Rattle.ks_io.proofs.NextLoads.{stopped, went_on, not_kept}
use Rattle.ks_io.proofs.loading.load_all.Goals as goal

pub loop-index-preserved : goal.loop-index-preserved
loop-index-preserved g c =
    let so_far = c.loop-index.invariant in
    let held = c.loop-index.held.items in
    record {
      count =
          ap length c.in_default.ensures.items ∙ length_push held c.in-Ok.bytes ∙ ap (λ (n : ℕ). n + 1) so_far.count;
      loads = rw (c.in_default.ensures.items, map-append)
          (went_on c.args.wanted.now c.loop-index.index _ (bytes_of held) c.in-Ok.bytes.items c.loop-index-test.true
          (length-map held (λ file. file.items) ∙ so_far.count) so_far.loads so_far.kept c.in-Ok.ensures.held);
      steady = c.in-Ok.ensures.steady ∙ so_far.steady;
      kept = FilesKept-trans so_far.kept c.load_one.ensures.kept;
    }

pub returns-in-Err-clause-loads : goal.returns-in-Err-clause-loads
returns-in-Err-clause-loads g c =
    let so_far = c.loop-index.invariant in
    stopped c.args.wanted.now c.loop-index.index _ (bytes_of c.loop-index.held.items) _ c.loop-index-test.true
    (length-map c.loop-index.held.items (λ file. file.items) ∙ so_far.count) so_far.loads so_far.kept
    c.in-Err.ensures.lost

pub returns-in-Err-push-clause-loads : goal.returns-in-Err-push-clause-loads
returns-in-Err-push-clause-loads g c =
    let so_far = c.loop-index.invariant in
    stopped c.args.wanted.now c.loop-index.index _ (bytes_of c.loop-index.held.items) _ c.loop-index-test.true
    (length-map c.loop-index.held.items (λ file. file.items) ∙ so_far.count) so_far.loads so_far.kept
    (not_kept _ _ _ _ _ c.in-Ok.ensures.held)
