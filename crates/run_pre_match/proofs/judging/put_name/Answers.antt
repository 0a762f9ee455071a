-- The map at each name, after one is put there.
use Rattle.std.proofs.Common.{ℕ, List, Bor, refl, ◌∙◌}
use Rattle.run_pre_match.proofs.Verdicts.{equal_keys}
use Rattle.run_pre_match.proofs.judging.put_name.Goals as goal

pub returns : goal.returns
returns c = λ q.
    let key : Bor (List ℕ) = record { ref_ptr = (0, 0); now = q } in
    c.in_ok-insert.ensures.updates.0 key ∙ rw (equal_keys c.args.name.now q) refl
