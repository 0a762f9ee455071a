use Rattle.std.proofs.Common.{ℕ, List, Bor, refl, ◌∙◌}
use Rattle.i386_reloc.proofs.Places.{equal_keys}
use Rattle.i386_reloc.proofs.names.place.Goals as goal

pub returns-in-Ok-clause-placed : goal.returns-in-Ok-clause-placed
returns-in-Ok-clause-placed c = λ q.
    let key : Bor (List ℕ) = record { ref_ptr = (0, 0); now = q } in
    c.in-Ok.ensures.updates.0 key ∙ rw (c.len-last.ensures.len, equal_keys c.args.name.now q) refl
