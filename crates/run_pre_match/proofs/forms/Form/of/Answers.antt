use Rattle.std.proofs.Common.{ℕ, ◌≤◌, sym, subst, arith}
use Rattle.std.proofs.lemmas.List.{length-take-le}
use Rattle.run_pre_match.proofs.forms.Form.of.Goals as goal

pub returns-clause-short : goal.returns-clause-short
returns-clause-short c =
    let bytes = c.args.bytes.now in
    let d = c.args.decoded.now in
    let short : d.length ≤ 15 = c.instructions_have_bytes.ensures.short bytes d c.requires in
    subst (λ (n : ℕ). n ≤ 24)
    (sym (length-take-le d.length bytes (c.instructions_have_bytes.ensures.within bytes d c.requires)))
    (omega (arith, short))
