use Rattle.std.proofs.Common.{ℕ, ◌+◌, ◌-◌, ◌<◌, List, ◌++◌, ◌∙◌, ap, sym, append_assoc, arith}
use Rattle.std.specs.List.{flat_map, range_with_len}
use Rattle.ksplice_session.specs.Lines.{peeked_at}
use Rattle.ksplice_session.proofs.Ranges.{first_of_range}
use Rattle.ksplice_session.proofs.lines.put_each_byte.Goals as goal

pub loop-at-preserved : goal.loop-at-preserved
loop-at-preserved g c =
    let f : ℕ → List ℕ = peeked_at (g.S.Space.contents c.args.space.now).pieces in
    let at : ℕ = c.loop-at.at in
    let end : ℕ = c.from-low.result + c.from.result in
    let rest : List ℕ = flat_map f (range_with_len (at + 1) (end - (at + 1))) in
    let below : at < end = omega (arith, c.loop-at-test.true) in
    ap (λ (l : List ℕ). l ++ rest) (c.in_ok-put_byte_at.ensures)
    ∙ append_assoc c.loop-at.line (f at) rest
    ∙ ap (λ (l : List ℕ). c.loop-at.line ++ l) (sym (first_of_range f at end below))
    ∙ c.loop-at.invariant
