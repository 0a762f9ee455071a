-- What was passed is alike, so the next bytes and what is behind them decide.
use Rattle.std.proofs.Common.{◌∙◌, ap, sym, Bool, ◌&&◌, arith, drop, ◌+◌}
use Rattle.i386_reloc.specs.Normal.{same_bytes}
use Rattle.section_equal.proofs.LaneLaws.{next_and_rest}
use Rattle.section_equal.proofs.bytes.equal_bytes.Goals as goal

pub loop-passed-preserved : goal.loop-passed-preserved
loop-passed-preserved c =
    let a = c.args.a.now in
    let b = c.args.b.now in
    let i = c.loop-passed.passed in
    let left = same_bytes (drop (i + 32) a) (drop (i + 32) b) in
    let alike = sym c.equal_lanes.ensures ∙ c.if-not-equal_lanes.false in (
      omega arith,
      c.loop-passed.invariant.1
          ∙ (next_and_rest i 32 a b (omega arith) (omega arith) ∙ ap (λ (same : Bool). same && left) alike),
    )
