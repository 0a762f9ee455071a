-- Both lists have the same byte at each address.
use Rattle.std.proofs.Common.{arith, sym}
use Rattle.image_memory.specs.laws.AccessLaws.{overlaid_outside}
use Rattle.image_memory.specs.laws.ByteLaws.{overlaid_where_met}
use Rattle.image_memory.proofs.bytes.overlay.Goals as goal

pub returns-then-low-high : goal.returns-then-low-high
returns-then-low-high c =
    rw c.copy_from_slice.ensures.after (overlaid_where_met c.args.at c.args.start c.max-low.result c.min-high.result
    c.args.target.now c.args.from.now c.max-low.ensures c.min-high.ensures c.if-low-high.true)

pub returns-else-low-high : goal.returns-else-low-high
returns-else-low-high c =
    sym (overlaid_outside c.args.start c.args.from.now c.args.at c.args.target.now
    (λ k l. grind (arith, c.max-low.ensures, c.min-high.ensures, c.if-low-high.false)))
