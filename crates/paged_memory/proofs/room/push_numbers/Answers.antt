-- One number more in each turn.
use Rattle.std.proofs.Common.{◌≡◌, ◌+◌, ◌-◌, ◌/◌, ◌++◌, ◌∙◌, arith, ap, ℕ}
use Rattle.paged_memory.specs.inside.Missing.{count_up}
use Rattle.paged_memory.proofs.MissingLaws.{count_up-none, count_up-next}
use Rattle.paged_memory.proofs.room.push_numbers.Goals as goal

pub loop-number-init : goal.loop-number-init
loop-number-init c = count_up-none c.args.numbers.now.items (c.args.range.low / 4096)

pub loop-number-preserved : goal.loop-number-preserved
loop-number-preserved c =
    c.in_ok-push.ensures.items
    ∙ count_up-next c.args.numbers.now.items c.loop-number.numbers.items (c.args.range.low / 4096) c.loop-number.number
    c.loop-number.auto.number c.loop-number.invariant

pub returns : goal.returns
returns c =
    let order = c.requires in
    let last : c.loop-number.number ≡ (c.args.range.high - 1) / 4096 + 1 = omega arith in
    c.loop-number.invariant
    ∙ ap (λ (n : ℕ). c.args.numbers.now.items ++ count_up (c.args.range.low / 4096) (n - c.args.range.low / 4096)) last
