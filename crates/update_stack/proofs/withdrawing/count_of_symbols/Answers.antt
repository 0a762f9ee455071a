use Rattle.std.proofs.Common.{take, arith, length-append}
use Rattle.std.specs.List.{flat_map}
use Rattle.update_stack.specs.declared.updates.Kept.{Kept}
use Rattle.update_stack.proofs.AmongLaws.{part_of_all}
use Rattle.update_stack.proofs.withdrawing.count_of_symbols.Goals as goal

pub overflow_add-count : goal.overflow_add-count
overflow_add-count c =
    let later = c.args.later.now in
    let own = c.args.one.now.symbols in
    let index = c.loop-next.next-index in
    let part = part_of_all (λ (k : Kept). k.symbols) later index c.next-item.result c.loop-next-test.true c.next-item.is in
    omega (
      arith,
      part,
      length-append own (flat_map (λ (k : Kept). k.symbols) later),
      length-append own (flat_map (λ (k : Kept). k.symbols) (take index later)),
    )
