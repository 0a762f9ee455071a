use Rattle.std.proofs.Common.{◌≡◌, ◌++◌, length, take}
use Rattle.std.specs.List.{flat_map}
use Rattle.update_stack.specs.declared.updates.Kept.{Kept}
use Rattle.update_stack.proofs.withdrawing.count_of_symbols.Given as goal

abbrev pub invariant-loop-next : goal.invariant-loop-next
invariant-loop-next l =
    l.count ≡ length (l.one.symbols ++ flat_map (λ (k : Kept). k.symbols) (take l.next-index l.later))
