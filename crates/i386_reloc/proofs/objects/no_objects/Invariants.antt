use Rattle.std.proofs.Common.{◌≡◌, [], vec_len, ℕ, List, ◌<◌, slice_index_or}
use Rattle.i386_reloc.specs.declared.types.ObjectSymbol.{ObjectSymbol}
use Rattle.i386_reloc.proofs.objects.no_objects.Given as goal

abbrev pub invariant-loop : goal.invariant-loop
invariant-loop l =
    (vec_len l.table ≡ l.counter) × ((i : ℕ) (d : List ObjectSymbol) → i < l.counter
    → slice_index_or l.table.items i d ≡ [])
