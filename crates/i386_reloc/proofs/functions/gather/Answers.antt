use Rattle.std.proofs.Common.{◌≡◌, length, arith}
use Rattle.std.proofs.lemmas.List.{with_items_is}
use Rattle.elf32_object.specs.Fields.{symbol_count}
use Rattle.i386_reloc.proofs.FunctionSymbols.{are_no_functions}
use Rattle.i386_reloc.proofs.functions.gather.Goals as goal

pub loop-k-init : goal.loop-k-init
loop-k-init c = rw (c.in_ok-table.ensures.items_if_clones_equal (λ y same. same))
    (are_no_functions c.args.source.now.object.now _ c.section_count.ensures.count)

pub gather_symbol-requires-clause-before : goal.gather_symbol-requires-clause-before
gather_symbol-requires-clause-before c = rw c.as_mut_slice.ensures.value c.loop-k.invariant

pub loop-k-preserved : goal.loop-k-preserved
loop-k-preserved c =
    let same : length c.gather_symbol.new.table ≡ c.loop-k.table.len = omega arith in
    rw (with_items_is c.loop-k.table c.gather_symbol.new.table same) c.gather_symbol.ensures

pub returns : goal.returns
returns c =
    let e : symbol_count c.args.source.now.object.now ≡ c.loop-k.k = omega arith in rw e c.loop-k.invariant
