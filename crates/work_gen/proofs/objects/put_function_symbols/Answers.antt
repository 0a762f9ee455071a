use Rattle.std.proofs.Common.{◌∙◌, ◌+◌, ◌++◌, length, ap, sym}
use Rattle.std.proofs.lemmas.List.{append-nil}
use Rattle.std.specs.List.{range_with_len}
use Rattle.work_gen.specs.Encoding.{ended}
use Rattle.work_gen.specs.Functions.{function_name, object_code}
use Rattle.work_gen.specs.Objects.{symbol, function_symbols}
use Rattle.work_gen.specs.inside.Builds.{count_of, constants_of}
use Rattle.work_gen.proofs.SymbolLaws.{entries_more, names_more}
use Rattle.work_gen.proofs.objects.put_function_symbols.Goals as goal

pub loop-i-init : goal.loop-i-init
unfolding function_symbols
loop-i-init c = (sym (append-nil c.args.to.now.items), sym (append-nil c.args.names.now.items))

pub loop-i-preserved : goal.loop-i-preserved
loop-i-preserved c =
    let i = c.loop-i.i in
    let count = count_of c.args.build in
    let constants = constants_of c.args.build in
    let start = c.args.to.now.items in
    let names = c.args.names.now.items in
    let size = length (object_code count constants i) in
    let so_far = function_symbols count constants (length names) (range_with_len 0 i) in (
      c.in_ok-put_function_symbol.ensures.entries
          ∙ ap (λ l. l ++ symbol (length c.loop-i.names.items) size 0x12 (i + 1)) c.loop-i.invariant.0
          ∙ ap (λ l. (start ++ so_far) ++ symbol (length l) size 0x12 (i + 1)) c.loop-i.invariant.1
          ∙ entries_more count constants start names i,
      c.in_ok-put_function_symbol.ensures.names
          ∙ ap (λ l. l ++ ended (function_name i)) c.loop-i.invariant.1
          ∙ names_more names i,
    )
