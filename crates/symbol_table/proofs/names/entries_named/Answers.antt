use Rattle.std.proofs.Common.{◌≤◌, ◌-◌, get_or, arith}
use Rattle.symbol_table.specs.inside.Entries.{order_at}
use Rattle.symbol_table.specs.inside.Names.{is_before, is_not_after, is_named_at}
use Rattle.symbol_table.proofs.NameLaws.{filter_part, points_rise, before_up_to, named_between}
use Rattle.symbol_table.proofs.NameLaws.{before_not_named, after_not_named, named_rise}
use Rattle.symbol_table.proofs.names.entries_named.Goals as goal

pub slice_bounds-result-count : goal.slice_bounds-result-count
slice_bounds-result-count c =
    let symbols = c.args.symbols.now in
    let name = c.args.name.now in
    points_rise (is_before symbols name) (is_not_after symbols name) c.args.entries.now _ _
    c.begin_of-begin.ensures.point c.end_of-end.ensures.point c.begin_of-begin.ensures.bound
    (λ entry. before_up_to (order_at symbols name entry))

pub slice_bounds-result-start : goal.slice_bounds-result-start
slice_bounds-result-start c = slice_bounds-result-count c

pub returns-clause-named : goal.returns-clause-named
returns-clause-named c =
    let entries = c.args.entries.now in
    let order = order_at c.args.symbols.now c.args.name.now in
    let begin = c.begin_of-begin.result in
    let end = c.end_of-end.result in
    let low = c.begin_of-begin.ensures.point in
    let high = c.end_of-end.ensures.point in
    let rise : begin ≤ end = points_rise (is_before c.args.symbols.now c.args.name.now)
    (is_not_after c.args.symbols.now c.args.name.now) entries begin end low high c.begin_of-begin.ensures.bound
    (λ entry. before_up_to (order entry)) in
    filter_part (is_named_at c.args.symbols.now c.args.name.now) entries begin (end - begin) (omega arith)
    (λ j d l. before_not_named (order (get_or entries j d)) (low.0 j d (omega arith) l))
    (λ j d g l. named_between (order (get_or entries j d)) (low.1 j d g (omega arith))
    (high.0 j d (omega arith) (omega arith)))
    (λ j d g l. after_not_named (order (get_or entries j d)) (high.1 j d (omega arith) l))

pub returns-clause-rise : goal.returns-clause-rise
returns-clause-rise c = named_rise c.args.symbols.now c.args.name.now c.args.entries.now _ c.requires
    (returns-clause-named c)
