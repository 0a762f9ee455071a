use Rattle.std.proofs.Common.{rules, ◌≡◌}
use Rattle.std.specs.Ordering.{is_lt}
use Rattle.std.proofs.lemmas.Fn.{always_returns_same}
use Rattle.symbol_table.specs.inside.Entries.{entry_less}
use Rattle.symbol_table.proofs.EntryLaws.{entry_laws}
use Rattle.symbol_table.proofs.entries.sort_entries.Goals as goal

pub returns-clause-ascend : goal.returns-clause-ascend
returns-clause-ascend c =
    let index = c.args.index in
    let symbols = c.args.symbols.now in
    c.sort_unstable_by.ensures.sorted (entry_less index symbols) (entry_laws index symbols)
    (always_returns_same _ (λ a r. is_lt r ≡ entry_less index symbols a.0.now a.1.0.now) _ (λ a r q k. search rules))
