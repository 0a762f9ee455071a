-- What is inserted is the claim's unknown.
use Rattle.std.proofs.Common.{subst, sym, Contains}
use Rattle.indexmap.proofs.CallerLemmas.{Contains-insert_key}
use Rattle.symbol_table.specs.contracts.values.UnknownPartialEq.TheImpl as unknowns
use Rattle.symbol_solve.proofs.NumberLaws.{equal_unknown}
use Rattle.symbol_solve.proofs.numbers.Numbers.add_claim.Goals as goal

pub returns-clause-numbered : goal.returns-clause-numbered
returns-clause-numbered c =
    let own = c.in_ok-unknown.unknown in
    let there = Contains-insert_key (unknowns.eq-value).it equal_unknown c.self.inside.unknowns.keys own in
    subst (Contains c.insert.new.self.keys) c.in_ok-unknown.ensures
    (subst (λ keys. Contains keys own) (sym c.in_ok-insert.ensures.keys) there)
