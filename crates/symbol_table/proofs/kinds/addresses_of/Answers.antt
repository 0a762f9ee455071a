use Rattle.std.proofs.Common.{◌≡◌, List, ℕ, subst}
use Rattle.std.specs.Result.{IfOk}
use Rattle.symbol_table.specs.inside.Kinds.{is_listed}
use Rattle.symbol_table.specs.Symbols.{ascending, addresses_of}
use Rattle.symbol_table.proofs.NameLaws.{found_by_name}
use Rattle.symbol_table.proofs.kinds.addresses_of.Goals as goal

pub returns : goal.returns
returns c =
    let e : ascending c.in_ok-addresses_found.field-0.items ≡ addresses_of
    (is_listed c.args.kind c.args.name.now) c.args.symbols.now =
    found_by_name c.args.kind c.args.name.now c.args.symbols.now c.args.entries.now _ c.requires
    c.in_ok-addresses_found.ensures in
    let P : List ℕ → Type 0 = λ ys. IfOk c.put_in_order.result (λ found. found ≡ ys) in
    subst P e c.put_in_order.ensures
