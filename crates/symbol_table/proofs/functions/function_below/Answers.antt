use Rattle.std.proofs.Common.{◌∙◌, Option, sym, subst}
use Rattle.symbol_table.specs.declared.entries.Entry.{Entry}
use Rattle.symbol_table.specs.Symbols.{function_below}
use Rattle.symbol_table.specs.inside.Functions.{Marks}
use Rattle.symbol_table.proofs.FunctionLaws.{seen_at, marked, marked_symbol, marked_none, marked_low, seen_low}
use Rattle.symbol_table.proofs.functions.function_below.Goals as goal

pub returns-in-Some-clause-found : goal.returns-in-Some-clause-found
returns-in-Some-clause-found c =
    let symbols = c.args.symbols.now in
    let P : Option Entry → Type 0 = λ o. Marks symbols o (function_below symbols c.args.address) in
    seen_at symbols c.in-Some.entry.place c.get.result c.get.ensures.lookup
    ∙ marked_symbol symbols c.in-Some.entry _
    (subst P (sym c.in-Some.ensures.found) (marked symbols c.args.entries.now c.args.address c.requires))

pub returns-in-Some-clause-below : goal.returns-in-Some-clause-below
returns-in-Some-clause-below c =
    let symbols = c.args.symbols.now in
    let P : Option Entry → Type 0 = λ o. Marks symbols o (function_below symbols c.args.address) in
    let marks = subst P (sym c.in-Some.ensures.found) (marked symbols c.args.entries.now c.args.address c.requires) in
    seen_low c.args.address _ _ (returns-in-Some-clause-found c)
    (marked_low symbols c.args.address c.in-Some.entry _ marks c.in-Some.ensures.below)

pub returns-in-None-clause-found : goal.returns-in-None-clause-found
returns-in-None-clause-found c =
    let symbols = c.args.symbols.now in
    let P : Option Entry → Type 0 = λ o. Marks symbols o (function_below symbols c.args.address) in
    marked_none symbols _ (subst P (sym c.in-None.ensures.found)
    (marked symbols c.args.entries.now c.args.address c.requires))
