use Rattle.std.proofs.Common.{sym, arith}
use Rattle.elf32_object.proofs.Tables.{is_table}
use Rattle.elf32_object.proofs.symbols.symbols_of.Goals as goal

pub symbols_in-requires-clause-within : goal.symbols_in-requires-clause-within
symbols_in-requires-clause-within c =
    let t = is_table c.args.layout.now.bytes.now c.in-Some.i (sym c.in-Some.ensures) c.requires in
    omega (arith, t.within)

pub symbols_in-requires-clause-few : goal.symbols_in-requires-clause-few
symbols_in-requires-clause-few c =
    (is_table c.args.layout.now.bytes.now c.in-Some.i (sym c.in-Some.ensures) c.requires).few

pub symbols_in-requires-clause-in_file : goal.symbols_in-requires-clause-in_file
symbols_in-requires-clause-in_file c =
    (is_table c.args.layout.now.bytes.now c.in-Some.i (sym c.in-Some.ensures) c.requires).in_file

pub symbols_in-requires-clause-link : goal.symbols_in-requires-clause-link
symbols_in-requires-clause-link c =
    let t = is_table c.args.layout.now.bytes.now c.in-Some.i (sym c.in-Some.ensures) c.requires in
    omega (arith, t.link)

pub symbols_in-requires-clause-names_in_file : goal.symbols_in-requires-clause-names_in_file
symbols_in-requires-clause-names_in_file c =
    (is_table c.args.layout.now.bytes.now c.in-Some.i (sym c.in-Some.ensures) c.requires).names_in_file
