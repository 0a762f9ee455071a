use Rattle.std.proofs.Common.{length, if◌then◌else◌}
use Rattle.image_file.specs.Keeps.{symbol_kind}
use Rattle.image_file.specs.Spelling.{number, symbol_spelling}
use Rattle.image_file.proofs.Spelled.{regroup_five}
use Rattle.image_file.proofs.writing.put_symbol.Goals as goal

pub returns : goal.returns
unfolding symbol_spelling
returns c =
    let symbol = c.args.symbol.now in
    let whole = regroup_five c.args.out.now.items (number symbol.address) (number (symbol_kind symbol))
    (number (if symbol.global then 1 else 0)) (number (length symbol.name)) symbol.name in
    cc (
      c.in_ok-extend_from_slice.ensures.items,
      c.in_ok-put_number-4.ensures,
      c.in_ok-put_number-3.ensures,
      c.in_ok-put_number-2.ensures,
      c.in_ok-put_number.ensures,
      c.symbol_kind.ensures,
      c.binding_number.ensures,
      c.len.ensures,
      c.as_slice.ensures,
    )
