use Rattle.std.proofs.Common.{length}
use Rattle.image_file.specs.Spelling.{number, header_spelling}
use Rattle.image_file.proofs.Spelled.{regroup_six}
use Rattle.image_file.proofs.writing.put_header.Goals as goal

pub returns : goal.returns
unfolding header_spelling
returns c =
    let image = c.args.image.now in
    let whole = regroup_six c.args.out.now.items (number 0x314D_494B) (number (length image.pieces))
    (number (length image.symbols.symbols)) (number (length image.stacks)) (number image.arena.low)
    (number image.arena.high) in
    cc (
      c.in_ok-put_number-6.ensures,
      c.in_ok-put_number-5.ensures,
      c.in_ok-put_number-4.ensures,
      c.in_ok-put_number-3.ensures,
      c.in_ok-put_number-2.ensures,
      c.in_ok-put_number.ensures,
      c.len.ensures,
      c.len-2.ensures.value,
      c.len-3.ensures,
    )
