use Rattle.std.proofs.Common.{length}
use Rattle.image_file.specs.Spelling.{number, kind_number, region_spelling}
use Rattle.image_file.proofs.Spelled.{regroup_four}
use Rattle.image_file.proofs.writing.put_region.Goals as goal

pub returns : goal.returns
unfolding region_spelling
returns c =
    let piece = c.args.piece.now in
    let whole = regroup_four c.args.out.now.items (number (kind_number piece.kind)) (number piece.base)
    (number (length piece.bytes)) piece.bytes in
    cc (
      c.in_ok-extend_from_slice.ensures.items,
      c.in_ok-put_number-3.ensures,
      c.in_ok-put_number-2.ensures,
      c.in_ok-put_number.ensures,
      c.kind_number.ensures,
      c.len.ensures,
      c.as_slice.ensures,
    )
