use Rattle.std.proofs.Common.{arith, ap, length}
use Rattle.saved_data.proofs.ReadLaws.{piece_read, ends_in_order}
use Rattle.saved_data.proofs.copying.bytes_of.Goals as goal

pub overflow_sub-range : goal.overflow_sub-range
overflow_sub-range g c = ends_in_order (g.S.Space.contents c.args.space.now).pieces c.args.range c.requires

pub read_all-requires : goal.read_all-requires
read_all-requires g c =
    piece_read (g.S.Space.contents c.args.space.now) c.args.range _ (g.met.S.Space.valid c.args.space.now) c.requires
    (omega (
      arith,
      ends_in_order (g.S.Space.contents c.args.space.now).pieces c.args.range c.requires,
      ap length c.deref_mut.ensures.value,
      c.in_ok-resize.ensures.len,
    ))
