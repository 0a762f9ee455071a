-- A write leaves each piece where it is.
use Rattle.std.proofs.Common.{◌≤◌, ◌<◌, List, arith, sym, subst, length}
use Rattle.std.specs.List.{All}
use Rattle.image_memory.specs.Ranges.{Ascends}
use Rattle.image_memory.specs.Contents.{piece_range}
use Rattle.image_memory.specs.declared.types.Piece.{Piece}
use Rattle.image_memory.specs.laws.RangeLaws.{one_after}
use Rattle.image_memory.specs.laws.AccessLaws.{Ascends-written}
use Rattle.image_memory.specs.laws.ByteLaws.{ends-written, kept_as}
use Rattle.image_memory.proofs.flat.FlatSpace.put_bytes.Goals as goal

pub overlay_pieces-requires-clause-below : goal.overlay_pieces-requires-clause-below
overlay_pieces-requires-clause-below c = λ k d z l.
    let space = c.args.self.now in
    let items = space.pieces.items in
    let first = c.saturating_sub-first.result in
    let m : first < length items = omega (arith, space.pieces.ok.0) in
    let next = one_after piece_range 0 items k first d space.ascend l m in
    let low = c.begun.ensures.below first d (omega arith) (omega arith) in
    rw c.as_mut_slice.ensures.value (omega arith)

pub invariant_of-self-clause-ascend : goal.invariant_of-self-clause-ascend
invariant_of-self-clause-ascend c =
    let space = c.args.self.now in
    let kept = kept_as space.pieces c.overlay_pieces.new.pieces c.as_mut_slice.result.now c.args.address c.args.from.now
    c.overlay_pieces.auto.pieces c.overlay_pieces.ensures c.as_mut_slice.ensures.value in
    let P : List Piece → Type 0 = λ ps. Ascends piece_range 0 ps in
    subst P (sym kept) (Ascends-written c.args.address c.args.from.now 0 space.pieces.items space.ascend)

pub invariant_of-self-clause-end_below : goal.invariant_of-self-clause-end_below
invariant_of-self-clause-end_below c =
    let space = c.args.self.now in
    let kept = kept_as space.pieces c.overlay_pieces.new.pieces c.as_mut_slice.result.now c.args.address c.args.from.now
    c.overlay_pieces.auto.pieces c.overlay_pieces.ensures c.as_mut_slice.ensures.value in
    let P : List Piece → Type 0 = λ ps. All (λ p. (piece_range p).high ≤ 0xFFFF_0000) ps in
    subst P (sym kept) (ends-written c.args.address c.args.from.now 0xFFFF_0000 space.pieces.items space.end_below)
