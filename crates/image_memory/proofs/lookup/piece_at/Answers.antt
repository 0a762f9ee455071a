-- The piece before the first one that begins above the address is the only one that can hold it.
use Rattle.std.proofs.Common.{◌≡◌, ◌-◌, ◌<◌, arith, sym, true, length, get_or}
use Rattle.std.proofs.lemmas.List.{get_or_read}
use Rattle.image_memory.specs.Ranges.{lies_in}
use Rattle.image_memory.specs.Contents.{piece_range}
use Rattle.image_memory.specs.laws.RangeLaws.{found_here, found_nowhere}
use Rattle.image_memory.proofs.lookup.piece_at.Goals as goal

pub returns-then-begun-eq0-clause-piece : goal.returns-then-begun-eq0-clause-piece
returns-then-begun-eq0-clause-piece c =
    let pieces = c.args.pieces.now in
    let e = c.begun-begun.ensures in
    sym (found_nowhere piece_range 0 pieces c.args.address c.begun-begun.result c.requires
    (λ k d l m. e.above k d l m)
    (λ k d l m. absurd (omega arith))
    (λ k d l m. e.below k d (omega arith) l)
    (omega arith))

pub returns-then-holds-clause-piece : goal.returns-then-holds-clause-piece
returns-then-holds-clause-piece c =
    let pieces = c.args.pieces.now in
    let piece = c.index-pieces-begun.result in
    let n = c.begun-begun.result in
    let l : n - 1 < length pieces = omega arith in
    let at : get_or pieces (n - 1) piece ≡ piece = sym c.index-pieces-begun.is in
    let holds : lies_in c.args.address (piece_range (get_or pieces (n - 1) piece)) ≡ true
    = rw at (cc c.if-holds.true) in
    sym (rw at at (found_here piece_range 0 pieces c.args.address (n - 1) piece c.requires l holds))

pub returns-else-holds-clause-piece : goal.returns-else-holds-clause-piece
returns-else-holds-clause-piece c =
    let pieces = c.args.pieces.now in
    let e = c.begun-begun.ensures in
    sym (found_nowhere piece_range 0 pieces c.args.address c.begun-begun.result c.requires
    (λ k d l m. e.above k d l m)
    (λ k d l m.
    let s : c.begun-begun.result - 1 ≡ k = omega arith in
    let at = get_or_read pieces k c.index-pieces-begun.result m (rw s at c.index-pieces-begun.is) d in
    rw (← at) (cc c.if-holds.false))
    (λ k d l m. e.below k d (omega arith) l)
    (omega arith))
