use Rattle.std.proofs.Common.{◌≡◌, ◌≤◌, ◌<◌, [], ◌∷◌, ◌++◌, length, Ok, sym, arith}
use Rattle.std.proofs.lemmas.Result.{err_from_is_err_and}
use Rattle.std.proofs.lemmas.List.Elements.{All-push}
use Rattle.image_memory.specs.Contents.{piece_range}
use Rattle.image_memory.specs.declared.types.Piece.{Piece}
use Rattle.image_file.specs.Fields.{items_at}
use Rattle.image_file.specs.Reading.{region_at, region_width}
use Rattle.std.proofs.Common.{length-append, IsTrue}
use Rattle.image_file.specs.Keeps.{keeps_region}
use Rattle.image_file.proofs.Items.{goes_on, ends, is_done}
use Rattle.image_file.proofs.Ends.{end_of-push, total_of-push, Ascends-push}
use Rattle.image_file.proofs.regions.regions_of.Goals as goal

pub returns-in_err-piece-clause-exact : goal.returns-in_err-piece-clause-exact
returns-in_err-piece-clause-exact c =
    let p = err_from_is_err_and c.from_residual.result c.from_residual.ensures.1 in
    let inv = c.loop.invariant in
    let item = region_at c.args.bytes.now c.args.arena in
    rw (p.1, p.2) (ends item region_width c.args.count c.loop.counter c.loop.pieces c.loop.offset
    c.in_err-piece.field-0.0
    (items_at c.args.count item region_width [] 24) c.loop-test.true
    (λ other. rw (← inv.floor_is, ← inv.total_is) (c.in_err-piece.ensures.exact other)) inv.reads)

pub loop-preserved : goal.loop-preserved
loop-preserved c =
    let piece = c.in_ok-piece.piece in
    let inv = c.loop.invariant in
    let item = region_at c.args.bytes.now c.args.arena in
    let e : c.push.new.self ≡ c.loop.pieces ++ piece ∷ [] = c.in_ok-push.ensures.ok in
    let long : c.len-length.result ≡ length piece.bytes = c.len-length.ensures in
    let full : 0 < length piece.bytes = c.in_ok-piece.ensures.some in
    let read : item c.loop.pieces c.loop.offset ≡ Ok piece =
    rw (← inv.floor_is, ← inv.total_is) c.in_ok-piece.ensures.exact in
    let sum = total_of-push piece_range c.loop.pieces piece in
    rw (e, long) (record {
      reads = goes_on item region_width c.args.count c.loop.counter c.loop.pieces c.loop.offset piece
          (items_at c.args.count item region_width [] 24) c.loop-test.true read inv.reads;
      floor_is = sym (end_of-push piece_range 0 c.loop.pieces piece);
      total_is = omega arith;
      small = c.in_ok-piece.ensures.sum;
      place = omega arith;
      ascend = Ascends-push piece_range 0 c.loop.pieces piece inv.ascend
          (rw (← inv.floor_is) c.in_ok-piece.ensures.above) (omega arith);
      below = All-push (λ (x : Piece). (piece_range x).high ≤ 0xFFFF_0000) c.loop.pieces piece inv.below
          c.in_ok-piece.ensures.end;
      count_is = omega (arith, length-append c.loop.pieces (piece ∷ []));
      kept = All-push (λ (x : Piece). IsTrue (keeps_region c.args.arena x)) c.loop.pieces piece inv.kept
          c.in_ok-piece.ensures.kept;
    })

pub returns-clause-exact : goal.returns-clause-exact
returns-clause-exact c =
    let item = region_at c.args.bytes.now c.args.arena in
    is_done item region_width c.args.count c.loop.counter c.loop.pieces c.loop.offset
    (items_at c.args.count item region_width [] 24) c.loop-test.false c.loop.invariant.reads
