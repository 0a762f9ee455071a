-- The piece of a base is the last one that begins at or below it.
use Rattle.std.proofs.Common.{◌≡◌, ◌==◌, ◌∙◌, suc, get_or, arith, ap}
use Rattle.std.proofs.lemmas.List.{get_or_default}
use Rattle.std.proofs.lemmas.Bool.Decides.{nat_tests}
use Rattle.image_memory.specs.Contents.{piece_range}
use Rattle.image_memory.specs.declared.types.Piece.{Piece}
use Rattle.image_memory.specs.laws.ChangeLaws.{place_of, taken_out}
use Rattle.image_memory.proofs.flat.FlatSpace.place_of_piece.Goals as goal

begins : (c : goal.After-begun) (d : Piece) → (get_or c.args.self.now.pieces.items c.requires.0 d).base ≡ c.args.base
begins c d =
    ap (λ (p : Piece). p.base) (get_or_default c.args.self.now.pieces.items c.requires.0 d c.requires.1 c.requires.2
    ∙ c.requires.3) ∙ c.requires.4

place : (c : goal.After-begun) → c.begun.result ≡ suc c.requires.0
place c =
    let pieces = c.args.self.now.pieces in
    let e = c.begun.ensures in
    let same = c.from.ensures in
    place_of piece_range 0 pieces.items c.args.base c.requires.0 c.begun.result c.args.self.now.ascend c.requires.2
    (begins c) (omega (arith, pieces.ok.0))
    (λ k d m. let h = e.below k d (omega arith) m in omega arith)
    (λ k d m o. let h = e.above k d m (omega (arith, pieces.ok.0)) in omega arith)

pub overflow_sub-result : goal.overflow_sub-result
overflow_sub-result c = let p = place c in omega arith

pub returns : goal.returns
returns c =
    let pieces = c.args.self.now.pieces in
    let p = place c in
    let l = c.requires.2 in
    record {
      within = omega (arith, pieces.ok.0);
      taken = taken_out piece_range (λ piece. piece.base == c.args.base) 0 pieces.items c.args.base c.requires.0
          c.begun.result
          c.args.self.now.ascend c.requires.2 (begins c)
          (λ d. let e = begins c d in grind (arith, nat_tests))
          (λ piece apart. grind (arith, nat_tests)) p;
    }
