use Rattle.std.proofs.Common.{◌≤◌, arith}
use Rattle.image_memory.specs.Contents.{piece_range}
use Rattle.image_memory.specs.laws.PutLaws.{Ascends-put, All-put}
use Rattle.image_memory.proofs.laws.pieces_stay_placed.Goals as goal

pub returns : goal.returns
returns c = λ piece pieces placed placeable apart. record {
  ascend = Ascends-put piece_range 0 piece pieces (omega arith) placeable.0 apart placed.ascend;
  end_below = All-put piece_range (λ p. (piece_range p).high ≤ 0xFFFF_0000) piece pieces placeable.1 placed.end_below;
}
