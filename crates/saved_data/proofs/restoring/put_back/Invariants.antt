-- What was written so far, and what is left to be written still lies in data.
use Rattle.std.proofs.Common.{◌≡◌, drop}
use Rattle.std.specs.List.{fold}
use Rattle.saved_data.specs.Saved.{CanBePutBack, with_bytes}
use Rattle.saved_data.proofs.restoring.put_back.Given as goal

abbrev pub invariant-loop-piece : goal.invariant-loop-piece
invariant-loop-piece g l = record {
  pieces : fold with_bytes (g.S.Space.contents l.space).pieces (drop l.piece-index l.saved)
      ≡ fold with_bytes (g.S.Space.contents l.initial.space).pieces l.saved;
  fences : (g.S.Space.contents l.space).fences ≡ (g.S.Space.contents l.initial.space).fences;
  room : g.S.Space.room l.space ≡ g.S.Space.room l.initial.space;
  lie : CanBePutBack (g.S.Space.contents l.space).pieces (drop l.piece-index l.saved);
}
