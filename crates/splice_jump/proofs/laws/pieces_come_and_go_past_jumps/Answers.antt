use Rattle.splice_jump.proofs.ChangeLaws.{piece_added, piece_dropped}
use Rattle.splice_jump.proofs.laws.pieces_come_and_go_past_jumps.Goals as goal

pub returns-clause-added : goal.returns-clause-added
returns-clause-added c contents rows piece valid spliced apart = piece_added contents rows piece valid spliced apart

pub returns-clause-dropped : goal.returns-clause-dropped
returns-clause-dropped c rows base pieces = piece_dropped rows base pieces
