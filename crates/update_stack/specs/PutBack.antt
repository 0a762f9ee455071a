-- Data of the machine that are put back as they were saved.
use Rattle.std.specs.Prelude.{List}
use Rattle.image_memory.specs.declared.types.Piece.{Piece}
use Rattle.saved_data.specs.Saved.{put_back}
use Rattle.update_stack.specs.AbstractMachine.{AbstractMachine, contents_of}

-- the machine with the bytes of saved pieces where these lie
abbrev pub with_saved : AbstractMachine → List Piece → AbstractMachine
with_saved k saved = record k { pieces = (put_back (contents_of k) saved).pieces }
