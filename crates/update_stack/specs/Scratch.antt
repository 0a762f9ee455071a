-- A piece of data that is there for a while only: a stack for functions that run on none of the program's threads.
use Rattle.std.specs.Prelude.{◌≡◌, ◌≢◌, ℕ, ◌+◌, ◌==◌, Bool, false, IsTrue, List, [], ◌∷◌, IfSome, Option, Some, None}
use Rattle.std.specs.Prelude.{Result, Ok, Err}
use Rattle.std.specs.List.{All, list_any}
use Rattle.ks_base.specs.declared.places.Range.{Range}
use Rattle.ks_base.specs.declared.refusals.Refusal.{Refusal}
use Rattle.ks_base.specs.declared.refusals.Refusal.TheVariants.{NoRoom}
use Rattle.image_memory.specs.declared.types.Piece.{Piece}
use Rattle.image_memory.specs.Ranges.{from_to}
use Rattle.image_memory.specs.Changes.{with_piece}
use Rattle.link_post.specs.declared.types.SectionSize.{SectionSize}
use Rattle.link_post.specs.Places.{lowest}
use Rattle.ia32_step.specs.Step.{Left}
use Rattle.image_file.specs.Fields.{◌>>=◌}
use Rattle.image_threads.specs.Spawning.{is_stack}
use Rattle.update_memory.specs.Withdrawn.{without_pieces}
use Rattle.update_stack.specs.AbstractMachine.{AbstractMachine, Update, stack_piece}
use Rattle.update_stack.specs.Apply.{gaps_of}

-- its range, if there is one
abbrev pub scratch_ranges : Option Range → List Range
scratch_ranges None = []
scratch_ranges (Some range) = range ∷ []

-- the machine without its scratch piece
abbrev pub pieces_but : Option Range → List Piece → List Piece
pieces_but None pieces = pieces
pieces_but (Some range) pieces = without_pieces (range.low ∷ []) pieces

abbrev pub unscratched : AbstractMachine → AbstractMachine
unscratched k = record k { pieces = pieces_but k.scratch k.pieces; scratch = None }

-- the scratch piece is a writable piece and none of the stacks
pub record IsScratch (pieces : List Piece) (stacks : List Range) (range : Range) : Type 0 where
  pub piece : IsTrue (is_stack pieces range)
  pub apart : All (λ (stack : Range). stack.low ≢ range.low) stacks

abbrev pub HasScratch : AbstractMachine → Type 0
HasScratch k = IfSome k.scratch (IsScratch k.pieces k.stacks)

-- and no update's
abbrev pub is_among : List ℕ → ℕ → Bool
is_among bases base = list_any (λ other. other == base) bases

abbrev pub LeavesScratch : AbstractMachine → Update → Type 0
LeavesScratch k update = IfSome k.scratch (λ range. is_among update.pieces range.low ≡ false)

-- how many bytes it has, and what is needed to place it: it begins at a multiple of 16, as new sections do
abbrev pub scratch_size : ℕ
scratch_size = 4096

abbrev pub scratch_section : SectionSize
scratch_section = record { name = []; size = scratch_size; align = 16 }

-- the machine with a scratch piece of a range, all zeros
abbrev pub with_scratch : AbstractMachine → Range → AbstractMachine
with_scratch k range = record k { pieces = with_piece (stack_piece range) k.pieces; scratch = Some range }

-- its range at the lowest place in free ranges, or that it fits nowhere
abbrev pub scratch_at : Option ℕ → Result Range Refusal
scratch_at None = Err (NoRoom scratch_size)
scratch_at (Some base) = Ok (from_to base (base + scratch_size))

abbrev pub scratch_place : List Range → Result Range Refusal
scratch_place free = scratch_at (lowest scratch_section free)

-- The machine with a scratch piece at the lowest place that is free, and where that begins; or that the arena has no
-- place for it.
unfoldable pub scratched : AbstractMachine → Result (AbstractMachine × ℕ) Refusal
scratched k = do
  range ← scratch_place (gaps_of k)
  Ok (with_scratch k range, range.low)

-- the machine after a step of a thread that is none of its own
abbrev pub after_aside : AbstractMachine → Left → AbstractMachine
after_aside k left = record k { pieces = left.contents.pieces }
