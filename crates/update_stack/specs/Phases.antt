-- A system whose newest update is still being written: in each phase of that it stands for the machine.
use Rattle.std.specs.Prelude.{◌≡◌, ℕ, List, [], ◌∷◌, map, IfSome, Option, Some, None}
use Rattle.ks_base.specs.declared.reports.Replaced.{Replaced}
use Rattle.image_memory.specs.declared.types.Piece.{Piece}
use Rattle.image_memory.specs.Contents.{Contents}
use Rattle.image_threads.specs.Program.{Program}
use Rattle.splice_jump.specs.declared.phase.Phase.{Phase}
use Rattle.splice_jump.specs.Jump.{five_at, after_old}
use Rattle.splice_jump.specs.Phases.{phase_bytes, open_home}
use Rattle.update_stack.specs.AbstractMachine.{AbstractMachine, Update, base_of}
use Rattle.update_stack.specs.Undo.{newest_update}
use Rattle.update_stack.specs.Stacked.{code_before}
use Rattle.update_stack.specs.StandsFor.{Seen, seen, seen_of, patched}

-- what a system is seen as: the machine, and the phase in which it stands for it
pub record Phased : Type 0 where
  pub machine : AbstractMachine
  pub phase : Phase

abbrev pub phased : AbstractMachine → Phase → Phased
phased machine phase = record { machine = machine; phase = phase }

-- code without the newest update: as it was before it, if there is one
abbrev pub code_below : AbstractMachine → Option Update → List Piece
code_below k None = k.pieces
code_below k (Some update) = code_before k update

-- the five bytes that stand at a home without the newest update
unfoldable pub old_five : AbstractMachine → ℕ → List ℕ
old_five k home = five_at (code_below k (newest_update k)) home

-- memory with the phase's five bytes at the home that is open
abbrev pub opened_at : Phase → AbstractMachine → Contents → Option ℕ → Contents
opened_at phase k contents None = contents
opened_at phase k contents (Some home) =
    after_old contents home (phase_bytes phase home (base_of k home) (old_five k home))

abbrev pub opened_in : Phase → AbstractMachine → Contents → Contents
opened_in phase k contents = opened_at phase k contents (open_home phase)

-- The memory that a system has for the machine in a phase: all its jumps, but at the home that is open the phase's five
-- bytes.
abbrev pub patched_in : Phase → AbstractMachine → Contents
patched_in phase k = opened_in phase k (patched k)

-- what is seen of a program that stands for the machine in a phase
abbrev pub seen_in : Phase → AbstractMachine → Seen
seen_in phase k = record (seen_of k) { contents = patched_in phase k }

-- A program stands for the machine in a phase where this is what is seen of it. Where no home is open it stands for it
-- as ever.
abbrev pub StandsIn : Phase → Program → AbstractMachine → Type 0
StandsIn phase program k = seen program ≡ seen_in phase k

abbrev pub home_replaced : Replaced → ℕ
home_replaced one = one.home

-- the newest update replaced one function and no other, which has this home
pub record ReplacedOne (k : AbstractMachine) (home : ℕ) : Type 0 where
  pub update : Update
  pub newest : newest_update k ≡ Some update
  pub only : map home_replaced update.report.replaced ≡ home ∷ []

-- a home that is open is that of the newest update
abbrev pub IsOpenAt : Phase → AbstractMachine → Type 0
IsOpenAt phase k = IfSome (open_home phase) (ReplacedOne k)

-- A phase that a system may be put into: the newest update replaced one function, and the phase names no other home.
pub record MayBecome (phase : Phase) (k : AbstractMachine) : Type 0 where
  pub home : ℕ
  pub replaced : ReplacedOne k home
  pub named : IfSome (open_home phase) (λ other. other ≡ home)
