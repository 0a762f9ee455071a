-- What each step keeps.
use Rattle.std.proofs.Common.{◌≡◌, ℕ, ◌+◌, ◌==◌, Bool, true, false, if◌then◌else◌, List, [], ◌∷◌, map}
use Rattle.std.proofs.Common.{Option, Some, None, Result, Ok, Err, refl, ap, ◌∙◌}
use Rattle.ks_base.specs.declared.places.Range.{Range}
use Rattle.ks_base.specs.declared.refusals.Fault.{Fault}
use Rattle.image_memory.specs.declared.types.Kind.{Kind}
use Rattle.image_memory.specs.declared.types.Piece.{Piece}
use Rattle.image_memory.specs.Contents.{Contents, shape_of}
use Rattle.image_memory.specs.Access.{overlaid_piece, written}
use Rattle.image_memory.specs.laws.AccessLaws.{length-overlaid}
use Rattle.ia32_step.specs.declared.types.Store.{Store}
use Rattle.ia32_step.specs.declared.types.Thread.{Thread}
use Rattle.ia32_step.specs.declared.types.Change.{Change}
use Rattle.ia32_step.specs.Step.{Left, store_fault, after_store, unless_barred, done, next_change, exits}
use Rattle.ia32_step.specs.Step.{stepped}

same_shape : (start : ℕ) (bytes : List ℕ) (piece : Piece) → shape_of (overlaid_piece start bytes piece) ≡ shape_of piece
same_shape start bytes piece =
    ap (λ (n : ℕ). (piece.kind, record { low = piece.base; high = piece.base + n }))
    (length-overlaid start bytes piece.base piece.bytes)

same_shapes : (start : ℕ) (bytes : List ℕ) (pieces : List Piece)
    → map shape_of (written start bytes pieces) ≡ map shape_of pieces
same_shapes start bytes [] = refl
same_shapes start bytes (piece ∷ pieces) =
    ap (λ (s : Kind × Range). s ∷ map shape_of (written start bytes pieces)) (same_shape start bytes piece)
    ∙ ap (λ (rest : List (Kind × Range)). shape_of piece ∷ rest) (same_shapes start bytes pieces)

-- what a step keeps
pub record Keeps (contents : Contents) (thread : Thread) (left : Left) : Type 0 where
  pub number : left.thread.number ≡ thread.number
  pub stack : left.thread.stack ≡ thread.stack
  pub fences : left.contents.fences ≡ contents.fences
  pub shapes : map shape_of left.contents.pieces ≡ map shape_of contents.pieces

stored : (contents : Contents) (store : Option Store)
    → map shape_of (after_store contents store).pieces ≡ map shape_of contents.pieces
stored contents None = refl
stored contents (Some store) = same_shapes _ _ contents.pieces

fenced : (contents : Contents) (store : Option Store) → (after_store contents store).fences ≡ contents.fences
fenced contents None = refl
fenced contents (Some store) = refl

barred : (fault : Option Fault) (contents : Contents) (thread : Thread) (change : Change)
    → Keeps contents thread (unless_barred fault contents thread change)
barred (Some fault) contents thread change = record { number = refl; stack = refl; fences = refl; shapes = refl }
barred None contents thread change =
    record { number = refl; stack = refl; fences = fenced contents change.store; shapes = stored contents change.store }

after : (contents : Contents) (thread : Thread) (change : Result Change Fault)
    → Keeps contents thread (done contents thread change)
after contents thread (Err fault) = record { number = refl; stack = refl; fences = refl; shapes = refl }
after contents thread (Ok change) = barred (store_fault contents change.store) contents thread change

either : (ends : Bool) (contents : Contents) (thread : Thread)
    → Keeps contents thread (if ends then exits contents thread else done contents thread (next_change contents thread))
either true contents thread = record { number = refl; stack = refl; fences = refl; shapes = refl }
either false contents thread = after contents thread (next_change contents thread)

pub keeps : (contents : Contents) (thread : Thread) → Keeps contents thread (stepped contents thread)
unfolding stepped
keeps contents thread = either (thread.pc == 0xFFFF_0000) contents thread
