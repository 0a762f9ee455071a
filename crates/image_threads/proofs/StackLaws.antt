-- What stays of stacks when bytes are written or pieces change, and what is known of a stack that is found.
use Rattle.std.proofs.Common.{◌≡◌, ℕ, ◌+◌, ◌≤◌, Bool, true, false, ◌&&◌}
use Rattle.std.proofs.Common.{◌||◌, cond, List, [], ◌∷◌, IsTrue, not, Contains}
use Rattle.std.proofs.Common.{IfSome, map, Option, Some, refl, sym, ◌∙◌, ap}
use Rattle.std.specs.List.{All, list_any}
use Rattle.std.proofs.lemmas.Option.{IfSome_then}
use Rattle.std.proofs.lemmas.List.Elements.{All-weaker, All-contains}
use Rattle.ks_base.specs.declared.places.Range.{Range}
use Rattle.image_memory.specs.declared.types.Kind.{Kind}
use Rattle.image_memory.specs.declared.types.Piece.{Piece}
use Rattle.image_memory.specs.Contents.{shape_of}
use Rattle.image_memory.specs.Access.{written}
use Rattle.image_memory.specs.laws.AccessLaws.{length-overlaid}
use Rattle.ia32_step.specs.declared.types.Thread.{Thread}
use Rattle.image_threads.specs.Program.{IsStackRange}
use Rattle.image_memory.specs.Ranges.{are_same}
use Rattle.image_threads.specs.Spawning.{is_writable, is_stack, AreStacks, is_taken, free_stack}

-- each stack has 32 bytes
pub all_tall : (stacks : List Range) → All IsStackRange stacks → All (λ stack. stack.low + 32 ≤ stack.high) stacks
all_tall stacks h =
    All-weaker IsStackRange (λ (stack : Range). stack.low + 32 ≤ stack.high) (λ stack bounds. bounds.tall) stacks h

same_stack : (start : ℕ) (bytes : List ℕ) (pieces : List Piece) (range : Range)
    → is_stack (written start bytes pieces) range ≡ is_stack pieces range
same_stack start bytes [] range = refl
same_stack start bytes (p ∷ ps) range =
    rw (length-overlaid start bytes p.base p.bytes, same_stack start bytes ps range) refl

-- what are stacks still are after bytes were written
pub stacks_after_write : (start : ℕ) (bytes : List ℕ) (pieces : List Piece) (ranges : List Range)
    → AreStacks pieces ranges → AreStacks (written start bytes pieces) ranges
stacks_after_write start bytes pieces ranges h =
    All-weaker (λ (range : Range). IsTrue (is_stack pieces range))
    (λ (range : Range). IsTrue (is_stack (written start bytes pieces) range))
    (λ range there. same_stack start bytes pieces range ∙ there) ranges h

abbrev has_shape : Range → Kind × Range → Bool
has_shape range s = is_writable s.0 && are_same s.1 range

by_shape : (pieces : List Piece) (range : Range) → is_stack pieces range ≡ list_any (has_shape range)
    (map shape_of pieces)
by_shape [] range = refl
by_shape (p ∷ ps) range = ap (λ (b : Bool). has_shape range (shape_of p) || b) (by_shape ps range)

-- what are stacks still are where each piece keeps its kind, its base and its length
pub stacks_by_shape : (pieces later : List Piece) (ranges : List Range) → map shape_of later ≡ map shape_of pieces
    → AreStacks pieces ranges → AreStacks later ranges
stacks_by_shape pieces later ranges same h =
    All-weaker (λ (range : Range). IsTrue (is_stack pieces range)) (λ (range : Range). IsTrue (is_stack later range))
    (λ range there. by_shape later range
    ∙ ap (list_any (has_shape range)) same ∙ sym (by_shape pieces range) ∙ there) ranges h

-- and no running thread has it
pub stack_free : (stacks : List Range) (threads : List Thread) (found : Option Range)
    → found ≡ free_stack stacks threads
    → IfSome found (λ stack. is_taken threads stack ≡ false)
stack_free stacks threads found e = rw e (all_free stacks)
  where
    all_free : (stacks : List Range) → IfSome (free_stack stacks threads) (λ stack. is_taken threads stack ≡ false)
    all_free [] = tt
    all_free (x ∷ xs) =
        elim (is_taken threads x) as (λ b. is_taken threads x ≡ b
        → IfSome (cond (not b) (Some x) (free_stack xs threads)) (λ stack. is_taken threads stack ≡ false)) [
          | true ↦ λ _. all_free xs
          | false ↦ λ free. free
        ] refl

pub stack_has : (P : Range → Type 0) (stacks : List Range) (found : Option Range)
    → IfSome found (Contains stacks) → All P stacks → IfSome found P
stack_has P stacks found there h =
    IfSome_then found {P = Contains stacks} {Q = P} there (λ stack listed. All-contains P stacks stack h listed)
