-- A system as its program shows it: its stacks, and where its threads stand.
use Rattle.std.proofs.Common.{◌≡◌, ℕ, ◌-◌, Bool, false, ◌&&◌, ◌||◌, IsTrue, List, [], ◌∷◌, map, length}
use Rattle.std.proofs.Common.{get_or, Some, None}
use Rattle.std.proofs.Common.{refl, sym, ◌∙◌, ap, subst, arith}
use Rattle.std.specs.List.{last_or, slice_get}
use Rattle.ks_base.specs.declared.places.Range.{Range}
use Rattle.image_memory.specs.declared.types.Kind.{Kind}
use Rattle.image_memory.specs.declared.types.Piece.{Piece}
use Rattle.image_memory.specs.Ranges.{are_same}
use Rattle.image_memory.specs.Contents.{piece_range}
use Rattle.image_memory.specs.Access.{kind_of}
use Rattle.image_threads.specs.Program.{Program, WellPlaced}
use Rattle.image_threads.specs.Spawning.{is_writable, is_stack, AreStacks}
use Rattle.splice_jump.specs.Jumps.{jumped}
use Rattle.stack_scan.specs.Standing.{thread_refusal}
use Rattle.update_stack.specs.declared.updates.Arena.{Arena}
use Rattle.update_stack.specs.declared.updates.Update.{Update as Shown}
use Rattle.update_stack.specs.declared.updates.Kept.{Kept}
use Rattle.update_stack.specs.AbstractMachine.{AbstractMachine, bodies_in, contents_of}
use Rattle.update_stack.specs.StandsFor.{Seen, patched}
use Rattle.update_stack.specs.Systems.{machine_of, Holds}
use Rattle.update_stack.specs.laws.StackedLaws.{built_sound}
use Rattle.update_stack.proofs.FreshLaws.{all_have_stacks}
use Rattle.update_stack.proofs.ThreadLaws.{DataStay, threads_stay}

-- stacks are pieces by their kinds and ranges
abbrev stack_among : List Kind → List Range → Range → Bool
stack_among [] ranges stack = false
stack_among (kind ∷ kinds) [] stack = false
stack_among (kind ∷ kinds) (range ∷ ranges) stack =
    (is_writable kind && are_same range stack) || stack_among kinds ranges stack

stack_read : (pieces : List Piece) (stack : Range)
    → is_stack pieces stack ≡ stack_among (map kind_of pieces) (map piece_range pieces) stack
stack_read [] stack = refl
stack_read (piece ∷ pieces) stack =
    ap (λ (b : Bool). (is_writable piece.kind && are_same (piece_range piece) stack) || b) (stack_read pieces stack)

pub same_stacks : (a b : List Piece) (stacks : List Range) → map kind_of a ≡ map kind_of b
    → map piece_range a ≡ map piece_range b → AreStacks b stacks → AreStacks a stacks
same_stacks a b stacks kinds ranges are i d l =
    subst (λ (is : Bool). IsTrue is)
    (stack_read b (get_or stacks i d)
    ∙ ap (λ (ks : List Kind). stack_among ks (map piece_range b) (get_or stacks i d)) (sym kinds)
    ∙ ap (λ (rs : List Range). stack_among (map kind_of a) rs (get_or stacks i d)) (sym ranges)
    ∙ sym (stack_read a (get_or stacks i d)))
    (are i d l)

-- the laws of other crates that are used here
abbrev pub KindsStay : Type 0
KindsStay = (rows : List (ℕ × ℕ)) (pieces : List Piece) → map kind_of (jumped rows pieces) ≡ map kind_of pieces

abbrev pub PlacesStay : Type 0
PlacesStay = (rows : List (ℕ × ℕ)) (pieces : List Piece)
    → map piece_range (jumped rows pieces) ≡ map piece_range pieces

module _ (program : Program) (arena : Arena) (updates : List Shown) (kept : List Kept)
    (holds : Holds program arena updates kept) where
  abbrev k : AbstractMachine
  k = machine_of program arena updates kept

  pub program_data : KindsStay → PlacesStay → (ranges : List Range) → AreStacks k.pieces ranges
      → AreStacks program.contents.pieces ranges
  unfolding patched
  program_data kinds places ranges are =
      let rows = bodies_in k.table in
      subst (λ (s : Seen). AreStacks s.contents.pieces ranges) (sym holds.stands)
      (same_stacks (jumped rows k.pieces) k.pieces ranges (kinds rows k.pieces) (places rows k.pieces) are)

  pub program_stacks : KindsStay → PlacesStay → AreStacks program.contents.pieces program.stacks
  program_stacks kinds places = program_data kinds places program.stacks (built_sound k holds.built).stacks

  pub refusal_seen : DataStay → (ranges : List Range) → WellPlaced program.stacks program.threads
      → thread_refusal program.contents.pieces ranges program.threads ≡ thread_refusal k.pieces ranges k.threads
  unfolding patched
  refusal_seen data_stay ranges placed =
      let sound = built_sound k holds.built in
      ap (λ (s : Seen). thread_refusal s.contents.pieces ranges program.threads) holds.stands
      ∙ threads_stay data_stay (contents_of k) (bodies_in k.table) sound.jumps.valid sound.jumps.spliced ranges
      program.threads (all_have_stacks k.pieces program.stacks program.threads sound.stacks placed)

-- the last item is that before the length
last_get : {X : Type 0} (x : X) (xs : List X) → slice_get (x ∷ xs) (length xs) ≡ last_or (Some x) xs
last_get x [] = refl
last_get x (y ∷ ys) = last_get y ys

pub last_is : {X : Type 0} (xs : List X) → slice_get xs (length xs - 1) ≡ last_or None xs
last_is [] = refl
last_is (x ∷ xs) =
    let short : length (x ∷ xs) - 1 ≡ length xs = omega arith in
    ap (slice_get (x ∷ xs)) short ∙ last_get x xs
