-- A system to which a scratch piece comes: it holds with it.
use Rattle.std.proofs.Common.{◌≡◌, ℕ, List, [], ◌∷◌, map, length, None, refl, sym, ◌∙◌, ap, subst}
use Rattle.std.specs.List.{All}
use Rattle.std.proofs.lemmas.List.Elements.{All-weaker}
use Rattle.ks_base.specs.declared.places.Range.{Range}
use Rattle.image_memory.specs.declared.types.Piece.{Piece}
use Rattle.image_memory.specs.Ranges.{MeetsNone}
use Rattle.image_memory.specs.Contents.{Contents, IsValid, piece_range, fence_range}
use Rattle.image_memory.specs.Changes.{IsPlaceable, with_piece}
use Rattle.image_memory.specs.Fetch.{HasCode}
use Rattle.image_threads.specs.Program.{Program}
use Rattle.splice_jump.specs.Jumps.{jumped, jumped_memory}
use Rattle.update_memory.specs.Added.{with_pieces}
use Rattle.update_stack.specs.declared.updates.Arena.{Arena}
use Rattle.update_stack.specs.declared.updates.Update.{Update as Shown}
use Rattle.update_stack.specs.declared.updates.Kept.{Kept}
use Rattle.update_stack.specs.AbstractMachine.{AbstractMachine, bodies_in, contents_of, stack_piece}
use Rattle.update_stack.specs.Scratch.{with_scratch}
use Rattle.update_stack.specs.StandsFor.{Seen, seen, seen_of, patched}
use Rattle.update_stack.specs.Stacked.{IsBuilt, AreKept}
use Rattle.update_stack.specs.Systems.{text_of, machine_of, HasJumpCode, Holds}
use Rattle.update_stack.specs.inside.Scratching.{HoldsWith, scratched_arena}
use Rattle.update_stack.specs.laws.StackedLaws.{built_sound}
use Rattle.update_stack.proofs.TextLaws.{HasOldCode}
use Rattle.update_stack.proofs.BuiltLaws.{machine_is, pieces_made}
use Rattle.update_stack.proofs.UndoLaws.{PlacesStay, code_jumped, kept_code}
use Rattle.update_stack.proofs.AcceptedLaws.{PiecesKept}
use Rattle.update_stack.proofs.AddScratchLaws.{are_placeable, addable, added, built_with, kept_with}
use Rattle.update_stack.proofs.CarryLaws.{Laws, memory_is, meets_by_ranges, text_added, with_text}

-- what meets no piece of the machine meets none of the program's
pub program_clear : PlacesStay → (program : Program) (arena : Arena) (updates : List Shown) (kept : List Kept)
    → Holds program arena updates kept → (range : Range)
    → MeetsNone piece_range range (machine_of program arena updates kept).pieces
    → MeetsNone piece_range range program.contents.pieces
unfolding patched
program_clear places program arena updates kept holds range clear =
    let k = machine_of program arena updates kept in
    let rows = bodies_in k.table in
    subst (λ (s : Seen). MeetsNone piece_range range s.contents.pieces) (sym holds.stands)
    (meets_by_ranges range (jumped rows k.pieces) k.pieces (places rows k.pieces) clear)

module _ (laws : Laws) (stay : PiecesKept) (before : Program) (arena : Arena) (updates : List Shown) (kept : List Kept)
    (holds : Holds before arena updates kept) (bare : arena.scratch ≡ None) (range : Range)
    (placeable : IsPlaceable range) (clear : MeetsNone piece_range range before.contents.pieces) where
  abbrev k : AbstractMachine
  k = machine_of before arena updates kept

  abbrev rows : List (ℕ × ℕ)
  rows = bodies_in k.table

  abbrev pieces : List Piece
  pieces = stack_piece range ∷ []

  valid_text : IsValid (contents_of k)
  valid_text = (built_sound k holds.built).jumps.valid

  memory : before.contents ≡ jumped_memory rows (contents_of k)
  unfolding patched
  memory = ap (λ (s : Seen). s.contents) holds.stands

  valid_before : IsValid before.contents
  valid_before = subst IsValid (sym memory) (laws.valid (contents_of k) rows valid_text)

  clear_text : MeetsNone piece_range range k.pieces
  clear_text =
      meets_by_ranges range k.pieces (jumped rows k.pieces) (sym (laws.places rows k.pieces))
      (subst (λ (c : Contents). MeetsNone piece_range range c.pieces) memory clear)

  text_now : text_of kept (with_pieces before.contents pieces).pieces ≡ with_piece (stack_piece range) k.pieces
  text_now =
      text_added laws.past_olds laws.stays before.contents pieces kept valid_before
      (are_placeable laws.memory stay laws.bytes range placeable)
      (addable laws.memory stay laws.bytes range placeable before.contents clear) holds.code
      ∙ pieces_made (with_text before.contents (text_of kept before.contents.pieces)) pieces

  memory_after : with_pieces before.contents pieces ≡ patched (with_scratch k range)
  unfolding patched
  memory_after =
      memory_is (with_pieces before.contents pieces) (patched (with_scratch k range))
      (ap (λ (c : Contents). (with_pieces c pieces).pieces) memory
      ∙ laws.past_jumps (contents_of k) pieces rows valid_text
      (are_placeable laws.memory stay laws.bytes range placeable)
      (addable laws.memory stay laws.bytes range placeable (contents_of k) clear_text)
      (built_sound k holds.built).jumps.spliced
      ∙ ap (jumped rows) (added laws.memory stay laws.bytes range placeable (contents_of k)))
      (laws.memory.pieces_fences before.contents pieces ∙ ap (λ (c : Contents). c.fences) memory)

  module _ (after : Program)
      (is : seen after ≡ record (seen before) { contents = with_pieces before.contents pieces }) where
    abbrev now : AbstractMachine
    now = machine_of after (scratched_arena arena range) updates kept

    same : now ≡ with_scratch k range
    same =
        machine_is now (with_scratch k range)
        (ap (λ (s : Seen). text_of kept s.contents.pieces) is ∙ text_now)
        refl
        (ap (λ (s : Seen). map fence_range s.contents.fences) is
        ∙ ap (map fence_range) (laws.memory.pieces_fences before.contents pieces))
        (ap (λ (s : Seen). s.symbols) is)
        (ap (λ (s : Seen). s.stacks) is)
        refl refl
        (ap (λ (s : Seen). s.threads) is)
        refl

    stands : seen after ≡ seen_of now
    stands =
        is
        ∙ ap (λ (c : Contents). let s : Seen = record (seen before) { contents = c } in s) memory_after
        ∙ ap seen_of (sym same)

    built_now : IsBuilt now
    built_now =
        subst IsBuilt (sym same) (built_with laws.memory stay laws.bytes range placeable k holds.built clear_text)

    kept_now : AreKept now kept
    kept_now =
        subst (λ (m : AbstractMachine). AreKept m kept) (sym same)
        (kept_with laws.memory stay laws.bytes range placeable k kept holds.built clear_text bare holds.are_kept)

    code_now : HasOldCode kept after.contents.pieces
    unfolding patched
    code_now =
        All-weaker (λ (o : Kept). All (HasJumpCode now.pieces) o.jumps)
        (λ (o : Kept). All (HasJumpCode after.contents.pieces) o.jumps)
        (λ o all. All-weaker (HasJumpCode now.pieces) (HasJumpCode after.contents.pieces)
        (λ jump there. subst (λ (s : Seen). HasCode s.contents.pieces jump.home (length jump.old)) (sym stands)
        (code_jumped laws.stays (bodies_in now.table) now.pieces jump.home (length jump.old) there))
        o.jumps all) kept
        (kept_code laws.was_there now kept built_now kept_now)

    pub holds_with : HoldsWith before after arena updates kept range
    holds_with = record {
      holds = record {
        stands = stands;
        opened = tt;
        built = built_now;
        are_kept = kept_now;
        code = code_now;
        paired = holds.paired;
      };
      same = same;
    }
