-- A system from which a scratch piece goes: it holds without it.
use Rattle.std.proofs.Common.{◌≡◌, ℕ, ◌&&◌, true, List, [], ◌∷◌, map, length, IfSome, Option, Some, None, refl, sym, ◌∙◌, ap}
use Rattle.std.proofs.Common.{subst}
use Rattle.std.specs.List.{All, Any}
use Rattle.std.proofs.lemmas.List.Elements.{All-nil, All-cons, All-head, All-weaker}
use Rattle.std.proofs.lemmas.List.Folds.{Any-from_list_any}
use Rattle.ks_base.specs.declared.places.Range.{Range}
use Rattle.image_memory.specs.declared.types.Piece.{Piece}
use Rattle.image_memory.specs.Ranges.{are_same}
use Rattle.image_memory.specs.Contents.{Contents, fence_range, piece_range}
use Rattle.image_memory.specs.Changes.{HasPiece}
use Rattle.image_memory.specs.Fetch.{HasCode}
use Rattle.image_threads.specs.Program.{Program}
use Rattle.image_threads.specs.Spawning.{is_writable, is_stack, AreStacks}
use Rattle.image_threads.specs.laws.StackLaws.{same_ends}
use Rattle.splice_jump.specs.Jumps.{jumped, unjumped, jumped_memory}
use Rattle.update_memory.specs.Rows.{olds_of}
use Rattle.update_memory.specs.Withdrawn.{without_pieces}
use Rattle.update_stack.specs.declared.updates.Arena.{Arena}
use Rattle.update_stack.specs.declared.updates.Update.{Update as Shown}
use Rattle.update_stack.specs.declared.updates.Kept.{Kept}
use Rattle.update_stack.specs.AbstractMachine.{AbstractMachine, bodies_in, contents_of}
use Rattle.update_stack.specs.Scratch.{IsScratch, pieces_but, unscratched}
use Rattle.update_stack.specs.StandsFor.{Seen, seen, seen_of, patched}
use Rattle.update_stack.specs.Stacked.{IsBuilt, AreKept}
use Rattle.update_stack.specs.Systems.{text_of, machine_of, HasJumpCode, Holds}
use Rattle.update_stack.specs.inside.Scratching.{HoldsWithout, bare_arena}
use Rattle.update_stack.proofs.TextLaws.{HasOldCode}
use Rattle.update_stack.specs.laws.StackedLaws.{built_sound}
use Rattle.update_stack.proofs.BuiltLaws.{machine_is}
use Rattle.update_stack.proofs.SeenLaws.{KindsStay, PlacesStay, program_data}
use Rattle.update_stack.proofs.KeptLaws.{CodeWasThere}
use Rattle.update_stack.proofs.LeftLaws.{MemoryStays}
use Rattle.update_stack.proofs.UndoLaws.{CodeStays, code_jumped, kept_code}
use Rattle.update_stack.proofs.DropScratchLaws.{BytesLeft, dropped, built_left, kept_left}
use Rattle.update_stack.proofs.CarryLaws.{memory_is}

-- it stands among the program's pieces
pub scratch_stands : KindsStay → PlacesStay → (program : Program) (arena : Arena) (updates : List Shown) (kept : List Kept)
    → Holds program arena updates kept → (range : Range) → arena.scratch ≡ Some range
    → HasPiece program.contents range.low
scratch_stands kinds places program arena updates kept holds range is =
    let k = machine_of program arena updates kept in
    let own : IsScratch k.pieces k.stacks range =
    subst (λ (o : Option Range). IfSome o (IsScratch k.pieces k.stacks)) is (built_sound k holds.built).scratch in
    let P : Range → Type 0 = λ r. is_stack k.pieces r ≡ true in
    let there : AreStacks k.pieces (range ∷ []) = All-cons P range [] own.piece (All-nil P) in
    let Q : Range → Type 0 = λ r. is_stack program.contents.pieces r ≡ true in
    read (Any-from_list_any (λ (p : Piece). is_writable p.kind && are_same (piece_range p) range) program.contents.pieces
    (All-head Q range [] (program_data program arena updates kept holds kinds places (range ∷ []) there)))
  where
    read : Any (λ (p : Piece). (is_writable p.kind && are_same (piece_range p) range) ≡ true) program.contents.pieces
        → HasPiece program.contents range.low
    read (j, p, less, at, passes) =
        (j, p, less, at, (same_ends (is_writable p.kind) p.base range.low (piece_range p).high range.high passes).1)

-- the laws of other crates that are used here
abbrev pub OldsDropped : Type 0
OldsDropped = (bases : List ℕ) (olds : List (ℕ × List ℕ)) (pieces : List Piece)
    → without_pieces bases (unjumped olds pieces) ≡ unjumped olds (without_pieces bases pieces)

abbrev pub JumpsDropped : Type 0
JumpsDropped = (bases : List ℕ) (rows : List (ℕ × ℕ)) (pieces : List Piece)
    → without_pieces bases (jumped rows pieces) ≡ jumped rows (without_pieces bases pieces)

pub record Laws : Type 0 where
  pub memory : MemoryStays
  pub bytes : BytesLeft
  pub past_olds : OldsDropped
  pub past_jumps : JumpsDropped
  pub stays : CodeStays
  pub was_there : CodeWasThere

text_dropped : OldsDropped → (bases : List ℕ) (kept : List Kept) (pieces : List Piece)
    → text_of kept (without_pieces bases pieces) ≡ without_pieces bases (text_of kept pieces)
text_dropped past bases [] pieces = refl
text_dropped past bases (one ∷ later) pieces =
    ap (unjumped (olds_of one.jumps)) (text_dropped past bases later pieces)
    ∙ sym (past bases (olds_of one.jumps) (text_of later pieces))

module _ (laws : Laws) (before : Program) (arena : Arena) (updates : List Shown) (kept : List Kept)
    (holds : Holds before arena updates kept) (range : Range) (is : arena.scratch ≡ Some range) (after : Program)
    (goes : seen after ≡ record (seen before) {
      contents = record before.contents { pieces = without_pieces (range.low ∷ []) before.contents.pieces };
    }) where
  abbrev k : AbstractMachine
  k = machine_of before arena updates kept

  abbrev rows : List (ℕ × ℕ)
  rows = bodies_in k.table

  abbrev bases : List ℕ
  bases = range.low ∷ []

  abbrev now : AbstractMachine
  now = machine_of after (bare_arena arena) updates kept

  memory : before.contents ≡ jumped_memory rows (contents_of k)
  unfolding patched
  memory = ap (λ (s : Seen). s.contents) holds.stands

  same : now ≡ dropped k range
  same =
      machine_is now (dropped k range)
      (ap (λ (s : Seen). text_of kept s.contents.pieces) goes
      ∙ text_dropped laws.past_olds bases kept before.contents.pieces)
      refl
      (ap (λ (s : Seen). map fence_range s.contents.fences) goes)
      (ap (λ (s : Seen). s.symbols) goes)
      (ap (λ (s : Seen). s.stacks) goes)
      refl refl
      (ap (λ (s : Seen). s.threads) goes)
      refl

  memory_after : after.contents ≡ patched (dropped k range)
  unfolding patched
  memory_after =
      memory_is after.contents (patched (dropped k range))
      (ap (λ (s : Seen). s.contents.pieces) goes
      ∙ ap (λ (c : Contents). without_pieces bases c.pieces) memory
      ∙ laws.past_jumps bases rows k.pieces)
      (ap (λ (s : Seen). s.contents.fences) goes ∙ ap (λ (c : Contents). c.fences) memory)

  stands : seen after ≡ seen_of now
  stands =
      goes
      ∙ ap (λ (c : Contents). let s : Seen = record (seen before) { contents = c } in s)
      (sym (ap (λ (s : Seen). s.contents) goes) ∙ memory_after)
      ∙ ap seen_of (sym same)

  built_now : IsBuilt now
  built_now = subst IsBuilt (sym same) (built_left laws.memory laws.bytes range k holds.built is)

  kept_now : AreKept now kept
  kept_now =
      subst (λ (m : AbstractMachine). AreKept m kept) (sym same)
      (kept_left laws.memory laws.bytes range k kept holds.built is holds.are_kept)

  code_now : HasOldCode kept after.contents.pieces
  unfolding patched
  code_now =
      All-weaker (λ (o : Kept). All (HasJumpCode now.pieces) o.jumps)
      (λ (o : Kept). All (HasJumpCode after.contents.pieces) o.jumps)
      (λ o all. All-weaker (HasJumpCode now.pieces) (HasJumpCode after.contents.pieces)
      (λ jump there. subst (λ (s : Seen). HasCode s.contents.pieces jump.home (length jump.old)) (sym stands)
      (code_jumped laws.stays (bodies_in now.table) now.pieces jump.home (length jump.old) there))
      o.jumps all) kept
      (kept_code laws.was_there now kept built_now kept_now)

  dropped_is : dropped k range ≡ unscratched k
  dropped_is =
      ap (λ (o : Option Range). let m : AbstractMachine = record k { pieces = pieces_but o k.pieces; scratch = None } in m)
      (sym is)

  pub holds_without : HoldsWithout before after arena updates kept
  holds_without = record {
    holds = record {
      stands = stands;
      opened = tt;
      built = built_now;
      are_kept = kept_now;
      code = code_now;
      paired = holds.paired;
    };
    same = same ∙ dropped_is;
  }
