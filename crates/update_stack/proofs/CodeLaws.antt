-- Threads leave code as it was: the machine's text, and the code of the memory with the jumps.
use Rattle.std.proofs.Common.{◌≡◌, ℕ, ◌==◌, Bool, true, false, if◌then◌else◌, List, [], ◌∷◌, Option, Some, None}
use Rattle.std.proofs.Common.{Result, IsTrue, refl, sym, ap, ◌∙◌, subst}
use Rattle.std.specs.Option.{option_map}
use Rattle.std.specs.List.{slice_get}
use Rattle.std.proofs.lemmas.Option.{slice_get-map}
use Rattle.ks_base.specs.declared.refusals.Fault.{Fault}
use Rattle.image_memory.specs.declared.types.Piece.{Piece}
use Rattle.image_memory.specs.Contents.{Contents, ArePlaced}
use Rattle.image_memory.specs.Access.{overlaid_piece, written}
use Rattle.image_memory.specs.Fetch.{View, Unmapped, AtHome, Stray, Bytes, is_code}
use Rattle.ia32_decode.specs.Decode.{decoded_from}
use Rattle.ia32_step.specs.declared.types.Thread.{Thread}
use Rattle.ia32_step.specs.Step.{context_of, exits, done, change_by}
use Rattle.ia32_step.specs.Code.{KeepsCode}
use Rattle.image_threads.specs.Program.{running_at}
use Rattle.splice_jump.specs.Jump.{jump_bytes}
use Rattle.splice_jump.specs.Jumps.{with_row, jumped}
use Rattle.update_stack.specs.AbstractMachine.{AbstractMachine, bodies_in, contents_of, view_in, base_of}
use Rattle.update_stack.specs.Steps.{step_at, step_in, moved_by, moved}
use Rattle.update_stack.specs.StandsFor.{patched}
use Rattle.update_stack.specs.Events.{Step, step_answered, answered, machine_after, after_event}
use Rattle.update_stack.proofs.LastingLaws.{text_of_written}

-- code that is the same among two lists of pieces is the same with bytes written in both
module _ (start : ℕ) (bytes : List ℕ) where
  abbrev over : Piece → Piece
  over piece = overlaid_piece start bytes piece

  each_kept : (before after : List Piece) → KeepsCode before after → (i : ℕ) (piece : Piece) (o : Option Piece)
      → slice_get before i ≡ o → option_map over o ≡ Some piece → IsTrue (is_code piece.kind)
      → slice_get (written start bytes after) i ≡ Some piece
  each_kept before after keeps i piece None at is code = cc
  each_kept before after keeps i piece (Some old) at is code =
      let same : over old ≡ piece = cc in
      let there : slice_get after i ≡ Some old =
      keeps.each i old at (subst (λ (p : Piece). IsTrue (is_code p.kind)) (sym same) code) in
      slice_get-map over after i ∙ ap (option_map over) there ∙ ap Some same

  pub written_kept : (before after : List Piece) → KeepsCode before after
      → KeepsCode (written start bytes before) (written start bytes after)
  written_kept before after keeps = record {
    each = λ i piece at code. each_kept before after keeps i piece (slice_get before i) refl
        (sym (slice_get-map over before i) ∙ at) code;
    whole =
        text_of_written start bytes after ∙ ap (written start bytes) keeps.whole
        ∙ sym (text_of_written start bytes before);
  }

-- and with jumps in both
jumped_kept : (rows : List (ℕ × ℕ)) (before after : List Piece) → KeepsCode before after
    → KeepsCode (jumped rows before) (jumped rows after)
unfolding jumped
jumped_kept [] before after keeps = keeps
jumped_kept (row ∷ rows) before after keeps =
    jumped_kept rows (with_row before row) (with_row after row)
    (written_kept row.0 (jump_bytes row.0 row.1) before after keeps)

-- the law of instructions that is used here
abbrev pub InstructionsKeepCode : Type 0
InstructionsKeepCode = (contents : Contents) (thread : Thread) (change : Result _ Fault)
    → ArePlaced contents.pieces → KeepsCode contents.pieces (done contents thread change).contents.pieces

module _ (law : InstructionsKeepCode) (k : AbstractMachine) (placed : ArePlaced k.pieces) where
  nothing : KeepsCode k.pieces k.pieces
  nothing = record { each = λ i piece there code. there; whole = refl }

  by_view : (thread : Thread) (base : ℕ) (met : View)
      → KeepsCode k.pieces (step_at (contents_of k) thread base met).contents.pieces
  by_view thread base Unmapped = nothing
  by_view thread base AtHome = nothing
  by_view thread base Stray = nothing
  by_view thread base (Bytes code) =
      law (contents_of k) thread (change_by k.pieces (context_of thread) (decoded_from code)) placed

  by_end : (thread : Thread) (base : ℕ) (met : View) (ends : Bool)
      → KeepsCode k.pieces
      (if ends then exits (contents_of k) thread else step_at (contents_of k) thread base met).contents.pieces
  by_end thread base met true = nothing
  by_end thread base met false = by_view thread base met

  step_kept : (thread : Thread) → KeepsCode k.pieces (step_in k thread).contents.pieces
  unfolding step_in
  step_kept thread = by_end thread (base_of k thread.pc) (view_in k thread.pc) (thread.pc == 0xFFFF_0000)

  pub text_kept : (number : ℕ) → KeepsCode k.pieces (after_event k (Step number)).pieces
  unfolding after_event answered moved
  text_kept number = by_thread (running_at k.threads number)
    where
      by_thread : (o : Option Thread)
          → KeepsCode k.pieces (machine_after k (step_answered (moved_by k number o))).pieces
      by_thread None = nothing
      by_thread (Some thread) = step_kept thread

  pub code_kept : (number : ℕ) → KeepsCode (patched k).pieces (patched (after_event k (Step number))).pieces
  unfolding after_event answered moved patched
  code_kept number = by_thread (running_at k.threads number)
    where
      by_thread : (o : Option Thread)
          → KeepsCode (patched k).pieces (patched (machine_after k (step_answered (moved_by k number o)))).pieces
      by_thread None = jumped_kept (bodies_in k.table) k.pieces k.pieces nothing
      by_thread (Some thread) =
          jumped_kept (bodies_in k.table) k.pieces (step_in k thread).contents.pieces (step_kept thread)
