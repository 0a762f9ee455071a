-- What lasts of the machine stays when bytes are written past code.
use Rattle.std.proofs.Common.{◌≡◌, ℕ, ◌+◌, ◌-◌, ◌≤◌, ◌<◌, Bool, true, false, not, cond, List, [], ◌∷◌, map, length}
use Rattle.std.proofs.Common.{get_or, Option, Some, None, refl, sym, ◌∙◌, ap, arith, subst, ◌⊎◌, inl, inr}
use Rattle.std.specs.Option.{option_map}
use Rattle.std.specs.List.{All, filter}
use Rattle.std.proofs.lemmas.List.Elements.{All-head, All-tail, All-filter}
use Rattle.image_memory.specs.declared.types.Kind.{Kind}
use Rattle.image_memory.specs.declared.types.Kind.TheVariants.{Code}
use Rattle.image_memory.specs.declared.types.Piece.{Piece}
use Rattle.image_memory.specs.Contents.{Contents, IsValid, piece_range, holding}
use Rattle.image_memory.specs.Access.{kind_of, unwritable, first_fault, write_fault, overlaid_piece, written}
use Rattle.image_memory.specs.laws.AccessLaws.{good_at, overlaid_outside}
use Rattle.image_memory.specs.laws.RangeLaws.{within, found_here}
use Rattle.splice_jump.specs.Jump.{jump_bytes}
use Rattle.splice_jump.specs.Jumps.{with_row, jumped}
use Rattle.splice_jump.specs.laws.CodeLaws.{only_code}
use Rattle.ia32_step.specs.declared.types.Thread.{Thread}
use Rattle.update_memory.specs.Withdrawn.{is_based_at}
use Rattle.update_stack.specs.AbstractMachine.{AbstractMachine, Update, bodies_in, is_text}
use Rattle.update_stack.specs.StandsFor.{patched}
use Rattle.update_stack.specs.Undo.{withdrawn}
use Rattle.update_stack.specs.TakenBack.{lasting}
use Rattle.update_stack.proofs.BuiltLaws.{wrote}

-- bytes that are written past code
abbrev pub KeepsText : (start : ℕ) → List ℕ → List Piece → Type 0
KeepsText start bytes pieces = All (λ piece. is_text piece ≡ true → overlaid_piece start bytes piece ≡ piece) pieces

inside_or_out : (start count a : ℕ) → ((start ≤ a) × (a < start + count)) ⊎ ((a < start) ⊎ (start + count ≤ a))
inside_or_out start count a = grind arith

-- what can be written lies in no code
pub clear_keeps : (contents : Contents) (start : ℕ) (bytes : List ℕ) → IsValid contents
    → first_fault (write_fault contents.pieces) start (length bytes) ≡ None → KeepsText start bytes contents.pieces
clear_keeps contents start bytes valid clear i d l is =
    let piece = get_or contents.pieces i d in
    ap (λ (bs : List ℕ). let p : Piece = record piece { bytes = bs } in p)
    (overlaid_outside start bytes piece.base piece.bytes (λ j m. outside j m))
  where
    barred : (a : ℕ) → holding contents.pieces a ≡ Some (get_or contents.pieces i d)
        → write_fault contents.pieces a ≡ None → ⊥
    barred a here none =
        let kind : (get_or contents.pieces i d).kind ≡ Code = only_code (get_or contents.pieces i d).kind is in
        let fault : unwritable (Some (get_or contents.pieces i d).kind) ≡ None =
        subst (λ (o : Option Piece). unwritable (option_map kind_of o) ≡ None) here none in
        let code : unwritable (Some Code) ≡ None = subst (λ (k : Kind). unwritable (Some k) ≡ None) kind fault in
        cc

    outside : (j : ℕ) → j < length (get_or contents.pieces i d).bytes
        → ((get_or contents.pieces i d).base + j < start)
        ⊎ (start + length bytes ≤ (get_or contents.pieces i d).base + j)
    outside j m =
        let piece = get_or contents.pieces i d in
        let a = piece.base + j in
        elim (inside_or_out start (length bytes) a) [
          | inl among ↦
              let low = among.0 in
              let high = among.1 in
              let same : start + (a - start) ≡ a = omega arith in
              absurd (barred a
              (found_here piece_range 0 contents.pieces a i d valid.placed.ascend l
              (within a (piece_range piece) (omega arith) (omega arith)))
              (subst (λ (b : ℕ). write_fault contents.pieces b ≡ None) same
              (good_at (write_fault contents.pieces) start (length bytes) (a - start) clear (omega arith))))
          | inr out ↦ out
        ]

-- the text of a machine stays when bytes are written past code
text_stays : (start : ℕ) (bytes : List ℕ) (pieces : List Piece) → KeepsText start bytes pieces
    → filter is_text (written start bytes pieces) ≡ filter is_text pieces
text_stays start bytes [] keeps = refl
text_stays start bytes (piece ∷ pieces) keeps =
    let P : Piece → Type 0 = λ p. is_text p ≡ true → overlaid_piece start bytes p ≡ p in
    by_kind (is_text piece) (All-head P piece pieces keeps)
    (text_stays start bytes pieces (All-tail P piece pieces keeps))
  where
    by_kind : (b : Bool) → (b ≡ true → overlaid_piece start bytes piece ≡ piece)
        → filter is_text (written start bytes pieces) ≡ filter is_text pieces
        → cond b (overlaid_piece start bytes piece ∷ filter is_text (written start bytes pieces))
        (filter is_text (written start bytes pieces))
        ≡ cond b (piece ∷ filter is_text pieces) (filter is_text pieces)
    by_kind true same rest =
        ap (λ (p : Piece). p ∷ filter is_text (written start bytes pieces)) (same refl)
        ∙ ap (λ (ps : List Piece). piece ∷ ps) rest
    by_kind false same rest = rest

abbrev base_of_piece : Piece → ℕ
base_of_piece piece = piece.base

abbrev is_data : Piece → Bool
is_data piece = not (is_text piece)

bases_stay : (start : ℕ) (bytes : List ℕ) (pieces : List Piece)
    → map base_of_piece (filter is_data (written start bytes pieces)) ≡ map base_of_piece (filter is_data pieces)
bases_stay start bytes [] = refl
bases_stay start bytes (piece ∷ pieces) = by_kind (is_text piece) (bases_stay start bytes pieces)
  where
    by_kind : (b : Bool)
        → map base_of_piece (filter is_data (written start bytes pieces)) ≡ map base_of_piece (filter is_data pieces)
        → map base_of_piece (cond (not b)
        (overlaid_piece start bytes piece ∷ filter is_data (written start bytes pieces))
        (filter is_data (written start bytes pieces)))
        ≡ map base_of_piece (cond (not b) (piece ∷ filter is_data pieces) (filter is_data pieces))
    by_kind true rest = rest
    by_kind false rest = ap (λ (bases : List ℕ). piece.base ∷ bases) rest

-- the text of pieces that bytes were written in, and of those with jumps
pub text_of_written : (start : ℕ) (bytes : List ℕ) (pieces : List Piece)
    → filter is_text (written start bytes pieces) ≡ written start bytes (filter is_text pieces)
text_of_written start bytes [] = refl
text_of_written start bytes (piece ∷ pieces) = by_kind (is_text piece) (text_of_written start bytes pieces)
  where
    by_kind : (b : Bool) → filter is_text (written start bytes pieces) ≡ written start bytes (filter is_text pieces)
        → cond b (overlaid_piece start bytes piece ∷ filter is_text (written start bytes pieces))
        (filter is_text (written start bytes pieces))
        ≡ written start bytes (cond b (piece ∷ filter is_text pieces) (filter is_text pieces))
    by_kind true rest = ap (λ (ps : List Piece). overlaid_piece start bytes piece ∷ ps) rest
    by_kind false rest = rest

text_of_jumped : (rows : List (ℕ × ℕ)) (pieces : List Piece)
    → filter is_text (jumped rows pieces) ≡ jumped rows (filter is_text pieces)
unfolding jumped
text_of_jumped [] pieces = refl
text_of_jumped (row ∷ rows) pieces =
    text_of_jumped rows (with_row pieces row)
    ∙ ap (jumped rows) (text_of_written row.0 (jump_bytes row.0 row.1) pieces)

-- The code is the text with the jumps, so it stays where text and table do.
code_stays : (rows : List (ℕ × ℕ)) (start : ℕ) (bytes : List ℕ) (pieces : List Piece) → KeepsText start bytes pieces
    → filter is_text (jumped rows (written start bytes pieces)) ≡ filter is_text (jumped rows pieces)
code_stays rows start bytes pieces keeps =
    text_of_jumped rows (written start bytes pieces) ∙ ap (jumped rows) (text_stays start bytes pieces keeps)
    ∙ sym (text_of_jumped rows pieces)

-- so all stays that lasts
pub lasting_wrote : (k : AbstractMachine) (start : ℕ) (bytes : List ℕ) (threads : List Thread)
    → KeepsText start bytes k.pieces
    → lasting (wrote start bytes threads k) ≡ lasting k
unfolding lasting patched
lasting_wrote k start bytes threads keeps = λ i. record {
  text = text_stays start bytes k.pieces keeps i;
  code = code_stays (bodies_in k.table) start bytes k.pieces keeps i;
  table = k.table;
  retired = k.retired;
  symbols = k.symbols;
  data_bases = bases_stay start bytes k.pieces i;
}

-- what is written past code is written past what is left of it
pub withdrawn_keeps : (k : AbstractMachine) (update : Update) (start : ℕ) (bytes : List ℕ)
    → KeepsText start bytes k.pieces → KeepsText start bytes (withdrawn k update).pieces
unfolding withdrawn
withdrawn_keeps k update start bytes keeps =
    All-filter (λ piece. not (is_based_at update.pieces piece))
    (λ piece. is_text piece ≡ true → overlaid_piece start bytes piece ≡ piece) k.pieces keeps
