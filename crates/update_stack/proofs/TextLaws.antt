-- Data are written past old code that is put back: the machine's text stays as it was, and its data are the memory's.
use Rattle.std.proofs.Common.{◌≡◌, ℕ, zero, suc, ◌+◌, ◌<◌, true, false, cond, List, [], ◌∷◌, length}
use Rattle.std.proofs.Common.{get_or, Option, Some, None, refl, sym, ap, ◌∙◌}
use Rattle.std.specs.Option.{option_map}
use Rattle.std.specs.List.{All, list_any}
use Rattle.std.proofs.lemmas.List.{length-map, get_or-map}
use Rattle.std.proofs.lemmas.List.Elements.{All-head, All-tail, All-weaker, All-map}
use Rattle.ks_base.specs.declared.places.Range.{Range}
use Rattle.ks_base.specs.declared.refusals.Fault.{Fault}
use Rattle.image_memory.specs.declared.types.Piece.{Piece}
use Rattle.image_memory.specs.declared.types.Fence.{Fence}
use Rattle.image_memory.specs.Ranges.{lies_in, meets, MeetsNone}
use Rattle.image_memory.specs.Contents.{Contents, IsValid, ArePlaced, piece_range, holding}
use Rattle.image_memory.specs.Access.{kind_of, unwritable, first_fault, write_fault, overlaid_piece, written}
use Rattle.image_memory.specs.Fetch.{HasCode}
use Rattle.image_memory.specs.laws.AccessLaws.{length-overlaid, Ascends-written}
use Rattle.splice_jump.specs.Jump.{with_old}
use Rattle.splice_jump.specs.Jumps.{with_old_row, unjumped}
use Rattle.update_memory.specs.declared.types.Jump.{Jump}
use Rattle.update_memory.specs.Rows.{old_of, olds_of}
use Rattle.update_plan.specs.Sound.{AreGaps}
use Rattle.update_stack.specs.declared.updates.Kept.{Kept}
use Rattle.update_stack.specs.Systems.{text_of, HasJumpCode}

-- the laws of other crates that are used here
abbrev pub PastOldCode : Type 0
PastOldCode = (contents : Contents) (home start : ℕ) (old bytes : List ℕ) → IsValid contents
    → HasCode contents.pieces home (length old)
    → first_fault (write_fault contents.pieces) start (length bytes) ≡ None
    → with_old home old (written start bytes contents.pieces) ≡ written start bytes (with_old home old contents.pieces)

abbrev pub CodeStays : Type 0
CodeStays = (pieces : List Piece) (start : ℕ) (bytes : List ℕ) (address count : ℕ) → HasCode pieces address count
    → HasCode (written start bytes pieces) address count

-- so many bytes from an address on can be written as data
abbrev pub IsClear : (start count : ℕ) → List Piece → Type 0
IsClear start count pieces = first_fault (write_fault pieces) start count ≡ None

-- the code over which old bytes are put back
abbrev pub HasOldCode : List Kept → List Piece → Type 0
HasOldCode kept pieces = All (λ one. All (HasJumpCode pieces) one.jumps) kept

-- what a write leaves: the kind of the piece at each address, and all ranges
kind_stays : (start : ℕ) (bytes : List ℕ) (pieces : List Piece) (a : ℕ)
    → option_map kind_of (holding (written start bytes pieces) a) ≡ option_map kind_of (holding pieces a)
kind_stays start bytes [] a = refl
kind_stays start bytes (p ∷ ps) a =
    rw (length-overlaid start bytes p.base p.bytes) (elim (lies_in a (piece_range p))
    as (λ b. option_map kind_of (cond b (Some (overlaid_piece start bytes p)) (holding (written start bytes ps) a))
    ≡ option_map kind_of (cond b (Some p) (holding ps a))) [
      | true ↦ refl
      | false ↦ kind_stays start bytes ps a
    ])

same_faults : (f g : ℕ → Option Fault) (a n : ℕ) → ((k : ℕ) → f k ≡ g k) → first_fault f a n ≡ first_fault g a n
unfolding first_fault
same_faults f g a zero same = refl
same_faults f g a (suc n) same = rw (same_faults f g a n same, same (a + n)) refl

-- the first fault of a write is the same after another
fault_stays : (first count start : ℕ) (bytes : List ℕ) (pieces : List Piece)
    → first_fault (write_fault (written start bytes pieces)) first count ≡ first_fault (write_fault pieces) first count
fault_stays first count start bytes pieces =
    same_faults (write_fault (written start bytes pieces)) (write_fault pieces) first count
    (λ k. ap unwritable (kind_stays start bytes pieces k))

pub placed_stays : (start : ℕ) (bytes : List ℕ) (pieces : List Piece) → ArePlaced pieces
    → ArePlaced (written start bytes pieces)
placed_stays start bytes pieces placed = record {
  ascend = Ascends-written start bytes 0 pieces placed.ascend;
  end_below = λ k d l.
      let m : k < length pieces = rw length-map at l in
      let p = get_or pieces k d in
      rw (get_or-map (overlaid_piece start bytes) pieces k d d m, length-overlaid start bytes p.base p.bytes)
      (placed.end_below k d m);
}

meets_same : (own : Range) (start : ℕ) (bytes : List ℕ) (pieces : List Piece)
    → list_any (λ piece. meets own (piece_range piece)) (written start bytes pieces)
    ≡ list_any (λ piece. meets own (piece_range piece)) pieces
meets_same own start bytes [] = refl
meets_same own start bytes (p ∷ ps) =
    rw (length-overlaid start bytes p.base p.bytes, meets_same own start bytes ps) refl

-- gaps stay gaps
pub gaps_stay : (contents : Contents) (start : ℕ) (bytes : List ℕ) (gaps : List Range) → AreGaps contents gaps
    → AreGaps (record contents { pieces = written start bytes contents.pieces }) gaps
gaps_stay contents start bytes gaps are = record {
  ascend = are.ascend;
  low = are.low;
  free = All-weaker (λ (gap : Range). MeetsNone piece_range gap contents.pieces)
      (λ (gap : Range). MeetsNone piece_range gap (written start bytes contents.pieces))
      (λ gap none. meets_same gap start bytes contents.pieces ∙ none) gaps are.free;
}

-- what each write keeps is kept where old code is put back
kept_by_olds : (P : List Piece → Type 0)
    → ((start : ℕ) (bytes : List ℕ) (pieces : List Piece) → P pieces → P (written start bytes pieces))
    → (olds : List (ℕ × List ℕ)) (pieces : List Piece) → P pieces → P (unjumped olds pieces)
unfolding unjumped
kept_by_olds P keeps [] pieces h = h
kept_by_olds P keeps (old ∷ olds) pieces h =
    kept_by_olds P keeps olds (with_old_row pieces old) (keeps old.0 old.1 pieces h)

pub kept_by_text : (P : List Piece → Type 0)
    → ((start : ℕ) (bytes : List ℕ) (pieces : List Piece) → P pieces → P (written start bytes pieces))
    → (kept : List Kept) (pieces : List Piece) → P pieces → P (text_of kept pieces)
kept_by_text P keeps [] pieces h = h
kept_by_text P keeps (one ∷ later) pieces h =
    kept_by_olds P keeps (olds_of one.jumps) (text_of later pieces) (kept_by_text P keeps later pieces h)

-- what can be written in memory can be written in it with old code put back, and the other way round
text_faults : (first count : ℕ) (kept : List Kept) (pieces : List Piece)
    → first_fault (write_fault (text_of kept pieces)) first count ≡ first_fault (write_fault pieces) first count
text_faults first count kept pieces =
    let P : List Piece → Type 0 =
    λ ps. first_fault (write_fault ps) first count ≡ first_fault (write_fault pieces) first count in
    kept_by_text P (λ start bytes ps same. fault_stays first count start bytes ps ∙ same) kept pieces refl

pub clear_text : (first count : ℕ) (kept : List Kept) (pieces : List Piece) → IsClear first count pieces
    → IsClear first count (text_of kept pieces)
clear_text first count kept pieces clear = text_faults first count kept pieces ∙ clear

pub clear_under : (first count : ℕ) (kept : List Kept) (pieces : List Piece)
    → IsClear first count (text_of kept pieces) → IsClear first count pieces
clear_under first count kept pieces clear = sym (text_faults first count kept pieces) ∙ clear

jump_code_stays : CodeStays → (jumps : List Jump) (start : ℕ) (bytes : List ℕ) (pieces : List Piece)
    → All (HasJumpCode pieces) jumps → All (HasJumpCode (written start bytes pieces)) jumps
jump_code_stays stays jumps start bytes pieces code =
    All-weaker (HasJumpCode pieces) (HasJumpCode (written start bytes pieces))
    (λ jump has. stays pieces start bytes jump.home (length jump.old) has) jumps code

pub old_code_stays : CodeStays → (kept : List Kept) (start : ℕ) (bytes : List ℕ) (pieces : List Piece)
    → HasOldCode kept pieces → HasOldCode kept (written start bytes pieces)
old_code_stays stays kept start bytes pieces code =
    All-weaker (λ (one : Kept). All (HasJumpCode pieces) one.jumps)
    (λ (one : Kept). All (HasJumpCode (written start bytes pieces)) one.jumps)
    (λ one all. jump_code_stays stays one.jumps start bytes pieces all) kept code

-- a write past old code that is put back at one home after another
abbrev HasCodeOf : List Piece → ℕ × List ℕ → Type 0
HasCodeOf pieces old = HasCode pieces old.0 (length old.1)

abbrev memory : List Fence → List Piece → Contents
memory fences pieces = record { pieces = pieces; fences = fences }

valid_stays : (fences : List Fence) (start : ℕ) (bytes : List ℕ) (pieces : List Piece) → IsValid (memory fences pieces)
    → IsValid (memory fences (written start bytes pieces))
valid_stays fences start bytes pieces valid =
    record { placed = placed_stays start bytes pieces valid.placed; fenced = valid.fenced }

past_olds : PastOldCode → CodeStays → (fences : List Fence) (start : ℕ) (bytes : List ℕ) (olds : List (ℕ × List ℕ))
    → (pieces : List Piece) → IsValid (memory fences pieces) → All (HasCodeOf pieces) olds
    → IsClear start (length bytes) pieces
    → unjumped olds (written start bytes pieces) ≡ written start bytes (unjumped olds pieces)
unfolding unjumped
past_olds past stays fences start bytes [] pieces valid code clear = refl
past_olds past stays fences start bytes (old ∷ olds) pieces valid code clear =
    let after = written old.0 old.1 pieces in
    ap (unjumped olds) (past (memory fences pieces) old.0 start old.1 bytes valid
    (All-head (HasCodeOf pieces) old olds code) clear)
    ∙ past_olds past stays fences start bytes olds after (valid_stays fences old.0 old.1 pieces valid)
    (All-weaker (HasCodeOf pieces) (HasCodeOf after)
    (λ other has. stays pieces old.0 old.1 other.0 (length other.1) has)
    olds (All-tail (HasCodeOf pieces) old olds code))
    (fault_stays start (length bytes) old.0 old.1 pieces ∙ clear)

-- and past that of each update
pub past_text : PastOldCode → CodeStays → (fences : List Fence) (start : ℕ) (bytes : List ℕ) (kept : List Kept)
    → (pieces : List Piece) → IsValid (memory fences pieces) → HasOldCode kept pieces
    → IsClear start (length bytes) pieces
    → text_of kept (written start bytes pieces) ≡ written start bytes (text_of kept pieces)
past_text past stays fences start bytes [] pieces valid code clear = refl
past_text past stays fences start bytes (one ∷ later) pieces valid code clear =
    let Each : Kept → Type 0 = λ each. All (HasJumpCode pieces) each.jumps in
    let text = text_of later pieces in
    ap (unjumped (olds_of one.jumps)) (past_text past stays fences start bytes later pieces valid
    (All-tail Each one later code) clear)
    ∙ past_olds past stays fences start bytes (olds_of one.jumps) text
    (kept_by_text (λ ps. IsValid (memory fences ps)) (valid_stays fences) later pieces valid)
    (All-map (HasCodeOf text) old_of one.jumps
    (kept_by_text (λ ps. All (HasJumpCode ps) one.jumps) (λ at more ps. jump_code_stays stays one.jumps at more ps)
    later pieces (All-head Each one later code)))
    (clear_text start (length bytes) later pieces clear)
