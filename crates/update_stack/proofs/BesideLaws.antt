-- Data are written beside code: what is kept of updates is what it was.
use Rattle.std.proofs.Common.{not, ◌≡◌, ℕ, zero, suc, ◌+◌, ◌-◌, ◌<◌, ◌≤◌, Bool, true, false, cond, List, [], ◌∷◌, map}
use Rattle.std.proofs.Common.{length}
use Rattle.std.proofs.Common.{Option, Some, None, refl, sym, ◌∙◌, ap, subst, arith, ◌⊎◌, inl, inr}
use Rattle.std.specs.Option.{option_map, unwrap_or}
use Rattle.std.specs.List.{All, fold, filter}
use Rattle.std.specs.List.Sorted.{IsPermutation}
use Rattle.std.proofs.lemmas.List.{length-drop}
use Rattle.std.proofs.lemmas.List.Elements.{All-head, All-tail}
use Rattle.ks_base.specs.declared.places.Range.{Range}
use Rattle.image_memory.specs.declared.types.Kind.TheVariants.{Code}
use Rattle.image_memory.specs.declared.types.Piece.{Piece}
use Rattle.image_memory.specs.Ranges.{lies_in}
use Rattle.image_memory.specs.Contents.{Contents, IsValid, piece_range, holding, byte_in}
use Rattle.image_memory.specs.Access.{kind_of, unwritable, write_fault, first_fault, byte_at, bytes_at}
use Rattle.image_memory.specs.Access.{overlaid, overlaid_piece, written}
use Rattle.image_memory.specs.Fetch.{HasCode}
use Rattle.image_memory.specs.laws.RangeLaws.{found as found_at}
use Rattle.image_memory.specs.laws.AccessLaws.{good_at, length-overlaid, new_outside}
use Rattle.ia32_step.specs.declared.types.Thread.{Thread}
use Rattle.link_post.specs.Places.{unless_empty, without}
use Rattle.splice_jump.specs.Jump.{five_at}
use Rattle.splice_jump.specs.Jumps.{jumped, unjumped, olds_at, AreSpliced}
use Rattle.splice_jump.specs.laws.CodeLaws.{IsHeld, code_at, code_kind}
use Rattle.splice_jump.specs.laws.WriteLaws.{Misses, byte_after, piece_after, jumps_of, jumped_as, jumped-is, unjumped-is}
use Rattle.splice_jump.specs.laws.WriteLaws.{holding-after, byte_in_after, in_or_out}
use Rattle.update_memory.specs.Withdrawn.{is_based_at}
use Rattle.update_stack.specs.declared.updates.Kept.{Kept}
use Rattle.update_stack.specs.AbstractMachine.{AbstractMachine, Row, Update, bodies_in, contents_of, jump_rows}
use Rattle.update_stack.specs.Apply.{gaps_of}
use Rattle.update_stack.specs.Undo.{withdrawn, is_code_of}
use Rattle.update_stack.specs.Scratch.{pieces_but, unscratched}
use Rattle.update_stack.specs.Stacked.{IsBuilt, AreKept, NoneKept, OneKept}
use Rattle.update_stack.specs.laws.StackedLaws.{built_newest}
use Rattle.update_stack.proofs.TableLaws.{spliced_new}
use Rattle.update_stack.proofs.BuiltLaws.{wrote, withdrawn_wrote}
use Rattle.update_stack.proofs.KeptLaws.{CodeWasThere, withdrawn_pieces}

-- none of so many bytes from an address on is code
abbrev pub AvoidsCode : (start count : ℕ) → List Piece → Type 0
AvoidsCode start count pieces = (a : ℕ) → start ≤ a → a < start + count → HasCode pieces a 1 → ⊥

pub none_avoids : (pieces : List Piece) → AvoidsCode 0 0 pieces
none_avoids pieces a low high code = omega arith

held_code : (pieces : List Piece) (a : ℕ) → IsHeld pieces a 1 → HasCode pieces a 1
held_code pieces a here =
    let low = here.low in
    let room = here.room in
    rw (here.found, here.code) (simp length-drop (omega arith))

-- bytes that can be written as data aren't code
pub clear_avoids : (contents : Contents) (start count : ℕ) → IsValid contents
    → first_fault (write_fault contents.pieces) start count ≡ None → AvoidsCode start count contents.pieces
clear_avoids contents start count valid clear a low high code =
    let here : start + (a - start) ≡ a = omega arith in
    let good : write_fault contents.pieces (start + (a - start)) ≡ None =
    good_at (write_fault contents.pieces) start count (a - start) clear (omega arith) in
    let none : write_fault contents.pieces a ≡ None = rw here at good in
    let is : unwritable (option_map kind_of (holding contents.pieces a)) ≡ unwritable (Some Code) =
    ap unwritable (code_kind contents a 1 a valid code (omega arith) (omega arith)) in
    cc

first_byte : (w : ℕ × List ℕ) (ws : List (ℕ × List ℕ)) (a b : ℕ) → Misses a w
    → byte_after (w ∷ ws) a b ≡ byte_after ws a b
unfolding byte_after
first_byte w ws a b misses = ap (byte_after ws a) (new_outside w.0 w.1 a b misses)

-- a byte that isn't written, whatever is written after that
same_byte : (w : ℕ × List ℕ) (ws : List (ℕ × List ℕ)) (ps : List Piece) (a : ℕ) → Misses a w
    → byte_at (map (piece_after (w ∷ ws)) ps) a ≡ byte_at (map (piece_after ws) ps) a
same_byte w ws ps a misses =
    rw (holding-after (w ∷ ws) ps a, holding-after ws ps a) (each (holding ps a) refl)
  where
    each : (o : Option Piece) → holding ps a ≡ o
        → unwrap_or (option_map (byte_in a) (option_map (piece_after (w ∷ ws)) o)) 0
        ≡ unwrap_or (option_map (byte_in a) (option_map (piece_after ws) o)) 0
    each None is = refl
    each (Some p) is =
        let here = (found_at (λ piece. lies_in a (piece_range piece)) ps p is).passes in
        byte_in_after (w ∷ ws) p a here ∙ first_byte w ws a (byte_in a p) misses ∙ sym (byte_in_after ws p a here)

written_first : (start : ℕ) (bytes : List ℕ) (rows : List (ℕ × ℕ)) (pieces : List Piece)
    → jumped rows (written start bytes pieces) ≡ map (piece_after ((start, bytes) ∷ jumps_of rows)) pieces
unfolding unjumped
written_first start bytes rows pieces =
    jumped_as rows (written start bytes pieces) ∙ unjumped-is ((start, bytes) ∷ jumps_of rows) pieces

bytes_same : (ps qs : List Piece) (a n : ℕ) → ((k : ℕ) → a ≤ k → k < a + n → byte_at ps k ≡ byte_at qs k)
    → bytes_at ps a n ≡ bytes_at qs a n
unfolding bytes_at
bytes_same ps qs a zero same = refl
bytes_same ps qs a (suc n) same =
    ap (λ (b : ℕ). b ∷ bytes_at ps (a + 1) n) (same a (omega arith) (omega arith))
    ∙ ap (λ (bs : List ℕ). byte_at qs a ∷ bs)
    (bytes_same ps qs (a + 1) n (λ k low high. same k (omega arith) (omega arith)))

pub five_stays : (contents : Contents) (start : ℕ) (bytes : List ℕ) (rows : List (ℕ × ℕ)) (home : ℕ) → IsValid contents
    → AvoidsCode start (length bytes) contents.pieces → HasCode contents.pieces home 5
    → five_at (jumped rows (written start bytes contents.pieces)) home ≡ five_at (jumped rows contents.pieces) home
five_stays contents start bytes rows home valid avoids code =
    ap (λ (ps : List Piece). five_at ps home) (written_first start bytes rows contents.pieces)
    ∙ bytes_same (map (piece_after ((start, bytes) ∷ jumps_of rows)) contents.pieces)
    (map (piece_after (jumps_of rows)) contents.pieces) home 5
    (λ a low high. same_byte (start, bytes) (jumps_of rows) contents.pieces a (misses a low high))
    ∙ ap (λ (ps : List Piece). five_at ps home) (sym (jumped-is rows contents.pieces))
  where
    misses : (a : ℕ) → home ≤ a → a < home + 5 → (a < start) ⊎ (start + length bytes ≤ a)
    misses a low high = elim (in_or_out start (start + length bytes) a) [
      | inr out ↦ out
      | inl among ↦
          absurd (avoids a among.0 among.1
          (held_code contents.pieces a (code_at contents home 5 a valid code low high)))
    ]

abbrev CodeAt : List Piece → ℕ × ℕ → Type 0
CodeAt pieces row = HasCode pieces row.0 5

-- so old bytes at homes stay, with the jumps
pub olds_stay : (contents : Contents) (start : ℕ) (bytes : List ℕ) (rows homes : List (ℕ × ℕ)) → IsValid contents
    → AvoidsCode start (length bytes) contents.pieces → All (CodeAt contents.pieces) homes
    → olds_at (jumped rows contents.pieces) homes ≡ olds_at (jumped rows (written start bytes contents.pieces)) homes
olds_stay contents start bytes rows [] valid avoids code = refl
olds_stay contents start bytes rows (row ∷ homes) valid avoids code =
    let before = jumped rows contents.pieces in
    ap (λ (old : List ℕ). let first : ℕ × List ℕ = (row.0, old) in first ∷ olds_at before homes)
    (sym (five_stays contents start bytes rows row.0 valid avoids (All-head (CodeAt contents.pieces) row homes code)))
    ∙ ap (λ (olds : List (ℕ × List ℕ)). let first : ℕ × List ℕ =
    (row.0, five_at (jumped rows (written start bytes contents.pieces)) row.0) in first ∷ olds)
    (olds_stay contents start bytes rows homes valid avoids (All-tail (CodeAt contents.pieces) row homes code))

-- ranges stay
pub ranges_stay : (start : ℕ) (bytes : List ℕ) (pieces : List Piece)
    → map piece_range (written start bytes pieces) ≡ map piece_range pieces
ranges_stay start bytes [] = refl
ranges_stay start bytes (p ∷ ps) =
    ap (λ (n : ℕ). let r : Range = record { low = p.base; high = p.base + n } in
    r ∷ map piece_range (written start bytes ps)) (length-overlaid start bytes p.base p.bytes)
    ∙ ap (λ (rs : List Range). piece_range p ∷ rs) (ranges_stay start bytes ps)

-- and so do those of the pieces that pass a test in which their bytes don't matter
passed_stay : (p : Piece → Bool) (start : ℕ) (bytes : List ℕ)
    → ((piece : Piece) → p (overlaid_piece start bytes piece) ≡ p piece) → (pieces : List Piece)
    → filter p (written start bytes pieces) ≡ written start bytes (filter p pieces)
passed_stay p start bytes same [] = refl
passed_stay p start bytes same (x ∷ xs) =
    ap (λ (b : Bool). cond b (overlaid_piece start bytes x ∷ filter p (written start bytes xs))
    (filter p (written start bytes xs))) (same x)
    ∙ by_test (p x) (passed_stay p start bytes same xs)
  where
    by_test : (b : Bool) → filter p (written start bytes xs) ≡ written start bytes (filter p xs)
        → cond b (overlaid_piece start bytes x ∷ filter p (written start bytes xs)) (filter p (written start bytes xs))
        ≡ written start bytes (cond b (x ∷ filter p xs) (filter p xs))
    by_test true rest = ap (λ (ps : List Piece). overlaid_piece start bytes x ∷ ps) rest
    by_test false rest = rest

passed_ranges : (p : Piece → Bool) (start : ℕ) (bytes : List ℕ)
    → ((piece : Piece) → p (overlaid_piece start bytes piece) ≡ p piece) → (pieces : List Piece)
    → map piece_range (filter p (written start bytes pieces)) ≡ map piece_range (filter p pieces)
passed_ranges p start bytes same pieces =
    ap (map piece_range) (passed_stay p start bytes same pieces) ∙ ranges_stay start bytes (filter p pieces)

-- no byte is written
none_overlaid : (a : ℕ) (bytes : List ℕ) → overlaid 0 [] a bytes ≡ bytes
unfolding overlaid
none_overlaid a [] = refl
none_overlaid a (b ∷ bs) =
    ap (λ (c : ℕ). c ∷ overlaid 0 [] (a + 1) bs) (new_outside 0 [] a b (inr (omega arith)))
    ∙ ap (λ (cs : List ℕ). b ∷ cs) (none_overlaid (a + 1) bs)

pub written_nothing : (pieces : List Piece) → written 0 [] pieces ≡ pieces
written_nothing [] = refl
written_nothing (p ∷ ps) =
    ap (λ (bs : List ℕ). let q : Piece = record p { bytes = bs } in q ∷ written 0 [] ps) (none_overlaid p.base p.bytes)
    ∙ ap (λ (qs : List Piece). p ∷ qs) (written_nothing ps)

table_wrote : (k : AbstractMachine) (update : Update) (start : ℕ) (bytes : List ℕ) (threads : List Thread)
    → (withdrawn (wrote start bytes threads k) update).table ≡ (withdrawn k update).table
unfolding withdrawn
table_wrote k update start bytes threads = refl

free_wrote : (k : AbstractMachine) (start : ℕ) (bytes : List ℕ) (threads : List Thread)
    → gaps_of (unscratched k) ≡ gaps_of (unscratched (wrote start bytes threads k))
free_wrote k start bytes threads = ap (fold without (unless_empty k.arena)) (sym (by_scratch k.scratch))
  where
    by_scratch : (o : Option Range)
        → map piece_range (pieces_but o (written start bytes k.pieces)) ≡ map piece_range (pieces_but o k.pieces)
    by_scratch None = ranges_stay start bytes k.pieces
    by_scratch (Some range) =
        passed_ranges (λ (piece : Piece). not (is_based_at (range.low ∷ []) piece)) start bytes (λ piece. refl) k.pieces

pub kept_write : CodeWasThere → (k : AbstractMachine) (kept : List Kept) (start : ℕ)
    (bytes : List ℕ) (threads : List Thread) → AvoidsCode start (length bytes) k.pieces → IsBuilt k
    → AreKept k kept → AreKept (wrote start bytes threads k) kept
kept_write there k kept start bytes threads avoids built (NoneKept _ _ none nothing free) =
    NoneKept (wrote start bytes threads k) kept none nothing (sym (free_wrote k start bytes threads) ∙ free)
kept_write there k kept start bytes threads avoids built
    (OneKept _ update earlier _ one newest ends is before) =
    let has = built_newest k update built newest in
    let below = withdrawn k update in
    let later : AreSpliced (contents_of k) (jump_rows update.report.replaced) =
    spliced_new (contents_of k) below.table update.report.replaced has.top.once
    (subst (λ (t : List Row). AreSpliced (contents_of k) (bodies_in t)) has.top.table has.sound.jumps.spliced) in
    let rest : AreKept (wrote start bytes threads below) earlier =
    kept_write there below earlier start bytes threads
    (λ a low high code. avoids a low high (there (contents_of k) update.pieces a 1 has.sound.jumps.valid
    (subst (λ (ps : List Piece). HasCode ps a 1) (withdrawn_pieces k update) code)))
    has.below before in
    OneKept (wrote start bytes threads k) update earlier kept one newest ends
    (record {
      rows = is.rows;
      olds =
          is.olds
          ∙ olds_stay (contents_of k) start bytes (bodies_in below.table) (jump_rows update.report.replaced)
          has.sound.jumps.valid avoids (λ i d l. (later.each i d l).code)
          ∙ ap (λ (t : List Row). olds_at (jumped (bodies_in t) (written start bytes k.pieces))
          (jump_rows update.report.replaced)) (sym (table_wrote k update start bytes threads));
      ranges =
          subst (IsPermutation one.ranges)
          (sym (passed_ranges (is_based_at update.pieces) start bytes (λ piece. refl) k.pieces)) is.ranges;
      code_ranges =
          subst (IsPermutation one.code_ranges)
          (sym (passed_ranges (is_code_of update) start bytes (λ piece. refl) k.pieces)) is.code_ranges;
      order = is.order;
      code_order = is.code_order;
      count = is.count;
    })
    (subst (λ (m : AbstractMachine). AreKept m earlier) (sym (withdrawn_wrote k update start bytes threads))
    rest)
