-- Why a step leaves code as it was, and why bytes of code don't matter to what an instruction does.
use Rattle.std.proofs.Common.{◌≡◌, ℕ, zero, suc, ◌+◌, ◌-◌, ◌≤◌, ◌<◌, Bool, true, false, cond, if◌then◌else◌, ◌==◌}
use Rattle.std.proofs.Common.{not, ◌⊎◌, inl, inr, List, [], ◌∷◌, length, get_or, map, replicate, Option, Some, None}
use Rattle.std.proofs.Common.{Result, Ok, Err, refl, sym, ap, ◌∙◌, arith}
use Rattle.std.proofs.Math.Path.{fun_ext}
use Rattle.std.specs.Option.{option_map, option_or, unwrap_or}
use Rattle.std.specs.List.{slice_get}
use Rattle.std.proofs.lemmas.Bool.Decides.{nat_tests}
use Rattle.std.proofs.lemmas.List.{length-replicate}
use Rattle.std.proofs.lemmas.Option.{slice_get-map}
use Rattle.ks_base.specs.declared.refusals.Fault.{Fault}
use Rattle.ia32_decode.specs.declared.types.Decoded.{Decoded}
use Rattle.ia32_alu.specs.declared.types.Width.{Width}
use Rattle.image_memory.specs.declared.types.Kind.{Kind}
use Rattle.image_memory.specs.declared.types.Kind.TheVariants.{Code, ReadOnly, Writable}
use Rattle.image_memory.specs.declared.types.Piece.{Piece}
use Rattle.image_memory.specs.Ranges.{lies_in, Ascends}
use Rattle.image_memory.specs.Contents.{Contents, ArePlaced, piece_range, holding, byte_in}
use Rattle.image_memory.specs.Fetch.{is_code}
use Rattle.image_memory.specs.Access.{kind_of, unreadable, unwritable, read_fault, write_fault, first_fault, byte_at}
use Rattle.image_memory.specs.Access.{bytes_at, new_byte, overlaid, overlaid_piece, written}
use Rattle.image_memory.specs.laws.AccessLaws.{length-overlaid, new_outside}
use Rattle.ia32_step.specs.declared.types.Context.{Context}
use Rattle.ia32_step.specs.declared.types.Store.{Store}
use Rattle.ia32_step.specs.declared.types.Thread.{Thread}
use Rattle.ia32_step.specs.declared.types.Change.{Change}
use Rattle.ia32_alu.specs.Widths.{byte_count}
use Rattle.ia32_step.specs.Operands.{spelled, number_of, number_at, unless_fault}
use Rattle.ia32_step.specs.Exec.{executed}
use Rattle.ia32_step.specs.Step.{context_of, store_fault, after_store, unless_barred, done, change_by, carried_out}
use Rattle.ia32_step.specs.Step.{next_change, exits, stepped}
use Rattle.ia32_step.specs.Code.{code_pieces, KeepsCode, data_bytes, without_code, SameData, SameLeft}
use Rattle.ia32_step.specs.laws.OperandLaws.{length-spelled}

-- no byte among those tested is bad
pub each_good : (f : ℕ → Option Fault) (start n a : ℕ) → first_fault f start n ≡ None → start ≤ a → a < start + n
    → f a ≡ None
unfolding first_fault
each_good f start zero a h l m = absurd (omega arith)
each_good f start (suc n) a h l m =
    elim (last start n a l m) [
      | inl e ↦ rw e (second (first_fault f start n) (f (start + n)) h)
      | inr k ↦ each_good f start n a (first (first_fault f start n) (f (start + n)) h) l k
    ]
  where
    last : (start n a : ℕ) → start ≤ a → a < start + suc n → (a ≡ start + n) ⊎ (a < start + n)
    last start n a l m = grind arith

    first : (x y : Option Fault) → option_or x y ≡ None → x ≡ None
    first None y h = refl
    first (Some x) y h = cc

    second : (x y : Option Fault) → option_or x y ≡ None → y ≡ None
    second None y h = h
    second (Some x) y h = cc

-- bytes that are none of those written stay
untouched : (start : ℕ) (bytes : List ℕ) (address : ℕ) (xs : List ℕ)
    → ((a : ℕ) → address ≤ a → a < address + length xs → (a < start) ⊎ (start + length bytes ≤ a))
    → overlaid start bytes address xs ≡ xs
unfolding overlaid
untouched start bytes address [] h = refl
untouched start bytes address (x ∷ xs) h =
    let first : new_byte start bytes address x ≡ x =
    new_outside start bytes address x (h address (omega arith) (omega arith)) in
    rw (first, untouched start bytes (address + 1) xs (λ a l m. h a (omega arith) (omega arith))) refl

-- of the addresses written those at floor and above are in no piece of some kinds
abbrev Spares : (Kind → Bool) → ℕ → ℕ → ℕ → List Piece → Type 0
Spares mine start n floor pieces =
    (a : ℕ) (kind : Kind) → floor ≤ a → start ≤ a → a < start + n → option_map kind_of (holding pieces a) ≡ Some kind
    → mine kind ≡ false

where_written : (start n a : ℕ) → (a < start) ⊎ ((start + n ≤ a) ⊎ ((start ≤ a) × (a < start + n)))
where_written start n a = grind arith

-- pieces of these kinds stay
stay : (mine : Kind → Bool) (start : ℕ) (bytes : List ℕ) (floor : ℕ) (pieces : List Piece)
    → Ascends piece_range floor pieces
    → Spares mine start (length bytes) floor pieces
    → (i : ℕ) (p : Piece) → slice_get pieces i ≡ Some p → mine p.kind ≡ true → overlaid_piece start bytes p ≡ p
stay mine start bytes floor [] up h i p e m = cc
stay mine start bytes floor (x ∷ xs) up h zero p e m =
    let same : x ≡ p = cc in
    rw (← same) (ap (λ (bs : List ℕ). record x { bytes = bs }) (untouched start bytes x.base x.bytes (λ a l k.
    elim (where_written start (length bytes) a) [
      | inl before ↦ inl before
      | inr (inl after) ↦ inr after
      | inr (inr among) ↦
          let low = up.0 in
          let here : lies_in a (piece_range x) ≡ true = grind (arith, nat_tests) in
          let not_mine : mine x.kind ≡ false = h a x.kind (omega arith) among.0 among.1 (rw here refl) in
          absurd (let is_mine : mine x.kind ≡ true = rw same m in cc)
    ])))
stay mine start bytes floor (x ∷ xs) up h (suc i) p e m =
    stay mine start bytes (piece_range x).high xs up.2 (λ a kind l from to there.
    let low = up.0 in
    let full = up.1 in
    let elsewhere : lies_in a (piece_range x) ≡ false = grind (arith, nat_tests) in
    h a kind (omega arith) from to (rw elsewhere there)) i p e m

-- what is written is in no piece of code
not_code : (kind : Kind) → unwritable (Some kind) ≡ None → is_code kind ≡ false
not_code Code h = cc
not_code ReadOnly h = cc
not_code Writable h = refl

whole_code : (start : ℕ) (bytes : List ℕ) (pieces : List Piece)
    → ((i : ℕ) (p : Piece) → slice_get pieces i ≡ Some p → is_code p.kind ≡ true → overlaid_piece start bytes p ≡ p)
    → code_pieces (written start bytes pieces) ≡ code_pieces pieces
whole_code start bytes [] h = refl
whole_code start bytes (x ∷ xs) h =
    let rest = whole_code start bytes xs (λ i p e m. h (suc i) p e m) in
    elim (is_code x.kind) as (λ b. (b ≡ true → overlaid_piece start bytes x ≡ x)
    → cond b (overlaid_piece start bytes x ∷ code_pieces (written start bytes xs))
    (code_pieces (written start bytes xs))
    ≡ cond b (x ∷ code_pieces xs) (code_pieces xs)) [
      | true ↦ λ same. rw (same refl, rest) refl
      | false ↦ λ _. rest
    ] (h 0 x refl)

written_keeps : (start : ℕ) (bytes : List ℕ) (pieces : List Piece) → ArePlaced pieces
    → first_fault (write_fault pieces) start (length bytes) ≡ None → KeepsCode pieces (written start bytes pieces)
written_keeps start bytes pieces placed good =
    let same : (i : ℕ) (p : Piece) → slice_get pieces i ≡ Some p → is_code p.kind ≡ true
    → overlaid_piece start bytes p ≡ p =
    stay is_code start bytes 0 pieces placed.ascend (λ a kind _ from to there.
    not_code kind (ap unwritable (sym there) ∙ each_good (write_fault pieces) start (length bytes) a good from to)) in
    record {
      each = λ i p there code. slice_get-map (overlaid_piece start bytes) pieces i
          ∙ (ap (option_map (overlaid_piece start bytes)) there ∙ ap Some (same i p there code));
      whole = whole_code start bytes pieces same;
    }

all_stay : (pieces : List Piece) → KeepsCode pieces pieces
all_stay pieces = record { each = λ i p there _. there; whole = refl }

stored : (contents : Contents) (store : Option Store) → ArePlaced contents.pieces → store_fault contents store ≡ None
    → KeepsCode contents.pieces (after_store contents store).pieces
stored contents None placed good = all_stay contents.pieces
stored contents (Some store) placed good =
    written_keeps store.address (spelled store.width store.value) contents.pieces placed (rw length-spelled good)

barred : (fault : Option Fault) (contents : Contents) (thread : Thread) (change : Change) → ArePlaced contents.pieces
    → store_fault contents change.store ≡ fault
    → KeepsCode contents.pieces (unless_barred fault contents thread change).contents.pieces
barred (Some fault) contents thread change placed is = all_stay contents.pieces
barred None contents thread change placed is = stored contents change.store placed is

pub done_keeps : (contents : Contents) (thread : Thread) (change : Result Change Fault) → ArePlaced contents.pieces
    → KeepsCode contents.pieces (done contents thread change).contents.pieces
done_keeps contents thread (Err fault) placed = all_stay contents.pieces
done_keeps contents thread (Ok change) placed =
    barred (store_fault contents change.store) contents thread change placed refl

either : (ends : Bool) (contents : Contents) (thread : Thread) → ArePlaced contents.pieces
    → KeepsCode contents.pieces
    (if ends then exits contents thread else done contents thread (next_change contents thread)).contents.pieces
either true contents thread placed = all_stay contents.pieces
either false contents thread placed = done_keeps contents thread (next_change contents thread) placed

pub step_keeps : (contents : Contents) (thread : Thread) → ArePlaced contents.pieces
    → KeepsCode contents.pieces (stepped contents thread).contents.pieces
unfolding stepped
step_keeps contents thread placed = either (thread.pc == 0xFFFF_0000) contents thread placed

-- a memory without its code has pieces as long, and each byte that can be read
length-data_bytes : (kind : Kind) (bytes : List ℕ) → length (data_bytes kind bytes) ≡ length bytes
length-data_bytes Code bytes = length-replicate (length bytes) 0
length-data_bytes ReadOnly bytes = refl
length-data_bytes Writable bytes = refl

same_kinds : (pieces : List Piece) (a : ℕ)
    → option_map kind_of (holding (map without_code pieces) a) ≡ option_map kind_of (holding pieces a)
same_kinds [] a = refl
same_kinds (x ∷ xs) a =
    rw (length-data_bytes x.kind x.bytes)
    (elim (lies_in a (piece_range x)) as
    (λ b. option_map kind_of (cond b (Some (without_code x)) (holding (map without_code xs) a))
    ≡ option_map kind_of (cond b (Some x) (holding xs a))) [ true ↦ refl | false ↦ same_kinds xs a ])

read_bytes : (kind : Kind) (bytes : List ℕ) → unreadable (Some kind) ≡ None → data_bytes kind bytes ≡ bytes
read_bytes Code bytes h = cc
read_bytes ReadOnly bytes h = refl
read_bytes Writable bytes h = refl

same_byte : (pieces : List Piece) (a : ℕ) → read_fault pieces a ≡ None
    → byte_at (map without_code pieces) a ≡ byte_at pieces a
same_byte [] a h = refl
same_byte (x ∷ xs) a h =
    rw (length-data_bytes x.kind x.bytes)
    (elim (lies_in a (piece_range x)) as (λ b. unreadable (option_map kind_of (cond b (Some x) (holding xs a))) ≡ None
    → unwrap_or (option_map (byte_in a) (cond b (Some (without_code x)) (holding (map without_code xs) a))) 0
    ≡ unwrap_or (option_map (byte_in a) (cond b (Some x) (holding xs a))) 0) [
      | true ↦ λ good. ap (λ (bs : List ℕ). get_or bs (a - x.base) 0) (read_bytes x.kind x.bytes good)
      | false ↦ same_byte xs a
    ] h)

same_bytes : (pieces : List Piece) (start n : ℕ) → ((a : ℕ) → start ≤ a → a < start + n → read_fault pieces a ≡ None)
    → bytes_at (map without_code pieces) start n ≡ bytes_at pieces start n
unfolding bytes_at
same_bytes pieces start zero h = refl
same_bytes pieces start (suc n) h =
    let rest = same_bytes pieces (start + 1) n (λ a l m. h a (omega arith) (omega arith)) in
    rw (same_byte pieces start (h start (omega arith) (omega arith)), rest) refl

same_number : (pieces : List Piece) (width : Width) (a : ℕ)
    → number_at (map without_code pieces) width a ≡ number_at pieces width a
unfolding number_at
same_number pieces width a =
    let faults : read_fault (map without_code pieces) ≡ read_fault pieces =
    fun_ext (λ b. ap unreadable (same_kinds pieces b)) in
    let told : (fault : Option Fault) → first_fault (read_fault pieces) a (byte_count width) ≡ fault
    → unless_fault fault (number_of width (bytes_at (map without_code pieces) a (byte_count width)))
    ≡ unless_fault fault (number_of width (bytes_at pieces a (byte_count width))) =
    λ fault. elim fault as (λ fault. first_fault (read_fault pieces) a (byte_count width) ≡ fault
    → unless_fault fault (number_of width (bytes_at (map without_code pieces) a (byte_count width)))
    ≡ unless_fault fault (number_of width (bytes_at pieces a (byte_count width)))) [
      | None ↦ λ good. ap (λ (bs : List ℕ). unless_fault None (number_of width bs))
          (same_bytes pieces a (byte_count width)
          (λ b from to. each_good (read_fault pieces) a (byte_count width) b good from to))
      | Some bad ↦ λ _. refl
    ] in
    ap (λ (f : ℕ → Option Fault).
    unless_fault (first_fault f a (byte_count width))
    (number_of width (bytes_at (map without_code pieces) a (byte_count width)))) faults
    ∙ told (first_fault (read_fault pieces) a (byte_count width)) refl

same_reader : (a b : List Piece) → SameData a b → number_at a ≡ number_at b
same_reader a b same =
    fun_ext (λ width. fun_ext (λ at.
    sym (same_number a width at) ∙ (ap (λ (ps : List Piece). number_at ps width at) same ∙ same_number b width at)))

pub same_change : (a b : List Piece) → SameData a b → (context : Context) (decoded : Option Decoded)
    → change_by a context decoded ≡ change_by b context decoded
same_change a b same context None = refl
same_change a b same context (Some d) = ap (λ read. executed read d context) (same_reader a b same)

same_write_faults : (a b : List Piece) → SameData a b → write_fault a ≡ write_fault b
same_write_faults a b same =
    fun_ext (λ at. ap unwritable
    (sym (same_kinds a at) ∙ (ap (λ (ps : List Piece). option_map kind_of (holding ps at)) same ∙ same_kinds b at)))

pub same_fault : (a b : Contents) → SameData a.pieces b.pieces → (store : Option Store)
    → store_fault a store ≡ store_fault b store
same_fault a b same None = refl
same_fault a b same (Some store) =
    ap (λ (f : ℕ → Option Fault). first_fault f store.address (byte_count store.width))
    (same_write_faults a.pieces b.pieces same)

-- what is written to a memory and to the same memory without its code
data_overlaid : (start : ℕ) (bytes : List ℕ) (kind : Kind) (base : ℕ) (xs : List ℕ)
    → data_bytes kind (overlaid start bytes base (data_bytes kind xs)) ≡ data_bytes kind (overlaid start bytes base xs)
data_overlaid start bytes Code base xs =
    ap (λ (n : ℕ). replicate n 0)
    (length-overlaid start bytes base (replicate (length xs) 0)
    ∙ (length-replicate (length xs) 0 ∙ sym (length-overlaid start bytes base xs)))
data_overlaid start bytes ReadOnly base xs = refl
data_overlaid start bytes Writable base xs = refl

data_written : (start : ℕ) (bytes : List ℕ) (pieces : List Piece)
    → SameData (written start bytes (map without_code pieces)) (written start bytes pieces)
data_written start bytes [] = refl
data_written start bytes (x ∷ xs) =
    rw (data_overlaid start bytes x.kind x.base x.bytes, data_written start bytes xs) refl

same_stored : (a b : Contents) → SameData a.pieces b.pieces → (store : Option Store)
    → SameData (after_store a store).pieces (after_store b store).pieces
same_stored a b same None = same
same_stored a b same (Some store) =
    sym (data_written store.address (spelled store.width store.value) a.pieces)
    ∙ (ap (λ (ps : List Piece). map without_code (written store.address (spelled store.width store.value) ps)) same
    ∙ data_written store.address (spelled store.width store.value) b.pieces)

same_unless : (fault : Option Fault) (a b : Contents) → SameData a.pieces b.pieces → (thread : Thread) (change : Change)
    → SameLeft (unless_barred fault a thread change) (unless_barred fault b thread change)
same_unless (Some fault) a b same thread change = record { memory = same; thread = refl; outcome = refl }
same_unless None a b same thread change =
    record { memory = same_stored a b same change.store; thread = refl; outcome = refl }

pub same_left : (a b : Contents) → SameData a.pieces b.pieces → (thread : Thread) (change : Result Change Fault)
    → SameLeft (done a thread change) (done b thread change)
same_left a b same thread (Err fault) = record { memory = same; thread = refl; outcome = refl }
same_left a b same thread (Ok change) =
    rw (← same_fault a b same change.store) (same_unless (store_fault a change.store) a b same thread change)

pub same_instruction : (a b : Contents) → SameData a.pieces b.pieces → (thread : Thread) (decoded : Option Decoded)
    → SameLeft (carried_out a thread decoded) (carried_out b thread decoded)
same_instruction a b same thread decoded =
    rw (← same_change a.pieces b.pieces same (context_of thread) decoded)
    (same_left a b same thread (change_by a.pieces (context_of thread) decoded))

-- what is written in code leaves the data
not_data : (kind : Kind) → kind ≡ Code → not (is_code kind) ≡ false
not_data kind h = ap (λ (k : Kind). not (is_code k)) h

blank_overlaid : (start : ℕ) (bytes : List ℕ) (kind : Kind) (base : ℕ) (xs : List ℕ)
    → (not (is_code kind) ≡ true → overlaid start bytes base xs ≡ xs)
    → data_bytes kind (overlaid start bytes base xs) ≡ data_bytes kind xs
blank_overlaid start bytes Code base xs h = ap (λ (n : ℕ). replicate n 0) (length-overlaid start bytes base xs)
blank_overlaid start bytes ReadOnly base xs h = h refl
blank_overlaid start bytes Writable base xs h = h refl

all_blank : (start : ℕ) (bytes : List ℕ) (pieces : List Piece)
    → ((i : ℕ) (p : Piece) → slice_get pieces i ≡ Some p → not (is_code p.kind) ≡ true
    → overlaid_piece start bytes p ≡ p)
    → SameData (written start bytes pieces) pieces
all_blank start bytes [] h = refl
all_blank start bytes (x ∷ xs) h =
    let first = blank_overlaid start bytes x.kind x.base x.bytes (λ m. ap (λ (p : Piece). p.bytes) (h 0 x refl m)) in
    rw (first, all_blank start bytes xs (λ i p e m. h (suc i) p e m)) refl

pub code_written : (pieces : List Piece) (start : ℕ) (bytes : List ℕ) → ArePlaced pieces
    → ((a : ℕ) → start ≤ a → a < start + length bytes → option_map kind_of (holding pieces a) ≡ Some Code)
    → SameData (written start bytes pieces) pieces
code_written pieces start bytes placed code =
    all_blank start bytes pieces
    (stay (λ kind. not (is_code kind)) start bytes 0 pieces placed.ascend (λ a kind _ from to there.
    not_data kind (let both = code a from to in cc)))
