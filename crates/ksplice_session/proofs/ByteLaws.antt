-- When four bytes are the same in two memories.
use Rattle.std.proofs.Common.{◌≡◌, ℕ, zero, suc, ◌+◌, ◌-◌, ◌≤◌, ◌<◌, ◌&&◌, not, ◌==◌, true, false, cond, List, []}
use Rattle.std.proofs.Common.{◌∷◌, length, get_or, is_some, Option, Some, None, refl, sym, ◌∙◌, ap, arith, ◌⊎◌}
use Rattle.std.specs.Option.{option_map, option_or, unwrap_or}
use Rattle.std.specs.Int.{w32, from_le_bytes}
use Rattle.ks_base.specs.declared.refusals.Fault.{Fault}
use Rattle.image_memory.specs.declared.types.Piece.{Piece}
use Rattle.image_memory.specs.Ranges.{lies_in}
use Rattle.image_memory.specs.Contents.{piece_range, holding, byte_in}
use Rattle.image_memory.specs.Access.{kind_of, unreadable, read_fault, first_fault, byte_at}
use Rattle.image_memory.specs.Access.{bytes_at, dword_at, overlaid_piece, new_byte, written}
use Rattle.image_memory.specs.laws.RangeLaws.{inside}
use Rattle.image_memory.specs.laws.AccessLaws.{good_at, length-overlaid, get_or-overlaid, new_outside}
use Rattle.ia32_step.specs.Frames.{holds_dword}

-- at an address two memories have a piece of the same kind, and where it can be read the same byte
pub record IsAlikeAt (p q : List Piece) (x : ℕ) : Type 0 where
  pub kind : option_map kind_of (holding p x) ≡ option_map kind_of (holding q x)
  pub byte : read_fault q x ≡ None → byte_at p x ≡ byte_at q x

-- they do at each of n addresses
abbrev pub AreAlikeFrom : List Piece → List Piece → ℕ → ℕ → Type 0
AreAlikeFrom p q a n = (x : ℕ) → a ≤ x → x < a + n → IsAlikeAt p q x

pub alike_back : (p q : List Piece) (x : ℕ) → IsAlikeAt p q x → IsAlikeAt q p x
alike_back p q x alike = record {
  kind = sym alike.kind;
  byte = λ good. sym (alike.byte (ap unreadable (sym alike.kind) ∙ good));
}

pub faults_same : (p q : List Piece) (a n : ℕ)
    → AreAlikeFrom p q a n → first_fault (read_fault p) a n ≡ first_fault (read_fault q) a n
unfolding first_fault
faults_same p q a zero alike = refl
faults_same p q a (suc n) alike =
    ap (λ (f : Option Fault). option_or f (read_fault p (a + n)))
    (faults_same p q a n (λ x low high. alike x low (omega arith)))
    ∙ ap (λ k. option_or (first_fault (read_fault q) a n) (unreadable k))
    (alike (a + n) (omega arith) (omega arith)).kind

bytes_same : (p q : List Piece) (a n : ℕ)
    → ((x : ℕ) → a ≤ x → x < a + n → byte_at p x ≡ byte_at q x) → bytes_at p a n ≡ bytes_at q a n
unfolding bytes_at
bytes_same p q a zero same = refl
bytes_same p q a (suc n) same =
    ap (λ (b : ℕ). b ∷ bytes_at p (a + 1) n) (same a (omega arith) (omega arith))
    ∙ ap (λ (bs : List ℕ). byte_at q a ∷ bs)
    (bytes_same p q (a + 1) n (λ x low high. same x (omega arith) (omega arith)))

each_good : (f : ℕ → Option Fault) (a n x : ℕ) → first_fault f a n ≡ None → a ≤ x → x < a + n → f x ≡ None
each_good f a n x good low high =
    let back : a + (x - a) ≡ x = omega arith in
    ap f (sym back) ∙ good_at f a n (x - a) good (omega arith)

pub dword_same : (p q : List Piece) (a : ℕ)
    → AreAlikeFrom p q a 4 → first_fault (read_fault q) a 4 ≡ None → dword_at p a ≡ dword_at q a
dword_same p q a alike good =
    ap (from_le_bytes w32)
    (bytes_same p q a 4 (λ x low high. (alike x low high).byte (each_good (read_fault q) a 4 x good low high)))

pub holds_same : (p q : List Piece) (a value : ℕ) → AreAlikeFrom p q a 4 → holds_dword p a value ≡ holds_dword q a value
holds_same p q a value alike =
    ap (λ (f : Option Fault). not (is_some f) && (dword_at p a == value)) (faults_same p q a 4 alike)
    ∙ by (first_fault (read_fault q) a 4) refl
  where
    by : (f : Option Fault) → first_fault (read_fault q) a 4 ≡ f
        → (not (is_some f) && (dword_at p a == value)) ≡ (not (is_some f) && (dword_at q a == value))
    by (Some fault) is = refl
    by None is = ap (λ (n : ℕ). n == value) (dword_same p q a alike is)

pub kinds_written : (start : ℕ) (bytes : List ℕ) (pieces : List Piece) (x : ℕ)
    → option_map kind_of (holding (written start bytes pieces) x) ≡ option_map kind_of (holding pieces x)
kinds_written start bytes [] x = refl
kinds_written start bytes (p ∷ ps) x =
    rw (length-overlaid start bytes p.base p.bytes)
    (elim (lies_in x (piece_range p)) as
    (λ b. option_map kind_of (cond b (Some (overlaid_piece start bytes p)) (holding (written start bytes ps) x))
    ≡ option_map kind_of (cond b (Some p) (holding ps x))) [ true ↦ refl | false ↦ kinds_written start bytes ps x ])

byte_outside : (start : ℕ) (bytes : List ℕ) (pieces : List Piece) (x : ℕ) → (x < start) ⊎ (start + length bytes ≤ x)
    → byte_at (written start bytes pieces) x ≡ byte_at pieces x
byte_outside start bytes [] x out = refl
byte_outside start bytes (p ∷ ps) x out =
    rw (length-overlaid start bytes p.base p.bytes)
    (elim (lies_in x (piece_range p)) as
    (λ b. lies_in x (piece_range p) ≡ b
    → unwrap_or
    (option_map (byte_in x) (cond b (Some (overlaid_piece start bytes p)) (holding (written start bytes ps) x))) 0
    ≡ unwrap_or (option_map (byte_in x) (cond b (Some p) (holding ps x))) 0) [
      | true ↦ λ here.
          let bounds = inside x (piece_range p) here in
          let low = bounds.0 in
          let high = bounds.1 in
          let back : p.base + (x - p.base) ≡ x = omega arith in
          get_or-overlaid start bytes p.base p.bytes (x - p.base) (omega arith)
          ∙ ap (λ (n : ℕ). new_byte start bytes n (get_or p.bytes (x - p.base) 0)) back
          ∙ new_outside start bytes x (get_or p.bytes (x - p.base) 0) out
      | false ↦ λ there. byte_outside start bytes ps x out
    ] refl)

-- where nothing is written all is as it was
pub alike_written : (start : ℕ) (bytes : List ℕ) (pieces : List Piece) (x : ℕ)
    → (x < start) ⊎ (start + length bytes ≤ x)
    → IsAlikeAt (written start bytes pieces) pieces x
alike_written start bytes pieces x out = record {
  kind = kinds_written start bytes pieces x;
  byte = λ good. byte_outside start bytes pieces x out;
}
