-- Laws of reads and writes, for the crates above: what the first bad byte, the bytes of a read and the bytes after a
-- write are, one address at a time.
use Rattle.std.proofs.Common.{◌≡◌, ℕ, zero, suc, ◌+◌, ◌-◌, ◌≤◌, ◌<◌, List, [], ◌∷◌, length, get_or, refl, ap, arith}
use Rattle.std.proofs.Common.{◌⊎◌, inl, inr, Option, Some, None}
use Rattle.std.specs.Option.{option_or}
use Rattle.std.proofs.lemmas.List.{ext_get_or}
use Rattle.std.proofs.lemmas.Bool.Decides.{nat_tests}
use Rattle.ks_base.specs.declared.refusals.Fault.{Fault}
use Rattle.image_memory.specs.Ranges.{Ascends}
use Rattle.image_memory.specs.Contents.{piece_range}
use Rattle.image_memory.specs.Access.{first_fault, bytes_at, byte_at, overlaid, overlaid_piece, written, new_byte}
use Rattle.image_memory.specs.declared.types.Piece.{Piece}

-- no byte is bad below n
each_good : (f : ℕ → Option Fault) (a n : ℕ) → first_fault f a n ≡ None → (k : ℕ) → k < n → f (a + k) ≡ None
unfolding first_fault
each_good f a zero h k l = absurd (omega arith)
each_good f a (suc n) h k l =
    elim (cases k n l) [
      | inl e ↦ rw e (second (first_fault f a n) (f (a + n)) h)
      | inr m ↦ each_good f a n (first (first_fault f a n) (f (a + n)) h) k m
    ]
  where
    cases : (k n : ℕ) → k < suc n → (k ≡ n) ⊎ (k < n)
    cases k n l = grind arith

    first : (x y : Option Fault) → option_or x y ≡ None → x ≡ None
    first None y h = refl
    first (Some x) y h = cc

    second : (x y : Option Fault) → option_or x y ≡ None → y ≡ None
    second None y h = h
    second (Some x) y h = cc

-- where there is no first bad byte, each byte is good, and the other way round
pub good_at : (f : ℕ → Option Fault) (a n k : ℕ) → first_fault f a n ≡ None → k < n → f (a + k) ≡ None
good_at f a n k h l = each_good f a n h k l

pub all_good : (f : ℕ → Option Fault) (a n : ℕ) → ((k : ℕ) → k < n → f (a + k) ≡ None) → first_fault f a n ≡ None
unfolding first_fault
all_good f a zero h = refl
all_good f a (suc n) h =
    let before = all_good f a n (λ k l. h k (omega arith)) in
    rw before (h n (omega arith))

-- so many bytes are read as were asked for, each of them the one at its address
pub length-bytes_at : (pieces : List Piece) (a n : ℕ) → length (bytes_at pieces a n) ≡ n
unfolding bytes_at
length-bytes_at pieces a zero = refl
length-bytes_at pieces a (suc n) = ap suc (length-bytes_at pieces (a + 1) n)

pub get_or-bytes_at : (pieces : List Piece) (a n k : ℕ) → k < n
    → get_or (bytes_at pieces a n) k 0 ≡ byte_at pieces (a + k)
unfolding bytes_at
get_or-bytes_at pieces a zero k l = absurd (omega arith)
get_or-bytes_at pieces a (suc n) zero l = ap (byte_at pieces) (omega arith)
get_or-bytes_at pieces a (suc n) (suc k) l =
    let e : (a + 1) + k ≡ a + suc k = omega arith in
    rw e at (get_or-bytes_at pieces (a + 1) n k (omega arith))

-- bytes that others are written over stay as many, and each is then what is written there or what was
pub length-overlaid : (start : ℕ) (bytes : List ℕ) (a : ℕ) (xs : List ℕ)
    → length (overlaid start bytes a xs) ≡ length xs
unfolding overlaid
length-overlaid start bytes a [] = refl
length-overlaid start bytes a (x ∷ xs) = ap suc (length-overlaid start bytes (a + 1) xs)

pub get_or-overlaid : (start : ℕ) (bytes : List ℕ) (a : ℕ) (xs : List ℕ) (k : ℕ) → k < length xs
    → get_or (overlaid start bytes a xs) k 0 ≡ new_byte start bytes (a + k) (get_or xs k 0)
unfolding overlaid
get_or-overlaid start bytes a [] k l = absurd (omega arith)
get_or-overlaid start bytes a (x ∷ xs) zero l = ap (λ b. new_byte start bytes b x) (omega arith)
get_or-overlaid start bytes a (x ∷ xs) (suc k) l =
    let e : (a + 1) + k ≡ a + suc k = omega arith in
    rw e at (get_or-overlaid start bytes (a + 1) xs k (omega arith))

-- a byte that is one of those written, and one that isn't
pub new_inside : (start : ℕ) (bytes : List ℕ) (a b : ℕ) → start ≤ a → a < start + length bytes
    → new_byte start bytes a b ≡ get_or bytes (a - start) 0
new_inside start bytes a b l m = grind (arith, nat_tests)

pub new_outside : (start : ℕ) (bytes : List ℕ) (a b : ℕ) → (a < start) ⊎ (start + length bytes ≤ a)
    → new_byte start bytes a b ≡ b
new_outside start bytes a b h = grind (arith, nat_tests)

-- bytes and pieces stay as they are where nothing is written to them
pub overlaid_outside : (start : ℕ) (bytes : List ℕ) (a : ℕ) (xs : List ℕ)
    → ((k : ℕ) → k < length xs → (a + k < start) ⊎ (start + length bytes ≤ a + k)) → overlaid start bytes a xs ≡ xs
overlaid_outside start bytes a xs h =
    ext_get_or 0 _ _ (length-overlaid start bytes a xs) (λ k l.
    let m : k < length xs = rw (length-overlaid start bytes a xs) at l in
    let e = new_outside start bytes (a + k) (get_or xs k 0) (h k m) in
    rw e at (get_or-overlaid start bytes a xs k m))

pub overlaid_apart : (start : ℕ) (bytes : List ℕ) (a : ℕ) (xs : List ℕ) → (a + length xs ≤ start)
    ⊎ (start + length bytes ≤ a)
    → overlaid start bytes a xs ≡ xs
overlaid_apart start bytes a xs h = overlaid_outside start bytes a xs (λ k m. grind arith)

pub piece_apart : (start : ℕ) (bytes : List ℕ) (p : Piece) → ((piece_range p).high ≤ start)
    ⊎ (start + length bytes ≤ p.base)
    → overlaid_piece start bytes p ≡ p
piece_apart start bytes p h = ap (λ (xs : List ℕ). record p { bytes = xs })
    (overlaid_apart start bytes p.base p.bytes h)

-- pieces ascend still when bytes were written
pub Ascends-written : (start : ℕ) (bytes : List ℕ) (floor : ℕ) (ps : List Piece) → Ascends piece_range floor ps
    → Ascends piece_range floor (written start bytes ps)
Ascends-written start bytes floor [] h = tt
Ascends-written start bytes floor (p ∷ ps) h =
    rw (length-overlaid start bytes p.base p.bytes) (h.0, h.1, Ascends-written start bytes (piece_range p).high ps h.2)
