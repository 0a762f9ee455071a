-- Laws of what a list of writes leaves, one address at a time, for the crates above. A write is an address and the
-- bytes that it puts from there on; jumps are such writes.
use Rattle.std.proofs.Common.{◌≡◌, ℕ, zero, suc, ◌+◌, ◌-◌, ◌≤◌, ◌<◌, Bool, true, false, cond, List, [], ◌∷◌, ◌++◌, map}
use Rattle.std.proofs.Common.{length, get_or, drop, Option, Some, None, refl, sym, ap, ◌∙◌, arith, ◌⊎◌, inl, inr}
use Rattle.std.specs.Option.{option_map}
use Rattle.std.specs.List.{All, AllPairs}
use Rattle.std.proofs.lemmas.List.{same_lists, ext_get_or, length-map, get_or-map}
use Rattle.std.proofs.lemmas.List.Elements.{All-cons, All-head, All-tail}
use Rattle.std.proofs.lemmas.List.Folds.{map_fixed, fold-map}
use Rattle.std.proofs.lemmas.Grind.{fold-append}
use Rattle.image_memory.specs.declared.types.Piece.{Piece}
use Rattle.image_memory.specs.Ranges.{lies_in, Ascends}
use Rattle.image_memory.specs.Contents.{piece_range, holding, byte_in}
use Rattle.image_memory.specs.Access.{new_byte, overlaid, written, byte_at}
use Rattle.image_memory.specs.Fetch.{is_code, code_in, code_from}
use Rattle.image_memory.specs.laws.RangeLaws.{inside, within, found as found_at, found_here}
use Rattle.image_memory.specs.laws.AccessLaws.{new_inside, new_outside}
use Rattle.splice_jump.specs.Jump.{jump_bytes}
use Rattle.splice_jump.specs.Jumps.{jumped, with_old_row, unjumped}

-- what stands at an address where b stood, and from an address on, after some writes
unfoldable pub byte_after : List (ℕ × List ℕ) → ℕ → ℕ → ℕ
byte_after [] a b = b
byte_after (w ∷ ws) a b = byte_after ws a (new_byte w.0 w.1 a b)

unfoldable pub bytes_after : List (ℕ × List ℕ) → ℕ → List ℕ → List ℕ
bytes_after ws a [] = []
bytes_after ws a (b ∷ bs) = byte_after ws a b ∷ bytes_after ws (a + 1) bs

abbrev pub piece_after : List (ℕ × List ℕ) → Piece → Piece
piece_after ws p = record p { bytes = bytes_after ws p.base p.bytes }

-- an address is none of those written, and two writes share no address
abbrev pub Misses : ℕ → ℕ × List ℕ → Type 0
Misses a w = (a < w.0) ⊎ (w.0 + length w.1 ≤ a)

abbrev pub Away : ℕ × List ℕ → ℕ × List ℕ → Type 0
Away w v = (w.0 + length w.1 ≤ v.0) ⊎ (v.0 + length v.1 ≤ w.0)

-- bytes stay as many, and each is then what the writes leave at its address
pub length-bytes_after : (ws : List (ℕ × List ℕ)) (a : ℕ) (xs : List ℕ) → length (bytes_after ws a xs) ≡ length xs
unfolding bytes_after
length-bytes_after ws a [] = refl
length-bytes_after ws a (x ∷ xs) = ap suc (length-bytes_after ws (a + 1) xs)

pub get_or-bytes_after : (ws : List (ℕ × List ℕ)) (a : ℕ) (xs : List ℕ) (k : ℕ) → k < length xs
    → get_or (bytes_after ws a xs) k 0 ≡ byte_after ws (a + k) (get_or xs k 0)
unfolding bytes_after
get_or-bytes_after ws a [] k l = absurd (omega arith)
get_or-bytes_after ws a (x ∷ xs) zero l = ap (λ (b : ℕ). byte_after ws b x) (omega arith)
get_or-bytes_after ws a (x ∷ xs) (suc k) l =
    let e : (a + 1) + k ≡ a + suc k = omega arith in
    rw e at (get_or-bytes_after ws (a + 1) xs k (omega arith))

-- writes over what is left of bytes from a place on
pub drop-bytes_after : (ws : List (ℕ × List ℕ)) (n a : ℕ) (xs : List ℕ)
    → drop n (bytes_after ws a xs) ≡ bytes_after ws (a + n) (drop n xs)
unfolding bytes_after
drop-bytes_after ws zero a xs = ap (λ (b : ℕ). bytes_after ws b xs) (omega arith)
drop-bytes_after ws (suc n) a [] = refl
drop-bytes_after ws (suc n) a (x ∷ xs) =
    let e : (a + 1) + n ≡ a + suc n = omega arith in
    rw e at (drop-bytes_after ws n (a + 1) xs)

-- one write after another
none_written : (a : ℕ) (xs : List ℕ) → bytes_after [] a xs ≡ xs
unfolding bytes_after byte_after
none_written a [] = refl
none_written a (x ∷ xs) = ap (λ (ys : List ℕ). x ∷ ys) (none_written (a + 1) xs)

one_before : (w : ℕ × List ℕ) (ws : List (ℕ × List ℕ)) (a : ℕ) (xs : List ℕ)
    → bytes_after ws a (overlaid w.0 w.1 a xs) ≡ bytes_after (w ∷ ws) a xs
unfolding bytes_after byte_after overlaid
one_before w ws a [] = refl
one_before w ws a (x ∷ xs) =
    ap (λ (ys : List ℕ). byte_after ws a (new_byte w.0 w.1 a x) ∷ ys) (one_before w ws (a + 1) xs)

before_all : (w : ℕ × List ℕ) (ws : List (ℕ × List ℕ)) (ps : List Piece)
    → map (piece_after ws) (written w.0 w.1 ps) ≡ map (piece_after (w ∷ ws)) ps
before_all w ws [] = refl
before_all w ws (p ∷ ps) = rw (one_before w ws p.base p.bytes, before_all w ws ps) refl

-- writes over pieces, piece by piece
pub unjumped-is : (ws : List (ℕ × List ℕ)) (ps : List Piece) → unjumped ws ps ≡ map (piece_after ws) ps
unfolding unjumped
unjumped-is [] ps = sym (map_fixed (piece_after []) ps (λ k d l.
    let p = get_or ps k d in
    ap (λ (xs : List ℕ). let q : Piece = record p { bytes = xs } in q) (none_written p.base p.bytes)))
unjumped-is (w ∷ ws) ps = unjumped-is ws (written w.0 w.1 ps) ∙ before_all w ws ps

-- the jumps of rows as writes
abbrev pub jump_of : ℕ × ℕ → ℕ × List ℕ
jump_of row = (row.0, jump_bytes row.0 row.1)

abbrev pub jumps_of : List (ℕ × ℕ) → List (ℕ × List ℕ)
jumps_of rows = map jump_of rows

-- jumps over pieces are these writes
pub jumped_as : (rows : List (ℕ × ℕ)) (ps : List Piece) → jumped rows ps ≡ unjumped (jumps_of rows) ps
unfolding jumped unjumped
jumped_as rows ps = sym (fold-map with_old_row jump_of ps rows)

-- so they are over pieces piece by piece
pub jumped-is : (rows : List (ℕ × ℕ)) (ps : List Piece) → jumped rows ps ≡ map (piece_after (jumps_of rows)) ps
jumped-is rows ps = jumped_as rows ps ∙ unjumped-is (jumps_of rows) ps

-- a byte that is none of those written, and one that is
pub byte_outside : (ws : List (ℕ × List ℕ)) (a b : ℕ) → All (Misses a) ws → byte_after ws a b ≡ b
unfolding byte_after
byte_outside [] a b h = refl
byte_outside (w ∷ ws) a b h =
    let same = new_outside w.0 w.1 a b (All-head (Misses a) w ws h) in
    rw same (byte_outside ws a b (All-tail (Misses a) w ws h))

pub byte_inside : (ws : List (ℕ × List ℕ)) (i : ℕ) (d : ℕ × List ℕ) (a b : ℕ) → AllPairs Away ws → i < length ws
    → (get_or ws i d).0 ≤ a → a < (get_or ws i d).0 + length (get_or ws i d).1
    → byte_after ws a b ≡ get_or (get_or ws i d).1 (a - (get_or ws i d).0) 0
unfolding byte_after
byte_inside [] i d a b apart l low high = absurd (omega arith)
byte_inside (w ∷ ws) zero d a b apart l low high =
    byte_outside ws a (new_byte w.0 w.1 a b)
    (λ k e m. misses w (get_or ws k e) a low high (apart 0 (suc k) e (omega arith) (omega arith)))
    ∙ new_inside w.0 w.1 a b low high
  where
    misses : (w v : ℕ × List ℕ) (a : ℕ) → w.0 ≤ a → a < w.0 + length w.1 → Away w v → Misses a v
    misses w v a low high away = elim away [ inl before ↦ inl (omega arith) | inr behind ↦ inr (omega arith) ]
byte_inside (w ∷ ws) (suc i) d a b apart l low high =
    byte_inside ws i d a (new_byte w.0 w.1 a b) (λ j k e m n. apart (suc j) (suc k) e (omega arith) (omega arith))
    (omega arith) low high

-- one list of writes after another
pub byte_after-append : (ws vs : List (ℕ × List ℕ)) (a b : ℕ)
    → byte_after (ws ++ vs) a b ≡ byte_after vs a (byte_after ws a b)
unfolding byte_after
byte_after-append [] vs a b = refl
byte_after-append (w ∷ ws) vs a b = byte_after-append ws vs a (new_byte w.0 w.1 a b)

-- an address is one of some, or lies before or after them
pub in_or_out : (low high a : ℕ) → ((low ≤ a) × (a < high)) ⊎ ((a < low) ⊎ (high ≤ a))
in_or_out low high a = grind arith

-- an address is one of a write's, or is none of any
pub record IsWritten (ws : List (ℕ × List ℕ)) (a : ℕ) : Type 0 where
  pub index : ℕ
  pub in_list : index < length ws
  pub low : (d : ℕ × List ℕ) → (get_or ws index d).0 ≤ a
  pub high : (d : ℕ × List ℕ) → a < (get_or ws index d).0 + length (get_or ws index d).1

pub written_or_not : (ws : List (ℕ × List ℕ)) (a : ℕ) → IsWritten ws a ⊎ All (Misses a) ws
written_or_not [] a = inr (λ k d l. absurd (omega arith))
written_or_not (w ∷ ws) a =
    elim (in_or_out w.0 (w.0 + length w.1) a) [
      | inl here ↦ inl (record { index = 0; in_list = omega arith; low = λ d. here.0; high = λ d. here.1 })
      | inr misses ↦ elim (written_or_not ws a) [
        | inl there ↦
            let l = there.in_list in
            inl (record { index = suc there.index; in_list = omega arith; low = there.low; high = there.high })
        | inr none ↦ inr (All-cons (Misses a) w ws misses none)
      ]
    ]

-- where a piece has a byte, that is the byte there
pub byte_here : (floor : ℕ) (ps : List Piece) (k : ℕ) (d : Piece) (j : ℕ) → Ascends piece_range floor ps
    → k < length ps
    → j < length (get_or ps k d).bytes → byte_at ps ((get_or ps k d).base + j) ≡ get_or (get_or ps k d).bytes j 0
byte_here floor ps k d j up l m =
    let p = get_or ps k d in
    let among = within (p.base + j) (piece_range p) (omega arith) (omega arith) in
    let there = found_here piece_range floor ps (p.base + j) k d up l among in
    let e : (p.base + j) - p.base ≡ j = omega arith in
    rw (there, e) refl

-- Two lists of writes leave the same where they leave the same byte at each address.
pub same_pieces : (ws vs : List (ℕ × List ℕ)) (floor : ℕ) (ps : List Piece) → Ascends piece_range floor ps
    → ((a : ℕ) → byte_after ws a (byte_at ps a) ≡ byte_after vs a (byte_at ps a))
    → map (piece_after ws) ps ≡ map (piece_after vs) ps
same_pieces ws vs floor ps up same =
    same_lists _ _ (length-map ps (piece_after ws) ∙ sym (length-map ps (piece_after vs))) (λ k d l.
    let m : k < length ps = rw length-map at l in
    get_or-map (piece_after ws) ps k d d m ∙ (one k d m ∙ sym (get_or-map (piece_after vs) ps k d d m)))
  where
    bytes : (k : ℕ) (d : Piece) → k < length ps
        → bytes_after ws (get_or ps k d).base (get_or ps k d).bytes
        ≡ bytes_after vs (get_or ps k d).base (get_or ps k d).bytes
    bytes k d m =
        let p = get_or ps k d in
        ext_get_or 0 _ _ (length-bytes_after ws p.base p.bytes ∙ sym (length-bytes_after vs p.base p.bytes)) (λ j l.
        let n : j < length p.bytes = rw length-bytes_after at l in
        let old = byte_here floor ps k d j up m n in
        get_or-bytes_after ws p.base p.bytes j n
        ∙ (rw old at (same (p.base + j)) ∙ sym (get_or-bytes_after vs p.base p.bytes j n)))

    one : (k : ℕ) (d : Piece) → k < length ps → piece_after ws (get_or ps k d) ≡ piece_after vs (get_or ps k d)
    one k d m =
        let p = get_or ps k d in ap (λ (xs : List ℕ). let q : Piece = record p { bytes = xs } in q) (bytes k d m)

-- the piece that holds an address is the one that held it
pub holding-after : (ws : List (ℕ × List ℕ)) (ps : List Piece) (a : ℕ)
    → holding (map (piece_after ws) ps) a ≡ option_map (piece_after ws) (holding ps a)
holding-after ws [] a = refl
holding-after ws (p ∷ ps) a =
    rw (length-bytes_after ws p.base p.bytes) (elim (lies_in a (piece_range p))
    as (λ b. cond b (Some (piece_after ws p)) (holding (map (piece_after ws) ps) a)
    ≡ option_map (piece_after ws) (cond b (Some p) (holding ps a))) [
      | true ↦ refl
      | false ↦ holding-after ws ps a
    ])

-- what is seen at an address
pub byte_in_after : (ws : List (ℕ × List ℕ)) (p : Piece) (a : ℕ) → lies_in a (piece_range p) ≡ true
    → byte_in a (piece_after ws p) ≡ byte_after ws a (byte_in a p)
byte_in_after ws p a here =
    let low = inside a (piece_range p) here in
    let e : p.base + (a - p.base) ≡ a = let l = low.0 in omega arith in
    let m : a - p.base < length p.bytes = let l = low.0 in let h = low.1 in omega arith in
    rw e at (get_or-bytes_after ws p.base p.bytes (a - p.base) m)

-- the code from an address on
pub code_from-after : (ws : List (ℕ × List ℕ)) (ps : List Piece) (pc : ℕ)
    → code_from (map (piece_after ws) ps) pc ≡ option_map (bytes_after ws pc) (code_from ps pc)
code_from-after ws ps pc = rw (holding-after ws ps pc) (each (holding ps pc) refl)
  where
    kept : (p : Piece) → lies_in pc (piece_range p) ≡ true
        → drop (pc - p.base) (bytes_after ws p.base p.bytes) ≡ bytes_after ws pc (drop (pc - p.base) p.bytes)
    kept p here =
        let low = (inside pc (piece_range p) here).0 in
        let e : p.base + (pc - p.base) ≡ pc = omega arith in
        rw e at (drop-bytes_after ws (pc - p.base) p.base p.bytes)

    by_kind : (p : Piece) (b : Bool) → lies_in pc (piece_range p) ≡ true
        → cond b (Some (drop (pc - p.base) (bytes_after ws p.base p.bytes))) None
        ≡ option_map (bytes_after ws pc) (cond b (Some (drop (pc - p.base) p.bytes)) None)
    by_kind p true here = ap Some (kept p here)
    by_kind p false here = refl

    each : (o : Option Piece) → holding ps pc ≡ o
        → code_in pc (option_map (piece_after ws) o) ≡ option_map (bytes_after ws pc) (code_in pc o)
    each None is = refl
    each (Some p) is = by_kind p (is_code p.kind) (found_at (λ piece. lies_in pc (piece_range piece)) ps p is).passes

-- bytes stay where no write reaches them
pub all_outside : (ws : List (ℕ × List ℕ)) (pc : ℕ) (xs : List ℕ)
    → ((k : ℕ) → k < length xs → All (Misses (pc + k)) ws)
    → bytes_after ws pc xs ≡ xs
unfolding bytes_after
all_outside ws pc [] h = refl
all_outside ws pc (x ∷ xs) h =
    let e : pc + 0 ≡ pc = omega arith in
    let first = byte_outside ws pc x (rw e at (h 0 (omega arith))) in
    let rest = all_outside ws (pc + 1) xs (λ k l.
    let f : pc + suc k ≡ (pc + 1) + k = omega arith in
    rw f at (h (suc k) (omega arith))) in
    rw (first, rest) refl

-- one list of writes over pieces after another
pub unjumped-append : (ws vs : List (ℕ × List ℕ)) (ps : List Piece)
    → unjumped (ws ++ vs) ps ≡ unjumped vs (unjumped ws ps)
unfolding unjumped
unjumped-append ws vs ps = fold-append with_old_row ps ws vs

-- writes that leave the same byte at each address
pub same_left : (ws vs : List (ℕ × List ℕ)) (ps : List Piece) → Ascends piece_range 0 ps
    → ((a : ℕ) → byte_after ws a (byte_at ps a) ≡ byte_after vs a (byte_at ps a)) → unjumped ws ps ≡ unjumped vs ps
same_left ws vs ps up same = unjumped-is ws ps ∙ (same_pieces ws vs 0 ps up same ∙ sym (unjumped-is vs ps))

-- one write is a list of one
pub one_write : (start : ℕ) (bytes : List ℕ) (ps : List Piece)
    → written start bytes ps ≡ unjumped ((start, bytes) ∷ []) ps
unfolding unjumped
one_write start bytes ps = refl
