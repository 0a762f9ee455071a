-- Laws of reads and writes part by part, for the crates above: the first bad byte, bytes that were copied, and bytes that
-- were put over others, one address at a time.
use Rattle.std.proofs.Common.{◌≡◌, ℕ, zero, suc, ◌+◌, ◌-◌, ◌≤◌, ◌<◌, List, length, get_or, min, max, ◌++◌}
use Rattle.std.proofs.Common.{◌∙◌, refl, sym, ap, arith, ◌⊎◌, inl, inr, Option, Some, None, Vec, take, drop}
use Rattle.std.specs.Vec.{with_items}
use Rattle.std.specs.List.{All}
use Rattle.std.proofs.lemmas.List.{same_lists, ext_get_or, get_or-drop, get_or-take, get_or_append_left}
use Rattle.std.proofs.lemmas.List.{get_or-append_right, length-take-le, length-take, length-drop}
use Rattle.std.proofs.lemmas.List.{length-append, length-map, get_or-map, with_items_is}
use Rattle.image_memory.specs.Ranges.{Ascends}
use Rattle.image_memory.specs.Contents.{piece_range, holding}
use Rattle.image_memory.specs.Access.{first_fault, byte_at, overlaid}
use Rattle.image_memory.specs.Access.{overlaid_piece, written, new_byte, access_fault}
use Rattle.image_memory.specs.declared.types.Access.{Access}
use Rattle.image_memory.specs.declared.types.Access.TheVariants.{Read, Write}
use Rattle.ks_base.specs.declared.refusals.Fault.TheVariants.{Unmapped}
use Rattle.image_memory.specs.declared.types.Piece.{Piece}
use Rattle.ks_base.specs.declared.refusals.Fault.{Fault}
use Rattle.image_memory.specs.laws.AccessLaws.{good_at, all_good, length-overlaid, get_or-overlaid, new_inside, new_outside}
use Rattle.image_memory.specs.laws.AccessLaws.{piece_apart}
use Rattle.image_memory.specs.laws.RangeLaws.{found_along}

-- the bytes before are good and this one is bad
pub fault_stops : (f : ℕ → Option Fault) (a m n : ℕ) (x : Fault) → first_fault f a m ≡ None → f (a + m) ≡ Some x → m < n
    → first_fault f a n ≡ Some x
unfolding first_fault
fault_stops f a m zero x good bad l = absurd (omega arith)
fault_stops f a m (suc n) x good bad l =
    elim (cases m n l) [
      | inl e ↦ rw (← e) (rw good bad)
      | inr k ↦ rw (fault_stops f a m n x good bad k) refl
    ]
  where
    cases : (k n : ℕ) → k < suc n → (k ≡ n) ⊎ (k < n)
    cases k n l = grind arith

-- the byte at an address of a piece, by the bytes from an earlier address of it on
pub byte_along : (floor : ℕ) (ps : List Piece) (at b : ℕ) (p : Piece) → Ascends piece_range floor ps
    → holding ps at ≡ Some p
    → p.base ≤ at → at ≤ b → b < (piece_range p).high → byte_at ps b ≡ get_or (drop (at - p.base) p.bytes) (b - at) 0
byte_along floor ps at b p up h low l m =
    let here = found_along piece_range floor ps at b p up h l m in
    let e : (at - p.base) + (b - at) ≡ b - p.base = omega arith in
    rw (here, get_or-drop (at - p.base) p.bytes (b - at) 0, e) refl

pub fault_more : (f : ℕ → Option Fault) (a m n : ℕ) → first_fault f a m ≡ None
    → ((k : ℕ) → m ≤ k → k < n → f (a + k) ≡ None) → first_fault f a n ≡ None
fault_more f a m n good more = all_good f a n (λ k l. elim (cases k m) [
  | inl below ↦ good_at f a m k good below
  | inr from ↦ more k from l
])
  where
    cases : (k m : ℕ) → (k < m) ⊎ (m ≤ k)
    cases k m = grind arith

pub access_none : (access : Access) → access_fault access None ≡ Some Unmapped
access_none Read = refl
access_none Write = refl

-- a list with a part replaced: what stands before the part, in it and after it
pub copied_below : (xs ys zs : List ℕ) (a k : ℕ) → a ≤ length xs → k < a
    → get_or (take a xs ++ (ys ++ zs)) k 0 ≡ get_or xs k 0
copied_below xs ys zs a k h l =
    let m : k < length (take a xs) = rw (length-take-le a xs h) l in
    get_or_append_left (take a xs) (ys ++ zs) 0 k m ∙ get_or-take a xs k 0 l

pub copied_from : (xs ys zs : List ℕ) (a k : ℕ) → a ≤ length xs → a ≤ k → k < a + length ys
    → get_or (take a xs ++ (ys ++ zs)) k 0 ≡ get_or ys (k - a) 0
copied_from xs ys zs a k h l m =
    get_or-append_right (take a xs) (ys ++ zs) a k 0 (length-take-le a xs h) l
    ∙ get_or_append_left ys zs 0 (k - a) (omega arith)

pub copied_past : (xs ys zs : List ℕ) (a k : ℕ) → a ≤ length xs → a + length ys ≤ k
    → get_or (take a xs ++ (ys ++ zs)) k 0 ≡ get_or zs (k - a - length ys) 0
copied_past xs ys zs a k h l =
    get_or-append_right (take a xs) (ys ++ zs) a k 0 (length-take-le a xs h) (omega arith)
    ∙ get_or-append_right ys zs (length ys) (k - a) 0 refl (omega arith)

pub earlier_or_later : (k m : ℕ) → (k < m) ⊎ (m ≤ k)
earlier_or_later k m = grind arith

-- what is replaced where two runs of bytes overlap
module _ (at start low high : ℕ) (target from : List ℕ) (low_is : low ≡ max at start)
    (high_is : high ≡ min (at + length target) (start + length from)) (meet : low < high) where
  part : List ℕ
  part = take (high - start - (low - start)) (drop (low - start) from)

  replaced : List ℕ
  replaced = take (low - at) target ++ (part ++ drop (high - at - (low - at)) (drop (low - at) target))

  length-part : length part ≡ high - low
  unfolding part
  length-part = simp (length-take, length-drop) (omega arith)

  length-replaced : length replaced ≡ length target
  unfolding replaced
  length-replaced = simp (length-append, length-take, length-drop, length-part) (omega arith)

  byte_in_part : (k : ℕ) → k < high - low → get_or part k 0 ≡ get_or from (low - start + k) 0
  unfolding part
  byte_in_part k l = get_or-take _ _ k 0 (omega arith) ∙ get_or-drop (low - start) from k 0

  byte_replaced : (k : ℕ) → k < length target → get_or replaced k 0 ≡ new_byte start from (at + k) (get_or target k 0)
  unfolding replaced
  byte_replaced k l =
      elim (earlier_or_later (at + k) low) [
        | inl before ↦
            copied_below target part _ (low - at) k (omega arith) (omega arith)
            ∙ sym (new_outside start from (at + k) (get_or target k 0) (inl (omega arith)))
        | inr from_low ↦ elim (earlier_or_later (at + k) high) [
          | inl within ↦
              let e : low - start + (k - (low - at)) ≡ at + k - start = omega arith in
              copied_from target part _ (low - at) k (omega arith) (omega arith) (omega (arith, length-part))
              ∙ (byte_in_part (k - (low - at)) (omega arith)
              ∙ (ap (λ i. get_or from i 0) e
              ∙ sym (new_inside start from (at + k) (get_or target k 0) (omega arith) (omega arith))))
          | inr past ↦
              let e : low - at + (high - at - (low - at) + (k - (low - at) - length part)) ≡ k =
              omega (arith, length-part) in
              copied_past target part _ (low - at) k (omega arith) (omega (arith, length-part))
              ∙ (get_or-drop (high - at - (low - at)) (drop (low - at) target) _ 0
              ∙ (get_or-drop (low - at) target _ 0
              ∙ (ap (λ i. get_or target i 0) e
              ∙ sym (new_outside start from (at + k) (get_or target k 0) (inr (omega arith))))))
        ]
      ]

  pub overlaid_where_met : take (low - at) target ++ (take (high - start - (low - start)) (drop (low - start) from)
      ++ drop (high - at - (low - at)) (drop (low - at) target)) ≡ overlaid start from at target
  unfolding replaced part
  overlaid_where_met = ext_get_or 0 replaced _ (length-replaced ∙ sym (length-overlaid start from at target)) (λ k l.
      let m : k < length target = rw length-replaced at l in
      byte_replaced k m ∙ sym (get_or-overlaid start from at target k m))

pub written_is : (ps qs : List Piece) (start : ℕ) (bytes : List ℕ) (i : ℕ) → length qs ≡ length ps
    → ((k : ℕ) (d : Piece) → k < i → get_or qs k d ≡ overlaid_piece start bytes (get_or ps k d))
    → ((k : ℕ) (d : Piece) → i ≤ k → get_or qs k d ≡ get_or ps k d)
    → ((k : ℕ) (d : Piece) → i ≤ k → k < length ps → start + length bytes ≤ (get_or ps k d).base)
    → qs ≡ written start bytes ps
written_is ps qs start bytes i same done rest later =
    same_lists qs (written start bytes ps) (same ∙ sym (length-map ps (overlaid_piece start bytes))) (λ k d l.
    let m : k < length ps = omega (arith, same) in
    elim (earlier_or_later k i) [
      | inl b ↦ done k d b ∙ sym (get_or-map (overlaid_piece start bytes) ps k d d m)
      | inr f ↦ rest k d f ∙ (sym (piece_apart start bytes (get_or ps k d) (inr (later k d f m)))
          ∙ sym (get_or-map (overlaid_piece start bytes) ps k d d m))
    ])

pub ends-written : (start : ℕ) (bytes : List ℕ) (limit : ℕ) (ps : List Piece)
    → All (λ p. (piece_range p).high ≤ limit) ps
    → All (λ p. (piece_range p).high ≤ limit) (written start bytes ps)
ends-written start bytes limit ps h k d l =
    let m : k < length ps = rw (length-map ps (overlaid_piece start bytes)) at l in
    rw (get_or-map (overlaid_piece start bytes) ps k d d m)
    (rw (length-overlaid start bytes (get_or ps k d).base (get_or ps k d).bytes) (h k d m))

pub length_copied : (xs ys : List ℕ) (a n : ℕ) → a ≤ length xs → n ≡ length xs - a → length ys ≡ n
    → length (take a xs ++ (ys ++ drop n (drop a xs))) ≡ length xs
length_copied xs ys a n h e l = simp (length-append, length-take, length-drop) (omega (arith, l))

-- the pieces that a vector keeps after they were written through a slice of it
pub kept_as : {Z : Type 0} (v : Vec Piece Z) (new seen : List Piece) (start : ℕ) (bytes : List ℕ)
    → length new ≡ length seen
    → new ≡ written start bytes seen → seen ≡ v.items → (with_items v new).items ≡ written start bytes v.items
kept_as v new seen start bytes same wrote is =
    with_items_is v new (same ∙ (ap length is ∙ sym v.ok.0)) ∙ (wrote ∙ ap (written start bytes) is)
