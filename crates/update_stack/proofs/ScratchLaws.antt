-- The scratch piece among the pieces of a memory.
use Rattle.std.proofs.Common.{◌≡◌, ℕ, ◌<◌, ◌≤◌, ◌==◌, ◌&&◌, ◌||◌, Bool, true, false, not, cond, List, [], ◌∷◌, map}
use Rattle.std.proofs.Common.{IfSome, Option, Some, None, ◌⊎◌, inl, inr, refl, ap, subst, arith}
use Rattle.std.specs.List.{filter}
use Rattle.std.proofs.lemmas.Bool.Decides.{nat_tests}
use Rattle.ks_base.specs.declared.places.Range.{Range}
use Rattle.image_memory.specs.declared.types.Piece.{Piece}
use Rattle.image_memory.specs.Ranges.{Ascends, are_same}
use Rattle.image_memory.specs.Contents.{piece_range}
use Rattle.image_threads.specs.Spawning.{is_writable, is_stack}
use Rattle.update_memory.specs.Withdrawn.{is_based_at, without_pieces}
use Rattle.update_stack.specs.Scratch.{IsScratch, is_among}

-- it stays where writable pieces do
pub scratch_stays : (o : Option Range) (pieces after : List Piece) (stacks : List Range)
    → ((range : Range) → is_stack pieces range ≡ true → is_stack after range ≡ true)
    → IfSome o (IsScratch pieces stacks) → IfSome o (IsScratch after stacks)
scratch_stays None pieces after stacks stay is = tt
scratch_stays (Some range) pieces after stacks stay is =
    record { piece = stay range is.piece; apart = is.apart }

-- ranges that are the same
pub same_ends : (a b : Range) → are_same a b ≡ true → a ≡ b
same_ends a b same = ends (a.low == b.low) (a.high == b.high) refl refl same
  where
    is : a.low ≡ b.low → a.high ≡ b.high → a ≡ b
    is low high = λ i. record { low = low i; high = high i }

    low_is : (a.low == b.low) ≡ true → a.low ≡ b.low
    low_is test = grind (arith, nat_tests)

    high_is : (a.high == b.high) ≡ true → a.high ≡ b.high
    high_is test = grind (arith, nat_tests)

    ends : (c d : Bool) → (a.low == b.low) ≡ c → (a.high == b.high) ≡ d → (c && d) ≡ true → a ≡ b
    ends true true low high both = is (low_is low) (high_is high)
    ends true false low high both = absurd (cc)
    ends false d low high both = absurd (cc)

-- a piece that is left when those of some bases are taken away begins at none of these
pub based_apart : (bases : List ℕ) (pieces : List Piece) (range : Range)
    → is_stack (without_pieces bases pieces) range ≡ true → is_among bases range.low ≡ false
based_apart bases [] range is = absurd (cc)
based_apart bases (p ∷ ps) range is = by_base (is_based_at bases p) refl is (based_apart bases ps range)
  where
    Later : Type 0
    Later = is_stack (without_pieces bases ps) range ≡ true → is_among bases range.low ≡ false

    by_kind : (w s : Bool) → are_same (piece_range p) range ≡ s → is_based_at bases p ≡ false
        → ((w && s) || is_stack (without_pieces bases ps) range) ≡ true → Later → is_among bases range.low ≡ false
    by_kind true true same none is later =
        subst (λ (b : ℕ). is_among bases b ≡ false) (ap (λ (r : Range). r.low) (same_ends (piece_range p) range same))
        none
    by_kind true false same none is later = later is
    by_kind false s same none is later = later is

    by_base : (b : Bool) → is_based_at bases p ≡ b
        → is_stack (cond (not b) (p ∷ without_pieces bases ps) (without_pieces bases ps)) range ≡ true
        → Later → is_among bases range.low ≡ false
    by_base true own is later = later is
    by_base false none is later =
        by_kind (is_writable p.kind) (are_same (piece_range p) range) refl none is later

-- ---- it alone begins where it does
abbrev begin_at : ℕ → List Piece → List Piece
begin_at base pieces = filter (is_based_at (base ∷ [])) pieces

other_base : (base : ℕ) (p : Piece) → base < p.base → is_based_at (base ∷ []) p ≡ false
other_base base p less =
    let differs : (base == p.base) ≡ false = grind (arith, nat_tests) in rw differs refl

none_begin : (base floor : ℕ) (pieces : List Piece) → base < floor → Ascends piece_range floor pieces
    → begin_at base pieces ≡ []
none_begin base floor [] less up = refl
none_begin base floor (p ∷ ps) less up =
    let low = up.0 in
    let full = up.1 in
    rw (other_base base p (omega arith)) (none_begin base (piece_range p).high ps (omega arith) up.2)

-- whether it is the first of some pieces or a later one
first_or_later : (p : Piece) (ps : List Piece) (range : Range) → is_stack (p ∷ ps) range ≡ true
    → (piece_range p ≡ range) ⊎ (is_stack ps range ≡ true)
first_or_later p ps range is = by_head (is_writable p.kind) (are_same (piece_range p) range) refl is
  where
    by_head : (w s : Bool) → are_same (piece_range p) range ≡ s → ((w && s) || is_stack ps range) ≡ true
        → (piece_range p ≡ range) ⊎ (is_stack ps range ≡ true)
    by_head true true same is = inl (same_ends (piece_range p) range same)
    by_head true false same is = inr is
    by_head false s same is = inr is

above_floor : (range : Range) (floor : ℕ) (pieces : List Piece) → Ascends piece_range floor pieces
    → is_stack pieces range ≡ true → floor ≤ range.low
above_floor range floor [] up is = absurd (cc)
above_floor range floor (p ∷ ps) up is =
    let low = up.0 in
    let full = up.1 in
    elim (first_or_later p ps range is) [
      | inl same ↦
          let at : p.base ≡ range.low = ap (λ (r : Range). r.low) same in
          omega (arith, at)
      | inr later ↦
          let above = above_floor range (piece_range p).high ps up.2 later in
          omega arith
    ]

pub scratch_alone : (range : Range) (floor : ℕ) (pieces : List Piece) → Ascends piece_range floor pieces
    → is_stack pieces range ≡ true → map piece_range (begin_at range.low pieces) ≡ range ∷ []
scratch_alone range floor [] up is = absurd (cc)
scratch_alone range floor (p ∷ ps) up is =
    let low = up.0 in
    let full = up.1 in
    elim (first_or_later p ps range is) [
      | inl same ↦
          let at : p.base ≡ range.low = ap (λ (r : Range). r.low) same in
          let equal : (range.low == p.base) ≡ true = grind (arith, nat_tests) in
          let rest = none_begin range.low (piece_range p).high ps (omega (arith, at)) up.2 in
          rw (equal, rest) (ap (λ (r : Range). r ∷ []) same)
      | inr later ↦
          let above = above_floor range (piece_range p).high ps up.2 later in
          let rest = scratch_alone range (piece_range p).high ps up.2 later in
          let differs : (range.low == p.base) ≡ false = grind (arith, nat_tests) in
          rw differs rest
    ]
