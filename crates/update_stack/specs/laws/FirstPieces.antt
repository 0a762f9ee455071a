-- The pieces of memory at the start of a program: the regions of its image, and its stacks put among them.
use Rattle.std.specs.Prelude.{◌≡◌, ℕ, ◌+◌, ◌-◌, ◌≤◌, ◌&&◌, ◌||◌, nat_lt, Bool, true, false, if◌then◌else◌, IsTrue}
use Rattle.std.specs.Prelude.{List, [], ◌∷◌, length, replicate}
use Rattle.std.proofs.Common.{refl, sym, ◌∙◌, ap, subst, arith}
use Rattle.std.specs.List.{list_any, All}
use Rattle.std.proofs.lemmas.Bool.Decides.{nat_tests}
use Rattle.std.proofs.lemmas.List.{length-replicate}
use Rattle.std.proofs.lemmas.List.Elements.{All-nil, All-cons, All-head, All-tail, All-weaker}
use Rattle.ks_base.specs.declared.places.Range.{Range}
use Rattle.image_memory.specs.declared.types.Piece.{Piece}
use Rattle.image_memory.specs.Ranges.{Ascends, MeetsNone, meets, are_same}
use Rattle.image_memory.specs.Changes.{IsPlaceable, with_piece}
use Rattle.image_memory.specs.Contents.{ArePlaced, piece_range}
use Rattle.image_file.specs.Rules.{own_range}
use Rattle.image_threads.specs.Spawning.{is_stack, AreStacks, is_writable}
use Rattle.update_stack.specs.AbstractMachine.{stack_piece, all_pieces}

-- a range isn't empty, doesn't end above 0xFFFF0000 and meets none of some pieces
pub record FitsAmong (pieces : List Piece) (range : Range) : Type 0 where
  pub placeable : IsPlaceable range
  pub alone : MeetsNone piece_range range pieces

-- ranges ascend and don't meet, and each fits among some pieces
pub record FitAmong (pieces : List Piece) (ranges : List Range) : Type 0 where
  pub ascend : Ascends own_range 0 ranges
  pub each : All (FitsAmong pieces) ranges

-- a stack has its own addresses
stack_range : (stack : Range) → stack.low ≤ stack.high → piece_range (stack_piece stack) ≡ stack
stack_range stack low =
    let high : stack.low + length (replicate (stack.high - stack.low) 0) ≡ stack.high =
    simp length-replicate (omega arith) in
    ap (λ (h : ℕ). let r : Range = record { low = stack.low; high = h } in r) high

-- stacks that ascend lie above what lies below the first
stacks_above : (least floor : ℕ) (stacks : List Range) → least ≤ floor → Ascends own_range floor stacks
    → All (λ stack. (least ≤ stack.low) × (stack.low ≤ stack.high)) stacks
stacks_above least floor [] le up = All-nil (λ (stack : Range). (least ≤ stack.low) × (stack.low ≤ stack.high))
stacks_above least floor (s ∷ ss) le up =
    let low = up.0 in
    let full = up.1 in
    All-cons (λ (stack : Range). (least ≤ stack.low) × (stack.low ≤ stack.high)) s ss
    (omega arith, omega arith) (stacks_above least s.high ss (omega arith) up.2)

swapped : (a b c : Bool) → (a || (b || c)) ≡ (b || (a || c))
swapped true true c = refl
swapped true false c = refl
swapped false true c = refl
swapped false false c = refl

-- of a piece put among pieces and of those one passes a test, or none
any_with : (p : Piece → Bool) (piece : Piece) (pieces : List Piece)
    → list_any p (with_piece piece pieces) ≡ (p piece || list_any p pieces)
any_with p piece [] = refl
any_with p piece (other ∷ others) =
    elim (nat_lt piece.base other.base)
    as (λ b. list_any p (if b then piece ∷ other ∷ others else other ∷ with_piece piece others)
    ≡ (p piece || (p other || list_any p others))) [
      | true ↦ refl
      | false ↦
          ap (λ (b : Bool). p other || b) (any_with p piece others)
          ∙ swapped (p other) (p piece) (list_any p others)
    ]

meets_not : (a b : Range) → a.high ≤ b.low → meets a b ≡ false
meets_not a b h = grind (arith, nat_tests)

-- a range meets no stack, which is one
abbrev pub PassesBy : Range → Range → Type 0
PassesBy range stack = (meets range stack ≡ false) × (stack.low ≤ stack.high)

-- what meets no region and no stack meets none of all
pub alone_among : (range : Range) (regions : List Piece) (stacks : List Range) → MeetsNone piece_range range regions
    → All (PassesBy range) stacks → MeetsNone piece_range range (all_pieces regions stacks)
unfolding all_pieces
alone_among range regions [] alone apart = alone
alone_among range regions (s ∷ ss) alone apart =
    let here = All-head (PassesBy range) s ss apart in
    any_with (λ piece. meets range (piece_range piece)) (stack_piece s) (all_pieces regions ss)
    ∙ ap (λ (b : Bool). b || list_any (λ piece. meets range (piece_range piece)) (all_pieces regions ss))
    (ap (meets range) (stack_range s here.1) ∙ here.0)
    ∙ alone_among range regions ss alone (All-tail (PassesBy range) s ss apart)

-- what meets no region and lies below stacks meets none of all
all_alone : (range : Range) (regions : List Piece) (stacks : List Range) → MeetsNone piece_range range regions
    → All (λ stack. (range.high ≤ stack.low) × (stack.low ≤ stack.high)) stacks
    → MeetsNone piece_range range (all_pieces regions stacks)
all_alone range regions stacks alone above =
    let P : Range → Type 0 = λ stack. (range.high ≤ stack.low) × (stack.low ≤ stack.high) in
    alone_among range regions stacks alone
    (All-weaker P (PassesBy range) (λ stack h. (meets_not range stack h.0, h.1)) stacks above)

-- the law of pieces
abbrev pub StayPlaced : Type 0
StayPlaced = (piece : Piece) (pieces : List Piece) → ArePlaced pieces → IsPlaceable (piece_range piece)
    → MeetsNone piece_range (piece_range piece) pieces → ArePlaced (with_piece piece pieces)

-- regions and stacks that fit among them ascend and don't meet
placed_from : StayPlaced → (floor : ℕ) (regions : List Piece) (stacks : List Range) → ArePlaced regions
    → Ascends own_range floor stacks → All (FitsAmong regions) stacks → ArePlaced (all_pieces regions stacks)
unfolding all_pieces
placed_from law floor regions [] placed up fit = placed
placed_from law floor regions (s ∷ ss) placed up fit =
    let k = All-head (FitsAmong regions) s ss fit in
    let rest = placed_from law s.high regions ss placed up.2 (All-tail (FitsAmong regions) s ss fit) in
    let full = up.1 in
    let own = stack_range s (omega arith) in
    law (stack_piece s) (all_pieces regions ss) rest
    (subst IsPlaceable (sym own) k.placeable)
    (subst (λ (r : Range). MeetsNone piece_range r (all_pieces regions ss)) (sym own)
    (all_alone s regions ss k.alone (stacks_above s.high s.high ss (omega arith) up.2)))

pub placed_with_stacks : StayPlaced → (regions : List Piece) (stacks : List Range) → ArePlaced regions
    → FitAmong regions stacks → ArePlaced (all_pieces regions stacks)
placed_with_stacks law regions stacks placed fit = placed_from law 0 regions stacks placed fit.ascend fit.each

or_true : (a : Bool) → (a || true) ≡ true
or_true true = refl
or_true false = refl

abbrev is_this : Range → Piece → Bool
is_this range piece = is_writable piece.kind && are_same (piece_range piece) range

same_range : (range : Range) → are_same range range ≡ true
same_range range = grind (arith, nat_tests)

own_stack : (stack : Range) → stack.low ≤ stack.high → is_this stack (stack_piece stack) ≡ true
own_stack stack low = ap (λ (range : Range). are_same range stack) (stack_range stack low) ∙ same_range stack

-- each stack is among the pieces
pub stacks_there : (regions : List Piece) (stacks : List Range) → All (FitsAmong regions) stacks
    → AreStacks (all_pieces regions stacks) stacks
unfolding all_pieces
stacks_there regions [] kept = All-nil (λ (range : Range). IsTrue (is_stack (all_pieces regions []) range))
stacks_there regions (s ∷ ss) kept =
    let k = All-head (FitsAmong regions) s ss kept in
    let tall = k.placeable.0 in
    let pieces = all_pieces regions ss in
    All-cons (λ (range : Range). IsTrue (is_stack (with_piece (stack_piece s) pieces) range)) s ss
    (any_with (is_this s) (stack_piece s) pieces
    ∙ ap (λ (b : Bool). b || list_any (is_this s) pieces) (own_stack s (omega arith)))
    (All-weaker (λ (range : Range). IsTrue (is_stack pieces range))
    (λ (range : Range). IsTrue (is_stack (with_piece (stack_piece s) pieces) range))
    (λ range there.
    any_with (is_this range) (stack_piece s) pieces
    ∙ ap (λ (b : Bool). is_this range (stack_piece s) || b) there
    ∙ or_true (is_this range (stack_piece s)))
    ss (stacks_there regions ss (All-tail (FitsAmong regions) s ss kept)))
