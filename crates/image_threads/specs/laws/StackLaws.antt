-- Laws of the stacks of threads, for the crates above: a stack can be written, a thread begins with as many bytes as
-- its stack has, and a stack that is free is one of the stacks.
use Rattle.std.proofs.Common.{◌≡◌, ℕ, suc, ◌+◌, ◌≤◌, ◌<◌, Bool, true, false, ◌&&◌, ◌||◌, ◌==◌, cond, List, []}
use Rattle.std.proofs.Common.{◌∷◌, length, not, Contains, IfSome, Option, Some, None, refl, ap, arith}
use Rattle.std.specs.Option.{option_map}
use Rattle.std.specs.List.{find}
use Rattle.std.proofs.lemmas.Bool.Decides.{nat_tests}
use Rattle.std.proofs.lemmas.List.{length-append, length-replicate}
use Rattle.std.proofs.lemmas.Option.{IfSome_then}
use Rattle.ks_base.specs.declared.places.Range.{Range}
use Rattle.image_memory.specs.declared.types.Kind.{Kind}
use Rattle.image_memory.specs.declared.types.Kind.TheVariants.{Code, ReadOnly, Writable}
use Rattle.image_memory.specs.declared.types.Piece.{Piece}
use Rattle.image_memory.specs.Ranges.{lies_in, Ascends, are_same}
use Rattle.image_memory.specs.Contents.{Contents, IsValid, piece_range, holding}
use Rattle.image_memory.specs.Access.{kind_of, first_fault, write_fault, unwritable}
use Rattle.image_memory.specs.laws.AccessLaws.{all_good}
use Rattle.ia32_step.specs.declared.types.Thread.{Thread}
use Rattle.image_threads.specs.Spawning.{is_writable, is_stack, is_taken, free_stack, first_bytes}

pub same_ends : (w : Bool) (a b c d : ℕ) → (w && ((a == b) && (c == d))) ≡ true → (w ≡ true) × (a ≡ b) × (c ≡ d)
same_ends true a b c d h = grind (arith, nat_tests)
same_ends false a b c d h = cc

pub writable_kind : (kind : Kind) → is_writable kind ≡ true → kind ≡ Writable
writable_kind Code h = cc
writable_kind ReadOnly h = cc
writable_kind Writable h = refl

-- a stack among pieces begins where they begin, or above
begins_above : (floor : ℕ) (pieces : List Piece) (stack : Range)
    → Ascends piece_range floor pieces → is_stack pieces stack ≡ true → floor ≤ stack.low
begins_above floor [] stack up h = cc
begins_above floor (p ∷ ps) stack up h =
    elim (is_writable p.kind && are_same (piece_range p) stack)
    as (λ b. (b || is_stack ps stack) ≡ true
    → (is_writable p.kind && are_same (piece_range p) stack) ≡ b → floor ≤ stack.low) [
      | true ↦ λ _ here.
          let s = same_ends (is_writable p.kind) p.base stack.low (p.base + length p.bytes) stack.high here in
          let low = up.0 in
          omega arith
      | false ↦ λ later _.
          let rest = begins_above (piece_range p).high ps stack up.2 later in
          let low = up.0 in
          let full = up.1 in
          omega arith
    ] h refl

-- each byte of a stack is in a writable piece
stack_holds : (floor : ℕ) (pieces : List Piece) (stack : Range) (a : ℕ)
    → Ascends piece_range floor pieces → is_stack pieces stack ≡ true
    → stack.low ≤ a → a < stack.high → option_map kind_of (holding pieces a) ≡ Some Writable
stack_holds floor [] stack a up h low high = cc
stack_holds floor (p ∷ ps) stack a up h low high =
    elim (is_writable p.kind && are_same (piece_range p) stack)
    as (λ b. (b || is_stack ps stack) ≡ true → (is_writable p.kind && are_same (piece_range p) stack) ≡ b
    → option_map kind_of (holding (p ∷ ps) a) ≡ Some Writable) [
      | true ↦ λ _ here.
          let s = same_ends (is_writable p.kind) p.base stack.low (p.base + length p.bytes) stack.high here in
          let there : lies_in a (piece_range p) ≡ true = grind (arith, nat_tests) in
          rw there (ap Some (writable_kind p.kind s.0))
      | false ↦ λ later _.
          let rest = begins_above (piece_range p).high ps stack up.2 later in
          let elsewhere : lies_in a (piece_range p) ≡ false = grind (arith, nat_tests) in
          rw elsewhere (stack_holds (piece_range p).high ps stack a up.2 later low high)
    ] h refl

-- the bytes of a stack can be written
pub stack_written : (contents : Contents) (stack : Range) (n : ℕ)
    → IsValid contents → is_stack contents.pieces stack ≡ true
    → stack.low + n ≡ stack.high → first_fault (write_fault contents.pieces) stack.low n ≡ None
stack_written contents stack n valid h whole =
    all_good (write_fault contents.pieces) stack.low n (λ k l.
    ap unwritable
    (stack_holds 0 contents.pieces stack (stack.low + k) valid.placed.ascend h (omega arith) (omega arith)))

-- the bytes with which a thread begins are as many as its stack has
pub length-first_bytes : (stack : Range) (argument : ℕ)
    → stack.low + 20 ≤ stack.high → stack.low + length (first_bytes stack argument) ≡ stack.high
length-first_bytes stack argument h = simp (length-append, length-replicate) (omega arith)

-- what is found is one of the list
pub found_in : {X : Type 0} (p : X → Bool) (xs : List X) → IfSome (find p xs) (Contains xs)
found_in p [] = tt
found_in p (x ∷ xs) =
    elim (p x) as (λ b. IfSome (cond b (Some x) (find p xs)) (Contains (x ∷ xs))) [
      | true ↦ (0, omega arith, refl)
      | false ↦ IfSome_then (find p xs) {P = Contains xs} {Q = Contains (x ∷ xs)}
          (found_in p xs) (λ y there. let low = there.1 in (suc there.0, omega arith, there.2))
    ]

-- a free stack that is found is one of the stacks
pub stack_listed : (stacks : List Range) (threads : List Thread) (found : Option Range)
    → found ≡ free_stack stacks threads → IfSome found (Contains stacks)
stack_listed stacks threads found e = rw e (found_in (λ stack. not (is_taken threads stack)) stacks)
