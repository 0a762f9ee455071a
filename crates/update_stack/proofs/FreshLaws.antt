-- What holds of a system in which nothing was replaced.
use Rattle.std.proofs.Common.{◌≡◌, ℕ, suc, ◌%◌, ◌<◌, ◌≤◌, Bool, true, false, ◌&&◌, ◌||◌, nat_lt, min, max, cond}
use Rattle.std.proofs.Common.{List, [], ◌∷◌, ◌++◌, map, length, get_or, refl, ◌∙◌, ap, arith, IsTrue}
use Rattle.std.specs.List.{All, Any, fold, flat_map, list_any}
use Rattle.std.proofs.lemmas.Bool.Decides.{nat_tests}
use Rattle.std.proofs.lemmas.List.Elements.{All-head, All-contains}
use Rattle.std.proofs.lemmas.List.Folds.{Any-from_list_any}
use Rattle.ks_base.specs.declared.places.Range.{Range}
use Rattle.image_memory.specs.declared.types.Piece.{Piece}
use Rattle.image_memory.specs.Ranges.{are_same, meets, MeetsNone, from_to}
use Rattle.image_memory.specs.Contents.{Contents, piece_range}
use Rattle.ia32_step.specs.declared.types.Thread.{Thread}
use Rattle.image_threads.specs.Program.{IsStackRange, WellPlaced}
use Rattle.image_threads.specs.Spawning.{is_writable, is_stack, AreStacks}
use Rattle.link_post.specs.Places.{unless_empty, cut, without}
use Rattle.stack_scan.specs.Standing.{LiesInWritable, HasStack}
use Rattle.image_threads.specs.laws.StackLaws.{same_ends, writable_kind}
use Rattle.update_plan.specs.Sound.{AreGaps}
use Rattle.update_stack.specs.declared.updates.Update.{Update as Shown}
use Rattle.update_stack.specs.declared.updates.Kept.{Kept}
use Rattle.update_stack.specs.Systems.{live_updates, gaps_in}

-- as many updates are live as are shown
pub live_length : (updates : List Shown) (kept : List Kept) → length kept ≡ length updates
    → length (live_updates updates kept) ≡ length updates
live_length [] kept paired = refl
live_length (update ∷ updates) [] paired = absurd (omega (arith, paired))
live_length (update ∷ updates) (one ∷ kept) paired =
    ap suc (live_length updates kept (omega (arith, paired)))

pub none_shown : (updates : List Shown) (kept : List Kept) → length kept ≡ length updates
    → live_updates updates kept ≡ [] → updates ≡ []
none_shown [] kept paired none = refl
none_shown (update ∷ updates) [] paired none = absurd (omega (arith, paired))
none_shown (update ∷ updates) (one ∷ kept) paired none = cc

pub none_kept : (updates : List Shown) (kept : List Kept) → length kept ≡ length updates
    → live_updates updates kept ≡ [] → kept ≡ []
none_kept [] [] paired none = refl
none_kept [] (one ∷ kept) paired none = absurd (omega (arith, paired))
none_kept (update ∷ updates) [] paired none = absurd (omega (arith, paired))
none_kept (update ∷ updates) (one ∷ kept) paired none = cc

-- what lies apart cuts nothing off
or_left : (a b : Bool) → (a || b) ≡ false → a ≡ false
or_left true b h = h
or_left false b h = refl

or_right : (a b : Bool) → (a || b) ≡ false → b ≡ false
or_right true b h = absurd (cc)
or_right false b h = h

range_is : (a b : Range) → a.low ≡ b.low → a.high ≡ b.high → a ≡ b
range_is a b low high = λ i. record { low = low i; high = high i }

full_range : (range : Range) → range.low < range.high → unless_empty range ≡ range ∷ []
full_range range full =
    let test : nat_lt range.low range.high ≡ true = grind (arith, nat_tests) in rw test refl

no_range : (range : Range) → range.high ≤ range.low → unless_empty range ≡ []
no_range range none =
    let test : nat_lt range.low range.high ≡ false = grind (arith, nat_tests) in rw test refl

cut_below : (taken range : Range) → range.low < range.high → taken.high ≤ range.low → taken.low < taken.high
    → cut taken range ≡ range ∷ []
cut_below taken range full apart some =
    let low = from_to range.low (min range.high taken.low) in
    let high = from_to (max range.low taken.high) range.high in
    ap (λ (rs : List Range). rs ++ unless_empty high) (no_range low (grind (arith, nat_tests)))
    ∙ full_range high (grind (arith, nat_tests))
    ∙ ap (λ (r : Range). r ∷ []) (range_is high range (grind (arith, nat_tests)) refl)

cut_above : (taken range : Range) → range.low < range.high → range.high ≤ taken.low → taken.low < taken.high
    → cut taken range ≡ range ∷ []
cut_above taken range full apart some =
    let low = from_to range.low (min range.high taken.low) in
    let high = from_to (max range.low taken.high) range.high in
    ap (λ (rs : List Range). rs ++ unless_empty high) (full_range low (grind (arith, nat_tests)))
    ∙ ap (λ (rs : List Range). low ∷ rs) (no_range high (grind (arith, nat_tests)))
    ∙ ap (λ (r : Range). r ∷ []) (range_is low range refl (grind (arith, nat_tests)))

apart_is : (range taken : Range) → meets range taken ≡ false → range.low < range.high → taken.low < taken.high
    → nat_lt range.low taken.high ≡ true → range.high ≤ taken.low
apart_is range taken apart full some test = grind (arith, nat_tests)

cut_apart : (taken range : Range) → meets range taken ≡ false → range.low < range.high → taken.low < taken.high
    → cut taken range ≡ range ∷ []
cut_apart taken range apart full some = by_side (nat_lt range.low taken.high) refl
  where
    by_side : (b : Bool) → nat_lt range.low taken.high ≡ b → cut taken range ≡ range ∷ []
    by_side true e = cut_above taken range full (apart_is range taken apart full some e) some
    by_side false e = cut_below taken range full (grind (arith, nat_tests)) some

without_apart : (taken range : Range) → meets range taken ≡ false → range.low < range.high
    → without (range ∷ []) taken ≡ range ∷ []
without_apart taken range apart full = by_taken (nat_lt taken.low taken.high) refl
  where
    by_taken : (b : Bool) → nat_lt taken.low taken.high ≡ b
        → cond b (flat_map (cut taken) (range ∷ [])) (range ∷ []) ≡ range ∷ []
    by_taken true e =
        ap (λ (rs : List Range). rs ++ []) (cut_apart taken range apart full (grind (arith, nat_tests)))
    by_taken false e = refl

pub free_range : (range : Range) (pieces : List Piece) → MeetsNone piece_range range pieces
    → range.low < range.high → fold without (range ∷ []) (map piece_range pieces) ≡ range ∷ []
free_range range [] apart full = refl
free_range range (piece ∷ pieces) apart full =
    ap (λ (free : List Range). fold without free (map piece_range pieces))
    (without_apart (piece_range piece) range
    (or_left (meets range (piece_range piece)) (list_any (λ p. meets range (piece_range p)) pieces) apart) full)
    ∙ free_range range pieces
    (or_right (meets range (piece_range piece)) (list_any (λ p. meets range (piece_range p)) pieces) apart) full

without_none : (taken : Range) → without [] taken ≡ []
without_none taken = by_taken (nat_lt taken.low taken.high)
  where
    by_taken : (b : Bool) → cond b (flat_map (cut taken) []) [] ≡ []
    by_taken true = refl
    by_taken false = refl

no_gap : (pieces : List Piece) → fold without [] (map piece_range pieces) ≡ []
no_gap [] = refl
no_gap (piece ∷ pieces) =
    ap (λ (free : List Range). fold without free (map piece_range pieces)) (without_none (piece_range piece))
    ∙ no_gap pieces

pub arena_free : (contents : Contents) (arena : Range) → AreGaps contents (gaps_in arena)
    → fold without (gaps_in arena) (map piece_range contents.pieces) ≡ gaps_in arena
arena_free contents arena gaps = by_size (nat_lt arena.low arena.high) refl gaps
  where
    by_size : (b : Bool) → nat_lt arena.low arena.high ≡ b
        → AreGaps contents (cond b (arena ∷ []) [])
        → fold without (cond b (arena ∷ []) []) (map piece_range contents.pieces) ≡ cond b (arena ∷ []) []
    by_size true e is =
        free_range arena contents.pieces
        (All-head (λ gap. MeetsNone piece_range gap contents.pieces) arena [] is.free) (grind (arith, nat_tests))
    by_size false e is = no_gap contents.pieces

-- a stack is one writable piece, so it can be looked at
stack_held : (pieces : List Piece) (stack : Range) → is_stack pieces stack ≡ true
    → Any (LiesInWritable stack) pieces
stack_held pieces stack is =
    let found = Any-from_list_any (λ piece. is_writable piece.kind && are_same (piece_range piece) stack) pieces is in
    weaker found
  where
    lies : (piece : Piece) → (is_writable piece.kind && are_same (piece_range piece) stack) ≡ true
        → LiesInWritable stack piece
    lies piece passes =
        let ends = same_ends (is_writable piece.kind) piece.base stack.low (piece_range piece).high stack.high passes in
        record {
          kind = writable_kind piece.kind ends.0;
          low = omega (arith, ends.1);
          high = omega (arith, ends.2);
        }

    weaker : Any (λ piece. (is_writable piece.kind && are_same (piece_range piece) stack) ≡ true) pieces
        → Any (LiesInWritable stack) pieces
    weaker (k, piece, less, at, passes) = (k, piece, less, at, lies piece passes)

multiple_of_four : (n : ℕ) → n % 16 ≡ 0 → n % 4 ≡ 0
multiple_of_four n is = omega (arith, is)

pub all_have_stacks : (pieces : List Piece) (stacks : List Range) (threads : List Thread) → AreStacks pieces stacks
    → WellPlaced stacks threads → All (HasStack pieces) threads
all_have_stacks pieces stacks threads are placed i d l runs =
    let stack = (get_or threads i d).stack in
    let listed = placed.listed i d l in
    let bounds = All-contains IsStackRange stacks stack placed.bounds listed in
    record {
      low = multiple_of_four stack.low bounds.low;
      high = multiple_of_four stack.high bounds.high;
      held =
          stack_held pieces stack
          (All-contains (λ range. IsTrue (is_stack pieces range)) stacks stack are listed);
    }
