-- What is free of the arena is what the ranges leave that are kept of live updates.
use Rattle.std.proofs.Common.{◌≡◌, ℕ, Bool, true, false, cond, not, List, [], ◌∷◌, ◌++◌, map}
use Rattle.std.proofs.Common.{IfSome, Option, Some, None, sym, ◌∙◌, ap}
use Rattle.std.specs.List.{fold, filter, flat_map}
use Rattle.std.specs.List.Sorted.{IsPermutation}
use Rattle.std.proofs.lemmas.List.{map-append, append-nil, append_assoc}
use Rattle.std.proofs.lemmas.List.Sorted.{IsPermutation-refl, IsPermutation-sym, IsPermutation-trans}
use Rattle.std.proofs.lemmas.List.Sorted.{IsPermutation-cons, IsPermutation-middle, IsPermutation-map}
use Rattle.ks_base.specs.declared.places.Range.{Range}
use Rattle.image_memory.specs.declared.types.Piece.{Piece}
use Rattle.image_memory.specs.Ranges.{Ascends}
use Rattle.image_memory.specs.Contents.{piece_range}
use Rattle.link_post.specs.Places.{unless_empty, without}
use Rattle.update_memory.specs.Withdrawn.{is_based_at, without_pieces}
use Rattle.update_stack.specs.declared.updates.Kept.{Kept}
use Rattle.update_stack.specs.AbstractMachine.{AbstractMachine}
use Rattle.update_stack.specs.Apply.{gaps_of}
use Rattle.update_stack.specs.Undo.{withdrawn, ranges_in}
use Rattle.update_stack.specs.Scratch.{IsScratch, pieces_but, scratch_ranges}
use Rattle.update_stack.specs.Systems.{arena_of, gaps_in, gaps_left}
use Rattle.update_stack.specs.Stacked.{IsBuilt, AreKept, NoneKept, OneKept}
use Rattle.update_stack.specs.laws.StackedLaws.{built_newest, built_sound}
use Rattle.update_stack.proofs.ScratchLaws.{scratch_alone}
use Rattle.update_stack.proofs.LastLaws.{fold_more, flat_more}

-- a law of another crate: the order has no say in which ranges are taken
abbrev pub OrderOfTaken : Type 0
OrderOfTaken = (free a b : List Range) → IsPermutation a b → fold without free a ≡ fold without free b

-- items of which a test holds, behind the others
parted : {X : Type 0} (p : X → Bool) (xs : List X)
    → IsPermutation xs (filter (λ x. not (p x)) xs ++ filter p xs)
parted p [] = IsPermutation-refl []
parted {X} p (x ∷ xs) = by_test (p x) (parted p xs)
  where
    by_test : (b : Bool) → IsPermutation xs (filter (λ y. not (p y)) xs ++ filter p xs)
        → IsPermutation (x ∷ xs)
        (cond (not b) (x ∷ filter (λ y. not (p y)) xs) (filter (λ y. not (p y)) xs)
        ++ cond b (x ∷ filter p xs) (filter p xs))
    by_test true rest =
        let others = filter (λ y. not (p y)) xs in
        let chosen = filter p xs in
        IsPermutation-trans (x ∷ xs) (x ∷ (others ++ chosen)) (others ++ x ∷ chosen)
        (IsPermutation-cons x xs (others ++ chosen) rest)
        (IsPermutation-sym (others ++ x ∷ chosen) (x ∷ (others ++ chosen)) (IsPermutation-middle others x chosen))
    by_test false rest = IsPermutation-cons x xs (filter (λ y. not (p y)) xs ++ filter p xs) rest

-- what pieces leave is what those of some bases leave of what the others leave
parts_leave : OrderOfTaken → (free : List Range) (bases : List ℕ) (pieces : List Piece)
    → fold without (fold without free (map piece_range (without_pieces bases pieces)))
    (map piece_range (filter (is_based_at bases) pieces))
    ≡ fold without free (map piece_range pieces)
parts_leave order free bases pieces =
    let others = without_pieces bases pieces in
    let own = filter (is_based_at bases) pieces in
    sym (fold_more without free (map piece_range others) (map piece_range own))
    ∙ ap (fold without free) (sym (map-append piece_range others own))
    ∙ sym (order free (map piece_range pieces) (map piece_range (others ++ own))
    (IsPermutation-map piece_range pieces (others ++ own) (parted (is_based_at bases) pieces)))

-- what pieces leave of free ranges is what the scratch piece leaves of that which the others leave
scratch_leaves : OrderOfTaken → (free : List Range) (pieces : List Piece) (stacks : List Range) (o : Option Range)
    → Ascends piece_range 0 pieces → IfSome o (IsScratch pieces stacks)
    → fold without free (map piece_range (pieces_but o pieces)) ≡ free
    → fold without free (scratch_ranges o) ≡ fold without free (map piece_range pieces)
scratch_leaves order free pieces stacks None up is others = sym others
scratch_leaves order free pieces stacks (Some range) up is others =
    ap (fold without free) (sym (scratch_alone range 0 pieces up is.piece))
    ∙ ap (λ (left : List Range). fold without left (map piece_range (filter (is_based_at (range.low ∷ [])) pieces)))
    (sym others)
    ∙ parts_leave order free (range.low ∷ []) pieces

pub kept_leave : OrderOfTaken → (k : AbstractMachine) (kept : List Kept) → IsBuilt k → AreKept k kept
    → gaps_left (arena_of k) kept ≡ gaps_of k
unfolding withdrawn
kept_leave order k kept built (NoneKept _ _ none nothing free) =
    let sound = built_sound k built in
    ap (gaps_left (arena_of k)) nothing
    ∙ ap (fold without (gaps_in k.arena)) (append-nil (scratch_ranges k.scratch))
    ∙ scratch_leaves order (gaps_in k.arena) k.pieces k.stacks k.scratch sound.jumps.valid.placed.ascend sound.scratch
    free
kept_leave order k kept built (OneKept _ update earlier _ one newest ends is before) =
    let own = scratch_ranges k.scratch in
    let taken = flat_map (λ (o : Kept). o.ranges) earlier in
    ap (gaps_left (arena_of k)) ends
    ∙ ap (λ (rs : List Range). fold without (gaps_in k.arena) (own ++ rs))
    (flat_more (λ (o : Kept). o.ranges) earlier one)
    ∙ ap (fold without (gaps_in k.arena)) (sym (append_assoc own taken one.ranges))
    ∙ fold_more without (gaps_in k.arena) (own ++ taken) one.ranges
    ∙ order (gaps_left (arena_of k) earlier) one.ranges (ranges_in k update) is.ranges
    ∙ ap (λ (free : List Range). fold without free (ranges_in k update))
    (kept_leave order (withdrawn k update) earlier (built_newest k update built newest).below before)
    ∙ parts_leave order (unless_empty k.arena) update.pieces k.pieces
