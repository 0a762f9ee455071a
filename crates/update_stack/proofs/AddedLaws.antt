-- The pieces that an update added are those that begin at their bases.
use Rattle.std.proofs.Common.{◌≡◌, ℕ, Bool, true, false, cond, not, ◌&&◌, ◌||◌, ◌==◌, nat_lt, List, [], ◌∷◌, ◌++◌, map}
use Rattle.std.proofs.Common.{refl, sym, ◌∙◌, ap, subst, arith}
use Rattle.std.specs.List.{All, fold, filter}
use Rattle.std.specs.List.Sorted.{IsPermutation}
use Rattle.std.proofs.lemmas.Bool.Decides.{nat_tests}
use Rattle.std.proofs.lemmas.List.{append-nil}
use Rattle.std.proofs.lemmas.List.Elements.{All-head, All-tail, All-cons, All-weaker}
use Rattle.std.proofs.lemmas.List.Sorted.{IsPermutation-refl, IsPermutation-sym, IsPermutation-trans}
use Rattle.std.proofs.lemmas.List.Sorted.{IsPermutation-cons, IsPermutation-middle, IsPermutation-map}
use Rattle.std.proofs.lemmas.List.Sorted.{IsPermutation-append_right}
use Rattle.image_memory.specs.declared.types.Piece.{Piece}
use Rattle.image_memory.specs.Contents.{piece_range}
use Rattle.image_memory.specs.Changes.{with_piece}
use Rattle.update_memory.specs.Withdrawn.{is_based_at, without_pieces}
use Rattle.update_stack.specs.AbstractMachine.{is_text}
use Rattle.update_stack.specs.Apply.{with_new_piece}

module _ (p : Piece → Bool) where
  -- what is wanted of a piece and others, when it was put among these
  wanted_put : (piece : Piece) (pieces : List Piece)
      → IsPermutation (filter p (piece ∷ pieces)) (filter p (with_piece piece pieces))
  wanted_put piece [] = IsPermutation-refl (filter p (piece ∷ []))
  wanted_put piece (x ∷ xs) = by_order (nat_lt piece.base x.base) (wanted_put piece xs)
    where
      later : (a b : Bool) → IsPermutation (cond a (piece ∷ filter p xs) (filter p xs)) (filter p (with_piece piece xs))
          → IsPermutation (cond a (piece ∷ cond b (x ∷ filter p xs) (filter p xs)) (cond b (x ∷ filter p xs) (filter p xs)))
          (cond b (x ∷ filter p (with_piece piece xs)) (filter p (with_piece piece xs)))
      later true true rest =
          IsPermutation-trans (piece ∷ x ∷ filter p xs) (x ∷ piece ∷ filter p xs) (x ∷ filter p (with_piece piece xs))
          (IsPermutation-sym (x ∷ piece ∷ filter p xs) (piece ∷ x ∷ filter p xs)
          (IsPermutation-middle (x ∷ []) piece (filter p xs)))
          (IsPermutation-cons x (piece ∷ filter p xs) (filter p (with_piece piece xs)) rest)
      later false true rest = IsPermutation-cons x (filter p xs) (filter p (with_piece piece xs)) rest
      later a false rest = rest

      by_order : (b : Bool) → IsPermutation (filter p (piece ∷ xs)) (filter p (with_piece piece xs))
          → IsPermutation (filter p (piece ∷ x ∷ xs)) (filter p (cond b (piece ∷ x ∷ xs) (x ∷ with_piece piece xs)))
      by_order true rest = IsPermutation-refl (filter p (piece ∷ x ∷ xs))
      by_order false rest = later (p piece) (p x) rest

  -- and of more pieces
  all_put : (more pieces : List Piece)
      → IsPermutation (filter p more ++ filter p pieces) (filter p (fold with_new_piece pieces more))
  all_put [] pieces = IsPermutation-refl (filter p pieces)
  all_put (piece ∷ more) pieces =
      IsPermutation-trans (filter p (piece ∷ more) ++ filter p pieces) (filter p more ++ filter p (piece ∷ pieces))
      (filter p (fold with_new_piece (with_piece piece pieces) more))
      (first (p piece))
      (IsPermutation-trans (filter p more ++ filter p (piece ∷ pieces))
      (filter p more ++ filter p (with_piece piece pieces))
      (filter p (fold with_new_piece (with_piece piece pieces) more))
      (IsPermutation-append_right (filter p more) (filter p (piece ∷ pieces)) (filter p (with_piece piece pieces))
      (wanted_put piece pieces))
      (all_put more (with_piece piece pieces)))
    where
      first : (b : Bool) → IsPermutation (cond b (piece ∷ filter p more) (filter p more) ++ filter p pieces)
          (filter p more ++ cond b (piece ∷ filter p pieces) (filter p pieces))
      first true =
          IsPermutation-sym (filter p more ++ piece ∷ filter p pieces) (piece ∷ (filter p more ++ filter p pieces))
          (IsPermutation-middle (filter p more) piece (filter p pieces))
      first false = IsPermutation-refl (filter p more ++ filter p pieces)

  -- where nothing is wanted of the others, what is wanted of more is all
  added : (more pieces : List Piece) → filter p pieces ≡ []
      → IsPermutation (filter p more) (filter p (fold with_new_piece pieces more))
  added more pieces none =
      subst (λ (ps : List Piece). IsPermutation ps (filter p (fold with_new_piece pieces more)))
      (ap (λ (ps : List Piece). filter p more ++ ps) none ∙ append-nil (filter p more)) (all_put more pieces)

  -- what doesn't pass a test has nothing that is wanted, where only what passes it is
  none_wanted : (q : Piece → Bool) → ((piece : Piece) → q piece ≡ false → p piece ≡ false) → (pieces : List Piece)
      → filter p (filter (λ piece. not (q piece)) pieces) ≡ []
  none_wanted q none [] = refl
  none_wanted q none (x ∷ xs) = by_test (q x) refl (none_wanted q none xs)
    where
      by_test : (b : Bool) → q x ≡ b → filter p (filter (λ piece. not (q piece)) xs) ≡ []
          → filter p (cond (not b) (x ∷ filter (λ piece. not (q piece)) xs) (filter (λ piece. not (q piece)) xs)) ≡ []
      by_test true is rest = rest
      by_test false is rest =
          ap (λ (c : Bool). cond c (x ∷ filter p (filter (λ piece. not (q piece)) xs))
          (filter p (filter (λ piece. not (q piece)) xs))) (none x is) ∙ rest

-- each of some pieces begins at one of their bases
abbrev bases_of : List Piece → List ℕ
bases_of pieces = map (λ (piece : Piece). piece.base) pieces

or_later : (a b : Bool) → b ≡ true → (a || b) ≡ true
or_later true b is = refl
or_later false b is = is

or_here : (a b : Bool) → a ≡ true → (a || b) ≡ true
or_here true b is = refl
or_here false b is = absurd (cc)

same_true : (n : ℕ) → (n == n) ≡ true
same_true n = grind (arith, nat_tests)

all_based : (pieces : List Piece) → All (λ (piece : Piece). is_based_at (bases_of pieces) piece ≡ true) pieces
all_based [] = λ i d l. absurd (omega arith)
all_based (x ∷ xs) =
    All-cons (λ (piece : Piece). is_based_at (bases_of (x ∷ xs)) piece ≡ true) x xs
    (or_here (x.base == x.base) (is_based_at (bases_of xs) x) (same_true x.base))
    (All-weaker (λ (piece : Piece). is_based_at (bases_of xs) piece ≡ true)
    (λ (piece : Piece). is_based_at (bases_of (x ∷ xs)) piece ≡ true)
    (λ piece is. or_later (x.base == piece.base) (is_based_at (bases_of xs) piece) is) xs (all_based xs))

-- what is wanted of pieces by two tests that agree on each of them
same_wanted : (p q : Piece → Bool) (pieces : List Piece) → All (λ (piece : Piece). p piece ≡ q piece) pieces
    → filter p pieces ≡ filter q pieces
same_wanted p q [] same = refl
same_wanted p q (piece ∷ pieces) same =
    let Same : Piece → Type 0 = λ one. p one ≡ q one in
    ap (λ (b : Bool). cond b (piece ∷ filter p pieces) (filter p pieces)) (All-head Same piece pieces same)
    ∙ ap (λ (ps : List Piece). cond (q piece) (piece ∷ ps) ps)
    (same_wanted p q pieces (All-tail Same piece pieces same))

all_wanted : (pieces : List Piece) → filter (λ (piece : Piece). true) pieces ≡ pieces
all_wanted [] = refl
all_wanted (piece ∷ pieces) = ap (λ (ps : List Piece). piece ∷ ps) (all_wanted pieces)

-- Pieces were added to others, which are what is left without these.
module _ (pieces more : List Piece)
    (left : without_pieces (bases_of more) (fold with_new_piece pieces more) ≡ pieces) where
  abbrev is_new : Piece → Bool
  is_new = is_based_at (bases_of more)

  abbrev now : List Piece
  now = fold with_new_piece pieces more

  none_before : (p : Piece → Bool) → ((piece : Piece) → is_new piece ≡ false → p piece ≡ false) → filter p pieces ≡ []
  none_before p none = ap (filter p) (sym left) ∙ none_wanted p is_new none now

  -- They are, in some order, those that begin at their bases.
  pub added_ranges : IsPermutation (map piece_range more) (map piece_range (filter is_new now))
  added_ranges =
      IsPermutation-map piece_range more (filter is_new now)
      (subst (λ (ps : List Piece). IsPermutation ps (filter is_new now))
      (same_wanted is_new (λ (piece : Piece). true) more (all_based more) ∙ all_wanted more)
      (added is_new more pieces (none_before is_new (λ piece is. is))))

  -- And so are the pieces of code among them.
  pub added_code_ranges : IsPermutation (map piece_range (filter is_text more))
      (map piece_range (filter (λ (piece : Piece). is_new piece && is_text piece) now))
  added_code_ranges =
      let is_new_code : Piece → Bool = λ piece. is_new piece && is_text piece in
      IsPermutation-map piece_range (filter is_text more) (filter is_new_code now)
      (subst (λ (ps : List Piece). IsPermutation ps (filter is_new_code now))
      (same_wanted is_new_code is_text more
      (All-weaker (λ (piece : Piece). is_new piece ≡ true) (λ (piece : Piece). is_new_code piece ≡ is_text piece)
      (λ piece is. ap (λ (b : Bool). b && is_text piece) is) more (all_based more)))
      (added is_new_code more pieces
      (none_before is_new_code (λ piece is. ap (λ (b : Bool). b && is_text piece) is))))
