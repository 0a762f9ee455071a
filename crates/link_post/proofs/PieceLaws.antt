-- Pieces that are put among others are taken besides them.
use Rattle.std.proofs.Common.{◌≡◌, List, [], ◌∷◌, ◌++◌, map, sym, ap, ◌∙◌, inl, inr, append-nil, nat_lt, fold, subst}
use Rattle.std.specs.List.Sorted.{IsPermutation}
use Rattle.std.proofs.lemmas.Bool.{cases_Bool}
use Rattle.std.proofs.lemmas.List.{map-append}
use Rattle.std.proofs.lemmas.List.Sums.{fold-append}
use Rattle.std.proofs.lemmas.List.Sorted.{IsPermutation-refl, IsPermutation-sym, IsPermutation-trans}
use Rattle.std.proofs.lemmas.List.Sorted.{IsPermutation-cons, IsPermutation-middle, IsPermutation-append_left}
use Rattle.std.proofs.lemmas.List.Sorted.{IsPermutation-map}
use Rattle.ks_base.specs.declared.places.Range.{Range}
use Rattle.image_memory.specs.declared.types.Piece.{Piece}
use Rattle.image_memory.specs.Ranges.{put_in}
use Rattle.image_memory.specs.Contents.{piece_range}
use Rattle.image_memory.specs.Changes.{with_piece}
use Rattle.link_post.specs.Places.{without}
use Rattle.link_post.proofs.FoldLaws.{order_has_none}
use Rattle.link_post.proofs.CutLaws.{commute}

-- a thing put among others is there besides them
put_besides : {X : Type 0} (range : X → Range) (x : X) (ys : List X) → IsPermutation (x ∷ ys) (put_in range x ys)
put_besides range x [] = IsPermutation-refl (x ∷ [])
put_besides range x (y ∷ ys) = elim (cases_Bool (nat_lt (range x).low (range y).low)) [
  | inl below ↦ rw below (IsPermutation-refl (x ∷ y ∷ ys))
  | inr not_below ↦ rw not_below (IsPermutation-trans (x ∷ y ∷ ys) (y ∷ x ∷ ys) (y ∷ put_in range x ys)
      (IsPermutation-sym (y ∷ x ∷ ys) (x ∷ y ∷ ys) (IsPermutation-middle (y ∷ []) x ys))
      (IsPermutation-cons y (x ∷ ys) (put_in range x ys) (put_besides range x ys)))
]

-- pieces among which more are put
abbrev with_more : List Piece → List Piece → List Piece
with_more pieces more = fold (λ pieces piece. with_piece piece pieces) pieces more

all_besides : (pieces more : List Piece) → IsPermutation (pieces ++ more) (with_more pieces more)
all_besides pieces [] =
    subst (λ (all : List Piece). IsPermutation all pieces) (sym (append-nil pieces)) (IsPermutation-refl pieces)
all_besides pieces (piece ∷ more) =
    let first : IsPermutation (piece ∷ (pieces ++ more)) (with_piece piece pieces ++ more) =
    IsPermutation-append_left more (piece ∷ pieces) (with_piece piece pieces) (put_besides piece_range piece pieces) in
    IsPermutation-trans (pieces ++ piece ∷ more) (piece ∷ (pieces ++ more)) (with_more (with_piece piece pieces) more)
    (IsPermutation-middle pieces piece more)
    (IsPermutation-trans (piece ∷ (pieces ++ more)) (with_piece piece pieces ++ more)
    (with_more (with_piece piece pieces) more) first (all_besides (with_piece piece pieces) more))

pub taken_besides : (free : List Range) (pieces more : List Piece)
    → fold without free (map piece_range (with_more pieces more))
    ≡ fold without (fold without free (map piece_range pieces)) (map piece_range more)
taken_besides free pieces more =
    order_has_none without commute free (map piece_range (pieces ++ more)) (map piece_range (with_more pieces more))
    (IsPermutation-map piece_range (pieces ++ more) (with_more pieces more) (all_besides pieces more))
    ∙ ap (fold without free) (map-append piece_range pieces more)
    ∙ fold-append without free (map piece_range pieces) (map piece_range more)
