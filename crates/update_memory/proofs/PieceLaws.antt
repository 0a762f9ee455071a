-- What pieces leave that are added one after another.
use Rattle.std.proofs.Common.{◌≡◌, ℕ, zero, suc, ◌<◌, false, true, List, [], ◌∷◌, map, length, get_or}
use Rattle.std.proofs.Common.{refl, sym, ap, subst, ◌∙◌, arith}
use Rattle.std.specs.List.{Contains}
use Rattle.std.proofs.lemmas.Bool.Decides.{nat_tests}
use Rattle.std.proofs.lemmas.List.Elements.{All-head, All-tail}
use Rattle.ks_base.specs.declared.places.Range.{Range}
use Rattle.image_memory.specs.declared.types.Piece.{Piece}
use Rattle.image_memory.specs.Ranges.{are_same, meets, MeetsNone}
use Rattle.image_memory.specs.Contents.{Contents, Room, ArePlaced, IsValid, piece_range}
use Rattle.image_memory.specs.Changes.{IsPlaceable, ArePlaceable, without_first, with_piece, after_add}
use Rattle.image_memory.specs.laws.PutLaws.{Contains-put}
use Rattle.update_memory.specs.Added.{AreAddable, with_pieces}
use Rattle.update_memory.proofs.PutLaws.{still_clear, pairs_tail, there_now}

-- one piece after another
pub none_added : (contents : Contents) → with_pieces contents [] ≡ contents
unfolding with_pieces
none_added contents = refl

pub first_added : (contents : Contents) (piece : Piece) (pieces : List Piece)
    → with_pieces contents (piece ∷ pieces) ≡ with_pieces (after_add contents piece) pieces
unfolding with_pieces
first_added contents piece pieces = refl

pub first_clear : (contents : Contents) (piece : Piece) (pieces : List Piece) → AreAddable contents (piece ∷ pieces)
    → MeetsNone piece_range (piece_range piece) contents.pieces
first_clear contents piece pieces can =
    All-head (λ own. MeetsNone piece_range own contents.pieces) (piece_range piece) (map piece_range pieces) can.clear

pub rest_addable : (contents : Contents) (piece : Piece) (pieces : List Piece) → AreAddable contents (piece ∷ pieces)
    → AreAddable (after_add contents piece) pieces
rest_addable contents piece pieces can = record {
  apart = pairs_tail (λ a b. meets a b ≡ false) (piece_range piece) (map piece_range pieces) can.apart;
  clear = still_clear piece_range piece pieces contents.pieces can.apart can.clear;
}

-- what is spare after the first range was taken
first_taken : (range : Range) (ranges : List Range) → without_first range (range ∷ ranges) ≡ ranges
first_taken range ranges = let same : are_same range range ≡ true = grind (arith, nat_tests) in rw same refl

pub spare_next : (room now : Room) (range : Range) (ranges : List Range)
    → now ≡ record room { ranges = without_first range room.ranges } → room.ranges ≡ range ∷ ranges
    → now.ranges ≡ ranges
spare_next room now range ranges leaves spare =
    ap (λ (r : Room). r.ranges) leaves ∙ (ap (without_first range) spare ∙ first_taken range ranges)

-- what one more piece leaves of those that are left
pub next_addable : (contents now : Contents) (piece : Piece) (pieces left : List Piece)
    → now ≡ after_add contents piece → left ≡ piece ∷ pieces → AreAddable contents left → AreAddable now pieces
next_addable contents now piece pieces left is next can =
    subst (λ (m : Contents). AreAddable m pieces) (sym is)
    (rest_addable contents piece pieces (subst (AreAddable contents) next can))

pub next_clear : (contents : Contents) (piece : Piece) (pieces left : List Piece) → left ≡ piece ∷ pieces
    → AreAddable contents left → MeetsNone piece_range (piece_range piece) contents.pieces
next_clear contents piece pieces left next can =
    first_clear contents piece pieces (subst (AreAddable contents) next can)

pub next_added : (contents now : Contents) (piece : Piece) (pieces left : List Piece)
    → now ≡ after_add contents piece → left ≡ piece ∷ pieces → with_pieces now pieces ≡ with_pieces contents left
next_added contents now piece pieces left is next =
    ap (λ (m : Contents). with_pieces m pieces) is
    ∙ (sym (first_added contents piece pieces) ∙ ap (with_pieces contents) (sym next))

nothing_left : (pieces : List Piece) → length pieces ≡ 0 → pieces ≡ []
nothing_left [] none = refl
nothing_left (piece ∷ pieces) none = absurd (omega arith)

pub all_added : (contents : Contents) (left : List Piece) → length left ≡ 0 → contents ≡ with_pieces contents left
all_added contents left none =
    sym (none_added contents) ∙ ap (with_pieces contents) (sym (nothing_left left none))

-- that pieces stay placed, as the law of memory says
abbrev pub StayPlaced : Type 0
StayPlaced = (piece : Piece) (pieces : List Piece) → ArePlaced pieces → IsPlaceable (piece_range piece)
    → MeetsNone piece_range (piece_range piece) pieces → ArePlaced (with_piece piece pieces)

-- what holds of a memory, and after a piece was added of the memory with it, holds when all are added
pub along_pieces : StayPlaced → (P : Contents → Type 0)
    → ((contents : Contents) (piece : Piece) → IsValid contents
    → MeetsNone piece_range (piece_range piece) contents.pieces → P contents → P (after_add contents piece))
    → (contents : Contents) (pieces : List Piece) → IsValid contents → ArePlaceable pieces
    → AreAddable contents pieces → P contents
    → IsValid (with_pieces contents pieces) × P (with_pieces contents pieces)
along_pieces stay P step contents [] valid placeable can holds = rw (none_added contents) (valid, holds)
along_pieces stay P step contents (piece ∷ pieces) valid placeable can holds =
    let clear = first_clear contents piece pieces can in
    let here = All-head (λ p. IsPlaceable (piece_range p)) piece pieces placeable in
    let valid_now : IsValid (after_add contents piece) =
    record { placed = stay piece contents.pieces valid.placed here clear; fenced = valid.fenced } in
    rw (first_added contents piece pieces)
    (along_pieces stay P step (after_add contents piece) pieces valid_now
    (All-tail (λ p. IsPlaceable (piece_range p)) piece pieces placeable) (rest_addable contents piece pieces can)
    (step contents piece valid clear holds))

pub fences_stay : (contents : Contents) (pieces : List Piece) → (with_pieces contents pieces).fences ≡ contents.fences
fences_stay contents [] = ap (λ (m : Contents). m.fences) (none_added contents)
fences_stay contents (piece ∷ pieces) =
    ap (λ (m : Contents). m.fences) (first_added contents piece pieces)
    ∙ fences_stay (after_add contents piece) pieces

pub piece_kept : (contents : Contents) (pieces : List Piece) (piece : Piece) → Contains contents.pieces piece
    → Contains (with_pieces contents pieces).pieces piece
piece_kept contents [] piece at = rw (none_added contents) at
piece_kept contents (first ∷ pieces) piece at =
    rw (first_added contents first pieces)
    (piece_kept (after_add contents first) pieces piece (Contains-put piece_range first piece contents.pieces at))

pub piece_given : (contents : Contents) (pieces : List Piece) (piece : Piece) (k : ℕ) → k < length pieces
    → get_or pieces k piece ≡ piece → Contains (with_pieces contents pieces).pieces piece
piece_given contents [] piece k l is = absurd (omega arith)
piece_given contents (first ∷ pieces) piece zero l is =
    let there = subst (Contains (after_add contents first).pieces) is (there_now piece_range first contents.pieces) in
    rw (first_added contents first pieces) (piece_kept (after_add contents first) pieces piece there)
piece_given contents (first ∷ pieces) piece (suc k) l is =
    rw (first_added contents first pieces) (piece_given (after_add contents first) pieces piece k (omega arith) is)
