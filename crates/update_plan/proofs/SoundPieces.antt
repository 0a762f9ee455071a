-- New pieces in gaps: each can be placed, no two meet, and none meets a piece that is there.
use Rattle.std.proofs.Common.{◌≡◌, inl, inr, ◌≤◌, false, List, [], ◌∷◌, map}
use Rattle.std.proofs.Common.{refl, arith}
use Rattle.std.specs.List.{All, AllPairs}
use Rattle.std.proofs.lemmas.Bool.{false_from_ne_true}
use Rattle.ks_base.specs.declared.places.Range.{Range}
use Rattle.image_memory.specs.declared.types.Piece.{Piece}
use Rattle.image_memory.specs.Ranges.{meets, MeetsNone}
use Rattle.image_memory.specs.Contents.{Contents, piece_range}
use Rattle.image_memory.specs.Changes.{ArePlaceable, IsPlaceable}
use Rattle.link_post.specs.declared.types.Placed.{Placed}
use Rattle.link_post.specs.Places.{AreApart, LiesInOne}
use Rattle.update_pieces.specs.Parts.{NewPart}
use Rattle.update_pieces.specs.Apart.{AreNewPieces, IsInGap}
use Rattle.image_memory.specs.laws.RangeLaws.{they_meet, meet_where}
use Rattle.update_plan.specs.Sound.{AreGaps}
use Rattle.update_plan.proofs.SoundLists.{Has, Pairs, all_has, all_of, all_pairs, any_false, any_none, each_has}
use Rattle.update_plan.proofs.SoundLists.{map_pairs}

in_one : (gaps : List Range) (range : Range) → LiesInOne gaps range →
    (gap : Range) × Has gaps gap × (gap.low ≤ range.low) × (range.high ≤ gap.high)
in_one [] range lies = absurd lies
in_one (g ∷ gs) range (inl both) = (g, inl refl, both.0, both.1)
in_one (g ∷ gs) range (inr rest) =
    let (gap, has, low, high) = in_one gs range rest in
    (gap, inr has, low, high)

meets_less : (gap a b : Range) → gap.low ≤ a.low → a.high ≤ gap.high → meets gap b ≡ false → meets a b ≡ false
meets_less gap a b low high none =
    false_from_ne_true (meets a b)
    (λ met.
    let m = they_meet a b met in
    let first = m.first in
    let second = m.second in
    let one = m.one in
    let other = m.other in
    let hit = meet_where gap b (omega arith) (omega arith) (omega arith) other in
    cc)

none_less : {X : Type 0} (range : X → Range) (gap a : Range) (xs : List X) → gap.low ≤ a.low → a.high ≤ gap.high →
    MeetsNone range gap xs → MeetsNone range a xs
none_less range gap a xs low high none =
    any_none (λ x. meets a (range x)) xs
    (λ x has. meets_less gap a (range x) low high (any_false (λ y. meets gap (range y)) xs x none has))

apart_pairs : (ranges : List Range) → AreApart ranges → Pairs (λ a b. meets a b ≡ false) ranges
apart_pairs [] apart = tt
apart_pairs (r ∷ rs) apart = (λ y has. any_false (λ x. meets r x) rs y apart.0 has, apart_pairs rs apart.1)

module _ (contents : Contents) (gaps : List Range) (parts : List NewPart) (placement : List Placed)
    (pieces : List Piece) (are_gaps : AreGaps contents gaps) (are : AreNewPieces gaps parts placement pieces) where
  pub placeable : ArePlaceable pieces
  placeable =
      all_of (λ piece. IsPlaceable (piece_range piece)) pieces
      (λ piece has.
      let inside = each_has (IsInGap gaps) pieces piece are.each has in
      let some = inside.some in
      let (gap, in_gaps, low, high) = in_one gaps (piece_range piece) inside.within in
      let below : gap.high ≤ 0xFFFF_0000 =
      all_has (λ (g : Range). g.high ≤ 0xFFFF_0000) gaps gap are_gaps.low in_gaps in
      (omega arith, omega arith))

  pub alone : All (λ piece. MeetsNone piece_range (piece_range piece) contents.pieces) pieces
  alone =
      all_of (λ piece. MeetsNone piece_range (piece_range piece) contents.pieces) pieces
      (λ piece has.
      let inside = each_has (IsInGap gaps) pieces piece are.each has in
      let (gap, in_gaps, low, high) = in_one gaps (piece_range piece) inside.within in
      none_less piece_range gap (piece_range piece) contents.pieces low high
      (all_has (λ (g : Range). MeetsNone piece_range g contents.pieces) gaps gap are_gaps.free in_gaps))

  pub apart : AllPairs (λ a b. meets (piece_range a) (piece_range b) ≡ false) pieces
  apart =
      all_pairs (λ a b. meets (piece_range a) (piece_range b) ≡ false) pieces
      (map_pairs piece_range (λ a b. meets a b ≡ false) pieces (apart_pairs (map piece_range pieces) are.apart))
