-- The update may be made.
use Rattle.std.specs.Prelude.{◌≡◌, ◌<◌, ℕ, false, List, [], ◌∷◌, map}
use Rattle.std.specs.List.{All, AllPairs}
use Rattle.std.proofs.Common.{refl, ap, sym, subst, arith}
use Rattle.std.proofs.lemmas.List.Elements.{All-nil, All-cons}
use Rattle.std.proofs.lemmas.List.Kept.{AllPairs-cons}
use Rattle.ks_base.specs.declared.places.Range.{Range}
use Rattle.image_memory.specs.declared.types.Piece.{Piece}
use Rattle.image_memory.specs.Ranges.{meets, MeetsNone}
use Rattle.image_memory.specs.Contents.{piece_range, fence_range}
use Rattle.image_memory.specs.Changes.{IsPlaceable, ArePlaceable}
use Rattle.image_memory.specs.Fetch.{HasCode}
use Rattle.update_memory.specs.Added.{AreAddable, with_pieces}
use Rattle.update_memory.specs.Retired.{AreRetirable, with_fences}
use Rattle.update_memory.specs.declared.types.Jump.{Jump}
use Rattle.update_memory.specs.Rows.{row_of}
use Rattle.tests_of_updates.specs.Small.{running, small, variable, newer, added, body, retired}

AllPairs-nil : {X : Type 0} (R : X → X → Type 0) → AllPairs R []
AllPairs-nil R = λ i j d less lt. absurd (omega arith)

abbrev Apart : Range → Range → Type 0
Apart range other = meets range other ≡ false

one_apart : (range : Range) → AllPairs Apart (range ∷ [])
one_apart range = AllPairs-cons Apart range [] (All-nil (Apart range)) (AllPairs-nil Apart)

pub placeable : ArePlaceable added
unfolding added
placeable =
    let P : Piece → Type 0 = λ (piece : Piece). IsPlaceable (piece_range piece) in
    All-cons P variable (newer ∷ []) (omega arith, omega arith)
    (All-cons P newer [] (omega arith, omega arith) (All-nil P))

pub addable : AreAddable small added
unfolding small added
addable =
    let P : Range → Type 0 = λ (range : Range). MeetsNone piece_range range (running ∷ []) in
    record {
      apart = AllPairs-cons Apart (piece_range variable) (piece_range newer ∷ [])
          (All-cons (Apart (piece_range variable)) (piece_range newer) [] refl (All-nil (Apart (piece_range variable))))
          (one_apart (piece_range newer));
      clear = All-cons P (piece_range variable) (piece_range newer ∷ []) refl
          (All-cons P (piece_range newer) [] refl (All-nil P));
    }

pub retirable : AreRetirable (with_pieces small added) retired
unfolding with_pieces small added
retirable =
    let F : Range → Type 0 = λ (range : Range). range.low < range.high in
    let P : Range → Type 0 = λ (range : Range). MeetsNone fence_range range (with_pieces small added).fences in
    record {
      full = All-cons F body.range [] (omega arith) (All-nil F);
      apart = one_apart body.range;
      clear = All-cons P body.range [] refl (All-nil P);
    }

pub has_code : HasCode (with_fences (with_pieces small added) retired).pieces 0x0010_0000 5
unfolding with_fences with_pieces small added
has_code = omega arith

first_home : List (ℕ × ℕ) → ℕ
first_home [] = 0
first_home (row ∷ rows) = row.0

-- a jump at the home may be written
pub jump_fits : (jumps : List Jump) (base : ℕ) → map row_of jumps ≡ (0x0010_0000, base) ∷ [] →
    All (λ (jump : Jump). HasCode (with_fences (with_pieces small added) retired).pieces jump.home 5) jumps
unfolding first_home
jump_fits [] base e = absurd cc
jump_fits (jump ∷ []) base e =
    let P : ℕ → Type 0 = λ home. HasCode (with_fences (with_pieces small added) retired).pieces home 5 in
    let same : 0x0010_0000 ≡ jump.home = ap (λ (rows : List (ℕ × ℕ)). first_home rows) (sym e) in
    All-cons (λ (jump : Jump). P jump.home) jump [] (subst P same has_code) (All-nil (λ (jump : Jump). P jump.home))
jump_fits (jump ∷ other ∷ jumps) base e = absurd cc
