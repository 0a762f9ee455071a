-- What objects are linked to keeps the rules of images.
use Rattle.std.proofs.Common.{◌≡◌, ℕ, ◌+◌, ◌<◌, ◌≤◌, true, false, List, [], ◌∷◌, ◌++◌}
use Rattle.std.proofs.Common.{length, Some, refl, arith, inr, ◌⊎◌}
use Rattle.std.specs.Prelude.{IsTrue}
use Rattle.std.specs.Option.{option_map}
use Rattle.std.specs.List.{AllByRecursion}
use Rattle.std.proofs.lemmas.Bool.Decides.{nat_tests}
use Rattle.image_memory.specs.declared.types.Kind.{Kind}
use Rattle.image_memory.specs.declared.types.Kind.TheVariants as kinds
use Rattle.image_memory.specs.declared.types.Piece.{Piece}
use Rattle.image_memory.specs.Access.{kind_of}
use Rattle.image_memory.specs.Contents.{holding, piece_range}
use Rattle.image_memory.specs.Ranges.{Ascends, lies_in, meets}
use Rattle.image_file.specs.Rules.{meets_a_piece, total_of}
use Rattle.image_file.specs.Keeps.{keeps_region, keeps_stack}
use Rattle.image_link.specs.Regions.{start_of}
use Rattle.image_link.specs.Linked.{arena, stacks}
use Rattle.image_link.proofs.Sizes.{IsRegion, IsRegion.nothing, IsRegion.one_piece}

-- the piece of a region
abbrev piece_of : Kind → List ℕ → Piece
piece_of kind bytes = record { kind = kind; base = start_of kind; bytes = bytes }

abbrev IsKept : Piece → Type 0
IsKept piece = IsTrue (keeps_region arena piece)

-- pieces that ascend from a floor on below the arena, and have so many bytes in all
pub record Fits (floor total : ℕ) (pieces : List Piece) : Type 0 where
  pub ascend : Ascends piece_range floor pieces
  pub kept : AllByRecursion (λ piece. IsTrue (keeps_region arena piece)) pieces
  pub low : AllByRecursion (λ piece. (piece_range piece).high ≤ 0x0400_0000) pieces
  pub total_is : total_of piece_range pieces ≡ total

pub fits_none : (floor : ℕ) → Fits floor 0 []
fits_none floor = record { ascend = tt; kept = tt; low = tt; total_is = refl }

lower : (floor less : ℕ) (pieces : List Piece) → less ≤ floor → Ascends piece_range floor pieces
    → Ascends piece_range less pieces
lower floor less [] below up = tt
lower floor less (piece ∷ pieces) below up = (omega (arith, up.0), up.1, up.2)

kept_piece : (base : ℕ) (kind : Kind) (bytes : List ℕ) → 0x1000 ≤ base → 0 < length bytes → length bytes ≤ 16777216
    → base + length bytes ≤ 0x0400_0000
    → IsTrue (keeps_region arena (record { kind = kind; base = base; bytes = bytes }))
kept_piece base kind bytes above some short low = grind (arith, nat_tests)

starts_above : (kind : Kind) → 0x1000 ≤ start_of kind
starts_above kinds.Code = omega arith
starts_above kinds.ReadOnly = omega arith
starts_above kinds.Writable = omega arith

pub fits_more : (kind : Kind) (n floor next total : ℕ) (pieces rest : List Piece) → IsRegion kind n pieces
    → floor ≤ start_of kind → start_of kind + n ≤ next → next ≤ 0x0400_0000 → n ≤ 16777216 → Fits next total rest
    → Fits floor (n + total) (pieces ++ rest)
fits_more kind n floor next total pieces rest (nothing none zero) above below low short fits =
    rw none (record {
      ascend = lower next floor rest (omega arith) fits.ascend;
      kept = fits.kept;
      low = fits.low;
      total_is = omega (arith, zero, fits.total_is);
    })
fits_more kind n floor next total pieces rest (one_piece bytes one size some) above below low short fits =
    let end : start_of kind + length bytes ≤ next = omega (arith, size) in
    rw one (record {
      ascend = (above, omega (arith, size), lower next (start_of kind + length bytes) rest end fits.ascend);
      kept = (
        kept_piece (start_of kind) kind bytes (starts_above kind) (omega (arith, size)) (omega (arith, size))
            (omega (arith, end)),
        fits.kept,
      );
      low = (omega (arith, end), fits.low);
      total_is = omega (arith, size, fits.total_is);
    })

-- ---- which piece holds an address
in_piece : (base : ℕ) (kind : Kind) (bytes : List ℕ) (rest : List Piece) (address : ℕ) → base ≤ address
    → address < base + length bytes
    → option_map kind_of (holding (record { kind = kind; base = base; bytes = bytes } ∷ rest) address) ≡ Some kind
in_piece base kind bytes rest address above below =
    let here : lies_in address (record { low = base; high = base + length bytes }) ≡ true = grind (arith, nat_tests) in
    rw here refl

past_piece : (base : ℕ) (kind : Kind) (bytes : List ℕ) (rest : List Piece) (address : ℕ)
    → (address < base) ⊎ (base + length bytes ≤ address)
    → holding (record { kind = kind; base = base; bytes = bytes } ∷ rest) address ≡ holding rest address
past_piece base kind bytes rest address apart =
    let other : lies_in address (record { low = base; high = base + length bytes }) ≡ false = grind (arith, nat_tests) in
    rw other refl

pub held_here : (kind : Kind) (n : ℕ) (pieces rest : List Piece) (address : ℕ) → IsRegion kind n pieces
    → start_of kind ≤ address → address < start_of kind + n
    → option_map kind_of (holding (pieces ++ rest) address) ≡ Some kind
held_here kind n pieces rest address (nothing none zero) above below = absurd (omega (arith, zero))
held_here kind n pieces rest address (one_piece bytes one size some) above below =
    rw one (in_piece (start_of kind) kind bytes rest address above (omega (arith, size)))

pub held_later : (kind : Kind) (n : ℕ) (pieces rest : List Piece) (address : ℕ) → IsRegion kind n pieces
    → start_of kind + n ≤ address → holding (pieces ++ rest) address ≡ holding rest address
held_later kind n pieces rest address (nothing none zero) past = rw none refl
held_later kind n pieces rest address (one_piece bytes one size some) past =
    rw one (past_piece (start_of kind) kind bytes rest address (inr (omega (arith, size))))

-- ---- the stacks lie above all pieces
apart_by : (low high : ℕ) (piece : Piece) → (piece_range piece).high ≤ 0x0400_0000 → 0x0500_0000 ≤ low
    → meets (record { low = low; high = high }) (piece_range piece) ≡ false
apart_by low high piece below above = grind (arith, nat_tests)

pub apart_from : (low high : ℕ) (pieces : List Piece)
    → AllByRecursion (λ piece. (piece_range piece).high ≤ 0x0400_0000) pieces → 0x0500_0000 ≤ low
    → meets_a_piece pieces (record { low = low; high = high }) ≡ false
apart_from low high [] below above = refl
apart_from low high (piece ∷ pieces) below above =
    rw (apart_by low high piece below.0 above) (apart_from low high pieces below.1 above)

pub stacks_kept : (pieces : List Piece)
    → AllByRecursion (λ piece. (piece_range piece).high ≤ 0x0400_0000) pieces
    → AllByRecursion (λ stack. IsTrue (keeps_stack arena pieces stack)) stacks
stacks_kept pieces low =
    let one = apart_from 0x0500_0000 0x0501_0000 pieces low (omega arith) in
    let two = apart_from 0x0502_0000 0x0503_0000 pieces low (omega arith) in
    let three = apart_from 0x0504_0000 0x0505_0000 pieces low (omega arith) in
    let four = apart_from 0x0506_0000 0x0507_0000 pieces low (omega arith) in
    (rw one refl, (rw two refl, (rw three refl, (rw four refl, tt))))
