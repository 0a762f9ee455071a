-- The region that has a byte at an address is one of the regions.
use Rattle.std.proofs.Common.{◌≤◌, ℕ, true, false, cond, List, [], ◌∷◌, Some, None, sym, ap, ◌∙◌, subst}
use Rattle.std.specs.Option.{IfSome, option_copied}
use Rattle.std.specs.List.{All, find}
use Rattle.std.proofs.lemmas.List.Elements.{All-head, All-tail}
use Rattle.image_memory.specs.declared.types.Piece.{Piece}
use Rattle.image_memory.specs.Ranges.{lies_in}
use Rattle.image_memory.specs.Contents.{piece_range, holding}
use Rattle.code_listing.proofs.listing.region_at.Goals as goal

abbrev EndsLow : Piece → Type 0
EndsLow piece = (piece_range piece).high ≤ 0xFFFF_0000

held_ends_low : (pieces : List Piece) (address : ℕ) → All EndsLow pieces → IfSome (holding pieces address) EndsLow
held_ends_low [] address low = tt
held_ends_low (piece ∷ pieces) address low =
    elim (lies_in address (piece_range piece))
    as (λ b. IfSome (cond b (Some piece) (find (λ (p : Piece). lies_in address (piece_range p)) pieces)) EndsLow) [
      | true ↦ All-head EndsLow piece pieces low
      | false ↦ held_ends_low pieces address (All-tail EndsLow piece pieces low)
    ]

pub returns-clause-low : goal.returns-clause-low
returns-clause-low c =
    elim c.piece_at.result
    as (λ r. IfSome (option_copied r) EndsLow → IfSome r (λ region. EndsLow region.now)) [
      | Some region ↦ λ low. low
      | None ↦ λ low. low
    ]
    (subst (λ o. IfSome o EndsLow)
    (sym (c.piece_at.ensures.piece ∙ ap (λ (ps : List Piece). holding ps c.from.result) c.as_slice.ensures))
    (held_ends_low c.args.image.now.pieces c.from.result c.args.image.now.regions_placed.end_below))
