-- One section after another.
use Rattle.std.proofs.Common.{◌≡◌, ℕ, List, [], ◌∷◌, ◌++◌, Some, None, Result}
use Rattle.std.proofs.Common.{Ok, Err, refl, sym, ap, ◌∙◌, append_assoc}
use Rattle.std.proofs.lemmas.List.{append-nil}
use Rattle.ks_base.specs.declared.places.Range.{Range}
use Rattle.ks_base.specs.declared.refusals.Refusal.{Refusal}
use Rattle.ks_base.specs.declared.refusals.Refusal.TheVariants.{NoRoom}
use Rattle.image_memory.specs.Ranges.{Ascends}
use Rattle.link_post.specs.declared.types.SectionSize.{SectionSize}
use Rattle.link_post.specs.declared.types.Placed.{Placed}
use Rattle.link_post.specs.Places.{placed, placed_at, placed_by, after_placed}
use Rattle.link_post.specs.inside.Rooms.{own, first_start, after_first, preceded}
use Rattle.link_post.proofs.Lowest.{lowest_is_first, without_is_after}

preceded_more : (ps : List Placed) (p : Placed) (r : Result (List Placed) Refusal)
    → preceded ps (after_placed p r) ≡ preceded (ps ++ p ∷ []) r
preceded_more ps p (Err refusal) = refl
preceded_more ps p (Ok rest) = ap Ok (sym (append_assoc ps (p ∷ []) rest))

pub placed_next : (s : SectionSize) (free : List Range) (base : ℕ) (rest : List SectionSize) (ps : List Placed)
    → Ascends own 0 free → first_start s free ≡ Some base
    → preceded ps (placed (s ∷ rest) free) ≡ preceded (ps ++ placed_at s base ∷ []) (placed rest (after_first s free))
unfolding placed
placed_next s free base rest ps up at =
    ap (λ o. preceded ps (placed_by s free (placed rest) o)) (lowest_is_first s 0 free up ∙ at)
    ∙ ap (λ l. preceded ps (after_placed (placed_at s base) (placed rest l))) (without_is_after s base free up at)
    ∙ preceded_more ps (placed_at s base) (placed rest (after_first s free))

pub placed_nowhere : (s : SectionSize) (free : List Range) (rest : List SectionSize) → Ascends own 0 free
    → first_start s free ≡ None → placed (s ∷ rest) free ≡ Err (NoRoom s.size)
unfolding placed
placed_nowhere s free rest up none = ap (placed_by s free (placed rest)) (lowest_is_first s 0 free up ∙ none)

pub placed_all : (sizes : List SectionSize) (free gaps : List Range) (ps : List Placed)
    → placed sizes gaps ≡ preceded ps (placed [] free) → placed sizes gaps ≡ Ok ps
unfolding placed
placed_all sizes free gaps ps so_far = so_far ∙ ap Ok (append-nil ps)
