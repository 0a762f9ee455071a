-- Laws of the pieces that pages have: they may make up a memory, as their extents lie.
use Rattle.std.proofs.Common.{◌≡◌, ℕ, zero, suc, ◌+◌, ◌≤◌, List, [], ◌∷◌, length, get_or, refl, ap}
use Rattle.std.specs.List.{All}
use Rattle.std.proofs.lemmas.List.{length-map, get_or-map}
use Rattle.image_memory.specs.Ranges.{Ascends}
use Rattle.image_memory.specs.Contents.{ArePlaced, piece_range}
use Rattle.paged_memory.specs.declared.types.Extent.{Extent}
use Rattle.paged_memory.specs.declared.types.Page.{Page}
use Rattle.paged_memory.specs.Pages.{extent_range, stored_from, piece_of, pieces_of}

-- so many bytes are had as were asked for
pub stored_length : (pages : List Page) (a n : ℕ) → length (stored_from pages a n) ≡ n
unfolding stored_from
stored_length pages a zero = refl
stored_length pages a (suc n) = ap suc (stored_length pages (a + 1) n)

pieces_ascend : (floor : ℕ) (es : List Extent) (ps : List Page) → Ascends extent_range floor es
    → Ascends piece_range floor (pieces_of es ps)
pieces_ascend floor [] ps up = tt
pieces_ascend floor (e ∷ es) ps up =
    rw (stored_length ps e.base e.length) (up.0, up.1, pieces_ascend (extent_range e).high es ps up.2)

pub placed_of : (es : List Extent) (ps : List Page) → Ascends extent_range 0 es
    → All (λ e. (extent_range e).high ≤ 0xFFFF_0000) es → ArePlaced (pieces_of es ps)
placed_of es ps up below = record {
  ascend = pieces_ascend 0 es ps up;
  end_below = λ k d l.
      let m = rw (length-map es (piece_of ps)) at l in
      let e = below k (record { kind = d.kind; base = 0; length = 0 }) m in
      rw (get_or-map (piece_of ps) es k (record { kind = d.kind; base = 0; length = 0 }) d m)
      (rw (stored_length ps (get_or es k (record { kind = d.kind; base = 0; length = 0 })).base
      (get_or es k (record { kind = d.kind; base = 0; length = 0 })).length) e);
}
