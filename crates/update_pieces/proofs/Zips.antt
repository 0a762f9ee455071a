-- Sections at their places, one after another.
use Rattle.std.proofs.Common.{◌≡◌, ℕ, ◌+◌, ◌<◌, ◌≤◌, List, [], ◌∷◌, ◌++◌, length, get_or, drop, min, refl, sym, ap}
use Rattle.std.proofs.Common.{◌∙◌, arith, append_assoc, append-nil, ◌⊎◌, inl, inr}
use Rattle.std.proofs.lemmas.List.{drop_more, drop_all}
use Rattle.link_post.specs.declared.types.Placed.{Placed}
use Rattle.update_pieces.specs.Parts.{NewPart, AtPlace, at_place, at_places}

nowhere : (parts : List NewPart) → at_places parts [] ≡ []
nowhere [] = refl
nowhere (part ∷ parts) = refl

pub placed_more : (placed : List AtPlace) (parts : List NewPart) (places : List Placed) (k : ℕ) (part : NewPart)
    (place : Placed) → k < length parts → k < length places
    → part ≡ get_or parts k part → place ≡ get_or places k place
    → placed ++ at_places (drop k parts) (drop k places) ≡ at_places parts places
    → (placed ++ at_place part place ∷ []) ++ at_places (drop (k + 1) parts) (drop (k + 1) places)
    ≡ at_places parts places
placed_more placed parts places k part place in_parts in_places is_part is_place before =
    let first : drop k parts ≡ part ∷ drop (k + 1) parts =
    drop_more parts k part in_parts ∙ ap (λ x. x ∷ drop (k + 1) parts) (sym is_part) in
    let second : drop k places ≡ place ∷ drop (k + 1) places =
    drop_more places k place in_places ∙ ap (λ x. x ∷ drop (k + 1) places) (sym is_place) in
    let both : at_places (drop k parts) (drop k places)
    ≡ at_places (part ∷ drop (k + 1) parts) (place ∷ drop (k + 1) places) =
    ap (λ xs. at_places xs (drop k places)) first ∙ ap (at_places (part ∷ drop (k + 1) parts)) second in
    append_assoc placed (at_place part place ∷ []) (at_places (drop (k + 1) parts) (drop (k + 1) places))
    ∙ sym (ap (λ xs. placed ++ xs) both) ∙ before

one_is_out : (k m n : ℕ) → k ≡ min m n → (m ≤ k) ⊎ (n ≤ k)
one_is_out k m n is = grind arith

pub placed_all : (placed : List AtPlace) (parts : List NewPart) (places : List Placed) (k : ℕ)
    → k ≡ min (length parts) (length places)
    → placed ++ at_places (drop k parts) (drop k places) ≡ at_places parts places → placed ≡ at_places parts places
placed_all placed parts places k is before =
    let none : at_places (drop k parts) (drop k places) ≡ [] =
    elim (one_is_out k (length parts) (length places) is) [
      | inl out ↦ ap (λ xs. at_places xs (drop k places)) (drop_all k parts out)
      | inr out ↦ ap (at_places (drop k parts)) (drop_all k places out) ∙ nowhere (drop k parts)
    ] in
    sym (append-nil placed) ∙ ap (λ xs. placed ++ xs) (sym none) ∙ before
