-- What a graph search along an object's edges tells.
use Rattle.std.proofs.Common.{◌≡◌, inl, inr, ℕ, ◌<◌, Bool, true, false, not, ◌&&◌, nat_lt}
use Rattle.std.proofs.Common.{List, [], ◌∷◌, length, refl, sym, subst, ◌∙◌, arith, All}
use Rattle.std.specs.List.{slice_index_or, flat_map, list_any}
use Rattle.std.proofs.lemmas.Option.{slice_get_within}
use Rattle.std.proofs.lemmas.Bool.{cases_Bool, lt-ltb, ltb-true, and_parts, or_parts, not-false}
use Rattle.std.proofs.lemmas.List.Elements.{All-nil, All-cons, All-weaker}
use Rattle.reachability.specs.declared.edge.Edge.{Edge}
use Rattle.reachability.specs.Reached.{Tells, IsWithin, ReachedAlong}
use Rattle.i386_reloc.specs.declared.types.NormalSection.{NormalSection}
use Rattle.i386_reloc.specs.Reaches.{is_constant_class}
use Rattle.extract_post.specs.inside.Closures.{HasDistinctNames}
use Rattle.extract_post.specs.inside.Edges.{Link, links_in, forward, backward, edge}
use Rattle.extract_post.specs.inside.Marks.{TellReaching, TellReached}
use Rattle.extract_post.proofs.Links.{any_in_flat_map, link_found, IsLink}
use Rattle.extract_post.proofs.Tells.{forward_tells, backward_tells}

-- whether an edge leaves the nodes
abbrev pub is_outside : ℕ → Edge → Bool
is_outside nodes e = not (nat_lt e.from nodes && nat_lt e.to nodes)

pub none_any : {X : Type 0} (p : X → Bool) (xs : List X) → list_any p xs ≡ false → All (λ x. p x ≡ false) xs
none_any p [] none = All-nil (λ x. p x ≡ false)
none_any p (x ∷ xs) none =
    let parts = or_parts (p x) (list_any p xs) none in
    All-cons (λ x. p x ≡ false) x xs parts.0 (none_any p xs parts.1)

is_within : (nodes : ℕ) (e : Edge) → is_outside nodes e ≡ false → IsWithin nodes e
is_within nodes e inside =
    let both = and_parts (nat_lt e.from nodes) (nat_lt e.to nodes)
    (not-false (nat_lt e.from nodes && nat_lt e.to nodes) inside) in
    record { from = ltb-true e.from nodes both.0; to = ltb-true e.to nodes both.1 }

pub none_outside : (nodes : ℕ) (edges : List Edge) → list_any (is_outside nodes) edges ≡ false →
    All (IsWithin nodes) edges
none_outside nodes edges none =
    All-weaker (λ e. is_outside nodes e ≡ false) (IsWithin nodes) (is_within nodes) edges
    (none_any (is_outside nodes) edges none)

pub edges_within : (f : Link → List Edge) (nodes : ℕ) (sections : List NormalSection) →
    ((link : Link) → IsLink sections link → list_any (is_outside nodes) (f link) ≡ false) →
    All (IsWithin nodes) (flat_map f (links_in sections))
edges_within f nodes sections within =
    none_outside nodes (flat_map f (links_in sections))
    (any_in_flat_map (is_outside nodes) f (links_in sections)
    ∙ (elim (cases_Bool (list_any (λ link. list_any (is_outside nodes) (f link)) (links_in sections))) as (λ _. list_any
    (λ link. list_any (is_outside nodes) (f link)) (links_in sections) ≡ false) [
      | inl some ↦ let (link, is, outside) = link_found (λ link. list_any (is_outside nodes) (f link)) sections some in
          absurd (let e : false ≡ true = sym (within link is) ∙ outside in cc)
      | inr none ↦ none
    ]))

pub edge_within : (nodes from to : ℕ) → from < nodes → to < nodes →
    list_any (is_outside nodes) (edge from to ∷ []) ≡ false
edge_within nodes from to a b = rw (lt-ltb from nodes a, lt-ltb to nodes b) refl

pub link_places : (sections : List NormalSection) (link : Link) → IsLink sections link →
    (link.from < length sections) × (link.to < length sections)
link_places sections link is =
    (slice_get_within sections link.from is.source is.at_from, slice_get_within sections link.to is.target is.at_to)

pub forward_within : (sections : List NormalSection) →
    All (IsWithin (length sections)) (flat_map forward (links_in sections))
forward_within sections =
    edges_within forward (length sections) sections
    (λ link is. let places = link_places sections link is in
    elim (cases_Bool (is_constant_class link.to_class)) [
      | inl constant ↦ rw constant (edge_within (length sections) link.from link.to places.0 places.1)
      | inr other ↦ rw other refl
    ])

pub backward_within : (sections : List NormalSection) →
    All (IsWithin (length sections)) (flat_map backward (links_in sections))
backward_within sections =
    edges_within backward (length sections) sections
    (λ link is. let places = link_places sections link is in
    elim (cases_Bool (is_constant_class link.to_class)) [
      | inl constant ↦ rw constant (edge_within (length sections) link.to link.from places.1 places.0)
      | inr other ↦ rw other refl
    ])

pub tell_reaching : (sections : List NormalSection) → HasDistinctNames sections →
    (seeds marks : List Bool) (edges : List Edge) → edges ≡ flat_map backward (links_in sections) → (nodes : ℕ) →
    nodes ≡ length sections → length marks ≡ nodes →
    ((node : ℕ) → node < nodes → Tells (slice_index_or marks node false) (ReachedAlong edges seeds node)) →
    TellReaching sections seeds marks
tell_reaching sections distinct seeds marks edges same nodes count len told =
    record {
      len = len ∙ count;
      each = λ i s at.
          let within : i < length sections = slice_get_within sections i s at in
          let P : List Edge → Type 0 = λ e. Tells (slice_index_or marks i false) (ReachedAlong e seeds i) in
          backward_tells sections distinct seeds (slice_index_or marks i false) i s at
          (subst P same (told i (omega arith)));
    }

pub tell_reached : (sections : List NormalSection) → HasDistinctNames sections →
    (seeds marks : List Bool) (edges : List Edge) → edges ≡ flat_map forward (links_in sections) → (nodes : ℕ) →
    nodes ≡ length sections → length marks ≡ nodes →
    ((node : ℕ) → node < nodes → Tells (slice_index_or marks node false) (ReachedAlong edges seeds node)) →
    TellReached sections seeds marks
tell_reached sections distinct seeds marks edges same nodes count len told =
    record {
      len = len ∙ count;
      each = λ i s at.
          let within : i < length sections = slice_get_within sections i s at in
          let P : List Edge → Type 0 = λ e. Tells (slice_index_or marks i false) (ReachedAlong e seeds i) in
          forward_tells sections distinct seeds (slice_index_or marks i false) i s at
          (subst P same (told i (omega arith)));
    }
