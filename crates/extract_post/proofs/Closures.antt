-- What graph search finds along the edges between sections: what marked sections reach, and what reaches one.
use Rattle.std.proofs.Common.{◌≡◌, ◌⊎◌, inl, inr, ℕ, Bool, true, false, ◌==◌}
use Rattle.std.proofs.Common.{◌&&◌, List, [], ◌∷◌, Some, refl, sym, ap, ◌∙◌}
use Rattle.std.specs.List.{list_any, flat_map, slice_get, slice_index_or}
use Rattle.std.proofs.lemmas.Bool.{cases_Bool, or_cases, or_left, or_right, and_parts, and_from, eqb-true, eq-eqb}
use Rattle.std.proofs.lemmas.Option.{same_Some}
use Rattle.reachability.specs.declared.edge.Edge.{Edge}
use Rattle.reachability.specs.Reached.{connects, ReachedAlong}
use Rattle.reachability.specs.Reached.ReachedAlong.{Seed, Next}
use Rattle.i386_reloc.specs.declared.types.Ref.{Ref}
use Rattle.i386_reloc.specs.declared.types.NormalSection.{NormalSection}
use Rattle.i386_reloc.specs.Normal.{section_named}
use Rattle.i386_reloc.specs.Places.{place_named}
use Rattle.i386_reloc.specs.Reaches.{is_constant_class, is_in, some_reference, goes_to, refers_on, Reaches}
use Rattle.i386_reloc.specs.Reaches.Reaches.{Refers, Further}
use Rattle.extract_post.specs.inside.Edges.{edge, Link, links_in, forward, backward}
use Rattle.extract_post.specs.inside.Closures.{HasDistinctNames, SeedReaches, ReachesSeed}
use Rattle.i386_reloc.specs.laws.NamedPlaces.{section_found}
use Rattle.extract_post.proofs.Links.{Among, item_found, option_cases, named_at, placed}
use Rattle.extract_post.proofs.Links.{link_between, IsLink, link_is_in, link_of_edge, edge_of_link}

-- a single edge
pub edge_ends : (from to a b : ℕ) → connects (edge from to ∷ []) a b ≡ true → (from ≡ a) × (to ≡ b)
edge_ends from to a b it =
    elim (or_cases (from == a && to == b) false it) [
      | inl both ↦ let parts = and_parts (from == a) (to == b) both in (eqb-true from a parts.0, eqb-true to b parts.1)
      | inr never ↦ absurd cc
    ]

pub first_edge : (from to : ℕ) (edges : List Edge) → connects (edge from to ∷ edges) from to ≡ true
first_edge from to edges = or_left (from == from && to == to) (connects edges from to)
    (and_from (from == from) (to == to) (eq-eqb from from refl) (eq-eqb to to refl))

pub later_edge : (e : Edge) (edges : List Edge) (a b : ℕ) → connects edges a b ≡ true → connects (e ∷ edges) a b ≡ true
later_edge e edges a b it = or_right (e.from == a && e.to == b) (connects edges a b) it

-- a reference of a section to another
pub record RefersBy (sections : List NormalSection) (s t : NormalSection) : Type 0 where
  pub reference : Ref
  pub among : Among s.refs reference
  pub goes : goes_to t.name reference ≡ true

pub refers_from_link : (sections : List NormalSection) → HasDistinctNames sections →
    (link : Link) (is : IsLink sections link) → is_constant_class link.to_class ≡ true →
    refers_on sections is.source.name is.target.name ≡ true
refers_from_link sections distinct link is constant =
    rw (
      named_at sections distinct link.to is.target is.at_to,
      named_at sections distinct link.from is.source
          is.at_from,
    )
    (and_from (is_constant_class is.target.class) (list_any (goes_to is.target.name) is.source.refs)
    (rw (← is.to_class) constant) (is.among (goes_to is.target.name) is.goes))

-- where a section refers on to a name, it is the name of a section of read-only data or texts
pub refers_to_section : (sections : List NormalSection) (name other : List ℕ) → refers_on sections name other ≡ true →
    (j : ℕ) × (t : NormalSection) × (slice_get sections j ≡ Some t) × (t.name ≡ other)
    × (is_constant_class t.class ≡ true)
refers_to_section sections name other refers =
    let constant = (and_parts (is_in is_constant_class sections other)
    (some_reference (goes_to other) (section_named sections name)) refers).0 in
    elim (option_cases (section_named sections other)) [
      | inl none ↦ absurd (let e : false ≡ true = rw none at constant in cc)
      | inr it ↦
          let (j, at, same) = section_found sections other it.0 it.1 in
          let is_constant : is_constant_class it.0.class ≡ true = rw it.1 at constant in
          (j, it.0, at, same, is_constant)
    ]

pub reference_found : (sections : List NormalSection) → HasDistinctNames sections → (i : ℕ) (s : NormalSection) →
    slice_get sections i ≡ Some s → (t : NormalSection) → refers_on sections s.name t.name ≡ true →
    RefersBy sections s t
reference_found sections distinct i s at t refers =
    let some = (and_parts (is_in is_constant_class sections t.name)
    (some_reference (goes_to t.name) (section_named sections s.name)) refers).1 in
    let any : list_any (goes_to t.name) s.refs ≡ true = rw (named_at sections distinct i s at) at some in
    let (r, among, goes) = item_found (goes_to t.name) s.refs any in
    record { reference = r; among = among; goes = goes }

pub target_constant : (sections : List NormalSection) → HasDistinctNames sections → (j : ℕ) (t : NormalSection) →
    slice_get sections j ≡ Some t → (name : List ℕ) → refers_on sections name t.name ≡ true →
    is_constant_class t.class ≡ true
target_constant sections distinct j t at name refers =
    let constant = (and_parts (is_in is_constant_class sections t.name)
    (some_reference (goes_to t.name) (section_named sections name)) refers).0 in
    rw (named_at sections distinct j t at) at constant

-- the edges of links, where something is referred to
pub forward_edge : (sections : List NormalSection) → HasDistinctNames sections → (i : ℕ) (s : NormalSection) →
    slice_get sections i ≡ Some s → (j : ℕ) (t : NormalSection) → slice_get sections j ≡ Some t →
    refers_on sections s.name t.name ≡ true → connects (flat_map forward (links_in sections)) i j ≡ true
forward_edge sections distinct i s at_i j t at_j refers =
    let r = reference_found sections distinct i s at_i t refers in
    edge_of_link forward sections (link_between i s j t r.reference)
    (link_is_in sections distinct i s at_i j t at_j r.reference r.among r.goes) i j
    (rw (target_constant sections distinct j t at_j s.name refers) (first_edge i j []))

pub backward_edge : (sections : List NormalSection) → HasDistinctNames sections → (i : ℕ) (s : NormalSection) →
    slice_get sections i ≡ Some s → (j : ℕ) (t : NormalSection) → slice_get sections j ≡ Some t →
    refers_on sections s.name t.name ≡ true → connects (flat_map backward (links_in sections)) j i ≡ true
backward_edge sections distinct i s at_i j t at_j refers =
    let r = reference_found sections distinct i s at_i t refers in
    edge_of_link backward sections (link_between i s j t r.reference)
    (link_is_in sections distinct i s at_i j t at_j r.reference r.among r.goes) j i
    (rw (target_constant sections distinct j t at_j s.name refers) (first_edge j i []))

-- what an edge says
pub record RefersAt (sections : List NormalSection) (i j : ℕ) : Type 0 where
  pub source : NormalSection
  pub target : NormalSection
  pub at_source : slice_get sections i ≡ Some source
  pub at_target : slice_get sections j ≡ Some target
  pub refers : refers_on sections source.name target.name ≡ true

refers_at : (sections : List NormalSection) → HasDistinctNames sections → (link : Link) → IsLink sections link →
    is_constant_class link.to_class ≡ true → (i j : ℕ) → link.from ≡ i → link.to ≡ j → RefersAt sections i j
refers_at sections distinct link is constant i j from to =
    record {
      source = is.source;
      target = is.target;
      at_source = rw (← from) is.at_from;
      at_target = rw (← to) is.at_to;
      refers = refers_from_link sections distinct link is constant;
    }

pub forward_refers : (sections : List NormalSection) → HasDistinctNames sections → (i j : ℕ) →
    connects (flat_map forward (links_in sections)) i j ≡ true → RefersAt sections i j
forward_refers sections distinct i j it =
    let (link, is, one) = link_of_edge forward sections i j it in
    elim (cases_Bool (is_constant_class link.to_class)) [
      | inl constant ↦
          let single : connects (edge link.from link.to ∷ []) i j ≡ true = rw constant at one in
          let ends = edge_ends link.from link.to i j single in
          refers_at sections distinct link is constant i j ends.0 ends.1
      | inr other ↦ absurd (let e : false ≡ true = rw other at one in cc)
    ]

pub backward_refers : (sections : List NormalSection) → HasDistinctNames sections → (i j : ℕ) →
    connects (flat_map backward (links_in sections)) j i ≡ true → RefersAt sections i j
backward_refers sections distinct i j it =
    let (link, is, one) = link_of_edge backward sections j i it in
    elim (cases_Bool (is_constant_class link.to_class)) [
      | inl constant ↦
          let single : connects (edge link.to link.from ∷ []) j i ≡ true = rw constant at one in
          let ends = edge_ends link.to link.from j i single in
          refers_at sections distinct link is constant i j ends.1 ends.0
      | inr other ↦ absurd (let e : false ≡ true = rw other at one in cc)
    ]

-- one more reference before
pub reaches_before : (sections : List NormalSection) (name between other : List ℕ) →
    refers_on sections name between ≡ true → Reaches sections between other → Reaches sections name other
reaches_before sections name between other refers (Refers a b next) =
    Further name between other (Refers name between refers) next
reaches_before sections name between other refers (Further a c b reaches next) =
    Further name c other (reaches_before sections name between c refers reaches) next

-- Along what a section reaches, a fact that begins at what it refers to, and that each reference hands on, gets to the
-- end.
pub along_reaches : (sections : List NormalSection) (Q : ℕ → Type 0) (a b : List ℕ) → Reaches sections a b →
    ((j : ℕ) (t : NormalSection) → slice_get sections j ≡ Some t → is_constant_class t.class ≡ true
    → refers_on sections a t.name ≡ true → Q j) →
    ((i : ℕ) (s : NormalSection) → slice_get sections i ≡ Some s → is_constant_class s.class ≡ true
    → (j : ℕ) (t : NormalSection) → slice_get sections j ≡ Some t → is_constant_class t.class ≡ true
    → refers_on sections s.name t.name ≡ true → Q i → Q j) →
    (j : ℕ) × (t : NormalSection) × (slice_get sections j ≡ Some t) × (t.name ≡ b) × (is_constant_class t.class ≡ true)
    × Q j
along_reaches sections Q a b (Refers x y refers) begins goes_on =
    let (j, t, at, same, constant) = refers_to_section sections x y refers in
    (j, t, at, same, constant, begins j t at constant (rw same refers))
along_reaches sections Q a b (Further x m y reaches refers) begins goes_on =
    let (i, s, at_i, same_i, constant_i, q) = along_reaches sections Q x m reaches begins goes_on in
    let (j, t, at, same, constant) = refers_to_section sections m y refers in
    (j, t, at, same, constant, goes_on i s at_i constant_i j t at constant (rw (same_i, same) refers) q)

-- what is reached is read-only data or texts
pub reached_constant : (sections : List NormalSection) → HasDistinctNames sections → (a b : List ℕ) →
    Reaches sections a b → (j : ℕ) (t : NormalSection) → slice_get sections j ≡ Some t → t.name ≡ b →
    is_constant_class t.class ≡ true
reached_constant sections distinct a b (Refers x y refers) j t at same =
    target_constant sections distinct j t at x (rw same refers)
reached_constant sections distinct a b (Further x m y reaches refers) j t at same =
    target_constant sections distinct j t at m (rw same refers)

-- The same backwards, from the end to what the section refers to.
pub back_reaches : (sections : List NormalSection) → HasDistinctNames sections →
    (Q : ℕ → Type 0) (G : Type 0) (a b : List ℕ) → Reaches sections a b →
    ((j : ℕ) (t : NormalSection) → slice_get sections j ≡ Some t → is_constant_class t.class ≡ true
    → refers_on sections a t.name ≡ true → Q j → G) →
    ((i : ℕ) (s : NormalSection) → slice_get sections i ≡ Some s → is_constant_class s.class ≡ true
    → (j : ℕ) (t : NormalSection) → slice_get sections j ≡ Some t → is_constant_class t.class ≡ true
    → refers_on sections s.name t.name ≡ true → Q j → Q i) →
    ((j : ℕ) (t : NormalSection) → slice_get sections j ≡ Some t → t.name ≡ b → Q j) → G
back_reaches sections distinct Q G a b (Refers x y refers) ends goes_on from_end =
    let (j, t, at, same, constant) = refers_to_section sections x y refers in
    ends j t at constant (rw same refers) (from_end j t at same)
back_reaches sections distinct Q G a b (Further x m y reaches refers) ends goes_on from_end =
    let (j, t, at, same, constant) = refers_to_section sections m y refers in
    back_reaches sections distinct Q G x m reaches ends goes_on (λ i s at_i same_i.
    goes_on i s at_i (reached_constant sections distinct x m reaches i s at_i same_i) j t at constant
    (rw (same_i, same) refers) (from_end j t at same))

pub forward_sound : (sections : List NormalSection) → HasDistinctNames sections → (seeds : List Bool) (i : ℕ) →
    ReachedAlong (flat_map forward (links_in sections)) seeds i → (s : NormalSection) →
    slice_get sections i ≡ Some s → (slice_index_or seeds i false ≡ true) ⊎ SeedReaches sections seeds s.name
forward_sound sections distinct seeds i (Seed node seeded) s at = inl seeded
forward_sound sections distinct seeds i (Next node next reached it) s at =
    let r = forward_refers sections distinct node next it in
    let same : r.target ≡ s = same_Some r.target s (sym r.at_target ∙ at) in
    let refers : refers_on sections r.source.name s.name ≡ true = rw (← same) r.refers in
    elim (forward_sound sections distinct seeds node reached r.source r.at_source) [
      | inl seeded ↦ inr (record {
        place = node;
        section = r.source;
        at = r.at_source;
        seeded = seeded;
        reaches =
            Refers r.source.name s.name refers;
      })
      | inr more ↦ inr (record {
        place = more.place;
        section = more.section;
        at = more.at;
        seeded =
            more.seeded;
        reaches = Further more.section.name r.source.name s.name more.reaches refers;
      })
    ]

pub backward_sound : (sections : List NormalSection) → HasDistinctNames sections → (seeds : List Bool) (i : ℕ) →
    ReachedAlong (flat_map backward (links_in sections)) seeds i → (s : NormalSection) →
    slice_get sections i ≡ Some s → (slice_index_or seeds i false ≡ true) ⊎ ReachesSeed sections seeds s.name
backward_sound sections distinct seeds i (Seed node seeded) s at = inl seeded
backward_sound sections distinct seeds i (Next node next reached it) s at =
    let r = backward_refers sections distinct next node it in
    let same : r.source ≡ s = same_Some r.source s (sym r.at_source ∙ at) in
    let refers : refers_on sections s.name r.target.name ≡ true = rw (← same) r.refers in
    elim (backward_sound sections distinct seeds node reached r.target r.at_target) [
      | inl seeded ↦ inr (record {
        place = node;
        section = r.target;
        at = r.at_target;
        seeded = seeded;
        reaches =
            Refers s.name r.target.name refers;
      })
      | inr more ↦ inr (record {
        place = more.place;
        section = more.section;
        at = more.at;
        seeded =
            more.seeded;
        reaches = reaches_before sections s.name r.target.name more.section.name refers more.reaches;
      })
    ]

-- places of one name are one place
pub same_place : (sections : List NormalSection) → HasDistinctNames sections → (i : ℕ) (s : NormalSection) →
    slice_get sections i ≡ Some s → (j : ℕ) (t : NormalSection) → slice_get sections j ≡ Some t → s.name ≡ t.name →
    i ≡ j
same_place sections distinct i s at_i j t at_j same =
    same_Some i j (sym (placed sections distinct i s at_i) ∙ ap (place_named sections) same
    ∙ placed sections distinct j t at_j)

pub forward_complete : (sections : List NormalSection) → HasDistinctNames sections →
    (seeds : List Bool) (i : ℕ) (s : NormalSection) → slice_get sections i ≡ Some s →
    SeedReaches sections seeds s.name → ReachedAlong (flat_map forward (links_in sections)) seeds i
forward_complete sections distinct seeds i s at seed =
    let edges = flat_map forward (links_in sections) in
    let (j, t, at_j, same, constant, reached) = along_reaches sections
    (ReachedAlong edges seeds) seed.section.name s.name seed.reaches
    (λ j t at_j constant refers. Next seed.place j (Seed seed.place seed.seeded)
    (forward_edge sections distinct seed.place seed.section seed.at j t at_j refers))
    (λ i s at_i constant_i j t at_j constant refers reached. Next i j reached
    (forward_edge sections distinct i s at_i j t at_j refers)) in
    rw (same_place sections distinct i s at j t at_j (sym same)) reached

pub backward_complete : (sections : List NormalSection) → HasDistinctNames sections →
    (seeds : List Bool) (i : ℕ) (s : NormalSection) → slice_get sections i ≡ Some s →
    ReachesSeed sections seeds s.name → ReachedAlong (flat_map backward (links_in sections)) seeds i
backward_complete sections distinct seeds i s at seed =
    let edges = flat_map backward (links_in sections) in
    back_reaches sections distinct (ReachedAlong edges seeds)
    (ReachedAlong edges seeds i) s.name seed.section.name seed.reaches
    (λ j t at_j constant refers reached. Next j i reached (backward_edge sections distinct i s at j t at_j refers))
    (λ i s at_i constant_i j t at_j constant refers reached. Next j i reached
    (backward_edge sections distinct i s at_i j t at_j refers))
    (λ j t at_j same. rw (same_place sections distinct j t at_j seed.place seed.section seed.at same)
    (Seed seed.place seed.seeded))
