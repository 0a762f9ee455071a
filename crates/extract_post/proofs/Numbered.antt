-- The numbers of nodes for members fit, and edges stay among them.
use Rattle.std.proofs.Common.{◌≡◌, inl, inr, ℕ, suc, ◌+◌, ◌*◌, ◌<◌, ◌≤◌, ◌^◌, Bool, true, false, not, ◌&&◌, nat_lt}
use Rattle.std.proofs.Common.{List, [], ◌∷◌, ◌++◌, length, Option, Some, None, refl, sym, subst, ◌∙◌, arith, All}
use Rattle.std.specs.List.{list_any, flat_map, slice_index_or}
use Rattle.std.proofs.lemmas.Bool.{cases_Bool, lt-ltb, ltb-true, and_parts, not-false}
use Rattle.std.proofs.lemmas.List.Elements.{All-nil, All-cons, All-weaker, All-append}
use Rattle.std.proofs.lemmas.Option.{slice_get_within}
use Rattle.reachability.specs.declared.edge.Edge.{Edge}
use Rattle.reachability.specs.Reached.{Tells, IsWithin, ReachedAlong}
use Rattle.i386_reloc.specs.declared.types.NormalSection.{NormalSection}
use Rattle.i386_reloc.specs.Classes.{is_code_class}
use Rattle.i386_reloc.specs.Places.{place_named}
use Rattle.i386_reloc.specs.Reaches.{is_constant_class, is_read_only_class}
use Rattle.extract_post.specs.inside.Closures.{HasDistinctNames}
use Rattle.extract_post.specs.inside.Edges.{Link, Numbers, links_in, pre_numbers, post_numbers, edge, joins}
use Rattle.extract_post.specs.inside.Edges.{twins_from, member_node, from_node, into_node, member_edges}
use Rattle.extract_post.specs.inside.Seeds.{AreSeeds}
use Rattle.extract_post.specs.inside.Marks.{TellMembers}
use Rattle.extract_post.specs.inside.Fits.{IsNumbered}
use Rattle.i386_reloc.specs.laws.NamedPlaces.{section_at_place}
use Rattle.extract_post.proofs.Links.{option_cases, link_found}
use Rattle.extract_post.proofs.Walks.{is_outside, none_any, edges_within, link_places}
use Rattle.extract_post.proofs.Tells.{member_tells_pre, member_tells_post}

pub place_within : (sections : List NormalSection) (name : List ℕ) (place : ℕ) →
    place_named sections name ≡ Some place → place < length sections
place_within sections name place there =
    let (s, at, same) = section_at_place sections name place there in slice_get_within sections place s at

-- all links fit
is_misnumbered : Numbers → Link → Bool
is_misnumbered n link = not (nat_lt (into_node n link.from) (2 ^ 32) && nat_lt (into_node n link.to) (2 ^ 32))

is_numbered : (n : Numbers) (link : Link) → is_misnumbered n link ≡ false → IsNumbered n link
unfolding is_misnumbered
is_numbered n link fits =
    let both = and_parts (nat_lt (into_node n link.from) (2 ^ 32)) (nat_lt (into_node n link.to) (2 ^ 32))
    (not-false (nat_lt (into_node n link.from) (2 ^ 32) && nat_lt (into_node n link.to) (2 ^ 32)) fits) in
    record {
      from = ltb-true (into_node n link.from) (2 ^ 32) both.0;
      to =
          ltb-true (into_node n link.to) (2 ^ 32) both.1;
    }

well_numbered : (n : Numbers) (link : Link) → into_node n link.from < 2 ^ 32 → into_node n link.to < 2 ^ 32 →
    is_misnumbered n link ≡ false
unfolding is_misnumbered
well_numbered n link a b = rw (lt-ltb (into_node n link.from) (2 ^ 32) a, lt-ltb (into_node n link.to) (2 ^ 32) b) refl

all_numbered : (n : Numbers) (sections : List NormalSection) →
    n.total + (n.total + (n.base + length sections)) ≤ 2 ^ 32 → All (IsNumbered n) (links_in sections)
all_numbered n sections few =
    All-weaker (λ link. is_misnumbered n link ≡ false) (IsNumbered n) (is_numbered n) (links_in sections)
    (none_any (is_misnumbered n) (links_in sections)
    (elim (cases_Bool (list_any (is_misnumbered n) (links_in sections))) as (λ _. list_any (is_misnumbered n)
    (links_in sections) ≡ false) [
      | inl some ↦
          let (link, is, wrong) = link_found (is_misnumbered n) sections some in
          let places = link_places sections link is in
          let a : link.from < length sections = places.0 in
          let b : link.to < length sections = places.1 in
          absurd (let e : false ≡ true = sym (well_numbered n link (omega arith) (omega arith)) ∙ wrong in cc)
      | inr none ↦ none
    ]))

pub pre_numbered : (pre post : List NormalSection) → 3 * (length pre + length post) < 2 ^ 32 →
    All (IsNumbered (pre_numbers pre post)) (links_in pre)
pre_numbered pre post few = all_numbered (pre_numbers pre post) pre (omega arith)

pub post_numbered : (pre post : List NormalSection) → 3 * (length pre + length post) < 2 ^ 32 →
    All (IsNumbered (post_numbers pre post)) (links_in post)
post_numbered pre post few = all_numbered (post_numbers pre post) post (omega arith)

-- edges stay among the nodes
pair_within : (nodes a b c d : ℕ) → a < nodes → b < nodes → c < nodes → d < nodes →
    list_any (is_outside nodes) (edge a b ∷ edge c d ∷ []) ≡ false
pair_within nodes a b c d at_a at_b at_c at_d =
    rw (lt-ltb a nodes at_a, lt-ltb b nodes at_b, lt-ltb c nodes at_c, lt-ltb d nodes at_d) refl

joins_within : (nodes : ℕ) (n : Numbers) (link : Link) → into_node n link.from < nodes → into_node n link.to < nodes →
    list_any (is_outside nodes) (joins n link) ≡ false
joins_within nodes n link from to =
    let mf : member_node n link.from < nodes = omega arith in
    let ff : from_node n link.from < nodes = omega arith in
    let mt : member_node n link.to < nodes = omega arith in
    let ft : from_node n link.to < nodes = omega arith in
    elim (cases_Bool (is_code_class link.to_class)) [
      | inl code ↦ elim (cases_Bool link.interior) [
        | inl interior ↦ elim (cases_Bool (is_code_class link.from_class)) [
          | inl by_code ↦ rw (code, interior, by_code)
              (pair_within nodes (member_node n link.from) (member_node n link.to) (member_node n link.to)
              (member_node n link.from) mf mt mt mf)
          | inr other ↦ elim (cases_Bool (is_read_only_class link.from_class)) [
            | inl constant ↦ rw (code, interior, other, constant)
                (pair_within nodes (from_node n link.from) (member_node n link.to) (member_node n link.to)
                (into_node n link.from) ff mt mt from)
            | inr none ↦ rw (code, interior, other, none) refl
          ]
        ]
        | inr entry ↦ rw (code, entry) refl
      ]
      | inr data_class ↦ elim (cases_Bool (is_constant_class link.to_class)) [
        | inl constant ↦ elim (cases_Bool (is_code_class link.from_class)) [
          | inl by_code ↦ rw (data_class, constant, by_code)
              (pair_within nodes (member_node n link.from) (from_node n link.to) (into_node n link.to)
              (member_node n link.from) mf ft to mf)
          | inr other ↦ elim (cases_Bool (is_constant_class link.from_class)) [
            | inl by_constant ↦ rw (data_class, constant, other, by_constant)
                (pair_within nodes (from_node n link.from) (from_node n link.to) (into_node n link.to)
                (into_node n link.from) ff ft to from)
            | inr none ↦ rw (data_class, constant, other, none) refl
          ]
        ]
        | inr none ↦ rw (data_class, none) refl
      ]
    ]

all_joins_within : (nodes : ℕ) (n : Numbers) (sections : List NormalSection) →
    n.total + (n.total + (n.base + length sections)) ≤ nodes →
    All (IsWithin nodes) (flat_map (joins n) (links_in sections))
all_joins_within nodes n sections few =
    edges_within (joins n) nodes sections
    (λ link is.
    let places = link_places sections link is in
    let a : link.from < length sections = places.0 in
    let b : link.to < length sections = places.1 in
    joins_within nodes n link (omega arith) (omega arith))

twin_within : (nodes : ℕ) (p q : Numbers) (post : List NormalSection) (place : ℕ) (section : NormalSection) →
    p.base + place < nodes → q.base + length post ≤ nodes → (o : Option ℕ) → place_named post section.name ≡ o →
    All (IsWithin nodes) (twins_from p q post place (section ∷ []))
twin_within nodes p q post place section low high None there = rw there (All-nil (IsWithin nodes))
twin_within nodes p q post place section low high (Some other) there =
    let within : other < length post = place_within post section.name other there in
    let there_below : q.base + other < nodes = omega arith in
    rw there
    (All-cons (IsWithin nodes) (edge (member_node p place) (member_node q other))
    (edge (member_node q other) (member_node p place) ∷ [])
    (record { from = low; to = there_below })
    (All-cons (IsWithin nodes) (edge (member_node q other) (member_node p place)) []
    (record { from = there_below; to = low }) (All-nil (IsWithin nodes))))

pub twins_first : (p q : Numbers) (post : List NormalSection) (place : ℕ) (section : NormalSection)
    (rest : List NormalSection) →
    twins_from p q post place (section ∷ rest) ≡ twins_from p q post place (section ∷ []) ++ twins_from p q post
    (suc place) rest
twins_first p q post place section rest =
    elim (option_cases (place_named post section.name)) [
      | inl none ↦ rw none refl
      | inr some ↦ rw some.1 refl
    ]

twins_within : (nodes : ℕ) (p q : Numbers) (post : List NormalSection) (place : ℕ) (sections : List NormalSection) →
    p.base + (place + length sections) ≤ nodes → q.base + length post ≤ nodes →
    All (IsWithin nodes) (twins_from p q post place sections)
twins_within nodes p q post place [] low high = All-nil (IsWithin nodes)
twins_within nodes p q post place (section ∷ rest) low high =
    rw (twins_first p q post place section rest)
    (All-append (IsWithin nodes) (twins_from p q post place (section ∷ [])) (twins_from p q post (suc place) rest)
    (twin_within nodes p q post place section (omega arith) high (place_named post section.name) refl)
    (twins_within nodes p q post (suc place) rest (omega arith) high))

pub members_within : (pre post : List NormalSection) →
    All (IsWithin (3 * (length pre + length post))) (member_edges pre post)
unfolding member_edges
members_within pre post =
    let nodes = 3 * (length pre + length post) in
    let p = pre_numbers pre post in
    let q = post_numbers pre post in
    All-append (IsWithin nodes) (flat_map (joins p) (links_in pre) ++ flat_map (joins q) (links_in post))
    (twins_from p q post 0 pre)
    (All-append (IsWithin nodes) (flat_map (joins p) (links_in pre)) (flat_map (joins q) (links_in post))
    (all_joins_within nodes p pre (omega arith))
    (all_joins_within nodes q post (omega arith)))
    (twins_within nodes p q post 0 pre (omega arith) (omega arith))

-- what the search tells
pub tell_members : (pre post : List NormalSection) → HasDistinctNames pre → HasDistinctNames post →
    (seeds : List Bool) → AreSeeds pre post seeds → (marks : List Bool) (edges : List Edge) →
    edges ≡ member_edges pre post → (nodes : ℕ) → nodes ≡ 3 * (length pre + length post) →
    ((node : ℕ) → node < nodes → Tells (slice_index_or marks node false) (ReachedAlong edges seeds node)) →
    TellMembers pre post marks
tell_members pre post distinct_pre distinct_post seeds are marks edges same nodes count told =
    record {
      in_pre = λ i s at.
          let within : i < length pre = slice_get_within pre i s at in
          let P : List Edge → Type 0 = λ e. Tells (slice_index_or marks (length post + i) false)
          (ReachedAlong e seeds (length post + i)) in
          member_tells_pre pre post distinct_pre distinct_post seeds are
          (slice_index_or marks (length post + i) false) i s at (subst P same (told (length post + i) (omega arith)));
      in_post = λ i s at.
          let within : i < length post = slice_get_within post i s at in
          let zero_first : i ≡ 0 + i = omega arith in
          let P : List Edge → Type 0 = λ e. Tells (slice_index_or marks i false) (ReachedAlong e seeds i) in
          let Q : ℕ → Type 0 = λ k. Tells (slice_index_or marks i false)
          (ReachedAlong (member_edges pre post) seeds k) in
          member_tells_post pre post distinct_pre distinct_post seeds are (slice_index_or marks i false) i s at
          (subst Q zero_first (subst P same (told i (omega arith))));
    }
