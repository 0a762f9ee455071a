-- The nodes of two objects are apart, and what graph search reaches among them holds.
use Rattle.std.proofs.Common.{◌≡◌, ◌⊎◌, inl, inr, ℕ, suc, ◌+◌, ◌<◌, Bool, true, ◌==◌, ◌&&◌}
use Rattle.std.proofs.Common.{List, [], ◌∷◌, ◌++◌, length, Some, refl, sym, ◌∙◌, arith}
use Rattle.std.specs.List.{flat_map, slice_get}
use Rattle.std.proofs.lemmas.Bool.{or_cases}
use Rattle.std.proofs.lemmas.Option.{same_Some, slice_get_within}
use Rattle.std.proofs.lemmas.List.Folds.{list_any-append}
use Rattle.reachability.specs.declared.edge.Edge.{Edge}
use Rattle.reachability.specs.Reached.{connects, ReachedAlong}
use Rattle.reachability.specs.Reached.ReachedAlong.{Seed, Next}
use Rattle.i386_reloc.specs.declared.types.NormalSection.{NormalSection}
use Rattle.i386_reloc.specs.Places.{place_named}
use Rattle.extract_post.specs.Members.{Member}
use Rattle.extract_post.specs.Members.Tied.{InPre, InPost}
use Rattle.extract_post.specs.Members.Member.{Differing, OnlyInPost}
use Rattle.extract_post.specs.inside.Closures.{HasDistinctNames}
use Rattle.extract_post.specs.inside.Edges.{links_in, Numbers, member_node, joins, twins_from}
use Rattle.extract_post.specs.inside.Edges.{pre_numbers, post_numbers, member_edges}
use Rattle.extract_post.specs.inside.Seeds.{IsSeed, AreSeeds}
use Rattle.i386_reloc.specs.laws.NamedPlaces.{section_at_place}
use Rattle.extract_post.proofs.Links.{option_cases}
use Rattle.extract_post.proofs.Joins.{Kind, node_of, Fact, two_edges, two_ends, Hands, joins_hands}
use Rattle.extract_post.proofs.Joins.Kind.{AsMember, AsFrom, AsInto}

-- which of the two objects
pub data Side : Type 0 where
  Pre Post : Side

abbrev pub sections_of : List NormalSection → List NormalSection → Side → List NormalSection
sections_of pre post Pre = pre
sections_of pre post Post = post

abbrev pub numbers_of : List NormalSection → List NormalSection → Side → Numbers
numbers_of pre post Pre = pre_numbers pre post
numbers_of pre post Post = post_numbers pre post

abbrev pub node_at : (pre post : List NormalSection) → Side → Kind → ℕ → ℕ
node_at pre post side kind place = node_of (numbers_of pre post side) kind place

-- Two nodes of one number are one node.
abbrev numbered : ℕ → Kind → ℕ → ℕ
numbered total AsMember at = at
numbered total AsFrom at = total + at
numbered total AsInto at = total + (total + at)

node_is_numbered : (pre post : List NormalSection) (side : Side) (kind : Kind) (i : ℕ) →
    node_at pre post side kind i ≡ numbered (length pre + length post) kind (member_node (numbers_of pre post side) i)
node_is_numbered pre post Pre AsMember i = refl
node_is_numbered pre post Pre AsFrom i = refl
node_is_numbered pre post Pre AsInto i = refl
node_is_numbered pre post Post AsMember i = refl
node_is_numbered pre post Post AsFrom i = refl
node_is_numbered pre post Post AsInto i = refl

within_total : (pre post : List NormalSection) (side : Side) (i : ℕ) → i < length (sections_of pre post side) →
    member_node (numbers_of pre post side) i < length pre + length post
within_total pre post Pre i within = omega arith
within_total pre post Post i within = omega arith

same_kind : (total p q : ℕ) → p < total → q < total → (k l : Kind) → numbered total k p ≡ numbered total l q →
    (k ≡ l) × (p ≡ q)
same_kind total p q in_p in_q AsMember AsMember same = (refl, same)
same_kind total p q in_p in_q AsMember AsFrom same = absurd (omega arith)
same_kind total p q in_p in_q AsMember AsInto same = absurd (omega arith)
same_kind total p q in_p in_q AsFrom AsMember same = absurd (omega arith)
same_kind total p q in_p in_q AsFrom AsFrom same = (refl, omega arith)
same_kind total p q in_p in_q AsFrom AsInto same = absurd (omega arith)
same_kind total p q in_p in_q AsInto AsMember same = absurd (omega arith)
same_kind total p q in_p in_q AsInto AsFrom same = absurd (omega arith)
same_kind total p q in_p in_q AsInto AsInto same = (refl, omega arith)

same_side : (pre post : List NormalSection) (s t : Side) (i j : ℕ) → i < length (sections_of pre post s) →
    j < length (sections_of pre post t) →
    member_node (numbers_of pre post s) i ≡ member_node (numbers_of pre post t) j → (s ≡ t) × (i ≡ j)
same_side pre post Pre Pre i j in_i in_j same = (refl, omega arith)
same_side pre post Pre Post i j in_i in_j same = absurd (omega arith)
same_side pre post Post Pre i j in_i in_j same = absurd (omega arith)
same_side pre post Post Post i j in_i in_j same = (refl, omega arith)

-- a node of a section of one of the objects, with what it says
pub record Node (pre post : List NormalSection) (number : ℕ) : Type 0 where
  pub side : Side
  pub kind : Kind
  pub place : ℕ
  pub section : NormalSection
  pub at : slice_get (sections_of pre post side) place ≡ Some section
  pub is_number : node_at pre post side kind place ≡ number

abbrev pub Says : (pre post : List NormalSection) (number : ℕ) → Node pre post number → Type 0
Says pre post number node = Fact pre post (sections_of pre post node.side) node.kind node.section.name

pub says_same : (pre post : List NormalSection) (number : ℕ) (x y : Node pre post number) → Says pre post number x →
    Says pre post number y
says_same pre post number x y says =
    let total = length pre + length post in
    let in_x = slice_get_within (sections_of pre post x.side) x.place x.section x.at in
    let in_y = slice_get_within (sections_of pre post y.side) y.place y.section y.at in
    let same : numbered total x.kind (member_node (numbers_of pre post x.side) x.place) ≡ numbered total y.kind
    (member_node (numbers_of pre post y.side) y.place) =
    sym (node_is_numbered pre post x.side x.kind x.place) ∙ x.is_number ∙ sym y.is_number
    ∙ node_is_numbered pre post y.side y.kind y.place in
    let kinds = same_kind total (member_node (numbers_of pre post x.side) x.place)
    (member_node (numbers_of pre post y.side) y.place)
    (within_total pre post x.side x.place in_x) (within_total pre post y.side y.place in_y) x.kind y.kind same in
    let sides = same_side pre post x.side y.side x.place y.place in_x in_y kinds.1 in
    let at : slice_get (sections_of pre post y.side) y.place ≡ Some x.section = rw (← sides.0, ← sides.1) x.at in
    let sections : x.section ≡ y.section = same_Some x.section y.section (sym at ∙ y.at) in
    rw (← sides.0, ← kinds.0, ← sections) says

-- an edge hands on what its node says
pub record HandsOn (pre post : List NormalSection) (a b : ℕ) : Type 0 where
  pub from : Node pre post a
  pub to : Node pre post b
  pub hands : Says pre post a from → Says pre post b to

hands_of : (pre post : List NormalSection) (side : Side) (a b : ℕ) →
    Hands pre post (sections_of pre post side) (numbers_of pre post side) a b → HandsOn pre post a b
hands_of pre post side a b h =
    record {
      from = record {
        side = side;
        kind = h.kind_from;
        place = h.from;
        section = h.source;
        at = h.at_source;
        is_number =
            h.is_from;
      };
      to = record {
        side = side;
        kind = h.kind_to;
        place = h.to;
        section = h.target;
        at = h.at_target;
        is_number =
            h.is_to;
      };
      hands = h.hands;
    }

-- twins: the sections of one name in both objects
pub record Twin (pre post : List NormalSection) (a b : ℕ) : Type 0 where
  pub place : ℕ
  pub section : NormalSection
  pub at : slice_get pre place ≡ Some section
  pub other : ℕ
  pub at_other : place_named post section.name ≡ Some other
  pub ends : ((member_node (pre_numbers pre post) place ≡ a) × (member_node (post_numbers pre post) other ≡ b))
      ⊎ ((member_node (post_numbers pre post) other ≡ a) × (member_node (pre_numbers pre post) place ≡ b))

twin_of_section : (pre post : List NormalSection) (place : ℕ) (section : NormalSection) (rest : List NormalSection)
    (a b : ℕ) →
    slice_get pre place ≡ Some section →
    connects (twins_from (pre_numbers pre post) (post_numbers pre post) post place (section ∷ rest)) a b ≡ true
    → Twin pre post a b ⊎ (connects (twins_from (pre_numbers pre post) (post_numbers pre post) post (suc place) rest) a
    b ≡ true)
twin_of_section pre post place section rest a b at it =
    elim (option_cases (place_named post section.name)) [
      | inl none ↦ inr (rw none at it)
      | inr other ↦
          let p = member_node (pre_numbers pre post) place in
          let q = member_node (post_numbers pre post) other.0 in
          let more = twins_from (pre_numbers pre post) (post_numbers pre post) post (suc place) rest in
          let joined : connects (two_edges p q q p ++ more) a b ≡ true = rw other.1 at it in
          elim (or_cases (connects (two_edges p q q p) a b) (connects more a b)
          (sym (list_any-append (λ e. e.from == a && e.to == b) (two_edges p q q p) more) ∙ joined)) [
            | inl here ↦ inl (record {
              place = place;
              section = section;
              at = at;
              other = other.0;
              at_other =
                  other.1;
              ends = two_ends p q q p a b here;
            })
            | inr later ↦ inr later
          ]
    ]

twin_from : (pre post : List NormalSection) (place : ℕ) (rest : List NormalSection) (a b : ℕ) →
    ((i : ℕ) (s : NormalSection) → slice_get rest i ≡ Some s → slice_get pre (place + i) ≡ Some s) →
    connects (twins_from (pre_numbers pre post) (post_numbers pre post) post place rest) a b ≡ true → Twin pre post a b
twin_from pre post place [] a b within it = absurd cc
twin_from pre post place (s ∷ rest) a b within it =
    let e : place + 0 ≡ place = omega arith in
    let at : slice_get pre place ≡ Some s = rw e at (within 0 s refl) in
    elim (twin_of_section pre post place s rest a b at it) [
      | inl twin ↦ twin
      | inr later ↦ twin_from pre post (suc place) rest a b
          (λ i t at. let e : suc place + i ≡ place + suc i = omega arith in rw e (within (suc i) t at)) later
    ]

pub twin_found : (pre post : List NormalSection) (a b : ℕ) →
    connects (twins_from (pre_numbers pre post) (post_numbers pre post) post 0 pre) a b ≡ true → Twin pre post a b
twin_found pre post a b it = twin_from pre post 0 pre a b (λ i s at. let e : 0 + i ≡ i = omega arith in rw e at) it

twin_hands : (pre post : List NormalSection) (a b : ℕ) → Twin pre post a b → HandsOn pre post a b
twin_hands pre post a b twin =
    let (t, at, same) = section_at_place post twin.section.name twin.other twin.at_other in
    elim twin.ends [
      | inl ends ↦ record {
        from = record {
          side = Pre;
          kind = AsMember;
          place = twin.place;
          section = twin.section;
          at =
              twin.at;
          is_number = ends.0;
        };
        to = record { side = Post; kind = AsMember; place = twin.other; section = t; at = at; is_number = ends.1 };
        hands = λ member. rw same member;
      }
      | inr ends ↦ record {
        from = record { side = Post; kind = AsMember; place = twin.other; section = t; at = at; is_number = ends.0 };
        to = record {
          side = Pre;
          kind = AsMember;
          place = twin.place;
          section = twin.section;
          at = twin.at;
          is_number =
              ends.1;
        };
        hands = λ member. rw (← same) member;
      }
    ]

-- the three kinds of edges
abbrev all_edges : (first second third : List Edge) → List Edge
all_edges first second third = first ++ second ++ third

edge_cases : (first second third : List Edge) (a b : ℕ) → connects (all_edges first second third) a b ≡ true →
    (connects first a b ≡ true) ⊎ ((connects second a b ≡ true) ⊎ (connects third a b ≡ true))
edge_cases first second third a b it =
    let test : Edge → Bool = λ e. e.from == a && e.to == b in
    elim (or_cases (connects (first ++ second) a b) (connects third a b)
    (sym (list_any-append test (first ++ second) third) ∙ it)) [
      | inl before ↦ elim (or_cases (connects first a b) (connects second a b)
          (sym (list_any-append test first second) ∙ before)) [
            | inl here ↦ inl here
            | inr here ↦ inr (inl here)
          ]
      | inr here ↦ inr (inr here)
    ]

pub edge_hands : (pre post : List NormalSection) → HasDistinctNames pre → HasDistinctNames post → (a b : ℕ) →
    connects (member_edges pre post) a b ≡ true → HandsOn pre post a b
unfolding member_edges
edge_hands pre post distinct_pre distinct_post a b it =
    elim (edge_cases (flat_map (joins (pre_numbers pre post)) (links_in pre))
    (flat_map (joins (post_numbers pre post)) (links_in post))
    (twins_from (pre_numbers pre post) (post_numbers pre post) post 0 pre) a b it) [
      | inl in_pre ↦ hands_of pre post Pre a b
          (joins_hands pre post pre distinct_pre (λ x y code points. InPre x y code points)
          (pre_numbers pre post) a b in_pre)
      | inr more ↦ elim more [
        | inl in_post ↦ hands_of pre post Post a b
            (joins_hands pre post post distinct_post (λ x y code points. InPost x y code points)
            (post_numbers pre post) a b in_post)
        | inr twin ↦ twin_hands pre post a b (twin_found pre post a b twin)
      ]
    ]

-- seeds are members
seed_member : (pre post : List NormalSection) (name : List ℕ) → IsSeed pre post name → Member pre post name
seed_member pre post name (inl differs) = Differing name differs
seed_member pre post name (inr only) = OnlyInPost name only

-- what is reached holds
pub record Holds (pre post : List NormalSection) (number : ℕ) : Type 0 where
  pub node : Node pre post number
  pub says : Says pre post number node

pub reached_holds : (pre post : List NormalSection) → HasDistinctNames pre → HasDistinctNames post →
    (seeds : List Bool) → AreSeeds pre post seeds → (number : ℕ) → ReachedAlong (member_edges pre post) seeds number →
    Holds pre post number
reached_holds pre post distinct_pre distinct_post seeds are number (Seed node seeded) =
    let seed = are.sound node seeded in
    record {
      node = record {
        side = Post;
        kind = AsMember;
        place = seed.place;
        section = seed.section;
        at =
            seed.at;
        is_number = sym seed.is_node;
      };
      says = seed_member pre post seed.section.name seed.is_seed;
    }
reached_holds pre post distinct_pre distinct_post seeds are number (Next node next reached it) =
    let before = reached_holds pre post distinct_pre distinct_post seeds are node reached in
    let h = edge_hands pre post distinct_pre distinct_post node next it in
    record { node = h.to; says = h.hands (says_same pre post node before.node h.from before.says) }
