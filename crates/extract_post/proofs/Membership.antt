-- Graph search along the edges for members, from the seeds on, finds the members and no other code section.
use Rattle.std.proofs.Common.{◌≡◌, inl, inr, ℕ, zero, suc, ◌+◌, Bool, true, not, ◌==◌}
use Rattle.std.proofs.Common.{◌&&◌, List, [], ◌∷◌, ◌++◌, Some, refl, sym, ap, ◌∙◌, arith}
use Rattle.std.specs.List.{list_any, flat_map, slice_get}
use Rattle.std.proofs.lemmas.Bool.{or_left, or_right, and_parts}
use Rattle.std.proofs.lemmas.Option.{same_Some}
use Rattle.std.proofs.lemmas.List.Folds.{list_any-append}
use Rattle.reachability.specs.declared.edge.Edge.{Edge}
use Rattle.reachability.specs.Reached.{connects, ReachedAlong}
use Rattle.reachability.specs.Reached.ReachedAlong.{Seed, Next}
use Rattle.i386_reloc.specs.declared.types.NormalSection.{NormalSection}
use Rattle.i386_reloc.specs.Classes.{is_code_class}
use Rattle.i386_reloc.specs.Places.{place_named}
use Rattle.i386_reloc.specs.Reaches.{is_in}
use Rattle.extract_post.specs.Members.{is_there, Differs, Tied, Member}
use Rattle.extract_post.specs.Members.Differs.{Itself, Through}
use Rattle.extract_post.specs.Members.Tied.{InPre, InPost, Back}
use Rattle.extract_post.specs.Members.Member.{Differing, OnlyInPost, Joined}
use Rattle.extract_post.specs.inside.Closures.{HasDistinctNames}
use Rattle.extract_post.specs.inside.Edges.{edge, links_in, member_node, joins, twins_from}
use Rattle.extract_post.specs.inside.Edges.{pre_numbers, post_numbers, member_edges}
use Rattle.extract_post.specs.inside.Seeds.{IsSeed, AreSeeds}
use Rattle.extract_post.proofs.Links.{placed}
use Rattle.extract_post.proofs.Closures.{first_edge, later_edge, same_place}
use Rattle.extract_post.proofs.Joins.Kind.{AsMember}
use Rattle.extract_post.proofs.Nodes.{Node, says_same, reached_holds}
use Rattle.extract_post.proofs.Nodes.Side.{Pre, Post}
use Rattle.extract_post.proofs.Ties.{Includes, section_in, tie_forward, tie_back}

-- what is reached is a member
pub member_sound_pre : (pre post : List NormalSection) → HasDistinctNames pre → HasDistinctNames post →
    (seeds : List Bool) → AreSeeds pre post seeds → (i : ℕ) (s : NormalSection) → slice_get pre i ≡ Some s →
    ReachedAlong (member_edges pre post) seeds (member_node (pre_numbers pre post) i) → Member pre post s.name
member_sound_pre pre post distinct_pre distinct_post seeds are i s at reached =
    let holds = reached_holds pre post distinct_pre distinct_post seeds are
    (member_node (pre_numbers pre post) i) reached in
    let node : Node pre post (member_node (pre_numbers pre post) i) =
    record { side = Pre; kind = AsMember; place = i; section = s; at = at; is_number = refl } in
    says_same pre post (member_node (pre_numbers pre post) i) holds.node node holds.says

pub member_sound_post : (pre post : List NormalSection) → HasDistinctNames pre → HasDistinctNames post →
    (seeds : List Bool) → AreSeeds pre post seeds → (i : ℕ) (s : NormalSection) → slice_get post i ≡ Some s →
    ReachedAlong (member_edges pre post) seeds (member_node (post_numbers pre post) i) → Member pre post s.name
member_sound_post pre post distinct_pre distinct_post seeds are i s at reached =
    let holds = reached_holds pre post distinct_pre distinct_post seeds are
    (member_node (post_numbers pre post) i) reached in
    let node : Node pre post (member_node (post_numbers pre post) i) =
    record { side = Post; kind = AsMember; place = i; section = s; at = at; is_number = refl } in
    says_same pre post (member_node (post_numbers pre post) i) holds.node node holds.says

-- the edges of pre, of post, and of twins
in_first : (first second third : List Edge) (a b : ℕ) → connects first a b ≡ true →
    connects (first ++ second ++ third) a b ≡ true
in_first first second third a b it =
    let test : Edge → Bool = λ e. e.from == a && e.to == b in
    list_any-append test (first ++ second) third
    ∙ or_left (list_any test (first ++ second)) (list_any test third)
    (list_any-append test first second ∙ or_left (list_any test first) (list_any test second) it)

in_second : (first second third : List Edge) (a b : ℕ) → connects second a b ≡ true →
    connects (first ++ second ++ third) a b ≡ true
in_second first second third a b it =
    let test : Edge → Bool = λ e. e.from == a && e.to == b in
    list_any-append test (first ++ second) third
    ∙ or_left (list_any test (first ++ second)) (list_any test third)
    (list_any-append test first second ∙ or_right (list_any test first) (list_any test second) it)

in_third : (first second third : List Edge) (a b : ℕ) → connects third a b ≡ true →
    connects (first ++ second ++ third) a b ≡ true
in_third first second third a b it =
    let test : Edge → Bool = λ e. e.from == a && e.to == b in
    list_any-append test (first ++ second) third ∙ or_right (list_any test (first ++ second)) (list_any test third) it

pre_included : (pre post : List NormalSection) → Includes (member_edges pre post) pre (pre_numbers pre post)
unfolding member_edges
pre_included pre post a b it =
    in_first (flat_map (joins (pre_numbers pre post)) (links_in pre))
    (flat_map (joins (post_numbers pre post)) (links_in post))
    (twins_from (pre_numbers pre post) (post_numbers pre post) post 0 pre) a b it

post_included : (pre post : List NormalSection) → Includes (member_edges pre post) post (post_numbers pre post)
unfolding member_edges
post_included pre post a b it =
    in_second (flat_map (joins (pre_numbers pre post)) (links_in pre))
    (flat_map (joins (post_numbers pre post)) (links_in post))
    (twins_from (pre_numbers pre post) (post_numbers pre post) post 0 pre) a b it

twins_included : (pre post : List NormalSection) (a b : ℕ) →
    connects (twins_from (pre_numbers pre post) (post_numbers pre post) post 0 pre) a b ≡ true →
    connects (member_edges pre post) a b ≡ true
unfolding member_edges
twins_included pre post a b it =
    in_third (flat_map (joins (pre_numbers pre post)) (links_in pre))
    (flat_map (joins (post_numbers pre post)) (links_in post))
    (twins_from (pre_numbers pre post) (post_numbers pre post) post 0 pre) a b it

-- edges between twins, both ways
record TwinWays (edges : List Edge) (a b : ℕ) : Type 0 where
  there : connects edges a b ≡ true
  back : connects edges b a ≡ true

ways_behind : (front edges : List Edge) (a b : ℕ) → TwinWays edges a b → TwinWays (front ++ edges) a b
ways_behind front edges a b ways =
    record {
      there = list_any-append (λ e. e.from == a && e.to == b) front edges
          ∙ or_right (connects front a b) (connects edges a b) ways.there;
      back = list_any-append (λ e. e.from == b && e.to == a) front edges
          ∙ or_right (connects front b a) (connects edges b a) ways.back;
    }

twins_with : (pre post : List NormalSection) (place : ℕ) (rest : List NormalSection) (i : ℕ) (s : NormalSection)
    (other : ℕ) →
    slice_get rest i ≡ Some s → place_named post s.name ≡ Some other →
    TwinWays (twins_from (pre_numbers pre post) (post_numbers pre post) post place rest)
    (member_node (pre_numbers pre post) (place + i)) (member_node (post_numbers pre post) other)
twins_with pre post place [] i s other at at_other = absurd cc
twins_with pre post place (x ∷ rest) zero s other at at_other =
    let e : place + 0 ≡ place = omega arith in
    let same : x ≡ s = same_Some x s at in
    let at_x : place_named post x.name ≡ Some other = rw same at_other in
    let p = member_node (pre_numbers pre post) place in
    let q = member_node (post_numbers pre post) other in
    let more = twins_from (pre_numbers pre post) (post_numbers pre post) post (suc place) rest in
    rw (e, at_x) (record {
      there = first_edge p q (edge q p ∷ more);
      back = later_edge (edge p q) (edge q p ∷ more) q p (first_edge q p more);
    })
twins_with pre post place (x ∷ rest) (suc i) s other at at_other =
    let e : place + suc i ≡ suc place + i = omega arith in
    let more = twins_from (pre_numbers pre post) (post_numbers pre post) post (suc place) rest in
    let a = member_node (pre_numbers pre post) (suc place + i) in
    let b = member_node (post_numbers pre post) other in
    rw e (ways_behind _ more a b (twins_with pre post (suc place) rest i s other at at_other))

twin_ways : (pre post : List NormalSection) (i : ℕ) (s : NormalSection) (j : ℕ) → slice_get pre i ≡ Some s →
    place_named post s.name ≡ Some j →
    TwinWays (member_edges pre post) (member_node (pre_numbers pre post) i) (member_node (post_numbers pre post) j)
twin_ways pre post i s j at at_other =
    let e : 0 + i ≡ i = omega arith in
    let ways : TwinWays (twins_from (pre_numbers pre post) (post_numbers pre post) post 0 pre)
    (member_node (pre_numbers pre post) i) (member_node (post_numbers pre post) j) =
    rw e at (twins_with pre post 0 pre i s j at at_other) in
    record { there = twins_included pre post _ _ ways.there; back = twins_included pre post _ _ ways.back }

-- that all nodes of a name, as a member, are reached
record Everywhere (pre post : List NormalSection) (seeds : List Bool) (name : List ℕ) : Type 0 where
  in_pre : (i : ℕ) (s : NormalSection) → slice_get pre i ≡ Some s → s.name ≡ name →
      ReachedAlong (member_edges pre post) seeds (member_node (pre_numbers pre post) i)
  in_post : (i : ℕ) (s : NormalSection) → slice_get post i ≡ Some s → s.name ≡ name →
      ReachedAlong (member_edges pre post) seeds (member_node (post_numbers pre post) i)

from_pre : (pre post : List NormalSection) → HasDistinctNames pre → HasDistinctNames post →
    (seeds : List Bool) (name : List ℕ) (i : ℕ) (s : NormalSection) → slice_get pre i ≡ Some s → s.name ≡ name →
    ReachedAlong (member_edges pre post) seeds (member_node (pre_numbers pre post) i) → Everywhere pre post seeds name
from_pre pre post distinct_pre distinct_post seeds name i s at same reached =
    record {
      in_pre = λ j t at_j same_t. rw (same_place pre distinct_pre j t at_j i s at (same_t ∙ sym same)) reached;
      in_post = λ j t at_j same_t.
          let at_other : place_named post s.name ≡ Some j = ap (place_named post) (same ∙ sym same_t)
          ∙ placed post distinct_post j t at_j in
          Next (member_node (pre_numbers pre post) i) (member_node (post_numbers pre post) j) reached
          (twin_ways pre post i s j at at_other).there;
    }

from_post : (pre post : List NormalSection) → HasDistinctNames pre → HasDistinctNames post →
    (seeds : List Bool) (name : List ℕ) (j : ℕ) (t : NormalSection) → slice_get post j ≡ Some t → t.name ≡ name →
    ReachedAlong (member_edges pre post) seeds (member_node (post_numbers pre post) j) →
    Everywhere pre post seeds name
from_post pre post distinct_pre distinct_post seeds name j t at_j same_t reached =
    record {
      in_pre = λ i s at same.
          let at_other : place_named post s.name ≡ Some j = ap (place_named post) (same ∙ sym same_t)
          ∙ placed post distinct_post j t at_j in
          Next (member_node (post_numbers pre post) j) (member_node (pre_numbers pre post) i) reached
          (twin_ways pre post i s j at at_other).back;
      in_post = λ i s at same. rw (same_place post distinct_post i s at j t at_j (same ∙ sym same_t)) reached;
    }

-- along a tie, either way
record TieWays (pre post : List NormalSection) (seeds : List Bool) (a b : List ℕ) : Type 0 where
  there : Everywhere pre post seeds a → Everywhere pre post seeds b
  back : Everywhere pre post seeds b → Everywhere pre post seeds a

tie_ways : (pre post : List NormalSection) → HasDistinctNames pre → HasDistinctNames post →
    (seeds : List Bool) (a b : List ℕ) → Tied pre post a b → TieWays pre post seeds a b
tie_ways pre post distinct_pre distinct_post seeds a b (InPre x y code points) =
    let (i, s, at, same) = section_in pre is_code_class x code in
    record {
      there = λ all.
          let (j, t, at_j, same_t, reached) = tie_forward pre distinct_pre (pre_numbers pre post)
          (member_edges pre post) seeds (pre_included pre post) x y code points i s at same
          (all.in_pre i s at same) in
          from_pre pre post distinct_pre distinct_post seeds y j t at_j same_t reached;
      back = λ all. from_pre pre post distinct_pre distinct_post seeds x i s at same
          (tie_back pre distinct_pre (pre_numbers pre post) (member_edges pre post) seeds
          (pre_included pre post) x y code points i s at same all.in_pre);
    }
tie_ways pre post distinct_pre distinct_post seeds a b (InPost x y code points) =
    let (i, s, at, same) = section_in post is_code_class x code in
    record {
      there = λ all.
          let (j, t, at_j, same_t, reached) = tie_forward post distinct_post (post_numbers pre post)
          (member_edges pre post) seeds (post_included pre post) x y code points i s at same
          (all.in_post i s at same) in
          from_post pre post distinct_pre distinct_post seeds y j t at_j same_t reached;
      back = λ all. from_post pre post distinct_pre distinct_post seeds x i s at same
          (tie_back post distinct_post (post_numbers pre post) (member_edges pre post) seeds
          (post_included pre post) x y code points i s at same all.in_post);
    }
tie_ways pre post distinct_pre distinct_post seeds a b (Back x y tied) =
    let ways = tie_ways pre post distinct_pre distinct_post seeds x y tied in
    record { there = ways.back; back = ways.there }

-- a section that differs is a code section of both objects
pub differs_in : (pre post : List NormalSection) (name : List ℕ) → Differs pre post name →
    (is_in is_code_class pre name ≡ true) × (is_in is_code_class post name ≡ true)
differs_in pre post name (Itself n both other) = and_parts (is_in is_code_class pre n) (is_in is_code_class post n) both
differs_in pre post name (Through n both changed) =
    and_parts (is_in is_code_class pre n) (is_in is_code_class post n) both

seeded_everywhere : (pre post : List NormalSection) → HasDistinctNames pre → HasDistinctNames post →
    (seeds : List Bool) → AreSeeds pre post seeds → (name : List ℕ) → IsSeed pre post name →
    is_in is_code_class post name ≡ true → Everywhere pre post seeds name
seeded_everywhere pre post distinct_pre distinct_post seeds are name seed code =
    let (j, t, at, same) = section_in post is_code_class name code in
    from_post pre post distinct_pre distinct_post seeds name j t at same
    (Seed (member_node (post_numbers pre post) j) (are.complete j t at (rw same seed)))

everywhere : (pre post : List NormalSection) → HasDistinctNames pre → HasDistinctNames post → (seeds : List Bool) →
    AreSeeds pre post seeds → (name : List ℕ) → Member pre post name → Everywhere pre post seeds name
everywhere pre post distinct_pre distinct_post seeds are name (Differing n differs) =
    seeded_everywhere pre post distinct_pre distinct_post seeds are n (inl differs) (differs_in pre post n differs).1
everywhere pre post distinct_pre distinct_post seeds are name (OnlyInPost n only) =
    seeded_everywhere pre post distinct_pre distinct_post seeds are n (inr only)
    (and_parts (is_in is_code_class post n) (not (is_there pre n)) only).0
everywhere pre post distinct_pre distinct_post seeds are name (Joined m other member tied) =
    (tie_ways pre post distinct_pre distinct_post seeds m other tied).there
    (everywhere pre post distinct_pre distinct_post seeds are m member)

-- each member is reached
pub member_complete_pre : (pre post : List NormalSection) → HasDistinctNames pre → HasDistinctNames post →
    (seeds : List Bool) → AreSeeds pre post seeds → (i : ℕ) (s : NormalSection) → slice_get pre i ≡ Some s →
    Member pre post s.name → ReachedAlong (member_edges pre post) seeds (member_node (pre_numbers pre post) i)
member_complete_pre pre post distinct_pre distinct_post seeds are i s at member =
    (everywhere pre post distinct_pre distinct_post seeds are s.name member).in_pre i s at refl

pub member_complete_post : (pre post : List NormalSection) → HasDistinctNames pre → HasDistinctNames post →
    (seeds : List Bool) → AreSeeds pre post seeds → (i : ℕ) (s : NormalSection) → slice_get post i ≡ Some s →
    Member pre post s.name → ReachedAlong (member_edges pre post) seeds (member_node (post_numbers pre post) i)
member_complete_post pre post distinct_pre distinct_post seeds are i s at member =
    (everywhere pre post distinct_pre distinct_post seeds are s.name member).in_post i s at refl
