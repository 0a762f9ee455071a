-- A tie in one object is a path of edges, from either end to the other.
use Rattle.std.proofs.Common.{◌≡◌, ℕ, Bool, true, false, ◌&&◌, List, [], ◌∷◌, Some, inl, inr, refl}
use Rattle.std.specs.List.{list_any, flat_map, slice_get}
use Rattle.std.proofs.lemmas.Bool.{and_parts}
use Rattle.reachability.specs.declared.edge.Edge.{Edge}
use Rattle.reachability.specs.Reached.{connects, ReachedAlong}
use Rattle.reachability.specs.Reached.ReachedAlong.{Next}
use Rattle.i386_reloc.specs.declared.types.Class.{Class}
use Rattle.i386_reloc.specs.declared.types.Ref.{Ref}
use Rattle.i386_reloc.specs.declared.types.NormalSection.{NormalSection}
use Rattle.i386_reloc.specs.Classes.{is_code_class}
use Rattle.i386_reloc.specs.Normal.{section_named}
use Rattle.i386_reloc.specs.Reaches.{is_constant_class, is_read_only_class, is_in}
use Rattle.i386_reloc.specs.Reaches.{some_reference, goes_to, is_interior, refers_on}
use Rattle.extract_post.specs.Members.{points_into, PointsInto}
use Rattle.extract_post.specs.Members.PointsInto.{Itself, Through}
use Rattle.extract_post.specs.inside.Closures.{HasDistinctNames}
use Rattle.extract_post.specs.inside.Edges.{edge, links_in, Numbers, member_node, from_node, into_node, joins}
use Rattle.i386_reloc.specs.laws.NamedPlaces.{section_found}
use Rattle.extract_post.proofs.Links.{Among, item_found, option_cases, named_at, link_between, link_is_in, edge_of_link}
use Rattle.extract_post.proofs.Closures.{first_edge, later_edge, reference_found}
use Rattle.extract_post.proofs.Closures.{target_constant, along_reaches, back_reaches}
use Rattle.extract_post.proofs.Joins.{constant_not_code, read_only_not_code, two_edges}

-- a reference of a section to the interior of another
record PointsAt (sections : List NormalSection) (s t : NormalSection) : Type 0 where
  reference : Ref
  among : Among s.refs reference
  goes : goes_to t.name reference ≡ true
  interior : is_interior reference ≡ true
  code : is_code_class t.class ≡ true

points_found : (sections : List NormalSection) → HasDistinctNames sections → (i : ℕ) (s : NormalSection) →
    slice_get sections i ≡ Some s → (j : ℕ) (t : NormalSection) → slice_get sections j ≡ Some t →
    points_into sections s.name t.name ≡ true → PointsAt sections s t
points_found sections distinct i s at_i j t at_j points =
    let parts = and_parts (is_in is_code_class sections t.name)
    (some_reference (λ r. goes_to t.name r && is_interior r) (section_named sections s.name)) points in
    let any : list_any (λ r. goes_to t.name r && is_interior r) s.refs ≡ true =
    rw (named_at sections distinct i s at_i) at parts.1 in
    let code : is_code_class t.class ≡ true = rw (named_at sections distinct j t at_j) at parts.0 in
    let (r, among, both) = item_found (λ r. goes_to t.name r && is_interior r) s.refs any in
    let tests = and_parts (goes_to t.name r) (is_interior r) both in
    record { reference = r; among = among; goes = tests.0; interior = tests.1; code = code }

-- both edges of a link
record BothWays (edges : List Edge) (a b c d : ℕ) : Type 0 where
  first : connects edges a b ≡ true
  second : connects edges c d ≡ true

both_ways_of : (sections : List NormalSection) → HasDistinctNames sections →
    (n : Numbers) (i : ℕ) (s : NormalSection) → slice_get sections i ≡ Some s → (j : ℕ) (t : NormalSection) →
    slice_get sections j ≡ Some t → (r : Ref) → Among s.refs r → goes_to t.name r ≡ true → (a b c d : ℕ) →
    joins n (link_between i s j t r) ≡ two_edges a b c d → BothWays (flat_map (joins n) (links_in sections)) a b c d
both_ways_of sections distinct n i s at_i j t at_j r among goes a b c d edges =
    let link = link_between i s j t r in
    let is_in = link_is_in sections distinct i s at_i j t at_j r among goes in
    record {
      first = edge_of_link (joins n) sections link is_in a b (rw edges (first_edge a b (edge c d ∷ [])));
      second = edge_of_link (joins n) sections link is_in c d
          (rw edges (later_edge (edge a b) (edge c d ∷ []) c d (first_edge c d [])));
    }

code_points : (sections : List NormalSection) → HasDistinctNames sections →
    (n : Numbers) (i : ℕ) (s : NormalSection) → slice_get sections i ≡ Some s → (j : ℕ) (t : NormalSection) →
    slice_get sections j ≡ Some t → is_code_class s.class ≡ true → points_into sections s.name t.name ≡ true →
    BothWays (flat_map (joins n) (links_in sections)) (member_node n i) (member_node n j) (member_node n j)
    (member_node n i)
code_points sections distinct n i s at_i j t at_j code points =
    let p = points_found sections distinct i s at_i j t at_j points in
    both_ways_of sections distinct n i s at_i j t at_j p.reference p.among p.goes _ _ _ _
    (rw (p.code, p.interior, code) refl)

read_only_points : (sections : List NormalSection) → HasDistinctNames sections →
    (n : Numbers) (i : ℕ) (s : NormalSection) → slice_get sections i ≡ Some s → (j : ℕ) (t : NormalSection) →
    slice_get sections j ≡ Some t → is_read_only_class s.class ≡ true → points_into sections s.name t.name ≡ true →
    BothWays (flat_map (joins n) (links_in sections)) (from_node n i) (member_node n j) (member_node n j)
    (into_node n i)
read_only_points sections distinct n i s at_i j t at_j read_only points =
    let p = points_found sections distinct i s at_i j t at_j points in
    both_ways_of sections distinct n i s at_i j t at_j p.reference p.among p.goes _ _ _ _
    (rw (p.code, p.interior, read_only_not_code s.class read_only, read_only) refl)

code_refers : (sections : List NormalSection) → HasDistinctNames sections →
    (n : Numbers) (i : ℕ) (s : NormalSection) → slice_get sections i ≡ Some s → (j : ℕ) (t : NormalSection) →
    slice_get sections j ≡ Some t → is_code_class s.class ≡ true → refers_on sections s.name t.name ≡ true →
    BothWays (flat_map (joins n) (links_in sections)) (member_node n i) (from_node n j) (into_node n j)
    (member_node n i)
code_refers sections distinct n i s at_i j t at_j code refers =
    let r = reference_found sections distinct i s at_i t refers in
    let constant = target_constant sections distinct j t at_j s.name refers in
    both_ways_of sections distinct n i s at_i j t at_j r.reference r.among r.goes _ _ _ _
    (rw (constant_not_code t.class constant, constant, code) refl)

constant_refers : (sections : List NormalSection) → HasDistinctNames sections →
    (n : Numbers) (i : ℕ) (s : NormalSection) → slice_get sections i ≡ Some s → (j : ℕ) (t : NormalSection) →
    slice_get sections j ≡ Some t → is_constant_class s.class ≡ true → refers_on sections s.name t.name ≡ true →
    BothWays (flat_map (joins n) (links_in sections)) (from_node n i) (from_node n j) (into_node n j) (into_node n i)
constant_refers sections distinct n i s at_i j t at_j constant_s refers =
    let r = reference_found sections distinct i s at_i t refers in
    let constant = target_constant sections distinct j t at_j s.name refers in
    both_ways_of sections distinct n i s at_i j t at_j r.reference r.among r.goes _ _ _ _
    (rw (constant_not_code t.class constant, constant, constant_not_code s.class constant_s, constant_s) refl)

-- Paths along edges of which an object's are some.
abbrev pub Includes : List Edge → List NormalSection → Numbers → Type 0
Includes edges sections n = (a b : ℕ) → connects (flat_map (joins n) (links_in sections)) a b ≡ true
    → connects edges a b ≡ true

class_at : (sections : List NormalSection) → HasDistinctNames sections → (wanted : Class → Bool) (name : List ℕ) →
    is_in wanted sections name ≡ true → (i : ℕ) (s : NormalSection) → slice_get sections i ≡ Some s → s.name ≡ name →
    wanted s.class ≡ true
class_at sections distinct wanted name it i s at same =
    let here : is_in wanted sections s.name ≡ true = rw same it in
    rw (named_at sections distinct i s at) at here

-- a section of a name and of a class
pub section_in : (sections : List NormalSection) (wanted : Class → Bool) (name : List ℕ) →
    is_in wanted sections name ≡ true →
    (i : ℕ) × (s : NormalSection) × (slice_get sections i ≡ Some s) × (s.name ≡ name)
section_in sections wanted name it =
    elim (option_cases (section_named sections name)) [
      | inl none ↦ absurd (let e : false ≡ true = rw none at it in cc)
      | inr found ↦ let (i, at, same) = section_found sections name found.0 found.1 in (i, found.0, at, same)
    ]

-- from the section that points to the one that it points into
pub tie_forward : (sections : List NormalSection) → HasDistinctNames sections →
    (n : Numbers) (edges : List Edge) (seeds : List Bool) → Includes edges sections n → (a b : List ℕ) →
    is_in is_code_class sections a ≡ true → PointsInto sections a b →
    (i : ℕ) (s : NormalSection) → slice_get sections i ≡ Some s → s.name ≡ a
    → ReachedAlong edges seeds (member_node n i) → (j : ℕ) × (t : NormalSection) × (slice_get sections j ≡ Some t)
    × (t.name ≡ b) × ReachedAlong edges seeds (member_node n j)
tie_forward sections distinct n edges seeds includes a b code (Itself x y points) i s at_i same reached =
    let (j, t, at_j, same_t) = section_in sections is_code_class y
    (and_parts (is_in is_code_class sections y)
    (some_reference (λ r. goes_to y r && is_interior r) (section_named sections x)) points).0 in
    let both = code_points sections distinct n i s at_i j t at_j
    (class_at sections distinct is_code_class x code i s at_i same) (rw (same, same_t) points) in
    (j, t, at_j, same_t, Next (member_node n i) (member_node n j) reached (includes _ _ both.first))
tie_forward sections distinct n edges seeds includes a b code
    (Through x m y reaches read_only points) i s at_i same reached =
    let code_s = class_at sections distinct is_code_class x code i s at_i same in
    let (j, t, at_j, same_t) = section_in sections is_code_class y
    (and_parts (is_in is_code_class sections y)
    (some_reference (λ r. goes_to y r && is_interior r) (section_named sections m)) points).0 in
    let (k, u, at_k, same_u, constant, from) = along_reaches sections
    (λ k. ReachedAlong edges seeds (from_node n k)) x m reaches
    (λ k u at_k constant refers. Next (member_node n i) (from_node n k) reached
    (includes _ _ (code_refers sections distinct n i s at_i k u at_k code_s (rw same refers)).first))
    (λ h v at_h constant_v k u at_k constant_u refers from. Next (from_node n h) (from_node n k) from
    (includes _ _ (constant_refers sections distinct n h v at_h k u at_k constant_v refers).first)) in
    let both = read_only_points sections distinct n k u at_k j t at_j
    (class_at sections distinct is_read_only_class m read_only k u at_k same_u) (rw (same_u, same_t) points) in
    (j, t, at_j, same_t, Next (from_node n k) (member_node n j) from (includes _ _ both.first))

-- and back
pub tie_back : (sections : List NormalSection) → HasDistinctNames sections →
    (n : Numbers) (edges : List Edge) (seeds : List Bool) → Includes edges sections n → (a b : List ℕ) →
    is_in is_code_class sections a ≡ true → PointsInto sections a b →
    (i : ℕ) (s : NormalSection) → slice_get sections i ≡ Some s → s.name ≡ a
    → ((j : ℕ) (t : NormalSection) → slice_get sections j ≡ Some t → t.name ≡ b
    → ReachedAlong edges seeds (member_node n j)) → ReachedAlong edges seeds (member_node n i)
tie_back sections distinct n edges seeds includes a b code (Itself x y points) i s at_i same reached =
    let (j, t, at_j, same_t) = section_in sections is_code_class y
    (and_parts (is_in is_code_class sections y)
    (some_reference (λ r. goes_to y r && is_interior r) (section_named sections x)) points).0 in
    let both = code_points sections distinct n i s at_i j t at_j
    (class_at sections distinct is_code_class x code i s at_i same) (rw (same, same_t) points) in
    Next (member_node n j) (member_node n i) (reached j t at_j same_t) (includes _ _ both.second)
tie_back sections distinct n edges seeds includes a b code
    (Through x m y reaches read_only points) i s at_i same reached =
    let code_s = class_at sections distinct is_code_class x code i s at_i same in
    let (j, t, at_j, same_t) = section_in sections is_code_class y
    (and_parts (is_in is_code_class sections y)
    (some_reference (λ r. goes_to y r && is_interior r) (section_named sections m)) points).0 in
    back_reaches sections distinct (λ k. ReachedAlong edges seeds (into_node n k))
    (ReachedAlong edges seeds (member_node n i)) x m reaches
    (λ k u at_k constant refers into. Next (into_node n k) (member_node n i) into
    (includes _ _ (code_refers sections distinct n i s at_i k u at_k code_s (rw same refers)).second))
    (λ h v at_h constant_v k u at_k constant_u refers into. Next (into_node n k) (into_node n h) into
    (includes _ _ (constant_refers sections distinct n h v at_h k u at_k constant_v refers).second))
    (λ k u at_k same_u. Next (member_node n j) (into_node n k) (reached j t at_j same_t)
    (includes _ _ (read_only_points sections distinct n k u at_k j t at_j
    (class_at sections distinct is_read_only_class m read_only k u at_k same_u) (rw (same_u, same_t) points)).second))
