-- The edges along which members are found in one object: what each says, and where each is.
use Rattle.std.proofs.Common.{◌≡◌, ◌⊎◌, inl, inr, ℕ, Bool, true, false, ◌==◌}
use Rattle.std.proofs.Common.{◌||◌, ◌&&◌, List, [], ◌∷◌, Some, refl, sym, ◌∙◌}
use Rattle.std.specs.List.{list_any, flat_map, slice_get}
use Rattle.std.proofs.lemmas.Bool.{cases_Bool, or_cases, and_from}
use Rattle.reachability.specs.declared.edge.Edge.{Edge}
use Rattle.reachability.specs.Reached.{connects}
use Rattle.i386_reloc.specs.declared.types.Class.{Class}
use Rattle.i386_reloc.specs.declared.types.Class.TheVariants.{Zero, Code, Writable, Strings, ReadOnly}
use Rattle.i386_reloc.specs.declared.types.NormalSection.{NormalSection}
use Rattle.i386_reloc.specs.Classes.{is_code_class}
use Rattle.i386_reloc.specs.Reaches.{is_constant_class, is_read_only_class, is_in}
use Rattle.i386_reloc.specs.Reaches.{goes_to, is_interior, refers_on, Reaches}
use Rattle.extract_post.specs.Members.{points_into, PointsInto}
use Rattle.i386_reloc.specs.Reaches.Reaches.{Refers, Further}
use Rattle.extract_post.specs.Members.PointsInto.{Itself, Through}
use Rattle.extract_post.specs.Members.{Tied, Member}
use Rattle.extract_post.specs.Members.Tied.{Back}
use Rattle.extract_post.specs.Members.Member.{Joined}
use Rattle.extract_post.specs.inside.Closures.{HasDistinctNames}
use Rattle.extract_post.specs.inside.Edges.{edge, Link, links_in, Numbers, member_node, from_node, into_node, joins}
use Rattle.extract_post.proofs.Links.{named_at, IsLink, link_of_edge}
use Rattle.extract_post.proofs.Closures.{edge_ends, refers_from_link, reaches_before}

-- what a node says of a section
pub data Kind : Type 0 where
  AsMember AsFrom AsInto : Kind

abbrev pub node_of : Numbers → Kind → ℕ → ℕ
node_of n AsMember place = member_node n place
node_of n AsFrom place = from_node n place
node_of n AsInto place = into_node n place

-- a member reaches the section of a name
pub record FromMember (pre post sections : List NormalSection) (name : List ℕ) : Type 0 where
  pub member : List ℕ
  pub is_member : Member pre post member
  pub is_code : is_in is_code_class sections member ≡ true
  pub reaches : Reaches sections member name

-- the section of a name is, or reaches, a read-only section with a reference to the interior of a member
pub record IntoMember (pre post sections : List NormalSection) (name : List ℕ) : Type 0 where
  pub member : List ℕ
  pub is_member : Member pre post member
  pub between : List ℕ
  pub way : (name ≡ between) ⊎ Reaches sections name between
  pub is_read_only : is_in is_read_only_class sections between ≡ true
  pub points : points_into sections between member ≡ true

abbrev pub Fact : (pre post sections : List NormalSection) → Kind → List ℕ → Type 0
Fact pre post sections AsMember name = Member pre post name
Fact pre post sections AsFrom name = FromMember pre post sections name
Fact pre post sections AsInto name = IntoMember pre post sections name

-- the references of an object tie
abbrev pub Ties : (pre post sections : List NormalSection) → Type 0
Ties pre post sections = (a b : List ℕ) → is_in is_code_class sections a ≡ true → PointsInto sections a b
    → Tied pre post a b

-- classes apart
pub constant_not_code : (class : Class) → is_constant_class class ≡ true → is_code_class class ≡ false
constant_not_code Zero constant = refl
constant_not_code Code constant = absurd cc
constant_not_code Writable constant = refl
constant_not_code Strings constant = refl
constant_not_code ReadOnly constant = refl

pub read_only_not_code : (class : Class) → is_read_only_class class ≡ true → is_code_class class ≡ false
read_only_not_code Zero read_only = refl
read_only_not_code Code read_only = absurd cc
read_only_not_code Writable read_only = refl
read_only_not_code Strings read_only = refl
read_only_not_code ReadOnly read_only = refl

-- the edges of a link, by its classes
abbrev pub two_edges : (a b c d : ℕ) → List Edge
two_edges a b c d = edge a b ∷ edge c d ∷ []

pub data Joining (n : Numbers) (link : Link) : Type 0 where
  CodeToCode : is_code_class link.from_class ≡ true → is_code_class link.to_class ≡ true → link.interior ≡ true →
      joins n link ≡ two_edges (member_node n link.from) (member_node n link.to) (member_node n link.to)
      (member_node n link.from) → Joining n link
  ReadOnlyToCode : is_read_only_class link.from_class ≡ true → is_code_class link.to_class ≡ true →
      link.interior ≡ true →
      joins n link ≡ two_edges (from_node n link.from) (member_node n link.to) (member_node n link.to)
      (into_node n link.from) → Joining n link
  CodeToConstant : is_code_class link.from_class ≡ true → is_constant_class link.to_class ≡ true →
      joins n link ≡ two_edges (member_node n link.from) (from_node n link.to) (into_node n link.to)
      (member_node n link.from) → Joining n link
  ConstantToConstant : is_constant_class link.from_class ≡ true → is_constant_class link.to_class ≡ true →
      joins n link ≡ two_edges (from_node n link.from) (from_node n link.to) (into_node n link.to)
      (into_node n link.from) → Joining n link
  NoEdge : joins n link ≡ [] → Joining n link

to_code : (n : Numbers) (link : Link) → is_code_class link.to_class ≡ true → link.interior ≡ true → Joining n link
to_code n link code interior =
    elim (cases_Bool (is_code_class link.from_class)) [
      | inl from_code ↦ CodeToCode from_code code interior (rw (code, interior, from_code) refl)
      | inr other ↦ elim (cases_Bool (is_read_only_class link.from_class)) [
        | inl read_only ↦ ReadOnlyToCode read_only code interior (rw (code, interior, other, read_only) refl)
        | inr none ↦ NoEdge (rw (code, interior, other, none) refl)
      ]
    ]

to_constant : (n : Numbers) (link : Link) → is_code_class link.to_class ≡ false →
    is_constant_class link.to_class ≡ true → Joining n link
to_constant n link not_code constant =
    elim (cases_Bool (is_code_class link.from_class)) [
      | inl from_code ↦ CodeToConstant from_code constant (rw (not_code, constant, from_code) refl)
      | inr other ↦ elim (cases_Bool (is_constant_class link.from_class)) [
        | inl from_constant ↦ ConstantToConstant from_constant constant
            (rw (not_code, constant, other, from_constant) refl)
        | inr none ↦ NoEdge (rw (not_code, constant, other, none) refl)
      ]
    ]

pub joining : (n : Numbers) (link : Link) → Joining n link
joining n link =
    elim (cases_Bool (is_code_class link.to_class)) [
      | inl code ↦ elim (cases_Bool link.interior) [
        | inl interior ↦ to_code n link code interior
        | inr entry ↦ NoEdge (rw (code, entry) refl)
      ]
      | inr not_code ↦ elim (cases_Bool (is_constant_class link.to_class)) [
        | inl constant ↦ to_constant n link not_code constant
        | inr none ↦ NoEdge (rw (not_code, none) refl)
      ]
    ]

pub two_ends : (a b c d x y : ℕ) → connects (two_edges a b c d) x y ≡ true → ((a ≡ x) × (b ≡ y)) ⊎ ((c ≡ x) × (d ≡ y))
two_ends a b c d x y it =
    elim (or_cases (connects (edge a b ∷ []) x y) (connects (edge c d ∷ []) x y) (two_are a b c d x y it)) [
      | inl first ↦ inl (edge_ends a b x y first)
      | inr second ↦ inr (edge_ends c d x y second)
    ] where
      or_same : (p q : Bool) → p || (q || false) ≡ true → (p || false) || (q || false) ≡ true
      or_same true q it = refl
      or_same false true it = refl
      or_same false false it = it

      two_are : (a b c d x y : ℕ) → connects (two_edges a b c d) x y ≡ true →
          connects (edge a b ∷ []) x y || connects (edge c d ∷ []) x y ≡ true
      two_are a b c d x y it = or_same (a == x && b == y) (c == x && d == y) it

-- An edge between two nodes of an object, and that it hands on what the first node says.
pub record Hands (pre post sections : List NormalSection) (n : Numbers) (a b : ℕ) : Type 0 where
  pub kind_from : Kind
  pub from : ℕ
  pub source : NormalSection
  pub at_source : slice_get sections from ≡ Some source
  pub is_from : node_of n kind_from from ≡ a
  pub kind_to : Kind
  pub to : ℕ
  pub target : NormalSection
  pub at_target : slice_get sections to ≡ Some target
  pub is_to : node_of n kind_to to ≡ b
  pub hands : Fact pre post sections kind_from source.name → Fact pre post sections kind_to target.name

hands_on : (pre post sections : List NormalSection) (n : Numbers) (link : Link) (a b : ℕ) (kind_from kind_to : Kind) →
    (is : IsLink sections link) → node_of n kind_from link.from ≡ a → node_of n kind_to link.to ≡ b →
    (Fact pre post sections kind_from is.source.name → Fact pre post sections kind_to is.target.name) →
    Hands pre post sections n a b
hands_on pre post sections n link a b kind_from kind_to is is_from is_to hands =
    record {
      kind_from = kind_from;
      from = link.from;
      source = is.source;
      at_source = is.at_from;
      is_from =
          is_from;
      kind_to = kind_to;
      to = link.to;
      target = is.target;
      at_target = is.at_to;
      is_to = is_to;
      hands =
          hands;
    }

hands_back : (pre post sections : List NormalSection) (n : Numbers) (link : Link) (a b : ℕ) (kind_from kind_to : Kind) →
    (is : IsLink sections link) → node_of n kind_from link.to ≡ a → node_of n kind_to link.from ≡ b →
    (Fact pre post sections kind_from is.target.name → Fact pre post sections kind_to is.source.name) →
    Hands pre post sections n a b
hands_back pre post sections n link a b kind_from kind_to is is_from is_to hands =
    record {
      kind_from = kind_from;
      from = link.to;
      source = is.target;
      at_source = is.at_to;
      is_from =
          is_from;
      kind_to = kind_to;
      to = link.from;
      target = is.source;
      at_target = is.at_from;
      is_to = is_to;
      hands =
          hands;
    }

-- what a link says by names
source_in : (sections : List NormalSection) → HasDistinctNames sections → (link : Link) →
    (is : IsLink sections link) → (wanted : Class → Bool) → wanted link.from_class ≡ true →
    is_in wanted sections is.source.name ≡ true
source_in sections distinct link is wanted it =
    rw (named_at sections distinct link.from is.source is.at_from) (rw (← is.from_class) it)

points_from_link : (sections : List NormalSection) → HasDistinctNames sections → (link : Link) →
    (is : IsLink sections link) → is_code_class link.to_class ≡ true → link.interior ≡ true →
    points_into sections is.source.name is.target.name ≡ true
points_from_link sections distinct link is code interior =
    rw (
      named_at sections distinct link.to is.target is.at_to,
      named_at sections distinct link.from is.source
          is.at_from,
    )
    (and_from (is_code_class is.target.class) (list_any (λ r. goes_to is.target.name r && is_interior r) is.source.refs)
    (rw (← is.to_class) code)
    (is.among (λ r. goes_to is.target.name r && is_interior r)
    (and_from (goes_to is.target.name is.reference) (is_interior is.reference) is.goes (sym is.interior ∙ interior))))

into_reaches : (sections : List NormalSection) (source target between : List ℕ) →
    refers_on sections source target ≡ true → (target ≡ between) ⊎ Reaches sections target between →
    Reaches sections source between
into_reaches sections source target between refers (inl same) = Refers source between (rw (← same) refers)
into_reaches sections source target between refers (inr reaches) =
    reaches_before sections source target between refers reaches

-- each edge of an object hands on what its node says
link_hands : (pre post sections : List NormalSection) → HasDistinctNames sections → Ties pre post sections →
    (n : Numbers) (link : Link) → IsLink sections link → (a b : ℕ) → Joining n link →
    connects (joins n link) a b ≡ true → Hands pre post sections n a b
link_hands pre post sections distinct ties n link is a b (CodeToCode from_code to_code interior edges) it =
    let two : connects (two_edges (member_node n link.from) (member_node n link.to) (member_node n link.to)
    (member_node n link.from)) a b ≡ true = rw edges at it in
    let tied = ties is.source.name is.target.name (source_in sections distinct link is is_code_class from_code)
    (Itself is.source.name is.target.name (points_from_link sections distinct link is to_code interior)) in
    elim (two_ends _ _ _ _ a b two) [
      | inl first ↦ hands_on pre post sections n link a b AsMember AsMember is first.0 first.1
          (λ member. Joined is.source.name is.target.name member tied)
      | inr second ↦ hands_back pre post sections n link a b AsMember AsMember is second.0 second.1
          (λ member. Joined is.target.name is.source.name member (Back is.source.name is.target.name tied))
    ]
link_hands pre post sections distinct ties n link is a b (ReadOnlyToCode from_read_only to_code interior edges) it =
    let two : connects (two_edges (from_node n link.from) (member_node n link.to) (member_node n link.to)
    (into_node n link.from)) a b ≡ true = rw edges at it in
    let read_only = source_in sections distinct link is is_read_only_class from_read_only in
    let points = points_from_link sections distinct link is to_code interior in
    elim (two_ends _ _ _ _ a b two) [
      | inl first ↦ hands_on pre post sections n link a b AsFrom AsMember is first.0 first.1
          (λ f. Joined f.member is.target.name f.is_member
          (ties f.member is.target.name f.is_code
          (Through f.member is.source.name is.target.name f.reaches read_only points)))
      | inr second ↦ hands_back pre post sections n link a b AsMember AsInto is second.0 second.1
          (λ member. record {
            member = is.target.name;
            is_member = member;
            between = is.source.name;
            way =
                inl refl;
            is_read_only = read_only;
            points = points;
          })
    ]
link_hands pre post sections distinct ties n link is a b (CodeToConstant from_code constant edges) it =
    let two : connects (two_edges (member_node n link.from) (from_node n link.to) (into_node n link.to)
    (member_node n link.from)) a b ≡ true = rw edges at it in
    let code = source_in sections distinct link is is_code_class from_code in
    let refers = refers_from_link sections distinct link is constant in
    elim (two_ends _ _ _ _ a b two) [
      | inl first ↦ hands_on pre post sections n link a b AsMember AsFrom is first.0 first.1
          (λ member. record {
            member = is.source.name;
            is_member = member;
            is_code = code;
            reaches =
                Refers is.source.name is.target.name refers;
          })
      | inr second ↦ hands_back pre post sections n link a b AsInto AsMember is second.0 second.1
          (λ f. Joined f.member is.source.name f.is_member
          (Back is.source.name f.member (ties is.source.name f.member code
          (Through is.source.name f.between f.member
          (into_reaches sections is.source.name is.target.name f.between refers f.way) f.is_read_only f.points))))
    ]
link_hands pre post sections distinct ties n link is a b (ConstantToConstant from_constant constant edges) it =
    let two : connects (two_edges (from_node n link.from) (from_node n link.to) (into_node n link.to)
    (into_node n link.from)) a b ≡ true = rw edges at it in
    let refers = refers_from_link sections distinct link is constant in
    elim (two_ends _ _ _ _ a b two) [
      | inl first ↦ hands_on pre post sections n link a b AsFrom AsFrom is first.0 first.1
          (λ f. record {
            member = f.member;
            is_member = f.is_member;
            is_code = f.is_code;
            reaches =
                Further f.member is.source.name is.target.name f.reaches refers;
          })
      | inr second ↦ hands_back pre post sections n link a b AsInto AsInto is second.0 second.1
          (λ f. record {
            member = f.member;
            is_member = f.is_member;
            between = f.between;
            way =
                inr (into_reaches sections is.source.name is.target.name f.between refers f.way);
            is_read_only =
                f.is_read_only;
            points = f.points;
          })
    ]
link_hands pre post sections distinct ties n link is a b (NoEdge edges) it =
    absurd (let e : false ≡ true = rw edges at it in cc)

pub joins_hands : (pre post sections : List NormalSection) → HasDistinctNames sections → Ties pre post sections →
    (n : Numbers) (a b : ℕ) → connects (flat_map (joins n) (links_in sections)) a b ≡ true →
    Hands pre post sections n a b
joins_hands pre post sections distinct ties n a b it =
    let (link, is, one) = link_of_edge (joins n) sections a b it in
    link_hands pre post sections distinct ties n link is a b (joining n link) one
