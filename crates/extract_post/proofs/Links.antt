-- The links of a list of sections are its references from a section to a section.
use Rattle.std.proofs.Common.{◌≡◌, ◌⊎◌, inl, inr, ℕ, zero, suc, ◌+◌, Bool, true, false, ◌==◌, ◌||◌}
use Rattle.std.proofs.Common.{◌&&◌, List, [], ◌∷◌, map, Option, Some, None, refl, sym, ap, ◌∙◌, arith}
use Rattle.std.specs.List.{IsDistinct, AllByRecursion, list_any, flat_map, slice_get}
use Rattle.std.specs.Cmp.Lexicographic.{bytes_decides}
use Rattle.std.proofs.lemmas.Bool.{or_cases, or_left, or_right}
use Rattle.std.proofs.lemmas.Option.{same_Some}
use Rattle.std.proofs.lemmas.List.Folds.{list_any-append}
use Rattle.std.proofs.lemmas.Cmp.{nat_list_eq_equiv}
use Rattle.reachability.specs.declared.edge.Edge.{Edge}
use Rattle.reachability.specs.Reached.{connects}
use Rattle.i386_reloc.specs.declared.types.Class.{Class}
use Rattle.i386_reloc.specs.declared.types.Target.{Target}
use Rattle.i386_reloc.specs.declared.types.Target.TheVariants.{Section, Outside, Text}
use Rattle.i386_reloc.specs.declared.types.Ref.{Ref}
use Rattle.i386_reloc.specs.declared.types.NormalSection.{NormalSection}
use Rattle.i386_reloc.specs.Normal.{same_bytes, section_named, name_of}
use Rattle.i386_reloc.specs.Places.{place_named}
use Rattle.i386_reloc.specs.laws.PlaceLaws.{section_named_at}
use Rattle.i386_reloc.specs.laws.NamedPlaces.{section_at_place}
use Rattle.i386_reloc.specs.Reaches.{goes_to_target, goes_to, is_interior}
use Rattle.extract_post.specs.inside.Closures.{HasDistinctNames}
use Rattle.i386_reloc.specs.Places.{place_of_target}
use Rattle.extract_post.specs.inside.Edges.{Link, link_to, links_of, links_from, links_in}

-- an item of a list: whatever test it passes, some item passes
abbrev pub Among : {X : Type 0} → List X → X → Type 0
Among {X} xs x = (test : X → Bool) → test x ≡ true → list_any test xs ≡ true

pub item_found : {X : Type 0} (test : X → Bool) (xs : List X) → list_any test xs ≡ true →
    (x : X) × Among xs x × (test x ≡ true)
item_found test [] some = absurd cc
item_found test (x ∷ xs) some =
    elim (or_cases (test x) (list_any test xs) some) [
      | inl passes ↦ (x, λ other it. or_left (other x) (list_any other xs) it, passes)
      | inr later ↦ let (y, among, passes) = item_found test xs later in
          (y, λ other it. or_right (other x) (list_any other xs) (among other it), passes)
    ]

pub option_cases : {X : Type 0} (o : Option X) → (o ≡ None) ⊎ ((x : X) × (o ≡ Some x))
option_cases None = inl refl
option_cases (Some x) = inr (x, refl)

pub any_in_flat_map : {X Y : Type 0} (test : Y → Bool) (f : X → List Y) (xs : List X) →
    list_any test (flat_map f xs) ≡ list_any (λ x. list_any test (f x)) xs
any_in_flat_map test f [] = refl
any_in_flat_map test f (x ∷ xs) =
    list_any-append test (f x) (flat_map f xs) ∙ ap (λ b. list_any test (f x) || b) (any_in_flat_map test f xs)

-- Where names are distinct, a section stands at the place of its name.
name_apart : (name : List ℕ) (sections : List NormalSection) →
    AllByRecursion (λ other. same_bytes name other ≡ false) (map name_of sections) → (i : ℕ) (s : NormalSection) →
    slice_get sections i ≡ Some s → same_bytes name s.name ≡ false
name_apart name [] others i s at = absurd cc
name_apart name (x ∷ xs) others zero s at = let e : x ≡ s = same_Some x s at in rw (← e) others.0
name_apart name (x ∷ xs) others (suc i) s at = name_apart name xs others.1 i s at

pub placed : (sections : List NormalSection) → HasDistinctNames sections → (i : ℕ) (s : NormalSection) →
    slice_get sections i ≡ Some s → place_named sections s.name ≡ Some i
unfolding IsDistinct
placed [] distinct i s at = absurd cc
placed (x ∷ xs) distinct zero s at =
    let e : x ≡ s = same_Some x s at in
    rw (← e) (rw (nat_list_eq_equiv.refl x.name) refl)
placed (x ∷ xs) distinct (suc i) s at =
    rw (name_apart x.name xs distinct.0 i s at, placed xs distinct.1 i s at) refl

pub named_at : (sections : List NormalSection) → HasDistinctNames sections → (i : ℕ) (s : NormalSection) →
    slice_get sections i ≡ Some s → section_named sections s.name ≡ Some s
named_at sections distinct i s at = section_named_at sections s.name ∙ rw (placed sections distinct i s at) at

-- the place of a target is the place of a section to which it goes
pub target_of_place : (sections : List NormalSection) (target : Target) (i : ℕ) →
    place_of_target sections target ≡ Some i →
    (t : NormalSection) × (slice_get sections i ≡ Some t) × (goes_to_target t.name target ≡ true)
target_of_place sections (Section name) i at =
    let (t, here, same) = section_at_place sections name i at in (t, here, rw same (nat_list_eq_equiv.refl name))
target_of_place sections (Text name offset text) i at =
    let (t, here, same) = section_at_place sections name i at in (t, here, rw same (nat_list_eq_equiv.refl name))
target_of_place sections (Outside name) i at = absurd cc

pub place_of_goes : (sections : List NormalSection) → HasDistinctNames sections →
    (target : Target) (i : ℕ) (t : NormalSection) → slice_get sections i ≡ Some t →
    goes_to_target t.name target ≡ true → place_of_target sections target ≡ Some i
place_of_goes sections distinct (Section name) i t at goes =
    rw ((bytes_decides name t.name).0 goes) (placed sections distinct i t at)
place_of_goes sections distinct (Text name offset text) i t at goes =
    rw ((bytes_decides name t.name).0 goes) (placed sections distinct i t at)
place_of_goes sections distinct (Outside name) i t at goes = absurd cc

-- the link of a reference from a section to a section
abbrev pub link_between : ℕ → NormalSection → ℕ → NormalSection → Ref → Link
link_between from source to target r =
    record { from = from; from_class = source.class; to = to; to_class = target.class; interior = is_interior r }

-- what a link of a list of sections is
pub record IsLink (sections : List NormalSection) (link : Link) : Type 0 where
  pub source : NormalSection
  pub target : NormalSection
  pub reference : Ref
  pub at_from : slice_get sections link.from ≡ Some source
  pub at_to : slice_get sections link.to ≡ Some target
  pub among : Among source.refs reference
  pub goes : goes_to target.name reference ≡ true
  pub from_class : link.from_class ≡ source.class
  pub to_class : link.to_class ≡ target.class
  pub interior : link.interior ≡ is_interior reference

-- the link of one reference
link_of_target : (p : Link → Bool) (sections : List NormalSection) (from : ℕ) (class : Class) (r : Ref) (o : Option ℕ) →
    list_any p (link_to sections from class r o) ≡ true →
    (to : ℕ) × (target : NormalSection) × (o ≡ Some to) × (slice_get sections to ≡ Some target)
    × (p (record { from = from; from_class = class; to = to; to_class = target.class; interior = is_interior r })
    ≡ true)
link_of_target p sections from class r None some = absurd cc
link_of_target p sections from class r (Some to) some =
    elim (option_cases (slice_get sections to)) [
      | inl none ↦ absurd (let e : false ≡ true = rw none at some in cc)
      | inr it ↦
          let one : (p (record {
            from = from;
            from_class = class;
            to = to;
            to_class = it.0.class;
            interior =
                is_interior r;
          }) || false) ≡ true = rw it.1 at some in (
            to,
            it.0,
            refl,
            it.1,
            elim (or_cases
                (p (record {
                  from = from;
                  from_class = class;
                  to = to;
                  to_class = it.0.class;
                  interior =
                      is_interior r;
                }))
                false one) [ inl passes ↦ passes | inr never ↦ absurd cc ],
          )
    ]

abbrev links_by : List NormalSection → ℕ → Class → Ref → List Link
links_by sections from class r = link_to sections from class r (place_of_target sections r.target)

-- the links of one section
link_of_section : (p : Link → Bool) (sections : List NormalSection) (from : ℕ) (source : NormalSection) →
    slice_get sections from ≡ Some source → list_any p (links_of sections from source) ≡ true →
    (link : Link) × IsLink sections link × (p link ≡ true)
link_of_section p sections from source at some =
    let (r, among, passes) = item_found (λ r. list_any p (links_by sections from source.class r)) source.refs
    (rw (any_in_flat_map p (links_by sections from source.class) source.refs) at some) in
    let (to, target, there, at_to, it) = link_of_target p sections from source.class r
    (place_of_target sections r.target) passes in
    let (t, at_t, goes) = target_of_place sections r.target to there in
    let e : t ≡ target = same_Some t target (sym at_t ∙ at_to) in (
      link_between from source to target r,
      record {
        source = source;
        target = target;
        reference = r;
        at_from = at;
        at_to = at_to;
        among = among;
        goes = rw (← e) goes;
        from_class = refl;
        to_class = refl;
        interior = refl;
      },
      it,
    )

link_from : (p : Link → Bool) (sections : List NormalSection) (place : ℕ) (rest : List NormalSection) →
    ((i : ℕ) (s : NormalSection) → slice_get rest i ≡ Some s → slice_get sections (place + i) ≡ Some s) →
    list_any p (links_from sections place rest) ≡ true → (link : Link) × IsLink sections link × (p link ≡ true)
link_from p sections place [] within some = absurd cc
link_from p sections place (s ∷ rest) within some =
    elim (or_cases (list_any p (links_of sections place s)) (list_any p (links_from sections (suc place) rest))
    (sym (list_any-append p (links_of sections place s) (links_from sections (suc place) rest)) ∙ some)) [
      | inl here ↦ link_of_section p sections place s (let e : place + 0 ≡ place = omega arith in
          rw e at (within 0 s refl)) here
      | inr later ↦ link_from p sections (suc place) rest
          (λ i t at. let e : suc place + i ≡ place + suc i = omega arith in rw e (within (suc i) t at)) later
    ]

pub link_found : (p : Link → Bool) (sections : List NormalSection) → list_any p (links_in sections) ≡ true →
    (link : Link) × IsLink sections link × (p link ≡ true)
link_found p sections some =
    link_from p sections 0 sections (λ i s at. let e : 0 + i ≡ i = omega arith in rw e at) some

-- each reference from a section to a section is a link
links_with : (p : Link → Bool) (sections : List NormalSection) (place : ℕ) (rest : List NormalSection) (i : ℕ)
    (s : NormalSection) →
    slice_get rest i ≡ Some s → list_any p (links_of sections (place + i) s) ≡ true →
    list_any p (links_from sections place rest) ≡ true
links_with p sections place [] i s at some = absurd cc
links_with p sections place (x ∷ rest) zero s at some =
    let e : place + 0 ≡ place = omega arith in
    let same : x ≡ s = same_Some x s at in
    let here : list_any p (links_of sections place x) ≡ true = rw same (rw e at some) in
    list_any-append p (links_of sections place x) (links_from sections (suc place) rest)
    ∙ or_left (list_any p (links_of sections place x)) (list_any p (links_from sections (suc place) rest)) here
links_with p sections place (x ∷ rest) (suc i) s at some =
    let e : suc place + i ≡ place + suc i = omega arith in
    let there : list_any p (links_of sections (suc place + i) s) ≡ true = rw e some in
    list_any-append p (links_of sections place x) (links_from sections (suc place) rest)
    ∙ or_right (list_any p (links_of sections place x)) (list_any p (links_from sections (suc place) rest))
    (links_with p sections (suc place) rest i s at there)

pub link_is_in : (sections : List NormalSection) → HasDistinctNames sections → (from : ℕ) (source : NormalSection) →
    slice_get sections from ≡ Some source → (to : ℕ) (target : NormalSection) → slice_get sections to ≡ Some target →
    (r : Ref) → Among source.refs r → goes_to target.name r ≡ true →
    Among (links_in sections) (link_between from source to target r)
link_is_in sections distinct from source at_from to target at_to r among goes =
    λ p passes.
    let e : 0 + from ≡ from = omega arith in
    links_with p sections 0 sections from source at_from
    (rw e
    (any_in_flat_map p (links_by sections from source.class) source.refs
    ∙ among (λ r. list_any p (links_by sections from source.class r))
    (rw (place_of_goes sections distinct r.target to target at_to goes) (rw at_to (or_left _ _ passes)))))

-- the edges of links
pub link_of_edge : (f : Link → List Edge) (sections : List NormalSection) (a b : ℕ) →
    connects (flat_map f (links_in sections)) a b ≡ true →
    (link : Link) × IsLink sections link × (connects (f link) a b ≡ true)
link_of_edge f sections a b some =
    link_found (λ link. connects (f link) a b) sections
    (sym (any_in_flat_map (λ e. e.from == a && e.to == b) f (links_in sections)) ∙ some)

pub edge_of_link : (f : Link → List Edge) (sections : List NormalSection) (link : Link) →
    Among (links_in sections) link → (a b : ℕ) → connects (f link) a b ≡ true →
    connects (flat_map f (links_in sections)) a b ≡ true
edge_of_link f sections link among a b it =
    any_in_flat_map (λ e. e.from == a && e.to == b) f (links_in sections) ∙ among (λ link. connects (f link) a b) it
