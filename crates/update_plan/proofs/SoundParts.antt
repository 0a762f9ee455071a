-- What is known of the sections that are placed: each is a whole section of the new object that the extract lists, with
-- a name of its own and a place.
use Rattle.std.proofs.Common.{◌≡◌, ◌≢◌, inl, inr, ℕ, Bool, true, false, List, [], ◌∷◌, map, Option, Some, None}
use Rattle.std.proofs.Common.{refl, sym, ap, subst, ◌∙◌}
use Rattle.std.specs.Prelude.{if◌then◌else◌}
use Rattle.std.specs.List.{AllZip}
use Rattle.ks_base.specs.declared.places.Range.{Range}
use Rattle.i386_reloc.specs.declared.types.NormalSection.{NormalSection}
use Rattle.i386_reloc.specs.Normal.{section_named}
use Rattle.extract_post.specs.declared.types.Extract.{Extract}
use Rattle.extract_post.specs.declared.role.Role.{Role}
use Rattle.extract_post.specs.declared.role.Role.TheVariants.{Changed, Added, Carried, NewData}
use Rattle.extract_post.specs.Roles.{is_among, role_of}
use Rattle.link_post.specs.declared.types.Placed.{Placed}
use Rattle.link_post.specs.Places.{IsPlace}
use Rattle.update_pieces.specs.Parts.{AtPlace, NewPart, at_places, new_part, placed_part, size_of}
use Rattle.i386_reloc.specs.Whole.{AreWhole, IsWhole}
use Rattle.update_pieces.specs.Apart.{ArePartsOf, IsPartOf}
use Rattle.update_plan.specs.Placing.{part_as, part_in, parts_of}
use Rattle.update_plan.proofs.SoundLists.{Has, IsShort, Pairs, each_has, each_of, flat_has, has_flat, pairs_flat}

-- ---- roles
changed_first : (a b c d : Bool) →
    (if a then Some Changed
    else (if b then Some Added else (if c then Some Carried else (if d then Some NewData else None)))) ≡ Some Changed →
    a ≡ true
changed_first true b c d is = refl
changed_first false true c d is = absurd cc
changed_first false false true d is = absurd cc
changed_first false false false true is = absurd cc
changed_first false false false false is = absurd cc

pub changed_where : (extract : Extract) (name : List ℕ) → role_of extract name ≡ Some Changed →
    is_among extract.changed name ≡ true
unfolding role_of
changed_where extract name is =
    changed_first (is_among extract.changed name) (is_among extract.added name) (is_among extract.carried name)
    (is_among extract.new_data name) is

pub is_changed_role : (extract : Extract) (name : List ℕ) → is_among extract.changed name ≡ true →
    role_of extract name ≡ Some Changed
unfolding role_of
is_changed_role extract name is =
    ap (λ b. if b then Some Changed
    else (if is_among extract.added name then Some Added
    else (if is_among extract.carried name then Some Carried
    else (if is_among extract.new_data name then Some NewData else None)))) is

-- ---- a section that is placed
pub record IsPartAs (extract : Extract) (section : NormalSection) (part : NewPart) : Type 0 where
  pub is : part.section ≡ section
  pub role : role_of extract section.name ≡ Some part.role

part_from : (extract : Extract) (section : NormalSection) (o : Option Role) (part : NewPart) →
    role_of extract section.name ≡ o → Has (part_as section o) part → IsPartAs extract section part
part_from extract section None part at has = absurd has
part_from extract section (Some role) part at (inl here) =
    subst (IsPartAs extract section) here (record { is = refl; role = at })
part_from extract section (Some role) part at (inr none) = absurd none

part_short : (section : NormalSection) (o : Option Role) → IsShort (part_as section o)
part_short section None = tt
part_short section (Some role) = tt

-- which section of an object it is
pub part_is : (extract : Extract) (post : List NormalSection) (part : NewPart) → Has (parts_of extract post) part →
    (section : NormalSection) × Has post section × IsPartAs extract section part
unfolding parts_of
part_is extract post part has =
    let (section, in_post, inner) = flat_has (part_in extract) post part has in
    (section, in_post, part_from extract section (role_of extract section.name) part refl inner)

pub has_part : (extract : Extract) (post : List NormalSection) (section : NormalSection) (role : Role) →
    Has post section → role_of extract section.name ≡ Some role →
    Has (parts_of extract post) (new_part section role)
unfolding parts_of
has_part extract post section role in_post is =
    has_flat (part_in extract) post section (new_part section role) in_post
    (subst (λ o. Has (part_as section o) (new_part section role)) (sym is) (inl refl))

pub parts_are_of : (extract : Extract) (post : List NormalSection) →
    ((section : NormalSection) → Has post section → section_named post section.name ≡ Some section) → AreWhole post →
    ArePartsOf post (parts_of extract post)
parts_are_of extract post named whole =
    each_of (IsPartOf post) (parts_of extract post)
    (λ part has.
    let (section, in_post, as_part) = part_is extract post part has in
    let own : IsPartOf post (new_part section part.role) = record {
      found = named section in_post;
      whole = each_has IsWhole post section whole in_post;
    } in
    let e = as_part.is in
    record {
      found = subst (λ (s : NormalSection). section_named post s.name ≡ Some s) (sym e) own.found;
      whole = subst IsWhole (sym e) own.whole;
    })

pub parts_differ : (extract : Extract) (post : List NormalSection) →
    Pairs (λ (a b : NormalSection). a.name ≢ b.name) post →
    Pairs (λ (a b : NewPart). a.section.name ≢ b.section.name) (parts_of extract post)
unfolding parts_of
parts_differ extract post differ =
    pairs_flat (λ (a b : NormalSection). a.name ≢ b.name)
    (λ (a b : NewPart). a.section.name ≢ b.section.name) (part_in extract)
    (λ section. part_short section (role_of extract section.name))
    (λ a b y z has_y has_z apart same.
    let in_a = part_from extract a (role_of extract a.name) y refl has_y in
    let in_b = part_from extract b (role_of extract b.name) z refl has_z in
    apart (sym (ap (λ (s : NormalSection). s.name) in_a.is) ∙ same ∙ ap (λ (s : NormalSection). s.name) in_b.is))
    post differ

-- ---- at their places
pub at_from : (parts : List NewPart) (placement : List Placed) (x : AtPlace) → Has (at_places parts placement) x →
    (part : NewPart) × Has parts part × (x.section ≡ part.section) × (x.role ≡ part.role)
at_from [] placement x has = absurd has
at_from (p ∷ ps) [] x has = absurd has
at_from (p ∷ ps) (q ∷ qs) x (inl is) =
    (p, inl refl, ap (λ (y : AtPlace). y.section) (sym is), ap (λ (y : AtPlace). y.role) (sym is))
at_from (p ∷ ps) (q ∷ qs) x (inr rest) =
    let (part, has, same, role) = at_from ps qs x rest in
    (part, inr has, same, role)

pub has_place : (gaps : List Range) (parts : List NewPart) (placement : List Placed) (part : NewPart) →
    AllZip (IsPlace gaps) (map size_of parts) placement → Has parts part →
    (base : ℕ) × Has (at_places parts placement) (placed_part part.section part.role base)
has_place gaps [] placement part each has = absurd has
has_place gaps (p ∷ ps) [] part each has = absurd each
has_place gaps (p ∷ ps) (q ∷ qs) part each (inl is) =
    (q.base, inl (ap (λ (x : NewPart). placed_part x.section x.role q.base) is))
has_place gaps (p ∷ ps) (q ∷ qs) part each (inr rest) =
    let (base, has) = has_place gaps ps qs part each.1 rest in
    (base, inr has)

pub places_differ : (parts : List NewPart) (placement : List Placed) →
    Pairs (λ (a b : NewPart). a.section.name ≢ b.section.name) parts →
    Pairs (λ (a b : AtPlace). a.section.name ≢ b.section.name) (at_places parts placement)
places_differ [] placement differ = tt
places_differ (p ∷ ps) [] differ = tt
places_differ (p ∷ ps) (q ∷ qs) differ = (
  λ x has same.
      let (part, in_ps, e, role) = at_from ps qs x has in
      differ.0 part in_ps (same ∙ ap (λ (s : NormalSection). s.name) e),
  places_differ ps qs differ.1,
)

pub place_role : (extract : Extract) (post : List NormalSection) (placement : List Placed) (x : AtPlace) →
    Has (at_places (parts_of extract post) placement) x → role_of extract x.section.name ≡ Some x.role
place_role extract post placement x has =
    let (part, in_parts, same, role) = at_from (parts_of extract post) placement x has in
    let (section, in_post, as_part) = part_is extract post part in_parts in
    ap (λ (s : NormalSection). role_of extract s.name) (same ∙ as_part.is) ∙ as_part.role
    ∙ ap (λ r. Some r) (sym role)
