-- What a reference goes to, by the place that the object has for it.
use Rattle.std.proofs.Common.{◌≡◌, ℕ, Bool, true, false, cond, List, All, Option, Some, None, IsSomeAnd, unwrap_or, sym}
use Rattle.std.proofs.Common.{◌∙◌, ap, subst, refl}
use Rattle.std.specs.List.{slice_get}
use Rattle.std.proofs.lemmas.Option.{slice_get_within, get_or_from_slice_get}
use Rattle.i386_reloc.specs.declared.types.Target.{Target}
use Rattle.i386_reloc.specs.declared.types.Target.TheVariants as target
use Rattle.i386_reloc.specs.Classes.{is_code_class}
use Rattle.i386_reloc.specs.Reaches.{is_read_only_class, is_interior}
use Rattle.i386_reloc.specs.Texts.{StandsAt, StandsIn, HasTexts}
use Rattle.i386_reloc.specs.laws.PlaceLaws.{section_named_at}
use Rattle.i386_reloc.specs.declared.types.Ref.{Ref}
use Rattle.i386_reloc.specs.declared.types.NormalSection.{NormalSection}
use Rattle.i386_reloc.specs.Places.{place_named, at_place, place_of_target, place_of_reference, reference_in}
use Rattle.i386_reloc.specs.Places.{reference_at, bytes_of, bytes_at}
use Rattle.run_pre_match.specs.declared.goals.Goal.{Goal}
use Rattle.run_pre_match.specs.declared.goals.Goal.TheVariants.{Entry, Inside, Variable, Constant}
use Rattle.match_instructions.specs.Landing.{interior_offset}
use Rattle.run_pre_match.specs.inside.Texts.{IsPart, HasText}
use Rattle.run_pre_match.specs.Goals.{goal_of, goal_to, goal_at_place, goal_in_code}

pub goal_here : (object : List NormalSection) (place : Option ℕ) (section k : ℕ) (r : Ref) →
    place ≡ place_of_reference object (reference_at object section k) → reference_at object section k ≡ Some r →
    goal_of object r ≡ goal_to object r place r.target
goal_here object place section k r is at =
    ap (λ p. goal_to object r p r.target) (sym (is ∙ ap (place_of_reference object) at))

in_code : (object : List NormalSection) (r : Ref) (place : ℕ) (b : Bool) →
    HasText object (cond b (Inside place (interior_offset r)) (Entry place))
in_code object r place true = tt
in_code object r place false = tt

in_section : (object : List NormalSection) (r : Ref) (place : ℕ) (code constant : Bool) →
    HasText object (cond code (goal_in_code r place) (cond constant (Constant place) (Variable place)))
in_section object r place true constant = in_code object r place (is_interior r)
in_section object r place false true = tt
in_section object r place false false = tt

at_place_text : (object : List NormalSection) (r : Ref) (name : List ℕ) (place : ℕ) (o : Option NormalSection) →
    HasText object (goal_at_place r name place o)
at_place_text object r name place None = tt
at_place_text object r name place (Some section) =
    in_section object r place (is_code_class section.class) (is_read_only_class section.class)

section_text : (object : List NormalSection) (r : Ref) (name : List ℕ) (place : Option ℕ) →
    HasText object (goal_to object r place (target.Section name))
section_text object r name None = tt
section_text object r name (Some place) = at_place_text object r name place (slice_get object place)

part_in : (object : List NormalSection) (place offset : ℕ) (text : List ℕ) (o : Option NormalSection) →
    o ≡ slice_get object place → IsSomeAnd o (λ section. StandsAt section offset text) →
    IsPart (bytes_at object place) offset text
part_in object place offset text None is stands = absurd stands
part_in object place offset text (Some section) is stands =
    subst (λ (o : Option NormalSection). IsPart (bytes_of o) offset text) is
    (record { within = stands.within; is = stands.is })

part_at : (object : List NormalSection) (offset : ℕ) (text : List ℕ) (place : Option ℕ) →
    IsSomeAnd (at_place object place) (λ section. StandsAt section offset text) →
    IsPart (bytes_at object (unwrap_or place 0)) offset text
part_at object offset text None stands = absurd stands
part_at object offset text (Some place) stands = part_in object place offset text (slice_get object place) refl stands

target_text : (object : List NormalSection) (r : Ref) (t : Target) → StandsIn object t →
    HasText object (goal_to object r (place_of_target object t) t)
target_text object r (target.Section name) stands = section_text object r name (place_named object name)
target_text object r (target.Outside name) stands = tt
target_text object r (target.Text name offset text) stands =
    part_at object offset text (place_named object name)
    (subst (λ (o : Option NormalSection). IsSomeAnd o (λ section. StandsAt section offset text))
    (section_named_at object name) stands)

reference_text : (object : List NormalSection) (o : Option NormalSection) (section k : ℕ) (r : Ref) → HasTexts object →
    o ≡ slice_get object section → reference_in o k ≡ Some r → StandsIn object r.target
reference_text object None section k r all is at = absurd cc
reference_text object (Some s) section k r all is at =
    let Stands : Ref → Type 0 = λ r. StandsIn object r.target in
    let here : All Stands s.refs = subst (λ (x : NormalSection). All Stands x.refs)
    (get_or_from_slice_get object section s s (sym is))
    (all section s (slice_get_within object section s (sym is))) in
    subst Stands (get_or_from_slice_get s.refs k r r at) (here k r (slice_get_within s.refs k r at))

-- the text that a reference goes to stands in its section
pub text_here : (object : List NormalSection) (section k : ℕ) (r : Ref) (goal : Goal) → HasTexts object →
    reference_at object section k ≡ Some r → goal ≡ goal_of object r → HasText object goal
text_here object section k r goal all at is =
    rw is (target_text object r r.target (reference_text object (slice_get object section) section k r all refl at))
