-- A goal of read-only data is no code section.
use Rattle.std.proofs.Common.{◌≡◌, ◌≢◌, ℕ, Bool, true, false, cond, List, map, Option, Some, None, refl, sym, ◌∙◌, ap}
use Rattle.std.proofs.Common.{subst}
use Rattle.std.specs.List.{IsDistinct, slice_get}
use Rattle.std.proofs.lemmas.Option.{same_Some}
use Rattle.i386_reloc.specs.Classes.{is_code_class}
use Rattle.i386_reloc.specs.Normal.{same_bytes, name_of}
use Rattle.i386_reloc.specs.Places.{place_named, place_of_target}
use Rattle.i386_reloc.specs.Reaches.{is_read_only_class, is_interior}
use Rattle.i386_reloc.specs.declared.types.Ref.{Ref}
use Rattle.i386_reloc.specs.declared.types.NormalSection.{NormalSection}
use Rattle.i386_reloc.specs.declared.types.Target.{Target}
use Rattle.i386_reloc.specs.declared.types.Target.TheVariants as target
use Rattle.match_instructions.specs.Landing.{interior_offset}
use Rattle.run_pre_match.specs.declared.goals.Goal.{Goal}
use Rattle.run_pre_match.specs.declared.goals.Goal.TheVariants.{Entry, Inside, Variable, Constant, Outside, Text}
use Rattle.run_pre_match.specs.declared.goals.Given.{Given}
use Rattle.run_pre_match.specs.Candidate.{Candidate}
use Rattle.run_pre_match.specs.Goals.{goal_in_code, goal_at_place, goal_to}
use Rattle.run_pre_match.specs.Match.{Valuation, IsField, InCode, InConstant}
use Rattle.run_pre_match.proofs.Claims.{placed}

abbrev IsOfClass : List NormalSection → ℕ → Bool → Type 0
IsOfClass object place code =
    (section : NormalSection) → slice_get object place ≡ Some section → is_code_class section.class ≡ code

abbrev IsPlain : List NormalSection → Goal → Type 0
IsPlain object (Constant place) = IsOfClass object place false
IsPlain object (Entry place) = Unit {0}
IsPlain object (Variable place) = Unit {0}
IsPlain object (Inside place offset) = Unit {0}
IsPlain object (Outside name) = Unit {0}
IsPlain object (Text place offset text) = Unit {0}

plain_in_code : (object : List NormalSection) (r : Ref) (place : ℕ) (b : Bool) →
    IsPlain object (cond b (Inside place (interior_offset r)) (Entry place))
plain_in_code object r place true = tt
plain_in_code object r place false = tt

plain_in_section : (object : List NormalSection) (r : Ref) (place : ℕ) (code constant : Bool) →
    IsOfClass object place code → IsPlain object
    (cond code (goal_in_code r place) (cond constant (Constant place) (Variable place)))
plain_in_section object r place true constant is = plain_in_code object r place (is_interior r)
plain_in_section object r place false true is = is
plain_in_section object r place false false is = tt

plain_at : (object : List NormalSection) (r : Ref) (name : List ℕ) (place : ℕ) (o : Option NormalSection) →
    slice_get object place ≡ o → IsPlain object (goal_at_place r name place o)
plain_at object r name place None at = tt
plain_at object r name place (Some section) at =
    plain_in_section object r place (is_code_class section.class) (is_read_only_class section.class)
    (λ other there. ap (λ (s : NormalSection). is_code_class s.class) (same_Some other section (sym there ∙ at)))

plain_to : (object : List NormalSection) (r : Ref) (place : Option ℕ) (t : Target) →
    IsPlain object (goal_to object r place t)
plain_to object r place (target.Outside name) = tt
plain_to object r place (target.Text name offset text) = tt
plain_to object r None (target.Section name) = tt
plain_to object r (Some place) (target.Section name) = plain_at object r name place (slice_get object place) refl

plain_field : (c : Candidate) (v : Valuation) (field : Given) → IsField c v field → IsPlain c.object field.goal
plain_field c v field (InCode pair r in_pairs in_pair) =
    plain_to c.object r (place_of_target c.object r.target) r.target
plain_field c v field (InConstant by place base section r counts goes value at in_section) =
    plain_to c.object r (place_of_target c.object r.target) r.target

pub not_code : (c : Candidate) (v : Valuation) (field : Given) (place : ℕ) (section : NormalSection) →
    IsField c v field → field.goal ≡ Constant place → slice_get c.object place ≡ Some section →
    is_code_class section.class ≡ false
not_code c v field place section counts goes at =
    let plain : IsOfClass c.object place false = subst (IsPlain c.object) goes (plain_field c v field counts) in
    plain section at

-- A candidate of an object: its section is the one at its place, and code; sections have names of their own.
pub record IsInObject (c : Candidate) : Type 0 where
  pub at : slice_get c.object c.place ≡ Some c.section
  pub code : is_code_class c.section.class ≡ true
  pub names : IsDistinct same_bytes (map name_of c.object)

-- a section that isn't code has another name than the candidate's
pub other_name : (c : Candidate) → IsInObject c → (place : ℕ) (section : NormalSection) →
    slice_get c.object place ≡ Some section → is_code_class section.class ≡ false → c.section.name ≢ section.name
other_name c own place section there plain same =
    let first : place_named c.object c.section.name ≡ Some c.place =
    placed c.object own.names c.place c.section own.at in
    let second : place_named c.object section.name ≡ Some place = placed c.object own.names place section there in
    let one : c.place ≡ place = same_Some c.place place (sym first ∙ ap (place_named c.object) same ∙ second) in
    let equal : c.section ≡ section =
    same_Some c.section section (sym own.at ∙ ap (slice_get c.object) one ∙ there) in
    let code : is_code_class section.class ≡ true =
    ap (λ (s : NormalSection). is_code_class s.class) (sym equal) ∙ own.code in
    absurd (let e : false ≡ true = sym plain ∙ code in cc)
