-- What a reference of a new section goes to has an address: a place, a home, or a value.
use Rattle.std.proofs.Common.{◌≡◌, ℕ, Bool, true, false, ◌&&◌, cond, List, [], ◌∷◌, map, Option, Some, None, inl, inr}
use Rattle.std.proofs.Common.{refl, sym, ap, subst, ◌∙◌}
use Rattle.std.specs.Prelude.{IsSome, is_some, option_map, find}
use Rattle.std.specs.Option.{option_or}
use Rattle.std.specs.List.{AllZip}
use Rattle.std.proofs.lemmas.Bool.{cases_Bool}
use Rattle.std.proofs.lemmas.Cmp.{nat_list_eq_equiv}
use Rattle.ks_base.specs.declared.places.Range.{Range}
use Rattle.symbol_table.specs.declared.values.Unknown.TheVariants as unknown
use Rattle.symbol_table.specs.Unknowns.{address_in}
use Rattle.i386_reloc.specs.declared.types.Class.{Class}
use Rattle.i386_reloc.specs.declared.types.Class.TheVariants.{Zero, Code, Writable, Strings, ReadOnly}
use Rattle.i386_reloc.specs.declared.types.NormalSection.{NormalSection}
use Rattle.i386_reloc.specs.declared.types.Ref.{Ref}
use Rattle.i386_reloc.specs.declared.types.Target.{Target}
use Rattle.i386_reloc.specs.declared.types.Target.TheVariants.{Section, Outside, Text}
use Rattle.i386_reloc.specs.Classes.{is_code_class}
use Rattle.i386_reloc.specs.Normal.{same_bytes, section_named}
use Rattle.i386_reloc.specs.Reaches.{has_class, is_constant_class, is_data_class, is_in, is_interior}
use Rattle.extract_post.specs.Members.{is_there}
use Rattle.link_post.specs.declared.types.Placed.{Placed}
use Rattle.link_post.specs.Values.{Tell, TellOf, ValueList, is_kept_data, needed_by, solved_as}
use Rattle.link_post.specs.Places.{IsPlace, base_in}
use Rattle.link_post.specs.Linked.{beyond, section_address, target_address, value_in}
use Rattle.update_pieces.specs.Parts.{NewPart, size_of}
use Rattle.update_plan.proofs.SoundLists.{Has, has_found}
use Rattle.update_plan.proofs.Targets.{GoesThere}

-- ---- options that hold something
some_of : {X : Type 0} (o : Option X) (x : X) → o ≡ Some x → IsSome o
some_of o x is = ap is_some is

some_map : {X Y : Type 0} (f : X → Y) (o : Option X) → IsSome o → IsSome (option_map f o)
some_map f None is = is
some_map f (Some x) is = refl

either_left : {X : Type 0} (a b : Option X) → IsSome a → IsSome (option_or a b)
either_left None b is = absurd cc
either_left (Some x) b is = refl

either_right : {X : Type 0} (a b : Option X) → IsSome b → IsSome (option_or a b)
either_right None b is = is
either_right (Some x) b is = refl

-- ---- a part's place
place_has : (gaps : List Range) (parts : List NewPart) (placement : List Placed) (part : NewPart)
    → AllZip (IsPlace gaps) (map size_of parts) placement → Has parts part
    → (place : Placed) × Has placement place × (place.section ≡ part.section.name)
place_has gaps [] placement part each has = absurd has
place_has gaps (p ∷ ps) [] part each has = absurd each
place_has gaps (p ∷ ps) (q ∷ qs) part each (inl is) =
    (q, inl refl, each.0.named ∙ ap (λ (x : NewPart). x.section.name) is)
place_has gaps (p ∷ ps) (q ∷ qs) part each (inr rest) =
    let it = place_has gaps ps qs part each.1 rest in
    (it.0, inr it.1, it.2)

pub part_placed : (gaps : List Range) (parts : List NewPart) (placement : List Placed) (part : NewPart)
    → AllZip (IsPlace gaps) (map size_of parts) placement → Has parts part → IsSome (base_in placement part.section.name)
part_placed gaps parts placement part each has =
    let it = place_has gaps parts placement part each has in
    let same : same_bytes it.0.section part.section.name ≡ true =
    ap (λ (name : List ℕ). same_bytes name part.section.name) it.2 ∙ nat_list_eq_equiv.refl part.section.name in
    let found = has_found (λ (one : Placed). same_bytes one.section part.section.name) placement it.0 it.1 same in
    some_map (λ (one : Placed). one.base) (find (λ (one : Placed). same_bytes one.section part.section.name) placement)
    (some_of _ found.0 found.1)

-- ---- what a reference goes to
-- what is placed of the sections to which a reference of a placed section goes
pub record IsBrought (IsListed : List ℕ → Type 0) (pre post : List NormalSection) (r : Ref) (name : List ℕ)
    : Type 0 where
  pub constants : is_in is_constant_class post name ≡ true → IsListed name
  pub new_data : is_in is_data_class post name ≡ true → is_there pre name ≡ false → IsListed name
  pub added : is_in is_code_class post name ≡ true → is_there pre name ≡ false → IsListed name
  pub interiors : is_in is_code_class post name ≡ true → is_interior r ≡ true → IsListed name

abbrev pub IsBroughtTo : (List ℕ → Type 0) → List NormalSection → List NormalSection → Ref → Target → Type 0
IsBroughtTo IsListed pre post r (Section name) = IsBrought IsListed pre post r name
IsBroughtTo IsListed pre post r (Outside name) = Unit {0}
IsBroughtTo IsListed pre post r (Text name offset text) = IsBrought IsListed pre post r name

class_cases : (c : Class) → is_code_class c ≡ false → is_data_class c ≡ false → is_constant_class c ≡ true
class_cases Zero code writable = absurd cc
class_cases Code code writable = absurd cc
class_cases Writable code writable = absurd cc
class_cases Strings code writable = refl
class_cases ReadOnly code writable = refl

constant_where : (o : Option NormalSection) (s : NormalSection) → o ≡ Some s → has_class is_code_class o ≡ false
    → has_class is_data_class o ≡ false → has_class is_constant_class o ≡ true
constant_where o s is code writable =
    ap (has_class is_constant_class) is
    ∙ class_cases s.class (sym (ap (has_class is_code_class) is) ∙ code)
    (sym (ap (has_class is_data_class) is) ∙ writable)

module _ (IsListed : List ℕ → Type 0) (pre post : List NormalSection) (values : ValueList) (placement : List Placed)
    (homes : (name : List ℕ) → is_in is_code_class post name ≡ true → is_there pre name ≡ true →
    IsSome (value_in values (unknown.Code name)))
    (placed_one : (name : List ℕ) (s : NormalSection) → section_named post name ≡ Some s → IsListed name →
    IsSome (base_in placement name)) where
  function_has : (r : Ref) (name : List ℕ) (s : NormalSection) → section_named post name ≡ Some s
      → IsBrought IsListed pre post r name → is_in is_code_class post name ≡ true → (interior there : Bool)
      → is_interior r ≡ interior → is_there pre name ≡ there
      → IsSome (cond interior (base_in placement name)
      (option_or (value_in values (unknown.Code name)) (base_in placement name)))
  function_has r name s is brought code true there inner known =
      placed_one name s is (brought.interiors code inner)
  function_has r name s is brought code false true inner known =
      either_left (value_in values (unknown.Code name)) (base_in placement name) (homes name code known)
  function_has r name s is brought code false false inner known =
      either_right (value_in values (unknown.Code name)) (base_in placement name)
      (placed_one name s is (brought.added code known))

  data_told : (name : List ℕ) → is_in is_data_class post name ≡ true → is_there pre name ≡ true
      → (is_kept_data pre post name ≡ true → IsSome (solved_as values (unknown.Data name)))
      → IsSome (value_in values (unknown.Data name))
  data_told name writable known told =
      some_map address_in (solved_as values (unknown.Data name))
      (told (ap (λ b. b && is_some (section_named pre name)) writable ∙ known))

  data_has : (r : Ref) (name : List ℕ) (s : NormalSection) → section_named post name ≡ Some s
      → IsBrought IsListed pre post r name → is_in is_data_class post name ≡ true
      → (is_kept_data pre post name ≡ true → IsSome (solved_as values (unknown.Data name)))
      → IsSome (option_or (value_in values (unknown.Data name)) (base_in placement name))
  data_has r name s is brought writable told =
      elim (cases_Bool (is_there pre name)) [
        | inl known ↦
            either_left (value_in values (unknown.Data name)) (base_in placement name) (data_told name writable known told)
        | inr new ↦
            either_right (value_in values (unknown.Data name)) (base_in placement name)
            (placed_one name s is (brought.new_data writable new))
      ]

  section_has : (r : Ref) (name : List ℕ) (s : NormalSection) → section_named post name ≡ Some s
      → IsBrought IsListed pre post r name
      → (is_kept_data pre post name ≡ true → IsSome (solved_as values (unknown.Data name)))
      → (code writable : Bool) → is_in is_code_class post name ≡ code → is_in is_data_class post name ≡ writable
      → IsSome (cond code
      (cond (is_interior r) (base_in placement name)
      (option_or (value_in values (unknown.Code name)) (base_in placement name)))
      (cond writable (option_or (value_in values (unknown.Data name)) (base_in placement name)) (base_in placement name)))
  section_has r name s is brought told true writable code_is data_is =
      function_has r name s is brought code_is (is_interior r) (is_there pre name) refl refl
  section_has r name s is brought told false true code_is data_is = data_has r name s is brought data_is told
  section_has r name s is brought told false false code_is data_is =
      placed_one name s is (brought.constants (constant_where (section_named post name) s is code_is data_is))

  pub target_has : (r : Ref) (target : Target) → r.target ≡ target → GoesThere post target
      → IsBroughtTo IsListed pre post r target → TellOf pre post values r
      → IsSome (target_address post placement values r target)
  unfolding section_address
  target_has r (Outside name) is goes brought told =
      some_map address_in (solved_as values (unknown.Outside name))
      (subst (λ (t : Target). Tell values (needed_by pre post t)) is told)
  target_has r (Text name offset text) is goes brought told =
      some_map (λ base. beyond base offset) (base_in placement name)
      (placed_one name goes.0 goes.1
      (brought.constants (ap (has_class is_constant_class) goes.1 ∙ ap is_constant_class goes.2)))
  target_has r (Section name) is goes brought told =
      section_has r name goes.0 goes.1 brought
      (by (is_kept_data pre post name) (subst (λ (t : Target). Tell values (needed_by pre post t)) is told))
      (is_in is_code_class post name) (is_in is_data_class post name) refl refl
    where
      by : (b : Bool) → Tell values (cond b (Some (unknown.Data name)) None)
          → b ≡ true → IsSome (solved_as values (unknown.Data name))
      by true told is = told
      by false told is = absurd cc
