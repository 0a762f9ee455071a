-- What each goal of the references of a linked object comes to: the place of its section, or the address of its outside
-- name.
use Rattle.std.proofs.Common.{◌≡◌, ◌≢◌, ℕ, ◌+◌, ◌<◌, ◌≤◌, ◌^◌, ◌%◌, Bool, true, false, ◌&&◌, ◌||◌, cond}
use Rattle.std.proofs.Common.{List, [], ◌∷◌, length, map, take, drop, Option, Some, None, refl, sym, ap, subst}
use Rattle.std.proofs.Common.{◌∙◌, inl, inr, arith}
use Rattle.std.specs.Prelude.{slice_index, unwrap_or}
use Rattle.std.specs.Option.{option_map, option_or}
use Rattle.std.specs.List.{filter, flat_map, list_any, slice_get}
use Rattle.std.proofs.lemmas.Bool.{cases_Bool, eq-eqb}
use Rattle.std.proofs.lemmas.Cmp.{nat_list_eq_equiv}
use Rattle.std.proofs.lemmas.List.{get_or-drop, get_or-take}
use Rattle.std.proofs.lemmas.Option.{same_Some}
use Rattle.symbol_table.specs.declared.symbols.Symbol.{Symbol}
use Rattle.symbol_table.specs.declared.values.Unknown.{Unknown}
use Rattle.symbol_table.specs.declared.values.Unknown.TheVariants as unknown
use Rattle.symbol_table.specs.Symbols.{is_global_named}
use Rattle.i386_reloc.specs.declared.types.Class.{Class}
use Rattle.i386_reloc.specs.declared.types.Class.TheVariants.{Zero, Code, Writable, Strings, ReadOnly}
use Rattle.i386_reloc.specs.declared.types.NormalSection.{NormalSection}
use Rattle.i386_reloc.specs.declared.types.Ref.{Ref}
use Rattle.i386_reloc.specs.declared.types.Target.{Target}
use Rattle.i386_reloc.specs.declared.types.Target.TheVariants as to
use Rattle.i386_reloc.specs.Classes.{is_code_class}
use Rattle.i386_reloc.specs.Normal.{same_bytes, section_named}
use Rattle.i386_reloc.specs.Places.{place_named, place_of_target}
use Rattle.i386_reloc.specs.Reaches.{has_class, is_data_class, is_interior, is_read_only_class}
use Rattle.i386_reloc.specs.laws.NamedPlaces.{section_at_place}
use Rattle.image_memory.specs.declared.types.Kind.TheVariants as kinds
use Rattle.image_file.specs.Reading.{Contents}
use Rattle.link_post.specs.declared.types.Placed.{Placed}
use Rattle.link_post.specs.Places.{base_in}
use Rattle.link_post.specs.Values.{solved_as}
use Rattle.link_post.specs.Sections.{kind_of_class}
use Rattle.link_post.specs.Linked.{address_of, beyond, section_address, target_address, value_in}
use Rattle.match_constants.specs.Constants.{constant_at, covers, is_byte, stand_at}
use Rattle.match_constants.specs.laws.BelowLaws.{all_below_from}
use Rattle.match_instructions.specs.Landing.{goes_inside, interior_offset, is_code_or_constant, offsets_named, refs_in}
use Rattle.run_pre_match.specs.declared.goals.Goal.{Goal}
use Rattle.run_pre_match.specs.declared.goals.Goal.TheVariants.{Entry, Inside, Variable, Constant, Outside, Text}
use Rattle.run_pre_match.specs.Goals.{goal_in_section, goal_of, goal_to}
use Rattle.image_link.specs.Places.{Laid}
use Rattle.image_link.specs.Linked.{global_value, global_values, is_global}
use Rattle.linked_places.specs.Held.{IsHeld, IsHeldSomewhere, filled_for}
use Rattle.linked_places.proofs.Members.{Has, has_at, has_filter, has_flat, has_map}
use Rattle.linked_places.proofs.ReadObjects.{IsSectionThere, IsTextThere, IsThere}
use Rattle.linked_places.proofs.LinkedParts.{IsLinking}

-- ---- the values
abbrev pub base_by : List Placed → Option NormalSection → Option ℕ
base_by places None = None
base_by places (Some section) = base_in places section.name

abbrev pub base_at : Laid → ℕ → Option ℕ
base_at laid place = base_by laid.places (slice_get laid.object place)

abbrev pub outside_value : Contents → List ℕ → Option ℕ
outside_value image name = value_in (global_values image.symbols) (unknown.Outside name)

abbrev pub placed_value : Contents → Laid → Goal → Option ℕ
placed_value image laid (Entry place) = base_at laid place
placed_value image laid (Variable place) = base_at laid place
placed_value image laid (Constant place) = base_at laid place
placed_value image laid (Outside name) = outside_value image name
placed_value image laid (Inside place offset) = None
placed_value image laid (Text place offset text) = None

pub record IsInteriorOf (laid : Laid) (place offset address : ℕ) : Type 0 where
  pub section : NormalSection
  pub at : slice_get laid.object place ≡ Some section
  pub code : is_code_class section.class ≡ true
  pub base : base_in laid.places section.name ≡ Some address
  pub named : Has (offsets_named laid.object section.name) offset

pub record IsConstantOf (laid : Laid) (place address : ℕ) : Type 0 where
  pub section : NormalSection
  pub at : slice_get laid.object place ≡ Some section
  pub constant : section.class ≡ ReadOnly
  pub base : base_in laid.places section.name ≡ Some address

-- what is known of the address to which a goal comes
abbrev pub IsComeTo : Contents → Laid → Goal → ℕ → Type 0
IsComeTo image laid (Entry place) address = base_at laid place ≡ Some address
IsComeTo image laid (Variable place) address = base_at laid place ≡ Some address
IsComeTo image laid (Constant place) address = IsConstantOf laid place address
IsComeTo image laid (Outside name) address = outside_value image name ≡ Some address
IsComeTo image laid (Inside place offset) address = IsInteriorOf laid place offset address
IsComeTo image laid (Text place offset text) address = stand_at image.pieces address text (length text) ≡ true

pub record Comes (image : Contents) (laid : Laid) (goal : Goal) (address : ℕ) : Type 0 where
  pub to : IsComeTo image laid goal address
  pub low : address < 2 ^ 32

-- ---- what global symbols give
pub record IsFirst (symbols : List Symbol) (name : List ℕ) : Type 0 where
  pub symbol : Symbol
  pub among : Has symbols symbol
  pub passes : is_global_named name symbol ≡ true
  pub value : value_in (global_values symbols) (unknown.Outside name) ≡ Some symbol.address

more_first : (symbols : List Symbol) (name : List ℕ) (s : Symbol) (g named : Bool) → s.global ≡ g
    → same_bytes s.name name ≡ named → (list_any (is_global_named name) symbols ≡ true → IsFirst symbols name)
    → ((g && named) || list_any (is_global_named name) symbols) ≡ true → IsFirst (s ∷ symbols) name
unfolding global_values
more_first symbols name s true true is_g is_named later some = record {
  symbol = s;
  among = inl refl;
  passes = rw (is_g, is_named) refl;
  value = rw (is_g, nat_list_eq_equiv.symm name s.name, is_named) refl;
}
more_first symbols name s true false is_g is_named later some =
    let it = later some in
    record {
      symbol = it.symbol;
      among = inr it.among;
      passes = it.passes;
      value = rw (is_g, nat_list_eq_equiv.symm name s.name, is_named) it.value;
    }
more_first symbols name s false named is_g is_named later some =
    let it = later some in
    record { symbol = it.symbol; among = inr it.among; passes = it.passes; value = rw is_g it.value }

pub first_global : (symbols : List Symbol) (name : List ℕ) → list_any (is_global_named name) symbols ≡ true
    → IsFirst symbols name
first_global [] name some = absurd cc
first_global (s ∷ symbols) name some =
    more_first symbols name s s.global (same_bytes s.name name) refl refl (first_global symbols name) some

none_more : (symbols : List Symbol) (name : List ℕ) (s : Symbol) (g named : Bool) → s.global ≡ g
    → same_bytes s.name name ≡ named
    → (list_any (is_global_named name) symbols ≡ false
    → value_in (global_values symbols) (unknown.Outside name) ≡ None)
    → ((g && named) || list_any (is_global_named name) symbols) ≡ false
    → value_in (global_values (s ∷ symbols)) (unknown.Outside name) ≡ None
unfolding global_values
none_more symbols name s true true is_g is_named later none = absurd cc
none_more symbols name s true false is_g is_named later none =
    rw (is_g, nat_list_eq_equiv.symm name s.name, is_named) (later none)
none_more symbols name s false named is_g is_named later none = rw is_g (later none)

none_global : (symbols : List Symbol) (name : List ℕ) → list_any (is_global_named name) symbols ≡ false
    → value_in (global_values symbols) (unknown.Outside name) ≡ None
unfolding global_values
none_global [] name none = refl
none_global (s ∷ symbols) name none =
    none_more symbols name s s.global (same_bytes s.name name) refl refl (none_global symbols name) none

-- a name that has a value is listed
pub some_global : (symbols : List Symbol) (name : List ℕ) (value : ℕ)
    → value_in (global_values symbols) (unknown.Outside name) ≡ Some value
    → list_any (is_global_named name) symbols ≡ true
some_global symbols name value is =
    elim (cases_Bool (list_any (is_global_named name) symbols)) [
      | inl some ↦ some
      | inr none ↦
          let e : None ≡ Some value = sym (none_global symbols name none) ∙ is in absurd (let no : ⊥ = cc in no)
    ]

no_value_by : (s : Symbol) (rest : List Symbol) (g : Bool) (which : Unknown)
    → ((name : List ℕ) → which ≢ unknown.Outside name) → (solved_as (map global_value rest) which ≡ None)
    → solved_as (map global_value (cond g (s ∷ rest) rest)) which ≡ None
no_value_by s rest g (unknown.Outside name) other none = absurd (other name refl)
no_value_by s rest true (unknown.Code name) other none = none
no_value_by s rest false (unknown.Code name) other none = none
no_value_by s rest true (unknown.Data name) other none = none
no_value_by s rest false (unknown.Data name) other none = none

no_solved : (symbols : List Symbol) (which : Unknown) → ((name : List ℕ) → which ≢ unknown.Outside name)
    → solved_as (map global_value (filter is_global symbols)) which ≡ None
no_solved [] which other = refl
no_solved (s ∷ symbols) which other =
    no_value_by s (filter is_global symbols) s.global which other (no_solved symbols which other)

no_value : (symbols : List Symbol) (which : Unknown) → ((name : List ℕ) → which ≢ unknown.Outside name)
    → value_in (global_values symbols) which ≡ None
unfolding global_values
no_value symbols which other = rw (no_solved symbols which other) refl

-- ---- where sections are for references
section_based : (code variable interior : Bool) (v w base : Option ℕ) → v ≡ None → w ≡ None
    → cond code (cond interior base (option_or v base)) (cond variable (option_or w base) base) ≡ base
section_based true variable true v w base none none_w = refl
section_based true variable false v w base none none_w = rw none refl
section_based false true interior v w base none none_w = rw none_w refl
section_based false false interior v w base none none_w = refl

section_at_base : (object : List NormalSection) (places : List Placed) (symbols : List Symbol) (r : Ref)
    (name : List ℕ) → section_address object places (global_values symbols) r name ≡ base_in places name
unfolding section_address
section_at_base object places symbols r name =
    section_based (has_class is_code_class (section_named object name))
    (has_class is_data_class (section_named object name)) (is_interior r)
    (value_in (global_values symbols) (unknown.Code name)) (value_in (global_values symbols) (unknown.Data name))
    (base_in places name) (no_value symbols (unknown.Code name) (λ other same. absurd cc))
    (no_value symbols (unknown.Data name) (λ other same. absurd cc))

read_only_is : (class : Class) → is_read_only_class class ≡ true → class ≡ ReadOnly
read_only_is Zero is = absurd cc
read_only_is Code is = absurd cc
read_only_is Writable is = absurd cc
read_only_is Strings is = absurd cc
read_only_is ReadOnly is = refl

module _ (image : Contents) (laid : Laid) (linking : IsLinking image laid) where
  -- the base of a section at a place is low
  pub held_at : (place : ℕ) (section : NormalSection) → slice_get laid.object place ≡ Some section
      → IsHeldSomewhere image laid section
  held_at place section at = linking.held section (has_at laid.object place section at)

  goal_here : (r : Ref) (place : ℕ) (section : NormalSection) (b : ℕ) (code constant interior : Bool)
      → slice_get laid.object place ≡ Some section → base_in laid.places section.name ≡ Some b
      → is_code_class section.class ≡ code → is_read_only_class section.class ≡ constant
      → (interior ≡ true → Has (offsets_named laid.object section.name) (interior_offset r))
      → IsComeTo image laid (cond code (cond interior (Inside place (interior_offset r)) (Entry place))
      (cond constant (Constant place) (Variable place))) b
  goal_here r place section b true constant true at base code is named =
      record { section = section; at = at; code = code; base = base; named = named refl }
  goal_here r place section b true constant false at base code is named = rw at base
  goal_here r place section b false true interior at base code is named =
      record { section = section; at = at; constant = read_only_is section.class is; base = base }
  goal_here r place section b false false interior at base code is named = rw at base

  named_here : (owner section : NormalSection) (r : Ref) (name : List ℕ) → Has laid.object owner
      → is_code_or_constant owner ≡ true → Has owner.refs r → r.target ≡ to.Section name → section.name ≡ name
      → is_interior r ≡ true → Has (offsets_named laid.object section.name) (interior_offset r)
  named_here owner section r name has naming has_r is same interior =
      let goes : goes_inside section.name r ≡ true =
      rw (is, same, nat_list_eq_equiv.refl name, interior) refl in
      has_map interior_offset
      (filter (goes_inside section.name) (flat_map refs_in (filter is_code_or_constant laid.object))) r
      (has_filter (goes_inside section.name) (flat_map refs_in (filter is_code_or_constant laid.object)) r
      (has_flat refs_in (filter is_code_or_constant laid.object) owner r
      (has_filter is_code_or_constant laid.object owner has naming) has_r) goes)

  section_comes : (owner : NormalSection) (r : Ref) (name : List ℕ) → Has laid.object owner
      → is_code_or_constant owner ≡ true → Has owner.refs r → r.target ≡ to.Section name
      → IsSectionThere laid.object name
      → Comes image laid (goal_to laid.object r (place_named laid.object name) (to.Section name))
      (unwrap_or (section_address laid.object laid.places (global_values image.symbols) r name) 0)
  section_comes owner r name has naming has_r is there =
      let section = there.section in
      let (other, at_other, same_other) = section_at_place laid.object name there.place there.named in
      let e : other ≡ section = same_Some other section (sym at_other ∙ there.at) in
      let same : section.name ≡ name = sym (ap (λ (s : NormalSection). s.name) e) ∙ same_other in
      let somewhere = held_at there.place section there.at in
      let b : ℕ = somewhere.base in
      let based : base_in laid.places section.name ≡ Some b = somewhere.placed in
      let address : section_address laid.object laid.places (global_values image.symbols) r name ≡ Some b =
      section_at_base laid.object laid.places image.symbols r name
      ∙ ap (base_in laid.places) (sym same) ∙ based in
      let low = somewhere.held.low in
      let here : IsComeTo image laid (goal_in_section r there.place section.class) b =
      goal_here r there.place section b (is_code_class section.class) (is_read_only_class section.class)
      (is_interior r) there.at based refl refl (named_here owner section r name has naming has_r is same) in
      let goal : IsComeTo image laid (goal_to laid.object r (place_named laid.object name) (to.Section name)) b =
      rw there.named (rw there.at here) in
      rw address (record { to = goal; low = omega (arith, low) })

  constant_kind : (section : NormalSection) → section.class ≡ Strings → kind_of_class section.class ≡ kinds.ReadOnly
  constant_kind section is = ap kind_of_class is

  pub constant_here : (section : NormalSection) (base k : ℕ) (held : IsHeld image laid section base)
      → kind_of_class section.class ≡ kinds.ReadOnly → k < section.size
      → constant_at image.pieces (base + k) ≡ Some (slice_index held.bytes k)
  constant_here section base k held kind within = rw (held.stands k within, kind) refl

  text_byte : (section : NormalSection) (base offset : ℕ) (text : List ℕ) (i : ℕ) → IsHeld image laid section base
      → IsTextThere laid.object section.name offset text → section.class ≡ Strings → section.refs ≡ []
      → length section.bytes ≡ section.size → offset + length text ≤ length section.bytes
      → text ≡ take (length text) (drop offset section.bytes) → i < length text
      → is_byte (slice_index text i) (constant_at image.pieces (base + offset + i)) ≡ true
  text_byte section base offset text i held there texts plain whole within is lt =
      let inside : offset + i < section.size = omega (arith, whole, within, lt) in
      let address : base + offset + i ≡ base + (offset + i) = omega arith in
      let bare : list_any (covers (offset + i)) section.refs ≡ false = rw plain refl in
      let byte : slice_index held.bytes (offset + i) ≡ slice_index section.bytes (offset + i) =
      held.outside (λ zero. absurd (let no : Strings ≡ Zero = sym texts ∙ zero in cc)) (offset + i) inside bare in
      let own : slice_index text i ≡ slice_index section.bytes (offset + i) =
      ap (λ (t : List ℕ). slice_index t i) is
      ∙ get_or-take (length text) (drop offset section.bytes) i 0 lt
      ∙ get_or-drop offset section.bytes i 0 in
      rw (address, constant_here section base (offset + i) held (constant_kind section texts) inside)
      (eq-eqb (slice_index held.bytes (offset + i)) (slice_index text i) (byte ∙ sym own))

  text_comes : (r : Ref) (name : List ℕ) (offset : ℕ) (text : List ℕ) → IsTextThere laid.object name offset text
      → Comes image laid (goal_to laid.object r (place_named laid.object name) (to.Text name offset text))
      (unwrap_or (option_map (λ base. beyond base offset) (base_in laid.places name)) 0)
  text_comes r name offset text there =
      let section = there.section in
      let (other, at_other, same_other) = section_at_place laid.object name there.place there.named in
      let e : other ≡ section = same_Some other section (sym at_other ∙ there.at) in
      let same : section.name ≡ name = sym (ap (λ (s : NormalSection). s.name) e) ∙ same_other in
      let somewhere = held_at there.place section there.at in
      let b : ℕ = somewhere.base in
      let based : base_in laid.places name ≡ Some b = ap (base_in laid.places) (sym same) ∙ somewhere.placed in
      let low = somewhere.held.low in
      let size = (linking.read.whole section (has_at laid.object there.place section there.at)).all
      (λ zero. absurd (let no : Strings ≡ Zero = sym there.texts ∙ zero in cc)) in
      let within = there.stands.within in
      let address : beyond b offset ≡ b + offset = small b offset (omega (arith, low, size, within)) in
      let stands : stand_at image.pieces (b + offset) text (length text) ≡ true =
      all_below_from (λ i. is_byte (slice_index text i) (constant_at image.pieces (b + offset + i))) (length text)
      (λ i lt. text_byte section b offset text i somewhere.held
      (subst (λ (n : List ℕ). IsTextThere laid.object n offset text) (sym same) there) there.texts there.plain size
      within there.stands.is lt) in
      rw based (record {
        to = subst (λ (a : ℕ). stand_at image.pieces a text (length text) ≡ true) (sym address) stands;
        low = omega (arith, address, low, size, within);
      })
    where
      small : (b offset : ℕ) → b + offset < 2 ^ 32 → (b + offset) % 2 ^ 32 ≡ b + offset
      small b offset lt = omega arith

  target_comes : (owner : NormalSection) (r : Ref) (t : Target) → Has laid.object owner
      → is_code_or_constant owner ≡ true → Has owner.refs r → r.target ≡ t → IsThere laid.object t
      → Comes image laid (goal_to laid.object r (place_of_target laid.object t) t)
      (unwrap_or (target_address laid.object laid.places (global_values image.symbols) r t) 0)
  target_comes owner r (to.Outside name) has naming has_r is there =
      let it = first_global image.symbols name (linking.outsides owner r name has has_r is) in
      rw it.value (record { to = it.value; low = linking.low it.symbol it.among })
  target_comes owner r (to.Section name) has naming has_r is there =
      section_comes owner r name has naming has_r is there
  target_comes owner r (to.Text name offset text) has naming has_r is there = text_comes r name offset text there

  -- what a reference of code or read-only data goes to comes to the address that its field was filled for
  pub reference_comes : (owner : NormalSection) (r : Ref) → Has laid.object owner → is_code_or_constant owner ≡ true
      → Has owner.refs r → Comes image laid (goal_of laid.object r) (filled_for image laid r)
  unfolding address_of
  reference_comes owner r has naming has_r =
      target_comes owner r r.target has naming has_r refl (linking.read.refs owner r has has_r).there
