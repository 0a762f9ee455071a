-- What a value is given for has an address.
use Rattle.std.proofs.Common.{◌≡◌, ℕ, Bool, true, false, ◌&&◌, List, Option, Some, None, refl, inl, inr, is_some}
use Rattle.std.specs.Prelude.{IsSome, option_map}
use Rattle.std.specs.Option.{option_or}
use Rattle.std.proofs.lemmas.Bool.{cases_Bool}
use Rattle.i386_reloc.specs.declared.types.Class.TheVariants.{Zero, Code, Writable, Strings, ReadOnly}
use Rattle.i386_reloc.specs.declared.types.Target.{Target}
use Rattle.i386_reloc.specs.declared.types.Target.TheVariants.{Section, Outside, Text}
use Rattle.i386_reloc.specs.declared.types.Ref.{Ref}
use Rattle.i386_reloc.specs.declared.types.NormalSection.{NormalSection}
use Rattle.i386_reloc.specs.Classes.{is_code_class}
use Rattle.i386_reloc.specs.Normal.{section_named}
use Rattle.i386_reloc.specs.Reaches.{is_data_class, is_in, has_class}
use Rattle.symbol_table.specs.declared.values.Unknown.TheVariants as unknown
use Rattle.symbol_table.specs.declared.values.Solved.{Solved}
use Rattle.symbol_table.specs.Unknowns.{address_in}
use Rattle.link_post.specs.declared.types.Placed.{Placed}
use Rattle.link_post.specs.Values.{ValueList, solved_as, needed_by, is_kept_data, Tell}
use Rattle.link_post.specs.Places.{base_in}
use Rattle.link_post.specs.Linked.{value_in, section_address, target_address}

has_value : (o : Option Solved) → is_some o ≡ true → IsSome (option_map address_in o)
has_value None some = absurd cc
has_value (Some solved) some = refl

has_either : (a b : Option ℕ) → IsSome a → IsSome (option_or a b)
has_either None b some = absurd (let e : false ≡ true = some in cc)
has_either (Some a) b some = refl

no_code : (o : Option NormalSection) → has_class is_data_class o ≡ true → has_class is_code_class o ≡ false
no_code None is = refl
no_code (Some section) is =
    elim section.class as (λ c. is_data_class c ≡ true → is_code_class c ≡ false) [
      | Zero ↦ λ e. refl
      | Code ↦ λ e. absurd cc
      | Writable ↦ λ e. refl
      | Strings ↦ λ e. refl
      | ReadOnly ↦ λ e. refl
    ] is

both : (a b : Bool) → (a && b) ≡ true → a ≡ true
both true b is = refl
both false b is = is

data_address : (pre post : List NormalSection) (placement : List Placed) (values : ValueList) (r : Ref) (name : List ℕ)
    → is_kept_data pre post name ≡ true
    → is_some (solved_as values (unknown.Data name)) ≡ true → IsSome (section_address post placement values r name)
unfolding section_address
data_address pre post placement values r name kept told =
    let is_data : is_in is_data_class post name ≡ true =
    both (is_in is_data_class post name) (is_some (section_named pre name)) kept in
    let not_code : is_in is_code_class post name ≡ false = no_code (section_named post name) is_data in
    rw (not_code, is_data) (has_either (value_in values (unknown.Data name)) (base_in placement name)
    (has_value (solved_as values (unknown.Data name)) told))

pub has_address : (pre post : List NormalSection) (placement : List Placed) (values : ValueList) (r : Ref)
    (target : Target) → IsSome (needed_by pre post target) → Tell values (needed_by pre post target)
    → IsSome (target_address post placement values r target)
has_address pre post placement values r (Outside name) needed told =
    has_value (solved_as values (unknown.Outside name)) told
has_address pre post placement values r (Section name) needed told =
    elim (cases_Bool (is_kept_data pre post name)) [
      | inl kept ↦ data_address pre post placement values r name kept (rw kept at told)
      | inr other ↦ absurd (let e : false ≡ true = rw other at needed in cc)
    ]
has_address pre post placement values r (Text section offset text) needed told =
    absurd (let e : false ≡ true = needed in cc)
