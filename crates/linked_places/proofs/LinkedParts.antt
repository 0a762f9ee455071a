-- What is known of an object among those that were linked to an image: it was read, its sections stand at their places,
-- its functions are listed there, and each outside name has one address.
use Rattle.std.proofs.Common.{◌≡◌, ◌≢◌, ℕ, ◌<◌, ◌^◌, ◌==◌, Bool, true, false, not, cond, List, [], ◌∷◌}
use Rattle.std.proofs.Common.{length, map, Option, Some, None, refl, sym, ap, subst, ◌∙◌, inl, inr, arith}
use Rattle.std.specs.Prelude.{Ok, nat_lt}
use Rattle.std.specs.Option.{option_map, option_or}
use Rattle.std.specs.List.{All, AllZip, IsDistinct, find, flat_map, list_any, zip}
use Rattle.std.proofs.lemmas.Cmp.{nat_list_eq_equiv}
use Rattle.std.proofs.lemmas.Bool.Decides.{nat_tests}
use Rattle.std.proofs.lemmas.Option.{same_Some}
use Rattle.ks_base.specs.declared.refusals.Refusal.{Refusal}
use Rattle.symbol_table.specs.declared.symbols.Symbol.{Symbol}
use Rattle.symbol_table.specs.Symbols.{is_global_named}
use Rattle.i386_reloc.specs.declared.types.NormalSection.{NormalSection}
use Rattle.i386_reloc.specs.declared.types.ObjectSymbol.{ObjectSymbol}
use Rattle.i386_reloc.specs.declared.types.Ref.{Ref}
use Rattle.i386_reloc.specs.declared.types.Target.TheVariants.{Outside}
use Rattle.i386_reloc.specs.Classes.{is_code_class}
use Rattle.i386_reloc.specs.Normal.{name_of, same_bytes, function_name}
use Rattle.i386_reloc.specs.Sections.{sections_of}
use Rattle.image_file.specs.Reading.{Contents}
use Rattle.link_post.specs.declared.types.Placed.{Placed}
use Rattle.link_post.specs.Places.{base_in}
use Rattle.link_post.specs.Linked.{beyond}
use Rattle.link_post.specs.Sections.{function_symbol, variable_symbol}
use Rattle.image_link.specs.Places.{Ends, Laid, at_places, behind, ends_after, laid_from, laid_out, next_place, places_from}
use Rattle.image_link.specs.Symbols.{all_symbols, if_named, symbols_at, symbols_of, symbols_of_part, variable_in}
use Rattle.image_link.specs.Refused.{count_fault, double_fault, is_undefined, link_fault, outside_names, outside_names_of}
use Rattle.image_link.specs.Refused.{outside_of, size_fault, symbol_fault, undefined_fault}
use Rattle.image_link.specs.Linked.{image_of_laid, image_unless, linked_image}
use Rattle.linked_places.specs.Held.{IsHeldSomewhere, PlacesHoldSections}
use Rattle.linked_places.specs.Solves.{CanBeFound, IsOfBytes}
use Rattle.linked_places.proofs.Members.{Has, all_has, at_has, contained, each_has, flat_has, has_flat, has_map, has_of}
use Rattle.linked_places.proofs.ReadObjects.{AreSections, IsReadObject, read_object}

-- ---- what is known
pub record IsLinking (image : Contents) (laid : Laid) : Type 0 where
  pub read : IsReadObject laid.object
  pub held : (section : NormalSection) → Has laid.object section → IsHeldSomewhere image laid section
  pub listed : (section : NormalSection) (base : ℕ) → Has laid.object section → base_in laid.places section.name ≡ Some
      base → is_code_class section.class ≡ true → function_name section ≢ []
      → Has image.symbols (function_symbol section base)
  pub low : (symbol : Symbol) → Has image.symbols symbol → symbol.address < 2 ^ 32
  pub outsides : (section : NormalSection) (r : Ref) (name : List ℕ) → Has laid.object section → Has section.refs r
      → r.target ≡ Outside name → list_any (is_global_named name) image.symbols ≡ true
  pub single : double_fault image.symbols ≡ None

-- ---- the objects, laid out
record IsLaid (objects : List (List NormalSection)) (laid : Laid) : Type 0 where
  ends : Ends
  among : Has objects laid.object
  places : laid.places ≡ places_from ends laid.object

laid_is : (ends : Ends) (objects : List (List NormalSection)) (laid : Laid) → Has (laid_from ends objects) laid
    → IsLaid objects laid
unfolding laid_from
laid_is ends [] laid has = absurd has
laid_is ends (object ∷ objects) laid (inl is) =
    subst (IsLaid (object ∷ objects)) is (record { ends = ends; among = inl refl; places = refl })
laid_is ends (object ∷ objects) laid (inr rest) =
    let it = laid_is (ends_after ends object) objects laid rest in
    record { ends = it.ends; among = inr it.among; places = it.places }

file_of : (files : List (List ℕ)) (objects : List (List NormalSection)) (object : List NormalSection)
    → AllZip (λ file object. sections_of file ≡ Ok object) files objects → Has objects object
    → (file : List ℕ) × Has files file × (sections_of file ≡ Ok object)
file_of [] [] object read has = absurd has
file_of [] (o ∷ objects) object read has = absurd read
file_of (f ∷ files) [] object read has = absurd has
file_of (f ∷ files) (o ∷ objects) object read (inl is) = (f, inl refl, read.0 ∙ ap (λ x. Ok x) is)
file_of (f ∷ files) (o ∷ objects) object read (inr rest) =
    let (file, has, is) = file_of files objects object read.1 rest in (file, inr has, is)

-- ---- a section beside its place
part_of : (ends : Ends) (object : List NormalSection) (section : NormalSection) → Has object section
    → (part : Placed) × Has (zip object (places_from ends object)) (section, part)
unfolding places_from
part_of ends [] section has = absurd has
part_of ends (s ∷ object) section (inl is) = (next_place ends s, inl (ap (λ x. (x, next_place ends s)) is))
part_of ends (s ∷ object) section (inr rest) =
    let (part, has) = part_of (behind ends s) object section rest in (part, inr has)

base_later : (places : List Placed) (first : Placed) (name : List ℕ) (b : Bool) → b ≡ false
    → option_map (λ one. one.base) (cond b (Some first) (find (λ one. same_bytes one.section name) places))
    ≡ base_in places name
base_later places first name true apart = absurd cc
base_later places first name false apart = refl

place_of_part : (ends : Ends) (object : List NormalSection) (section : NormalSection) (part : Placed)
    → IsDistinct same_bytes (map name_of object) → Has (zip object (places_from ends object)) (section, part)
    → Has object section × (base_in (places_from ends object) section.name ≡ Some part.base)
unfolding places_from IsDistinct
place_of_part ends [] section part distinct has = absurd has
place_of_part ends (s ∷ object) section part distinct (inl is) =
    let first : s ≡ section = ap (λ p. p.0) is in
    let second : next_place ends s ≡ part = ap (λ p. p.1) is in (
      inl first,
      rw (← first, ← second, nat_list_eq_equiv.refl s.name) refl,
    )
place_of_part ends (s ∷ object) section part distinct (inr rest) =
    let (has, base) = place_of_part (behind ends s) object section part distinct.1 rest in
    let apart : same_bytes s.name section.name ≡ false =
    each_has (λ (other : List ℕ). same_bytes s.name other ≡ false) (map name_of object) section.name distinct.0
    (has_map name_of object section has) in (
      inr has,
      base_later (places_from (behind ends s) object) (next_place ends s) section.name (same_bytes s.name section.name)
          apart ∙ base,
    )

-- ---- the symbols of a section at its place
some_length : (b : ℕ) (name : List ℕ) → (length (b ∷ name) == 0) ≡ false
some_length b name = grind (arith, nat_tests)

if_listed : (symbol : Symbol) → symbol.name ≢ [] → Has (if_named symbol) symbol
if_listed symbol named = by symbol.name refl
  where
    by : (name : List ℕ) → name ≡ symbol.name → Has (cond (length name == 0) [] (symbol ∷ [])) symbol
    by [] none = absurd (named (sym none))
    by (b ∷ name) is = rw (some_length b name) (inl refl)

function_listed : (section : NormalSection) (base : ℕ) (code : Bool) (others : List Symbol) → code ≡ true
    → function_name section ≢ [] → Has (cond code (if_named (function_symbol section base)) others)
    (function_symbol section base)
function_listed section base true others is named = if_listed (function_symbol section base) named
function_listed section base false others is named = absurd cc

named_is : (symbol other : Symbol) → Has (if_named symbol) other → symbol ≡ other
named_is symbol other has = by (length symbol.name == 0) has
  where
    by : (b : Bool) → Has (cond b [] (symbol ∷ [])) other → symbol ≡ other
    by true none = absurd none
    by false (inl is) = is
    by false (inr none) = absurd none

beyond_low : (base offset : ℕ) → beyond base offset < 2 ^ 32
beyond_low base offset = omega arith

variable_low : (section : NormalSection) (base : ℕ) (object : ObjectSymbol) (symbol : Symbol)
    → Has (variable_in section base object) symbol → symbol.address < 2 ^ 32
variable_low section base object symbol has = by (nat_lt object.value section.size) has
  where
    by : (b : Bool) → Has (cond b (if_named (variable_symbol base object)) []) symbol → symbol.address < 2 ^ 32
    by true here = subst (λ (s : Symbol). s.address < 2 ^ 32) (named_is (variable_symbol base object) symbol here)
        (beyond_low base object.value)
    by false none = absurd none

symbol_low : (section : NormalSection) (base : ℕ) (symbol : Symbol) → base < 2 ^ 32
    → Has (symbols_at section base) symbol → symbol.address < 2 ^ 32
symbol_low section base symbol low has = by (is_code_class section.class) has
  where
    by : (b : Bool) → Has (cond b (if_named (function_symbol section base))
        (flat_map (variable_in section base) section.objects)) symbol → symbol.address < 2 ^ 32
    by true here = subst (λ (s : Symbol). s.address < 2 ^ 32) (named_is (function_symbol section base) symbol here) low
    by false later =
        let (object, has_object, inner) = flat_has (variable_in section base) section.objects symbol later in
        variable_low section base object symbol inner

-- ---- what isn't wrong with the objects
pub or_none : {X : Type 0} (a b : Option X) → option_or a b ≡ None → (a ≡ None) × (b ≡ None)
or_none (Some x) b e = absurd cc
or_none None b e = (refl, e)

record IsImageOf (objects : List (List NormalSection)) (image : Contents) : Type 0 where
  is : image_of_laid (laid_out objects) ≡ image
  single : double_fault (all_symbols (laid_out objects)) ≡ None
  defined : undefined_fault (all_symbols (laid_out objects)) objects ≡ None

image_by : (objects : List (List NormalSection)) (image : Contents) (fault : Option Refusal)
    → link_fault objects ≡ fault → image_unless fault (image_of_laid (laid_out objects)) ≡ Ok image
    → IsImageOf objects image
unfolding link_fault
image_by objects image (Some refusal) fault is = absurd cc
image_by objects image None fault is =
    let symbols = all_symbols (laid_out objects) in
    let (size, symbol) = or_none (size_fault objects) (symbol_fault symbols objects) fault in
    let (count, names) = or_none (count_fault symbols) (option_or (double_fault symbols) (undefined_fault symbols
    objects)) symbol in
    let (double, undefined) = or_none (double_fault symbols) (undefined_fault symbols objects) names in
    record { is = cc; single = double; defined = undefined }

image_is : (objects : List (List NormalSection)) (image : Contents) → linked_image objects ≡ Ok image
    → IsImageOf objects image
unfolding linked_image
image_is objects image is = image_by objects image (link_fault objects) refl is

symbols_are : (objects : List (List NormalSection)) (image : Contents) → IsImageOf objects image
    → image.symbols ≡ all_symbols (laid_out objects)
unfolding image_of_laid
symbols_are objects image it = sym (ap (λ (c : Contents). c.symbols) it.is)

none_found : {X : Type 0} (p : X → Bool) (xs : List X) (x : X) → find p xs ≡ None → Has xs x → p x ≡ false
none_found p [] x none has = absurd has
none_found {X} p (a ∷ xs) x none has = by (p a) refl none (none_found p xs x) has
  where
    by : (b : Bool) → p a ≡ b → cond b (Some a) (find p xs) ≡ None → (find p xs ≡ None → Has xs x → p x ≡ false)
        → Has (a ∷ xs) x → p x ≡ false
    by true here found later place = absurd cc
    by false here found later (inl is) = sym (ap p is) ∙ here
    by false here found later (inr rest) = later found rest

pub map_none : {X Y : Type 0} (f : X → Y) (o : Option X) → option_map f o ≡ None → o ≡ None
map_none f (Some x) e = absurd cc
map_none f None e = refl

not_false : (b : Bool) → not b ≡ false → b ≡ true
not_false true e = refl
not_false false e = absurd cc

defined_in : (symbols : List Symbol) (objects : List (List NormalSection)) (object : List NormalSection)
    (section : NormalSection) (r : Ref) (name : List ℕ) → undefined_fault symbols objects ≡ None → Has objects object
    → Has object section → Has section.refs r → r.target ≡ Outside name
    → list_any (is_global_named name) symbols ≡ true
defined_in symbols objects object section r name none has_object has_section has_r is =
    let here : Has (outside_of r) name = rw is (inl refl) in
    let among : Has (outside_names objects) name =
    has_flat (flat_map outside_names_of) objects object name has_object
    (has_flat outside_names_of object section name has_section
    (has_flat outside_of section.refs r name has_r here)) in
    not_false (list_any (is_global_named name) symbols)
    (none_found (is_undefined symbols) (outside_names objects) name
    (map_none _ (find (is_undefined symbols) (outside_names objects)) none) among)

-- ---- all of it
module _ (are : AreSections) (hold : PlacesHoldSections) (files : List (List ℕ))
    (objects : List (List NormalSection)) (image : Contents)
    (small : All IsOfBytes files) (read : AllZip (λ file object. sections_of file ≡ Ok object) files objects)
    (linked : linked_image objects ≡ Ok image) where
  reads : (laid : Laid) → Has (laid_out objects) laid → IsReadObject laid.object
  reads laid has =
      let it = laid_is _ objects laid has in
      let (file, among, is) = file_of files objects laid.object read it.among in
      read_object are file laid.object (all_has IsOfBytes files file small among) is

  holds : (laid : Laid) → Has (laid_out objects) laid → (section : NormalSection) → Has laid.object section
      → IsHeldSomewhere image laid section
  holds laid has section has_section =
      let (place, at) = at_has laid.object section has_section in
      hold files objects image laid read linked (contained (laid_out objects) laid has) place section at

  part_place : (laid : Laid) → Has (laid_out objects) laid → (section : NormalSection) (part : Placed)
      → Has (at_places laid) (section, part)
      → Has laid.object section × (base_in laid.places section.name ≡ Some part.base)
  part_place laid has section part has_part =
      let it = laid_is _ objects laid has in
      let (has_section, base) = place_of_part it.ends laid.object section part (reads laid has).distinct
      (subst (λ (ps : List Placed). Has (zip laid.object ps) (section, part)) it.places has_part) in
      (has_section, ap (λ (ps : List Placed). base_in ps section.name) it.places ∙ base)

  lists : (laid : Laid) → Has (laid_out objects) laid → (section : NormalSection) (base : ℕ)
      → Has laid.object section → base_in laid.places section.name ≡ Some base → is_code_class section.class ≡ true
      → function_name section ≢ [] → Has (all_symbols (laid_out objects)) (function_symbol section base)
  unfolding all_symbols
  lists laid has section base has_section at code named =
      let it = laid_is _ objects laid has in
      let (part, there) = part_of it.ends laid.object section has_section in
      let has_part : Has (at_places laid) (section, part) =
      subst (λ (ps : List Placed). Has (zip laid.object ps) (section, part)) (sym it.places) there in
      let e : part.base ≡ base =
      same_Some part.base base (sym (part_place laid has section part has_part).1 ∙ at) in
      let here : Has (symbols_at section part.base) (function_symbol section base) =
      rw e (function_listed section base (is_code_class section.class) _ code named) in
      has_flat symbols_of (laid_out objects) laid (function_symbol section base) has
      (has_flat symbols_of_part (at_places laid) (section, part) (function_symbol section base) has_part here)

  lows : (symbol : Symbol) → Has (all_symbols (laid_out objects)) symbol → symbol.address < 2 ^ 32
  unfolding all_symbols
  lows symbol has =
      let (laid, has_laid, inner) = flat_has symbols_of (laid_out objects) symbol has in
      let (part, has_part, here) = flat_has symbols_of_part (at_places laid) symbol inner in
      let (has_section, base) = part_place laid has_laid part.0 part.1 has_part in
      let somewhere = holds laid has_laid part.0 has_section in
      let e : (part.1).base ≡ somewhere.base =
      same_Some (part.1).base somewhere.base (sym base ∙ somewhere.placed) in
      let low = somewhere.held.low in
      symbol_low part.0 (part.1).base symbol (omega (arith, e, low)) here

  linking_of : (laid : Laid) → Has (laid_out objects) laid → IsLinking image laid
  linking_of laid has =
      let it = image_is objects image linked in
      let symbols = symbols_are objects image it in
      record {
        read = reads laid has;
        held = holds laid has;
        listed = λ section base has_section at code named.
            rw symbols (lists laid has section base has_section at code named);
        low = λ symbol has_symbol. lows symbol (subst (λ (ss : List Symbol). Has ss symbol) symbols has_symbol);
        outsides = λ section r name has_section has_r is.
            rw symbols (defined_in (all_symbols (laid_out objects)) objects laid.object section r name it.defined
            (laid_is _ objects laid has).among has_section has_r is);
        single = rw symbols it.single;
      }

pub is_linking : AreSections → PlacesHoldSections → (files : List (List ℕ)) (objects : List (List NormalSection))
    (image : Contents) (laid : Laid) → CanBeFound files objects image laid → IsLinking image laid
is_linking are hold files objects image laid can =
    linking_of are hold files objects image can.bytes can.read can.linked laid
    (has_of (laid_out objects) laid can.among)
