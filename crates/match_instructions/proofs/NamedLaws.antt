-- The table of offsets that references name, reference by reference.
use Rattle.std.proofs.Common.{◌≡◌, ℕ, zero, suc, ◌+◌, ◌<◌, Bool, true, false, ◌&&◌, cond, List, [], ◌∷◌, ◌++◌, length}
use Rattle.std.proofs.Common.{map, take, Option, Some, None, option_map, refl, sym, ap, subst, ◌∙◌, inl, inr, add-one}
use Rattle.std.proofs.Common.{append-nil, append_assoc}
use Rattle.std.specs.List.{IsDistinct, AllByRecursion, filter, flat_map, slice_get}
use Rattle.std.specs.Option.{ForSome}
use Rattle.std.specs.Cmp.Lexicographic.{bytes_decides}
use Rattle.std.proofs.lemmas.Bool.{cases_Bool}
use Rattle.std.proofs.lemmas.Cmp.{nat_list_eq_equiv}
use Rattle.std.proofs.lemmas.Grind.{flat_map-append}
use Rattle.std.proofs.lemmas.List.{map-append}
use Rattle.std.proofs.lemmas.List.Elements.{filter-append}
use Rattle.std.proofs.lemmas.Option.{same_Some, slice_get_within}
use Rattle.i386_reloc.specs.declared.types.Target.{Target}
use Rattle.i386_reloc.specs.declared.types.Target.TheVariants.{Section, Outside, Text}
use Rattle.i386_reloc.specs.declared.types.Ref.{Ref}
use Rattle.i386_reloc.specs.declared.types.NormalSection.{NormalSection}
use Rattle.i386_reloc.specs.Normal.{same_bytes, name_of}
use Rattle.i386_reloc.specs.laws.NamedPlaces.{section_at_place}
use Rattle.i386_reloc.specs.Places.{place_named, place_of_target, reference_at, place_of_reference}
use Rattle.i386_reloc.specs.Reaches.{goes_to_target, goes_to, is_interior}
use Rattle.match_instructions.specs.Landing.{interior_offset, refs_in, is_code_or_constant, goes_inside}
use Rattle.match_instructions.specs.inside.Named.{naming, named_in, named_by, put_at}

pub place_here : (sections : List NormalSection) (place k : ℕ) (r : Ref) → reference_at sections place k ≡ Some r →
    place_of_reference sections (reference_at sections place k) ≡ place_of_target sections r.target
place_here sections place k r at = ap (place_of_reference sections) at

named_within : (sections : List NormalSection) (name : List ℕ) →
    ForSome (place_named sections name) (λ p. p < length sections)
named_within sections name = λ p at. let it =
    section_at_place sections name p at in slice_get_within sections p it.0 it.1

pub target_within : (sections : List NormalSection) (target : Target) →
    ForSome (place_of_target sections target) (λ p. p < length sections)
target_within sections (Section name) = named_within sections name
target_within sections (Text name offset text) = named_within sections name
target_within sections (Outside name) = λ p at. absurd cc

map_same : {X Y : Type 0} (f g : X → Y) → ((x : X) → f x ≡ g x) → (xs : List X) → map f xs ≡ map g xs
map_same f g same [] = refl
map_same f g same (x ∷ xs) = rw (same x, map_same f g same xs) refl

-- what sections have, with one more offset in those of a name
abbrev with_one : (NormalSection → Bool) → (NormalSection → List ℕ) → ℕ → NormalSection → List ℕ
with_one test f offset section = f section ++ cond (test section) (offset ∷ []) []

abbrev has_name : List ℕ → NormalSection → Bool
has_name name section = same_bytes name section.name

none_named : (name : List ℕ) (f : NormalSection → List ℕ) (offset : ℕ) (sections : List NormalSection) →
    AllByRecursion (λ other. same_bytes name other ≡ false) (map name_of sections) →
    map (with_one (has_name name) f offset) sections ≡ map f sections
none_named name f offset [] apart = refl
none_named name f offset (s ∷ sections) apart =
    rw (apart.0, append-nil (f s), none_named name f offset sections apart.1) refl

put_later : (xs : List ℕ) (table : List (List ℕ)) (place : Option ℕ) (offset : ℕ) →
    put_at (xs ∷ table) (option_map suc place) offset ≡ xs ∷ put_at table place offset
put_later xs table None offset = refl
put_later xs table (Some place) offset = refl

put_named : (sections : List NormalSection) → IsDistinct same_bytes (map name_of sections) →
    (name : List ℕ) (f : NormalSection → List ℕ) (offset : ℕ) →
    map (with_one (has_name name) f offset) sections ≡ put_at (map f sections) (place_named sections name) offset
unfolding IsDistinct
put_named [] distinct name f offset = refl
put_named (s ∷ sections) distinct name f offset =
    elim (cases_Bool (same_bytes s.name name)) [
      | inl here ↦
          let e : s.name ≡ name = (bytes_decides s.name name).0 here in
          let own : same_bytes name s.name ≡ true = rw (← e) (nat_list_eq_equiv.refl s.name) in
          let apart : AllByRecursion (λ other. same_bytes name other ≡ false) (map name_of sections) =
          subst (λ (n : List ℕ). AllByRecursion (λ other. same_bytes n other ≡ false) (map name_of sections)) e
          distinct.0 in
          rw (here, own, none_named name f offset sections apart) refl
      | inr not ↦
          let other : same_bytes name s.name ≡ false = nat_list_eq_equiv.symm name s.name ∙ not in
          rw (not, other, append-nil (f s), put_named sections distinct.1 name f offset)
          (sym (put_later (f s) (map f sections) (place_named sections name) offset))
    ]

-- of a target
put_target : (sections : List NormalSection) → IsDistinct same_bytes (map name_of sections) →
    (target : Target) (f : NormalSection → List ℕ) (offset : ℕ) →
    map (with_one (λ s. goes_to_target s.name target) f offset) sections
    ≡ put_at (map f sections) (place_of_target sections target) offset
put_target sections distinct (Section name) f offset = put_named sections distinct name f offset
put_target sections distinct (Text name at text) f offset = put_named sections distinct name f offset
put_target sections distinct (Outside name) f offset =
    map_same (with_one (λ s. false) f offset) f (λ s. append-nil (f s)) sections

-- of one more reference
named_last : (b : Bool) (r : Ref) → map interior_offset (cond b (r ∷ []) []) ≡ cond b (interior_offset r ∷ []) []
named_last true r = refl
named_last false r = refl

one_of : (p : Ref → Bool) (r : Ref) → filter p (r ∷ []) ≡ cond (p r) (r ∷ []) []
one_of p r = refl

named_push : (refs : List Ref) (r : Ref) (s : NormalSection) →
    named_in (refs ++ r ∷ []) s ≡ with_one (λ s. goes_inside s.name r) (named_in refs) (interior_offset r) s
named_push refs r s =
    ap (map interior_offset) (filter-append (goes_inside s.name) refs (r ∷ []))
    ∙ map-append interior_offset (filter (goes_inside s.name) refs) (filter (goes_inside s.name) (r ∷ []))
    ∙ ap (λ xs. named_in refs s ++ xs) (named_last (goes_inside s.name r) r)

and_when : (a b c : Bool) → b ≡ c → a && b ≡ cond c a false
and_when true true true e = refl
and_when false true true e = refl
and_when true false false e = refl
and_when false false false e = refl
and_when a true false e = absurd cc
and_when a false true e = absurd cc

pub named_more : (object : List NormalSection) (refs : List Ref) (r : Ref) →
    IsDistinct same_bytes (map name_of object) →
    named_by object (refs ++ r ∷ []) ≡ cond (is_interior r)
    (put_at (named_by object refs) (place_of_target object r.target) (interior_offset r)) (named_by object refs)
named_more object refs r distinct =
    elim (cases_Bool (is_interior r)) [
      | inl interior ↦
          rw interior
          (map_same (named_in (refs ++ r ∷ []))
          (with_one (λ s. goes_to_target s.name r.target) (named_in refs) (interior_offset r))
          (λ s. named_push refs r s ∙ ap (λ b. named_in refs s ++ cond b (interior_offset r ∷ []) [])
          (and_when (goes_to s.name r) (is_interior r) true interior))
          object
          ∙ put_target object distinct r.target (named_in refs) (interior_offset r))
      | inr entry ↦
          rw entry
          (map_same (named_in (refs ++ r ∷ [])) (named_in refs)
          (λ s. named_push refs r s ∙ ap (λ b. named_in refs s ++ cond b (interior_offset r ∷ []) [])
          (and_when (goes_to s.name r) (is_interior r) false entry) ∙ append-nil (named_in refs s))
          object)
    ]

pub named_step : (object : List NormalSection) (seen refs : List Ref) (k : ℕ) (r : Ref) (before after : List (List ℕ)) →
    IsDistinct same_bytes (map name_of object) → take (k + 1) refs ≡ take k refs ++ r ∷ [] →
    before ≡ named_by object (seen ++ take k refs) →
    after ≡ cond (is_interior r) (put_at before (place_of_target object r.target) (interior_offset r)) before →
    after ≡ named_by object (seen ++ take (k + 1) refs)
named_step object seen refs k r before after distinct more was is =
    is
    ∙ ap (λ table. cond (is_interior r) (put_at table (place_of_target object r.target) (interior_offset r)) table) was
    ∙ sym (named_more object (seen ++ take k refs) r distinct)
    ∙ ap (named_by object) (append_assoc seen (take k refs) (r ∷ []) ∙ ap (λ xs. seen ++ xs) (sym more))

take_last : {X : Type 0} (xs : List X) (i : ℕ) (x : X) → slice_get xs i ≡ Some x → take (suc i) xs ≡ take i xs ++ x ∷ []
take_last [] i x at = absurd cc
take_last (y ∷ xs) zero x at = let e : y ≡ x = same_Some y x at in rw e refl
take_last (y ∷ xs) (suc i) x at = ap (λ (zs : List _). y ∷ zs) (take_last xs i x at)

refs_when : (b : Bool) (section : NormalSection) → flat_map refs_in (cond b (section ∷ []) []) ≡ cond b section.refs []
refs_when true section = append-nil section.refs
refs_when false section = refl

pub naming_more : (object : List NormalSection) (i : ℕ) (section : NormalSection) → slice_get object i ≡ Some section →
    naming (take (i + 1) object) ≡ naming (take i object) ++ cond (is_code_or_constant section) section.refs []
naming_more object i section at =
    ap naming (ap (λ n. take n object) (add-one i) ∙ take_last object i section at)
    ∙ ap (flat_map refs_in) (filter-append is_code_or_constant (take i object) (section ∷ []))
    ∙ flat_map-append refs_in (filter is_code_or_constant (take i object)) (filter is_code_or_constant (section ∷ []))
    ∙ ap (λ refs. naming (take i object) ++ refs) (refs_when (is_code_or_constant section) section)

pub section_taken : (object : List NormalSection) (i : ℕ) (section : NormalSection) (table : List (List ℕ)) →
    slice_get object i ≡ Some section → is_code_or_constant section ≡ true →
    table ≡ named_by object (naming (take i object) ++ section.refs) →
    table ≡ named_by object (naming (take (i + 1) object))
section_taken object i section table at counts is = rw (naming_more object i section at, counts) is

pub section_left : (object : List NormalSection) (i : ℕ) (section : NormalSection) (table : List (List ℕ)) →
    slice_get object i ≡ Some section → is_code_or_constant section ≡ false →
    table ≡ named_by object (naming (take i object)) → table ≡ named_by object (naming (take (i + 1) object))
section_left object i section table at counts is =
    rw (naming_more object i section at, counts, append-nil (naming (take i object))) is
