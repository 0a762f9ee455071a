-- Each field of an update's new sections has an address, where no step of its plan is refused.
use Rattle.std.proofs.Common.{◌≡◌, ℕ, Bool, true, false, not, ◌||◌, List, [], ◌∷◌, map, Option, Some, None}
use Rattle.std.proofs.Common.{refl, sym, ap, subst, ◌∙◌, inl, inr}
use Rattle.std.specs.Prelude.{IsSome, Ok, is_some, find, option_map}
use Rattle.std.specs.List.{All, AllByRecursion, Contains, IsDistinct}
use Rattle.std.specs.Cmp.Lexicographic.{bytes_decides}
use Rattle.std.proofs.lemmas.Bool.{cases_Bool}
use Rattle.std.proofs.lemmas.Cmp.{nat_list_eq_equiv}
use Rattle.ks_base.specs.declared.places.Range.{Range}
use Rattle.symbol_table.specs.declared.symbols.Symbol.{Symbol}
use Rattle.symbol_table.specs.declared.values.Unknown.TheVariants as unknown
use Rattle.symbol_table.specs.declared.values.Solved.TheVariants.{Body}
use Rattle.symbol_table.specs.Unknowns.{address_in}
use Rattle.image_memory.specs.Ranges.{Ascends}
use Rattle.image_memory.specs.Contents.{IsValid}
use Rattle.i386_reloc.specs.declared.types.Class.{Class}
use Rattle.i386_reloc.specs.declared.types.Class.TheVariants.{Zero, Code, Writable, Strings, ReadOnly}
use Rattle.i386_reloc.specs.declared.types.NormalSection.{NormalSection}
use Rattle.i386_reloc.specs.declared.types.Ref.{Ref}
use Rattle.i386_reloc.specs.declared.types.Target.{Target}
use Rattle.i386_reloc.specs.declared.types.Target.TheVariants.{Section, Outside, Text}
use Rattle.i386_reloc.specs.Classes.{is_code_class}
use Rattle.i386_reloc.specs.Normal.{name_of as section_name, same_bytes, section_named}
use Rattle.i386_reloc.specs.Places.{references_in}
use Rattle.i386_reloc.specs.Reaches.{goes_to, goes_to_target, has_class, is_constant_class, is_data_class, is_in, is_interior}
use Rattle.extract_post.specs.Same.{same_class}
use Rattle.extract_post.specs.declared.types.Extract.{Extract}
use Rattle.extract_post.specs.Members.{TextsReferToNothing, is_there}
use Rattle.extract_post.specs.Extract.{other_class}
use Rattle.extract_post.specs.Extracted.{data_differs, extracted, extracted_by}
use Rattle.extract_post.specs.Roles.{role_of}
use Rattle.symbol_solve.specs.Candidates.{Running, code_sections}
use Rattle.symbol_solve.specs.Answered.{IsAnswered}
use Rattle.link_post.specs.Values.{AreFound, TellOf, ValueList, references_of, resolved, solved_as}
use Rattle.link_post.specs.Places.{base_in}
use Rattle.link_post.specs.Linked.{target_address, value_in}
use Rattle.update_pieces.specs.Parts.{NewPart, new_part, size_of}
use Rattle.update_plan.specs.Addresses.{AreSteps, HasAddresses}
use Rattle.update_plan.specs.Placing.{name_of, names_of, parts_of}
use Rattle.update_plan.proofs.SoundFields.{IsBrought, IsBroughtTo, part_placed, target_has}
use Rattle.update_plan.proofs.SoundFile.{IsFile, distinct_in, is_file, named_itself}
use Rattle.update_plan.proofs.SoundLists.{Has, all_has, all_of, contained, each_has, found_has, has_found, has_map}
use Rattle.update_plan.proofs.SoundOlds.{as_pre, code_has, told_in}
use Rattle.update_plan.proofs.SoundParts.{has_part, part_is}
use Rattle.update_plan.proofs.SoundPlan.{BodiesAreTold, PlacesLieApart}
use Rattle.update_plan.proofs.Targets.{references_go_there, texts_have_no_references}

-- what the crates below say of all values, and of all differences
abbrev pub ValuesAreFound : Type 0
ValuesAreFound = (pre post : List NormalSection) (symbols : List Symbol) (sections : List (List ℕ))
    (earlier found : ValueList) → resolved pre post symbols sections earlier ≡ Ok found →
    AreFound pre post sections earlier found

abbrev pub ConstantsAreBrought : Type 0
ConstantsAreBrought = (pre post : List NormalSection) (extract : Extract)
    (section : NormalSection) (r : Ref) (name : List ℕ) →
    extracted pre post ≡ Ok extract → IsDistinct same_bytes (map section_name post) →
    Contains post section → IsSome (role_of extract section.name) → Contains section.refs r →
    goes_to name r ≡ true → is_in is_constant_class post name ≡ true → IsSome (role_of extract name)

abbrev pub InteriorsAreBrought : Type 0
InteriorsAreBrought = (pre post : List NormalSection) (extract : Extract)
    (section : NormalSection) (r : Ref) (name : List ℕ) →
    extracted pre post ≡ Ok extract → IsDistinct same_bytes (map section_name post) → TextsReferToNothing post →
    Contains post section → IsSome (role_of extract section.name) → Contains section.refs r →
    goes_to name r ≡ true → is_interior r ≡ true → is_in is_code_class post name ≡ true → IsSome (role_of extract name)

abbrev pub NewDataAreBrought : Type 0
NewDataAreBrought = (pre post : List NormalSection) (extract : Extract) (name : List ℕ) →
    extracted pre post ≡ Ok extract → is_in is_data_class post name ≡ true → is_there pre name ≡ false →
    IsSome (role_of extract name)

abbrev pub NewCodeIsBrought : Type 0
NewCodeIsBrought = (pre post : List NormalSection) (extract : Extract) (name : List ℕ) →
    extracted pre post ≡ Ok extract → is_in is_code_class post name ≡ true → is_there pre name ≡ false →
    IsSome (role_of extract name)

-- ---- options
option_cases : {X : Type 0} (o : Option X) → IsSome o → (x : X) × (o ≡ Some x)
option_cases None is = absurd cc
option_cases (Some x) is = (x, refl)

some_map : {X Y : Type 0} (f : X → Y) (o : Option X) → IsSome o → IsSome (option_map f o)
some_map f None is = is
some_map f (Some x) is = refl

-- ---- a function of both objects is code in both
same_code : (a b : Class) → same_class a b ≡ true → is_code_class b ≡ true → is_code_class a ≡ true
same_code Code b same code = refl
same_code Zero Code same code = absurd cc
same_code Zero Zero same code = absurd cc
same_code Zero Writable same code = absurd cc
same_code Zero Strings same code = absurd cc
same_code Zero ReadOnly same code = absurd cc
same_code Writable Code same code = absurd cc
same_code Writable Zero same code = absurd cc
same_code Writable Writable same code = absurd cc
same_code Writable Strings same code = absurd cc
same_code Writable ReadOnly same code = absurd cc
same_code Strings Code same code = absurd cc
same_code Strings Zero same code = absurd cc
same_code Strings Writable same code = absurd cc
same_code Strings Strings same code = absurd cc
same_code Strings ReadOnly same code = absurd cc
same_code ReadOnly Code same code = absurd cc
same_code ReadOnly Zero same code = absurd cc
same_code ReadOnly Writable same code = absurd cc
same_code ReadOnly Strings same code = absurd cc
same_code ReadOnly ReadOnly same code = absurd cc

not_false : (b : Bool) → not b ≡ false → b ≡ true
not_false true is = refl
not_false false is = absurd cc

or_none : (a b : Bool) → a || b ≡ false → a ≡ false
or_none true b is = absurd cc
or_none false b is = refl

none_differs : (pre post : List NormalSection) (extract : Extract) → extracted pre post ≡ Ok extract
    → find (λ (s : NormalSection). data_differs pre post s.name) post ≡ None
unfolding extracted
none_differs pre post extract is = by (find (λ (s : NormalSection). data_differs pre post s.name) post) is
  where
    by : (o : Option NormalSection) → extracted_by pre post o ≡ Ok extract → o ≡ None
    by None is = refl
    by (Some s) is = absurd cc

same_data : (pre post : List NormalSection) (extract : Extract) (section : NormalSection)
    → extracted pre post ≡ Ok extract → Has post section → data_differs pre post section.name ≡ false
same_data pre post extract section is has =
    elim (cases_Bool (data_differs pre post section.name)) [
      | inl differs ↦
          let found = has_found (λ (s : NormalSection). data_differs pre post s.name) post section has differs in
          let never : None ≡ Some found.0 = sym (none_differs pre post extract is) ∙ found.1 in
          absurd cc
      | inr same ↦ same
    ]

-- the section of a name has this name
is_named : (sections : List NormalSection) (name : List ℕ) (s : NormalSection) → section_named sections name ≡ Some s
    → Has sections s × (s.name ≡ name)
is_named sections name s is =
    let both = found_has (λ (x : NormalSection). same_bytes x.name name) sections s is in
    (both.0, (bytes_decides s.name name).0 both.1)

other_false : (a b : Option NormalSection) (old new : NormalSection) → a ≡ Some old → b ≡ Some new
    → other_class a b ≡ false → same_class old.class new.class ≡ true
other_false a b old new is_old is_new none =
    not_false (same_class old.class new.class)
    (sym (ap (λ o. other_class o b) is_old ∙ ap (other_class (Some old)) is_new) ∙ none)

module _ (running : Running) (gaps : List Range) (pre_file post_file : List ℕ)
    (it : AreSteps running gaps pre_file post_file) where
  pre_is_file : IsFile pre_file it.pre
  pre_is_file = is_file pre_file it.pre it.pre_is

  post_is_file : IsFile post_file it.post
  post_is_file = is_file post_file it.post it.post_is

  abbrev parts : List NewPart
  parts = parts_of it.extract it.post

  -- ---- homes
  old_code : (name : List ℕ) (old new : NormalSection) → section_named it.pre name ≡ Some old
      → section_named it.post name ≡ Some new → is_code_class new.class ≡ true → is_code_class old.class ≡ true
  old_code name old new is_old is_new code =
      let named = is_named it.post name new is_new in
      let same : data_differs it.pre it.post name ≡ false =
      ap (data_differs it.pre it.post) (sym named.1)
      ∙ same_data it.pre it.post it.extract new it.extract_is named.0 in
      same_code old.class new.class
      (other_false (section_named it.pre name) (section_named it.post name) old new is_old is_new
      (or_none (other_class (section_named it.pre name) (section_named it.post name)) _ same))
      code

  home_of_old : BodiesAreTold → ValuesAreFound → IsValid running.contents → (old : NormalSection) → Has it.pre old
      → is_code_class old.class ≡ true → IsSome (value_in it.values (unknown.Code old.name))
  home_of_old told law valid old has code =
      let (place, has_code) = code_has it.pre it.pre 0 old has code in
      let all = told running it.pre it.found valid (distinct_in pre_file it.pre pre_is_file) it.found_is in
      let one = all_has (IsAnswered running it.found) (code_sections it.pre) (as_pre it.pre place old) all has_code in
      let at = told_in it.found (unknown.Code old.name)
      (unknown.Code old.name, Body one.home one.base one.size) one.told in
      let found = law it.pre it.post running.symbols (names_of parts) it.found it.values it.values_is in
      some_map address_in (solved_as it.values (unknown.Code old.name))
      (ap is_some (found.kept (unknown.Code old.name) (Body one.home one.base one.size) at))

  has_home : BodiesAreTold → ValuesAreFound → IsValid running.contents → (name : List ℕ)
      → is_in is_code_class it.post name ≡ true → is_there it.pre name ≡ true
      → IsSome (value_in it.values (unknown.Code name))
  has_home told law valid name code there =
      let (old, is_old) = option_cases (section_named it.pre name) there in
      let named = is_named it.pre name old is_old in
      let (new, is_new) = option_cases (section_named it.post name) (some_class (section_named it.post name) code) in
      let new_code = sym (ap (has_class is_code_class) is_new) ∙ code in
      subst (λ (n : List ℕ). IsSome (value_in it.values (unknown.Code n))) named.1
      (home_of_old told law valid old named.0 (old_code name old new is_old is_new new_code))
    where
      some_class : (o : Option NormalSection) → has_class is_code_class o ≡ true → IsSome o
      some_class None is = absurd cc
      some_class (Some s) is = refl

  -- ---- places
  place_of : PlacesLieApart → Ascends (λ range. range) 0 gaps → (name : List ℕ) (s : NormalSection)
      → section_named it.post name ≡ Some s → IsSome (role_of it.extract name) → IsSome (base_in it.placement name)
  place_of places ascend name s is listed =
      let named = is_named it.post name s is in
      let (role, role_is) = option_cases (role_of it.extract name) listed in
      let part = has_part it.extract it.post s role named.0 (ap (role_of it.extract) named.1 ∙ role_is) in
      subst (λ (n : List ℕ). IsSome (base_in it.placement n)) named.1
      (part_placed gaps parts it.placement (new_part s role)
      (places (map size_of parts) gaps it.placement ascend it.placement_is).each part)

  -- ---- what a placed section brings
  no_texts : TextsReferToNothing it.post
  no_texts =
      all_of (λ (s : NormalSection). s.class ≡ Strings → s.refs ≡ []) it.post
      (λ s has class. none s.refs (λ r has_r. texts_have_no_references post_file it.post post_is_file s r has has_r class))
    where
      none : (rs : List Ref) → ((r : Ref) → Has rs r → ⊥) → rs ≡ []
      none [] never = refl
      none (r ∷ rs) never = absurd (never r (inl refl))

  brought_by : ConstantsAreBrought → InteriorsAreBrought → NewDataAreBrought → NewCodeIsBrought
      → (section : NormalSection) (r : Ref) (name : List ℕ) → Has it.post section
      → IsSome (role_of it.extract section.name) → Has section.refs r → goes_to name r ≡ true
      → IsBrought (λ n. IsSome (role_of it.extract n)) it.pre it.post r name
  brought_by constants interiors writable code section r name has listed has_r goes =
      let distinct = distinct_in post_file it.post post_is_file in
      let in_post = contained it.post section has in
      let in_refs = contained section.refs r has_r in
      record {
        constants = constants it.pre it.post it.extract section r name it.extract_is distinct in_post listed in_refs goes;
        new_data = writable it.pre it.post it.extract name it.extract_is;
        added = code it.pre it.post it.extract name it.extract_is;
        interiors = λ is_code inner.
            interiors it.pre it.post it.extract section r name it.extract_is distinct no_texts in_post listed in_refs
            goes inner is_code;
      }

  brought_to : ConstantsAreBrought → InteriorsAreBrought → NewDataAreBrought → NewCodeIsBrought
      → (section : NormalSection) (r : Ref) (target : Target) → r.target ≡ target → Has it.post section
      → IsSome (role_of it.extract section.name) → Has section.refs r
      → IsBroughtTo (λ n. IsSome (role_of it.extract n)) it.pre it.post r target
  brought_to constants interiors writable code section r (Outside name) is has listed has_r = tt
  brought_to constants interiors writable code section r (Section name) is has listed has_r =
      brought_by constants interiors writable code section r name has listed has_r
      (ap (goes_to_target name) is ∙ nat_list_eq_equiv.refl name)
  brought_to constants interiors writable code section r (Text name offset text) is has listed has_r =
      brought_by constants interiors writable code section r name has listed has_r
      (ap (goes_to_target name) is ∙ nat_list_eq_equiv.refl name)

  -- ---- each part
  told_of : ValuesAreFound → (part : NewPart) → Has parts part → (r : Ref) → Has part.section.refs r
      → section_named it.post part.section.name ≡ Some part.section → TellOf it.pre it.post it.values r
  told_of law part has r has_r named =
      let found = law it.pre it.post running.symbols (names_of parts) it.found it.values it.values_is in
      let all = each_has (λ (name : List ℕ). AllByRecursion (TellOf it.pre it.post it.values)
      (references_of it.post name)) (names_of parts) part.section.name found.told
      (has_map name_of parts part has) in
      each_has (TellOf it.pre it.post it.values) part.section.refs r
      (subst (λ (o : Option NormalSection). AllByRecursion (TellOf it.pre it.post it.values) (references_in o)) named all)
      has_r

  module _ (told : BodiesAreTold) (places : PlacesLieApart) (law : ValuesAreFound) (constants : ConstantsAreBrought)
      (interiors : InteriorsAreBrought) (writable : NewDataAreBrought) (code : NewCodeIsBrought)
      (valid : IsValid running.contents) (ascend : Ascends (λ range. range) 0 gaps) where
    part_has : (part : NewPart) → Has parts part → HasAddresses it.post it.placement it.values part
    part_has part has =
        let (section, in_post, as_part) = part_is it.extract it.post part has in
        let own : Has it.post part.section = subst (Has it.post) (sym as_part.is) in_post in
        let listed : IsSome (role_of it.extract part.section.name) =
        ap (λ (s : NormalSection). is_some (role_of it.extract s.name)) as_part.is ∙ ap is_some as_part.role in
        let named = named_itself post_file it.post post_is_file part.section own in
        record {
          base = part_placed gaps parts it.placement part
              (places (map size_of parts) gaps it.placement ascend it.placement_is).each has;
          fields = all_of (λ (r : Ref). IsSome (target_address it.post it.placement it.values r r.target))
              part.section.refs (λ r has_r.
              target_has (λ n. IsSome (role_of it.extract n)) it.pre it.post it.values it.placement
              (has_home told law valid) (place_of places ascend) r r.target refl
              (references_go_there post_file it.post post_is_file part.section r own has_r)
              (brought_to constants interiors writable code part.section r r.target refl own listed has_r)
              (told_of law part has r has_r named));
        }

    pub all_addressed : All (HasAddresses it.post it.placement it.values) parts
    all_addressed = all_of (HasAddresses it.post it.placement it.values) parts part_has
