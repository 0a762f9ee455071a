-- What a placed section names, and has no address of its own, is placed too.
use Rattle.std.proofs.Common.{◌≡◌, ◌⊎◌, inl, inr, ℕ, Bool, true, false, not, ◌&&◌, List, [], ◌∷◌}
use Rattle.std.proofs.Common.{if◌then◌else◌, Option, Some, None, is_some, Result, Ok, refl, sym, ap, subst}
use Rattle.std.proofs.Common.{◌∙◌, arith}
use Rattle.std.specs.Option.{IsSome}
use Rattle.std.specs.Result.{result_ok}
use Rattle.std.specs.List.{Contains, list_any}
use Rattle.std.proofs.lemmas.Bool.{cases_Bool, and_parts, and_from}
use Rattle.std.proofs.lemmas.Option.{same_Some}
use Rattle.std.proofs.lemmas.List.Elements.{All-contains}
use Rattle.ks_base.specs.declared.refusals.Refusal.{Refusal}
use Rattle.i386_reloc.specs.declared.types.Class.{Class}
use Rattle.i386_reloc.specs.declared.types.Class.TheVariants.{Zero, Code, Writable, Strings, ReadOnly}
use Rattle.i386_reloc.specs.declared.types.Ref.{Ref}
use Rattle.i386_reloc.specs.declared.types.NormalSection.{NormalSection}
use Rattle.i386_reloc.specs.Classes.{is_code_class}
use Rattle.i386_reloc.specs.Normal.{section_named}
use Rattle.i386_reloc.specs.Reaches.{is_constant_class, is_read_only_class, is_data_class, is_in}
use Rattle.i386_reloc.specs.Reaches.{goes_to, is_interior, refers_on, Reaches}
use Rattle.i386_reloc.specs.Reaches.Reaches.{Refers, Further}
use Rattle.i386_reloc.specs.laws.NamedPlaces.{section_found}
use Rattle.section_equal.specs.Same.{same_class}
use Rattle.extract_post.specs.declared.types.Extract.{Extract}
use Rattle.extract_post.specs.declared.role.Role.{Role}
use Rattle.extract_post.specs.declared.role.Role.TheVariants.{Changed, Added, Carried, NewData}
use Rattle.extract_post.specs.Members.{is_there, is_new_data, points_into, TextsReferToNothing}
use Rattle.extract_post.specs.Members.{Member, IsChanged, IsAdded, IsCarried}
use Rattle.extract_post.specs.Members.PointsInto.{Itself, Through}
use Rattle.extract_post.specs.Members.Tied.{InPost}
use Rattle.extract_post.specs.Members.Member.{OnlyInPost, Joined}
use Rattle.extract_post.specs.Extract.{NoneIs, other_class, DataDiffers, IsDataOf, IsBroken, places}
use Rattle.extract_post.specs.Extract.{IsExtract, Extracts}
use Rattle.extract_post.specs.Extract.DataDiffers.{OtherClass}
use Rattle.extract_post.specs.Extract.IsDataOf.{Itself as OfItself, Reached as OfReached}
use Rattle.extract_post.specs.Extract.IsBroken.{NewData as BrokenNewData}
use Rattle.extract_post.specs.Extract.Extracts.{OtherData, Broken, NoMember, Extracted}
use Rattle.extract_post.specs.Extracted.{is_member, extracted}
use Rattle.extract_post.specs.Roles.{is_among, role_of}
use Rattle.extract_post.specs.inside.Closures.{HasDistinctNames}
use Rattle.extract_post.proofs.Links.{option_cases, named_at}
use Rattle.extract_post.proofs.ChangeLaws.{reaches_to}
use Rattle.extract_post.proofs.DataLaws.{Brought}
use Rattle.extract_post.proofs.Verdicts.{none_at}
use Rattle.extract_post.proofs.Computed.{in_names, member_is, extracted_is}
use Rattle.extract_post.proofs.Contained.{place_of, any_of, reference_placed, picked_has, has_picked}

-- what is known of an extract
record Known (pre post : List NormalSection) (extract : Extract) : Type 0 where
  same : NoneIs (λ s. DataDiffers pre post s.name) post
  whole : NoneIs (IsBroken pre post) (places post)
  lists : IsExtract pre post extract

known_by : (pre post : List NormalSection) (extract : Extract) (answer : Result Extract Refusal) →
    Extracts pre post answer → answer ≡ Ok extract → Known pre post extract
known_by pre post extract _ (OtherData section first) is = absurd cc
known_by pre post extract _ (Broken name r none first) is = absurd cc
known_by pre post extract _ (NoMember none whole nobody) is = absurd cc
known_by pre post extract _ (Extracted name e none whole member lists) is =
    let same : e ≡ extract = same_Some e extract (ap result_ok is) in
    record { same = none; whole = whole; lists = subst (IsExtract pre post) same lists }

known : (pre post : List NormalSection) (extract : Extract) → extracted pre post ≡ Ok extract →
    Known pre post extract
known pre post extract is = known_by pre post extract (Ok extract) (extracted_is pre post (Ok extract) (sym is)) refl

-- ---- roles

abbrev role_by : Bool → Bool → Bool → Bool → Option Role
role_by a b c d =
    if a then Some Changed
    else (if b then Some Added else (if c then Some Carried else (if d then Some NewData else None)))

abbrev OneOf : Bool → Bool → Bool → Bool → Type 0
OneOf a b c d = (a ≡ true) ⊎ ((b ≡ true) ⊎ ((c ≡ true) ⊎ (d ≡ true)))

one_told : (a b c d : Bool) → is_some (role_by a b c d) ≡ true → OneOf a b c d
one_told true b c d some = inl refl
one_told false true c d some = inr (inl refl)
one_told false false true d some = inr (inr (inl refl))
one_told false false false true some = inr (inr (inr refl))
one_told false false false false some = absurd cc

one_tells : (a b c d : Bool) → OneOf a b c d → is_some (role_by a b c d) ≡ true
one_tells true b c d one = refl
one_tells false true c d one = refl
one_tells false false true d one = refl
one_tells false false false true one = refl
one_tells false false false false (inl e) = absurd cc
one_tells false false false false (inr (inl e)) = absurd cc
one_tells false false false false (inr (inr (inl e))) = absurd cc
one_tells false false false false (inr (inr (inr e))) = absurd cc

abbrev IsListed : Extract → List ℕ → Type 0
IsListed extract name =
    OneOf (is_among extract.changed name) (is_among extract.added name) (is_among extract.carried name)
    (is_among extract.new_data name)

listed : (extract : Extract) (name : List ℕ) → IsSome (role_of extract name) → IsListed extract name
unfolding role_of
listed extract name some =
    one_told (is_among extract.changed name) (is_among extract.added name) (is_among extract.carried name)
    (is_among extract.new_data name) some

has_role : (extract : Extract) (name : List ℕ) → IsListed extract name → IsSome (role_of extract name)
unfolding role_of
has_role extract name one =
    one_tells (is_among extract.changed name) (is_among extract.added name) (is_among extract.carried name)
    (is_among extract.new_data name) one

-- a placed section brings others, or is brought by one that does
brings : (pre post : List NormalSection) (extract : Extract) → IsExtract pre post extract → (name : List ℕ) →
    IsListed extract name → Brought pre post name ⊎ IsCarried pre post name
brings pre post extract is name (inl among) =
    let (member, both) = picked_has (IsChanged pre post) post extract.changed is.changed name among in
    inl (inl (member, (and_parts (is_in is_code_class pre name) (is_in is_code_class post name) both).1))
brings pre post extract is name (inr (inl among)) =
    let (member, alone) = picked_has (IsAdded pre post) post extract.added is.added name among in
    inl (inl (member, (and_parts (is_in is_code_class post name) (not (is_there pre name)) alone).0))
brings pre post extract is name (inr (inr (inl among))) =
    inr (picked_has (IsCarried pre post) post extract.carried is.carried name among)
brings pre post extract is name (inr (inr (inr among))) =
    inl (inr (picked_has (λ n. is_new_data pre post n ≡ true) post extract.new_data is.new_data name among))

-- ---- read-only data and texts

refers_to_constant : (post : List NormalSection) → HasDistinctNames post → (s : NormalSection) (r : Ref)
    (name : List ℕ) → Contains post s → Contains s.refs r → goes_to name r ≡ true →
    is_in is_constant_class post name ≡ true → refers_on post s.name name ≡ true
refers_to_constant post distinct s r name among refers goes constant =
    let (i, at) = place_of post s among in
    rw (named_at post distinct i s at)
    (and_from (is_in is_constant_class post name) (list_any (goes_to name) s.refs) constant
    (any_of (goes_to name) s.refs r refers goes))

carried_on : (pre post : List NormalSection) (from name : List ℕ) → Brought pre post from ⊎ IsCarried pre post from →
    refers_on post from name ≡ true → IsCarried pre post name
carried_on pre post from name (inl brought) refers =
    record { from = from; brought = brought; reaches = Refers from name refers }
carried_on pre post from name (inr it) refers =
    record { from = it.from; brought = it.brought; reaches = Further it.from from name it.reaches refers }

pub constants : (pre post : List NormalSection) (extract : Extract) (section : NormalSection) (r : Ref)
    (name : List ℕ) → extracted pre post ≡ Ok extract → HasDistinctNames post → Contains post section →
    IsSome (role_of extract section.name) → Contains section.refs r → goes_to name r ≡ true →
    is_in is_constant_class post name ≡ true → IsSome (role_of extract name)
constants pre post extract section r name is distinct among placed at goes constant =
    let it = known pre post extract is in
    let brought = brings pre post extract it.lists section.name (listed extract section.name placed) in
    let carried = carried_on pre post section.name name brought
    (refers_to_constant post distinct section r name among at goes constant) in
    has_role extract name (inr (inr (inl (has_picked (IsCarried pre post) post extract.carried it.lists.carried name
    (in_names is_constant_class post name constant) carried))))

-- ---- what post alone has

is_not : (b : Bool) → b ≡ false → not b ≡ true
is_not b isnt = ap not isnt

pub new_data : (pre post : List NormalSection) (extract : Extract) (name : List ℕ) →
    extracted pre post ≡ Ok extract → is_in is_data_class post name ≡ true → is_there pre name ≡ false →
    IsSome (role_of extract name)
new_data pre post extract name is data_class alone =
    let it = known pre post extract is in
    let new : is_new_data pre post name ≡ true = and_from (is_in is_data_class post name) (not (is_there pre name))
    data_class (is_not (is_there pre name) alone) in
    has_role extract name (inr (inr (inr (has_picked (λ n. is_new_data pre post n ≡ true) post extract.new_data
    it.lists.new_data name (in_names is_data_class post name data_class) new))))

added_listed : (pre post : List NormalSection) (extract : Extract) → IsExtract pre post extract → (name : List ℕ) →
    is_in is_code_class post name ≡ true → is_there pre name ≡ false → IsSome (role_of extract name)
added_listed pre post extract lists name code alone =
    let new : (is_in is_code_class post name && not (is_there pre name)) ≡ true =
    and_from (is_in is_code_class post name) (not (is_there pre name)) code (is_not (is_there pre name) alone) in
    has_role extract name (inr (inl (has_picked (IsAdded pre post) post extract.added lists.added name
    (in_names is_code_class post name code) (OnlyInPost name new, new))))

pub added : (pre post : List NormalSection) (extract : Extract) (name : List ℕ) →
    extracted pre post ≡ Ok extract → is_in is_code_class post name ≡ true → is_there pre name ≡ false →
    IsSome (role_of extract name)
added pre post extract name is code alone =
    added_listed pre post extract (known pre post extract is).lists name code alone

-- ---- interiors of functions

points : (post : List NormalSection) → HasDistinctNames post → (s : NormalSection) (r : Ref) (name : List ℕ) →
    Contains post s → Contains s.refs r → goes_to name r ≡ true → is_interior r ≡ true →
    is_in is_code_class post name ≡ true → points_into post s.name name ≡ true
points post distinct s r name among refers goes interior code =
    let (i, at) = place_of post s among in
    let test : Ref → Bool = λ q. goes_to name q && is_interior q in
    rw (named_at post distinct i s at)
    (and_from (is_in is_code_class post name) (list_any test s.refs) code
    (any_of test s.refs r refers (and_from (goes_to name r) (is_interior r) goes interior)))

-- a section of texts has no references, so a carried one that has is read-only data
constant_cases : (c : Class) → is_constant_class c ≡ true → (c ≡ Strings) ⊎ (is_read_only_class c ≡ true)
constant_cases Zero is = absurd cc
constant_cases Code is = absurd cc
constant_cases Writable is = absurd cc
constant_cases Strings is = inl refl
constant_cases ReadOnly is = inr refl

nothing_in : {X : Type 0} (xs : List X) (x : X) → xs ≡ [] → Contains xs x → ⊥
nothing_in [] x none (i, within, at) = absurd (omega arith)
nothing_in (y ∷ ys) x none among = cc

read_only : (post : List NormalSection) → HasDistinctNames post → TextsReferToNothing post → (s : NormalSection)
    (r : Ref) → Contains post s → Contains s.refs r → is_in is_constant_class post s.name ≡ true →
    is_in is_read_only_class post s.name ≡ true
read_only post distinct texts s r among refers constant =
    let (i, at) = place_of post s among in
    let is : is_constant_class s.class ≡ true = rw (named_at post distinct i s at) at constant in
    elim (constant_cases s.class is) [
      | inl strings ↦ absurd (nothing_in s.refs r
          (All-contains (λ (t : NormalSection). t.class ≡ Strings → t.refs ≡ []) post s texts among strings) refers)
      | inr here ↦ rw (named_at post distinct i s at) here
    ]

-- new data, and read-only data that these reach, point into members alone
member_by_data : (pre post : List NormalSection) → NoneIs (IsBroken pre post) (places post) →
    (s : NormalSection) (r : Ref) (name : List ℕ) → Contains post s → Contains s.refs r → goes_to name r ≡ true →
    is_interior r ≡ true → is_in is_code_class post name ≡ true → IsDataOf post (is_new_data pre post) s.name →
    Member pre post name
member_by_data pre post whole s r name among refers goes interior code of_data =
    elim (cases_Bool (is_member pre post name)) [
      | inl is ↦ (member_is pre post name).0 is
      | inr isnt ↦
          let tests = and_from (is_in is_code_class post name && goes_to name r) (is_interior r)
          (and_from (is_in is_code_class post name) (goes_to name r) code goes) interior in
          absurd (All-contains (λ x. IsBroken pre post x → ⊥) (places post) (s.name, r) whole
          (reference_placed post s r among refers)
          (BrokenNewData s.name r name of_data tests
          (λ member. let e : false ≡ true = sym isnt ∙ (member_is pre post name).1 member in cc)))
    ]

-- so do all placed sections
member_named : (pre post : List NormalSection) → HasDistinctNames post → TextsReferToNothing post →
    NoneIs (IsBroken pre post) (places post) →
    (s : NormalSection) (r : Ref) (name : List ℕ) → Contains post s → Contains s.refs r → goes_to name r ≡ true →
    is_interior r ≡ true → is_in is_code_class post name ≡ true →
    Brought pre post s.name ⊎ IsCarried pre post s.name → Member pre post name
member_named pre post distinct texts whole s r name among refers goes interior code (inl (inl (member, is))) =
    Joined s.name name member (InPost s.name name is
    (Itself s.name name (points post distinct s r name among refers goes interior code)))
member_named pre post distinct texts whole s r name among refers goes interior code (inl (inr new)) =
    member_by_data pre post whole s r name among refers goes interior code (OfItself s.name new)
member_named pre post distinct texts whole s r name among refers goes interior code (inr it) =
    let here = read_only post distinct texts s r among refers (reaches_to post it.from s.name it.reaches) in
    by_brought here it.from it.reaches it.brought
  where
    by_brought : is_in is_read_only_class post s.name ≡ true → (from : List ℕ) → Reaches post from s.name →
        Brought pre post from → Member pre post name
    by_brought here from reaches (inl (member, is)) =
        Joined from name member (InPost from name is
        (Through from s.name name reaches here (points post distinct s r name among refers goes interior code)))
    by_brought here from reaches (inr new) =
        member_by_data pre post whole s r name among refers goes interior code
        (OfReached from s.name new reaches here)

-- a member that post has is changed or added
same_code : (a b : Class) → same_class a b ≡ true → is_code_class b ≡ true → is_code_class a ≡ true
same_code a Zero same is = absurd cc
same_code a Writable same is = absurd cc
same_code a Strings same is = absurd cc
same_code a ReadOnly same is = absurd cc
same_code Zero Code same is = absurd cc
same_code Code Code same is = refl
same_code Writable Code same is = absurd cc
same_code Strings Code same is = absurd cc
same_code ReadOnly Code same is = absurd cc

code_in_pre : (pre post : List NormalSection) → NoneIs (λ s. DataDiffers pre post s.name) post →
    (name : List ℕ) (old new : NormalSection) → section_named pre name ≡ Some old →
    section_named post name ≡ Some new → is_code_class new.class ≡ true → is_code_class old.class ≡ true
code_in_pre pre post none name old new at_old at_new code =
    elim (cases_Bool (same_class old.class new.class)) [
      | inl same ↦ same_code old.class new.class same code
      | inr other ↦
          let (i, at, named) = section_found post name new at_new in
          let differs : other_class (section_named pre name) (section_named post name) ≡ true =
          rw (at_old, at_new, other) refl in
          absurd (none_at (λ s. DataDiffers pre post s.name) post none i new at
          (subst (DataDiffers pre post) (sym named) (OtherClass name differs)))
    ]

member_listed : (pre post : List NormalSection) (extract : Extract) → Known pre post extract → (name : List ℕ) →
    Member pre post name → is_in is_code_class post name ≡ true → IsSome (role_of extract name)
member_listed pre post extract it name member code =
    elim (option_cases (section_named pre name)) [
      | inl none ↦ added_listed pre post extract it.lists name code (ap is_some none)
      | inr old ↦ elim (option_cases (section_named post name)) [
        | inl none ↦ absurd (let e : false ≡ true = rw none at code in cc)
        | inr new ↦
            let class : is_code_class new.0.class ≡ true = rw new.1 at code in
            let before : is_in is_code_class pre name ≡ true =
            rw old.1 (code_in_pre pre post it.same name old.0 new.0 old.1 new.1 class) in
            let both = and_from (is_in is_code_class pre name) (is_in is_code_class post name) before code in
            has_role extract name (inl (has_picked (IsChanged pre post) post extract.changed it.lists.changed name
            (in_names is_code_class post name code) (member, both)))
      ]
    ]

pub interiors : (pre post : List NormalSection) (extract : Extract) (section : NormalSection) (r : Ref)
    (name : List ℕ) → extracted pre post ≡ Ok extract → HasDistinctNames post → TextsReferToNothing post →
    Contains post section → IsSome (role_of extract section.name) → Contains section.refs r →
    goes_to name r ≡ true → is_interior r ≡ true → is_in is_code_class post name ≡ true →
    IsSome (role_of extract name)
interiors pre post extract section r name is distinct texts among placed at goes interior code =
    let it = known pre post extract is in
    let brought = brings pre post extract it.lists section.name (listed extract section.name placed) in
    member_listed pre post extract it name
    (member_named pre post distinct texts it.whole section r name among at goes interior code brought) code
