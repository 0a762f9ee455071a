-- What marks tell of sections that differ from the first object's.
use Rattle.std.proofs.Common.{◌≡◌, ◌⊎◌, inl, inr, ℕ, ◌+◌, ◌*◌, ◌<◌, Bool, true, false, not, ◌&&◌, ◌||◌}
use Rattle.std.proofs.Common.{List, length, Option, Some, None, refl, sym, ap, subst, ◌∙◌, arith}
use Rattle.std.specs.List.{slice_get}
use Rattle.std.proofs.lemmas.Bool.{cases_lt, and_parts, and_left}
use Rattle.std.proofs.lemmas.Option.{slice_get_within, slice_get_cases}
use Rattle.std.proofs.lemmas.List.{length-map, get_or_past}
use Rattle.reachability.specs.Reached.{Tells}
use Rattle.i386_reloc.specs.declared.types.Class.{Class}
use Rattle.i386_reloc.specs.declared.types.Class.TheVariants.{Zero, Code, Writable, Strings, ReadOnly}
use Rattle.i386_reloc.specs.declared.types.NormalSection.{NormalSection}
use Rattle.i386_reloc.specs.Classes.{is_code_class}
use Rattle.i386_reloc.specs.Normal.{section_named}
use Rattle.i386_reloc.specs.Places.{place_named}
use Rattle.section_equal.specs.Same.{same_in}
use Rattle.i386_reloc.specs.Reaches.{is_constant_class, is_read_only_class, is_data_class}
use Rattle.i386_reloc.specs.Reaches.{has_class, is_in, some_reference, goes_to, Reaches}
use Rattle.i386_reloc.specs.Reaches.Reaches.{Refers, Further}
use Rattle.extract_post.specs.Members.{is_there, is_in_both, is_changed_read_only, ReachesChanged, Differs}
use Rattle.extract_post.specs.Members.ReachesChanged.{InPre, InPost}
use Rattle.extract_post.specs.Members.Differs.{Itself as DiffersItself, Through as DiffersThrough}
use Rattle.extract_post.specs.Extract.{other_class, DataDiffers}
use Rattle.extract_post.specs.Extract.DataDiffers.{OtherClass, Itself as DataItself, Through as DataThrough}
use Rattle.extract_post.specs.inside.Seeds.{IsSeed, AreSeeds}
use Rattle.extract_post.specs.inside.Closures.{ReachesSeed}
use Rattle.extract_post.specs.inside.Marks.{marked, TellWhich, tests, TellReaching, TellChanged}
use Rattle.extract_post.specs.inside.Marks.{AreBoth, AreEither, ArePart, marked_at, is_other}
use Rattle.i386_reloc.specs.laws.PlaceLaws.{section_named_at}
use Rattle.i386_reloc.specs.laws.NamedPlaces.{section_at_place, section_found}
use Rattle.extract_post.proofs.Links.{option_cases}
use Rattle.extract_post.proofs.Tells.{tells_through}
use Rattle.extract_post.proofs.MarkLaws.{tells_test, tells_and, tells_or, tests_at}

-- a code section, or one of data, isn't read-only
data_class_other : (c : Class) → is_data_class c ≡ true → is_read_only_class c ≡ false
data_class_other Zero is = refl
data_class_other Code is = refl
data_class_other Writable is = refl
data_class_other Strings is = refl
data_class_other ReadOnly is = absurd cc

code_class_other : (c : Class) → is_code_class c ≡ true → is_read_only_class c ≡ false
code_class_other Zero is = refl
code_class_other Code is = refl
code_class_other Writable is = refl
code_class_other Strings is = refl
code_class_other ReadOnly is = absurd cc

has_other : (wanted : Class → Bool) → ((c : Class) → wanted c ≡ true → is_read_only_class c ≡ false) →
    (o : Option NormalSection) → has_class wanted o ≡ true → has_class is_read_only_class o ≡ false
has_other wanted other None is = refl
has_other wanted other (Some s) is = other s.class is

unchanged : (wanted : Class → Bool) → ((c : Class) → wanted c ≡ true → is_read_only_class c ≡ false) →
    (of pre post : List NormalSection) (name : List ℕ) → is_in wanted of name ≡ true →
    is_changed_read_only of pre post name ≡ false
unchanged wanted other of pre post name is =
    and_left (is_in is_read_only_class of name) (not (same_in pre post name))
    (has_other wanted other (section_named of name) is)

-- what is the same for code and for data: in both objects, and not the same or reaching changed read-only data
tells_differing : (wanted : Class → Bool) → ((c : Class) → wanted c ≡ true → is_read_only_class c ≡ false) →
    (pre post : List NormalSection) (changed in_both both : List Bool) → TellChanged pre post changed →
    in_both ≡ tests (is_in_both wanted pre post) post → AreBoth in_both changed both →
    (i : ℕ) (s : NormalSection) → slice_get post i ≡ Some s
    → Tells (marked both i) ((is_in_both wanted pre post s.name ≡ true)
    × ((is_other pre post s.name ≡ true) ⊎ ReachesChanged pre post s.name))
tells_differing wanted other pre post changed in_both both told tested joined i s at =
    let P = is_in_both wanted pre post s.name ≡ true in
    let Q = (is_other pre post s.name ≡ true) ⊎ ReachesChanged pre post s.name in
    let a : marked in_both i ≡ is_in_both wanted pre post s.name =
    ap (λ m. marked m i) tested ∙ tests_at (is_in_both wanted pre post) post i s at in
    rw (joined.each i)
    (rw a
    (tells_and P Q (is_in_both wanted pre post s.name) (marked changed i)
    (tells_test (is_in_both wanted pre post s.name))
    (λ in_both. let parts = and_parts (is_in wanted pre s.name) (is_in wanted post s.name) in_both in
    told.each i s at (unchanged wanted other pre pre post s.name parts.0)
    (unchanged wanted other post pre post s.name parts.1))))

-- data
abbrev DataAt : List NormalSection → List NormalSection → List ℕ → Type 0
DataAt pre post name =
    (other_class (section_named pre name) (section_named post name) ≡ true)
    ⊎ ((is_in_both is_data_class pre post name ≡ true)
    × ((is_other pre post name ≡ true) ⊎ ReachesChanged pre post name))

data_there : (pre post : List NormalSection) (name : List ℕ) → DataAt pre post name → DataDiffers pre post name
data_there pre post name (inl other) = OtherClass name other
data_there pre post name (inr (both, inl other)) = DataItself name both other
data_there pre post name (inr (both, inr reaches)) = DataThrough name both reaches

data_back : (pre post : List NormalSection) (name : List ℕ) → DataDiffers pre post name → DataAt pre post name
data_back pre post name (OtherClass n other) = inl other
data_back pre post name (DataItself n both other) = inr (both, inl other)
data_back pre post name (DataThrough n both reaches) = inr (both, inr reaches)

abbrev other_class_at : List NormalSection → List NormalSection → List ℕ → Bool
other_class_at pre post name = other_class (section_named pre name) (section_named post name)

pub tell_data : (pre post : List NormalSection) (changed in_both data_marks classes marks : List Bool) →
    TellChanged pre post changed → in_both ≡ tests (is_in_both is_data_class pre post) post →
    AreBoth in_both changed data_marks →
    classes ≡ tests (λ name. other_class (section_named pre name) (section_named post name)) post →
    AreEither classes data_marks marks → TellWhich (DataDiffers pre post) post marks
tell_data pre post changed in_both data_marks classes marks told tested joined class_tested either =
    record {
      len = either.len ∙ (ap length class_tested ∙ length-map post
          (λ s. other_class (section_named pre s.name) (section_named post s.name)));
      each = λ i s at.
          let P = other_class (section_named pre s.name) (section_named post s.name) ≡ true in
          let Q = (is_in_both is_data_class pre post s.name ≡ true)
          × ((is_other pre post s.name ≡ true) ⊎ ReachesChanged pre post s.name) in
          let a : marked classes i ≡ other_class (section_named pre s.name) (section_named post s.name) =
          ap (λ m. marked m i) class_tested ∙ tests_at (other_class_at pre post) post i s at in
          tells_through (marked marks i) (data_there pre post s.name) (data_back pre post s.name)
          (rw (either.each i)
          (rw a
          (tells_or P Q (other_class (section_named pre s.name) (section_named post s.name)) (marked data_marks i)
          (tells_test (other_class (section_named pre s.name) (section_named post s.name)))
          (tells_differing is_data_class data_class_other pre post changed in_both data_marks told tested joined i s
          at))));
    }

-- code
abbrev SeedAt : List NormalSection → List NormalSection → List ℕ → Type 0
SeedAt pre post name =
    ((is_in is_code_class post name && not (is_there pre name)) ≡ true)
    ⊎ ((is_in_both is_code_class pre post name ≡ true)
    × ((is_other pre post name ≡ true) ⊎ ReachesChanged pre post name))

seed_there : (pre post : List NormalSection) (name : List ℕ) → SeedAt pre post name → IsSeed pre post name
seed_there pre post name (inl alone) = inr alone
seed_there pre post name (inr (both, inl other)) = inl (DiffersItself name both other)
seed_there pre post name (inr (both, inr reaches)) = inl (DiffersThrough name both reaches)

differs_back : (pre post : List NormalSection) (name : List ℕ) → Differs pre post name → SeedAt pre post name
differs_back pre post name (DiffersItself n both other) = inr (both, inl other)
differs_back pre post name (DiffersThrough n both reaches) = inr (both, inr reaches)

seed_back : (pre post : List NormalSection) (name : List ℕ) → IsSeed pre post name → SeedAt pre post name
seed_back pre post name (inl it) = differs_back pre post name it
seed_back pre post name (inr alone) = inl alone

abbrev alone_at : List NormalSection → List NormalSection → List ℕ → Bool
alone_at pre post name = is_in is_code_class post name && not (is_there pre name)

pub tell_seeds : (pre post : List NormalSection) (changed in_both code alone marks : List Bool) →
    TellChanged pre post changed → in_both ≡ tests (is_in_both is_code_class pre post) post →
    AreBoth in_both changed code →
    alone ≡ tests (λ name. is_in is_code_class post name && not (is_there pre name)) post →
    AreEither alone code marks → TellWhich (IsSeed pre post) post marks
tell_seeds pre post changed in_both code alone marks told tested joined alone_tested either =
    record {
      len = either.len ∙ (ap length alone_tested ∙ length-map post (λ s. alone_at pre post s.name));
      each = λ i s at.
          let P = alone_at pre post s.name ≡ true in
          let Q = (is_in_both is_code_class pre post s.name ≡ true)
          × ((is_other pre post s.name ≡ true) ⊎ ReachesChanged pre post s.name) in
          let a : marked alone i ≡ alone_at pre post s.name =
          ap (λ m. marked m i) alone_tested ∙ tests_at (alone_at pre post) post i s at in
          tells_through (marked marks i) (seed_there pre post s.name) (seed_back pre post s.name)
          (rw (either.each i)
          (rw a
          (tells_or P Q (alone_at pre post s.name) (marked code i) (tells_test (alone_at pre post s.name))
          (tells_differing is_code_class code_class_other pre post changed in_both code told tested joined i s at))));
    }

-- the seeds as nodes
pub tells_true : (P : Type 0) (b : Bool) → Tells b P → P → b ≡ true
tells_true P true told p = refl
tells_true P false told p = absurd (told p)

pub true_tells : (P : Type 0) (b : Bool) → Tells b P → b ≡ true → P
true_tells P true told is = told
true_tells P false told is = absurd cc

marked_within : (marks : List Bool) (i : ℕ) → marked marks i ≡ true → i < length marks
marked_within marks i is =
    elim (cases_lt i (length marks)) [
      | inl within ↦ within
      | inr past ↦ absurd (let e : false ≡ true = sym (get_or_past marks i false past) ∙ is in cc)
    ]

pub seeds_are : (pre post : List NormalSection) (first seeds : List Bool) (count : ℕ) →
    count ≡ 3 * (length pre + length post) → TellWhich (IsSeed pre post) post first → ArePart first 0 count seeds →
    AreSeeds pre post seeds
seeds_are pre post first seeds count all told are =
    record {
      sound = λ node is.
          let below : node < length seeds = marked_within seeds node is in
          let below_count : node < count = omega (arith, are.len) in
          let e : 0 + node ≡ node = omega arith in
          let it : marked first node ≡ true = ap (marked first) (sym e) ∙ (sym (are.each node below_count) ∙ is) in
          let within : node < length post = let w = marked_within first node it in omega (arith, told.len) in
          elim (option_cases (slice_get post node)) [
            | inl none ↦ absurd (elim (slice_get_cases post node).1 [
              | inl it ↦
                  (let e : None ≡ Some it.0 = sym none ∙ it.2 in cc)
              | inr past ↦ omega arith
            ])
            | inr some ↦ record {
              place = node;
              section = some.0;
              at = some.1;
              is_node = omega arith;
              is_seed = true_tells (IsSeed pre post some.0.name) (marked first node) (told.each node some.0 some.1) it;
            }
          ];
      complete = λ i s at seed.
          let within : i < length post = slice_get_within post i s at in
          let e : 0 + i ≡ i = omega arith in
          rw e (are.each i (omega arith) ∙ (ap (marked first) e
          ∙ tells_true (IsSeed pre post s.name) (marked first i) (told.each i s at) seed));
    }

-- reaching changed read-only data in either object
pub reaches_from : (sections : List NormalSection) (name other : List ℕ) → Reaches sections name other →
    section_named sections name ≡ None → ⊥
reaches_from sections name other (Refers n o refers) none =
    let some = (and_parts (is_in is_constant_class sections o)
    (some_reference (goes_to o) (section_named sections n)) refers).1 in
    let e : false ≡ true = rw none at some in cc
reaches_from sections name other (Further n between o before refers) none = reaches_from sections n between before none

pub reaches_to : (sections : List NormalSection) (name other : List ℕ) → Reaches sections name other →
    is_in is_constant_class sections other ≡ true
reaches_to sections name other (Refers n o refers) =
    (and_parts (is_in is_constant_class sections o) (some_reference (goes_to o) (section_named sections n)) refers).0
reaches_to sections name other (Further n between o before refers) =
    (and_parts (is_in is_constant_class sections o) (some_reference (goes_to o) (section_named sections between))
    refers).0

seed_of_reached : (pre post sections : List NormalSection) (name other : List ℕ) → Reaches sections name other →
    is_changed_read_only sections pre post other ≡ true →
    ReachesSeed sections (tests (is_changed_read_only sections pre post) sections) name
seed_of_reached pre post sections name other reaches changed =
    elim (option_cases (section_named sections other)) [
      | inl none ↦ absurd (let it = reaches_to sections name other reaches in let e : false ≡ true = rw none at it in
          cc)
      | inr some ↦
          let (i, at, same) = section_found sections other some.0 some.1 in
          record {
            place = i;
            section = some.0;
            at = at;
            seeded = tests_at (is_changed_read_only sections pre post) sections i some.0 at
                ∙ (ap (is_changed_read_only sections pre post) same ∙ changed);
            reaches = rw same reaches;
          }
    ]

changed_of_seed : (pre post sections : List NormalSection) (name : List ℕ)
    (it : ReachesSeed sections (tests (is_changed_read_only sections pre post) sections) name) →
    is_changed_read_only sections pre post it.section.name ≡ true
changed_of_seed pre post sections name it =
    sym (tests_at (is_changed_read_only sections pre post) sections it.place it.section it.at) ∙ it.seeded

only_reaching : (P Q : Type 0) (mark seed : Bool) → seed ≡ false → Tells mark ((seed ≡ true) ⊎ Q) → Tells mark Q
only_reaching P Q mark seed unseeded told =
    tells_through mark (λ (it : (seed ≡ true) ⊎ Q). elim
    it [ inl seeded ↦ absurd (let e : false ≡ true = sym unseeded ∙ seeded in cc) | inr q ↦ q ]) (λ q. inr q) told

no_section : (sections : List NormalSection) (name : List ℕ) → place_named sections name ≡ None →
    section_named sections name ≡ None
no_section sections name none = section_named_at sections name ∙ rw none refl

at_pre : (pre post : List NormalSection) (old : List Bool) →
    TellReaching pre (tests (is_changed_read_only pre pre post) pre) old → (name : List ℕ) →
    is_changed_read_only pre pre post name ≡ false → (o : Option ℕ) → place_named pre name ≡ o →
    section_named pre name ≡ section_named pre name →
    Tells (marked_at old o) (ReachesSeed pre (tests (is_changed_read_only pre pre post) pre) name)
at_pre pre post old told name unchanged None there same =
    λ (it : ReachesSeed pre (tests (is_changed_read_only pre pre post) pre) name). reaches_from pre name it.section.name
    it.reaches (no_section pre name there)
at_pre pre post old told name unchanged (Some p) there same =
    let (t, at, is) = section_at_place pre name p there in
    let P : List ℕ → Type 0 = λ n. Tells (marked old p)
    (ReachesSeed pre (tests (is_changed_read_only pre pre post) pre) n) in
    subst P is
    (only_reaching (Unit {0}) (ReachesSeed pre (tests (is_changed_read_only pre pre post) pre) t.name) (marked old p)
    (marked (tests (is_changed_read_only pre pre post) pre) p)
    (tests_at (is_changed_read_only pre pre post) pre p t at ∙ (ap (is_changed_read_only pre pre post) is ∙ unchanged))
    (told.each p t at))

pub tell_changed : (pre post : List NormalSection) (other old new moved either marks : List Bool) →
    other ≡ tests (is_other pre post) post → TellReaching pre (tests (is_changed_read_only pre pre post) pre) old →
    TellReaching post (tests (is_changed_read_only post pre post) post) new →
    moved ≡ tests (λ name. marked_at old (place_named pre name)) post → AreEither other new either →
    AreEither either moved marks → TellChanged pre post marks
tell_changed pre post other old new moved either marks are told_old told_new tested first second =
    record {
      len = second.len ∙ (first.len ∙ (ap length are ∙ length-map post (λ s. is_other pre post s.name)));
      each = λ i s at pre_unchanged post_unchanged.
          let O = is_other pre post s.name ≡ true in
          let P = ReachesSeed post (tests (is_changed_read_only post pre post) post) s.name in
          let Q = ReachesSeed pre (tests (is_changed_read_only pre pre post) pre) s.name in
          let a : marked moved i ≡ marked_at old (place_named pre s.name) =
          ap (λ m. marked m i) tested ∙ tests_at (λ name. marked_at old (place_named pre name)) post i s at in
          let b : marked other i ≡ is_other pre post s.name =
          ap (λ m. marked m i) are ∙ tests_at (is_other pre post) post i s at in
          tells_through (marked marks i) (there s.name) (back s.name)
          (rw (second.each i, first.each i)
          (rw (a, b)
          (tells_or (O ⊎ P) Q (is_other pre post s.name || marked new i) (marked_at old (place_named pre s.name))
          (tells_or O P (is_other pre post s.name) (marked new i) (tells_test (is_other pre post s.name))
          (only_reaching (Unit {0}) P (marked new i) (marked (tests (is_changed_read_only post pre post) post) i)
          (tests_at (is_changed_read_only post pre post) post i s at ∙ post_unchanged) (told_new.each i s at)))
          (at_pre pre post old told_old s.name pre_unchanged (place_named pre s.name) refl refl))));
    } where
      there : (name : List ℕ) →
          ((is_other pre post name ≡ true) ⊎ ReachesSeed post (tests (is_changed_read_only post pre post) post) name)
          ⊎ ReachesSeed pre (tests (is_changed_read_only pre pre post) pre) name →
          (is_other pre post name ≡ true) ⊎ ReachesChanged pre post name
      there name (inl (inl other)) = inl other
      there name (inl (inr it)) = inr (InPost it.section.name it.reaches (changed_of_seed pre post post name it))
      there name (inr it) = inr (InPre it.section.name it.reaches (changed_of_seed pre post pre name it))

      back : (name : List ℕ) → (is_other pre post name ≡ true) ⊎ ReachesChanged pre post name →
          ((is_other pre post name ≡ true) ⊎ ReachesSeed post (tests (is_changed_read_only post pre post) post) name)
          ⊎ ReachesSeed pre (tests (is_changed_read_only pre pre post) pre) name
      back name (inl other) = inl (inl other)
      back name (inr (InPre other reaches changed)) = inr (seed_of_reached pre post pre name other reaches changed)
      back name (inr (InPost other reaches changed)) = inl
          (inr (seed_of_reached pre post post name other reaches changed))
