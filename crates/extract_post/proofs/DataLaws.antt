-- What marks tell of data, and of sections that are carried.
use Rattle.std.proofs.Common.{◌≡◌, ◌⊎◌, inl, inr, ℕ, Bool, true, false, not, ◌&&◌}
use Rattle.std.proofs.Common.{◌||◌, List, Option, Some, None, refl, sym, ap, ◌∙◌}
use Rattle.std.specs.List.{slice_get}
use Rattle.std.proofs.lemmas.Bool.{and_parts}
use Rattle.reachability.specs.Reached.{Tells}
use Rattle.i386_reloc.specs.declared.types.Class.{Class}
use Rattle.i386_reloc.specs.declared.types.Class.TheVariants.{Zero, Code, Writable, Strings, ReadOnly}
use Rattle.i386_reloc.specs.declared.types.NormalSection.{NormalSection}
use Rattle.i386_reloc.specs.Classes.{is_code_class}
use Rattle.i386_reloc.specs.Normal.{section_named}
use Rattle.i386_reloc.specs.Reaches.{is_constant_class, is_read_only_class, is_data_class, has_class, is_in}
use Rattle.extract_post.specs.Members.{is_there, is_new_data, Member, IsCarried}
use Rattle.extract_post.specs.inside.Closures.{HasDistinctNames, SeedReaches}
use Rattle.extract_post.specs.inside.Marks.{marked, TellEach, TellWhich, tests}
use Rattle.extract_post.specs.inside.Marks.{TellReached, TellDataOf, AreBoth, AreEither}
use Rattle.i386_reloc.specs.laws.NamedPlaces.{section_found}
use Rattle.extract_post.proofs.Links.{option_cases}
use Rattle.extract_post.proofs.Tells.{tells_through}
use Rattle.extract_post.proofs.ChangeLaws.{tells_true, true_tells, reaches_to}
use Rattle.extract_post.proofs.MarkLaws.{tells_test, tells_and, tells_or, tests_at}

pub tell_data_of : (post : List NormalSection) (starts reached constants wanted marks : List Bool) →
    TellReached post starts reached → constants ≡ tests (is_in is_read_only_class post) post →
    AreEither constants starts wanted → AreBoth reached wanted marks → TellDataOf post starts marks
tell_data_of post starts reached constants wanted marks told tested either both =
    record {
      len = both.len ∙ told.len;
      each = λ i s at.
          let P = (marked starts i ≡ true) ⊎ SeedReaches post starts s.name in
          let Q = (is_in is_read_only_class post s.name ≡ true) ⊎ (marked starts i ≡ true) in
          let a : marked constants i ≡ is_in is_read_only_class post s.name =
          ap (λ m. marked m i) tested ∙ tests_at (is_in is_read_only_class post) post i s at in
          rw (both.each i)
          (rw (either.each i, a)
          (tells_and P Q (marked reached i) (is_in is_read_only_class post s.name || marked starts i) (told.each i s at)
          (λ _. tells_or (is_in is_read_only_class post s.name ≡ true) (marked starts i ≡ true)
          (is_in is_read_only_class post s.name) (marked starts i) (tells_test (is_in is_read_only_class post s.name))
          (tells_test (marked starts i)))));
    }

-- carried
class_apart : (c : Class) → is_constant_class c ≡ true → (is_code_class c ≡ false) × (is_data_class c ≡ false)
class_apart Zero is = absurd cc
class_apart Code is = absurd cc
class_apart Writable is = absurd cc
class_apart Strings is = (refl, refl)
class_apart ReadOnly is = (refl, refl)

has_apart : (o : Option NormalSection) → has_class is_constant_class o ≡ true →
    (has_class is_code_class o ≡ false) × (has_class is_data_class o ≡ false)
has_apart None is = absurd cc
has_apart (Some s) is = class_apart s.class is

-- what brings read-only data and texts with it
abbrev pub Brought : List NormalSection → List NormalSection → List ℕ → Type 0
Brought pre post name = (Member pre post name × (is_in is_code_class post name ≡ true))
    ⊎ (is_new_data pre post name ≡ true)

brought_apart : (pre post : List NormalSection) (name : List ℕ) → is_in is_constant_class post name ≡ true →
    Brought pre post name → ⊥
brought_apart pre post name constant (inl (member, code)) =
    let e : false ≡ true = sym (has_apart (section_named post name) constant).0 ∙ code in cc
brought_apart pre post name constant (inr new) =
    let parts = and_parts (is_in is_data_class post name) (not (is_there pre name)) new in
    let e : false ≡ true = sym (has_apart (section_named post name) constant).1 ∙ parts.0 in cc

swapped : (pre post : List NormalSection) (name : List ℕ) →
    (is_new_data pre post name ≡ true) ⊎ ((is_in is_code_class post name ≡ true) × Member pre post name) →
    Brought pre post name
swapped pre post name (inl new) = inr new
swapped pre post name (inr (code, member)) = inl (member, code)

swapped_back : (pre post : List NormalSection) (name : List ℕ) → Brought pre post name →
    (is_new_data pre post name ≡ true) ⊎ ((is_in is_code_class post name ≡ true) × Member pre post name)
swapped_back pre post name (inl (member, code)) = inr (code, member)
swapped_back pre post name (inr new) = inl new

starts_tell : (pre post : List NormalSection) (members code functions new starts : List Bool) →
    TellEach (Member pre post) post members → code ≡ tests (is_in is_code_class post) post →
    AreBoth code members functions → new ≡ tests (is_new_data pre post) post → AreEither new functions starts →
    (i : ℕ) (s : NormalSection) → slice_get post i ≡ Some s → Tells (marked starts i) (Brought pre post s.name)
starts_tell pre post members code functions new starts told code_tested both new_tested either i s at =
    let P = (is_in is_code_class post s.name ≡ true) × Member pre post s.name in
    let Q = is_new_data pre post s.name ≡ true in
    let a : marked code i ≡ is_in is_code_class post s.name =
    ap (λ m. marked m i) code_tested ∙ tests_at (is_in is_code_class post) post i s at in
    let b : marked new i ≡ is_new_data pre post s.name =
    ap (λ m. marked m i) new_tested ∙ tests_at (is_new_data pre post) post i s at in
    tells_through (marked starts i) (swapped pre post s.name) (swapped_back pre post s.name)
    (rw (either.each i)
    (rw (both.each i, a, b)
    (tells_or Q P (is_new_data pre post s.name) (is_in is_code_class post s.name && marked members i)
    (tells_test (is_new_data pre post s.name))
    (tells_and (is_in is_code_class post s.name ≡ true) (Member pre post s.name) (is_in is_code_class post s.name)
    (marked members i) (tells_test (is_in is_code_class post s.name)) (λ _. told i s at)))))

brought_is_there : (pre post : List NormalSection) (name : List ℕ) → Brought pre post name →
    section_named post name ≡ None → ⊥
brought_is_there pre post name (inl (member, code)) none = let e : false ≡ true = rw none at code in cc
brought_is_there pre post name (inr new) none =
    let parts = and_parts (is_in is_data_class post name) (not (is_there pre name)) new in
    let e : false ≡ true = rw none at parts.0 in cc

pub tell_carried : (pre post : List NormalSection)
    (members code functions new starts reached constants marks : List Bool) →
    HasDistinctNames post → TellEach (Member pre post) post members → code ≡ tests (is_in is_code_class post) post →
    AreBoth code members functions → new ≡ tests (is_new_data pre post) post → AreEither new functions starts →
    TellReached post starts reached → constants ≡ tests (is_in is_constant_class post) post →
    AreBoth reached constants marks → TellWhich (IsCarried pre post) post marks
tell_carried pre post members code functions new starts reached constants marks distinct told code_tested both
    new_tested either told_reached constants_tested joined =
    record {
      len = joined.len ∙ told_reached.len;
      each = λ i s at.
          let P = (marked starts i ≡ true) ⊎ SeedReaches post starts s.name in
          let Q = is_in is_constant_class post s.name ≡ true in
          let a : marked constants i ≡ is_in is_constant_class post s.name =
          ap (λ m. marked m i) constants_tested ∙ tests_at (is_in is_constant_class post) post i s at in
          tells_through (marked marks i) (there i s at) (back i s at)
          (rw (joined.each i)
          (rw a (tells_and P Q (marked reached i) (is_in is_constant_class post s.name) (told_reached.each i s at)
          (λ _. tells_test (is_in is_constant_class post s.name)))));
    } where
      brings : (i : ℕ) (s : NormalSection) → slice_get post i ≡ Some s →
          Tells (marked starts i) (Brought pre post s.name)
      brings i s at = starts_tell pre post members code functions new starts told code_tested both new_tested either i s
          at

      there : (i : ℕ) (s : NormalSection) → slice_get post i ≡ Some s →
          ((marked starts i ≡ true) ⊎ SeedReaches post starts s.name) × (is_in is_constant_class post s.name ≡ true) →
          IsCarried pre post s.name
      there i s at (inl seeded, constant) =
          absurd (brought_apart pre post s.name constant
          (true_tells (Brought pre post s.name) (marked starts i) (brings i s at) seeded))
      there i s at (inr it, constant) =
          record {
            from = it.section.name;
            brought = true_tells (Brought pre post it.section.name)
                (marked starts it.place) (brings it.place it.section it.at) it.seeded;
            reaches = it.reaches;
          }

      back : (i : ℕ) (s : NormalSection) → slice_get post i ≡ Some s → IsCarried pre post s.name →
          ((marked starts i ≡ true) ⊎ SeedReaches post starts s.name) × (is_in is_constant_class post s.name ≡ true)
      back i s at it =
          elim (option_cases (section_named post it.from)) [
            | inl none ↦ absurd (brought_is_there pre post it.from it.brought none)
            | inr some ↦
                let (k, at_k, same) = section_found post it.from some.0 some.1 in
                let brought : Brought pre post some.0.name = rw same it.brought in (
                  inr (record {
                    place = k;
                    section = some.0;
                    at = at_k;
                    seeded =
                        tells_true (Brought pre post some.0.name) (marked starts k) (brings k some.0 at_k) brought;
                    reaches =
                        rw same it.reaches;
                  }),
                  reaches_to post it.from s.name it.reaches,
                )
          ]
