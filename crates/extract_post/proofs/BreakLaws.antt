-- What the search for broken references tells.
use Rattle.std.proofs.Common.{◌≡◌, ◌⊎◌, inl, inr, ℕ, Bool, true, false, not, ◌&&◌, List}
use Rattle.std.proofs.Common.{length, Option, Some, None, refl, sym, ap, subst, ◌∙◌}
use Rattle.std.specs.List.{slice_get}
use Rattle.std.proofs.lemmas.Bool.{and_parts, and_from, or_cases, or_left, or_right}
use Rattle.std.proofs.lemmas.List.{length-map}
use Rattle.std.proofs.lemmas.Option.{slice_get_within}
use Rattle.reachability.specs.Reached.{Tells}
use Rattle.i386_reloc.specs.declared.types.Ref.{Ref}
use Rattle.i386_reloc.specs.declared.types.NormalSection.{NormalSection}
use Rattle.i386_reloc.specs.Classes.{is_code_class}
use Rattle.i386_reloc.specs.Normal.{section_named}
use Rattle.i386_reloc.specs.Reaches.{is_read_only_class, is_data_class, is_in, goes_to, goes_to_target, is_interior}
use Rattle.extract_post.specs.Members.{is_there, is_in_both, is_new_data, Member, IsChanged}
use Rattle.extract_post.specs.Extract.{NoneIs, IsDataOf, IsBroken}
use Rattle.extract_post.specs.Extract.IsDataOf.{Itself, Reached}
use Rattle.extract_post.specs.Extract.IsBroken.{OldData, NewData}
use Rattle.extract_post.specs.inside.Closures.{HasDistinctNames, SeedReaches}
use Rattle.i386_reloc.specs.Places.{place_of_target}
use Rattle.extract_post.specs.inside.Found.{FirstBroken, Broken}
use Rattle.extract_post.specs.inside.Marks.{marked, TellEach, TellWhich, tests, TellDataOf, AreBoth, AreApart}
use Rattle.extract_post.specs.inside.Marks.{Stays, breaks_at, breaks, breaks_in, NoBreakBelow, FirstBreak}
use Rattle.i386_reloc.specs.laws.NamedPlaces.{section_found}
use Rattle.extract_post.proofs.Links.{option_cases, target_of_place, place_of_goes}
use Rattle.extract_post.proofs.Tells.{tells_through}
use Rattle.extract_post.proofs.ChangeLaws.{tells_true, true_tells}
use Rattle.extract_post.proofs.MarkLaws.{tells_test, tells_and, tests_at}
use Rattle.extract_post.proofs.Firsts.{first_of_test, none_of_test, none_placed, first_placed}

pub tells_both_ways : (P : Type 0) (b : Bool) → (b ≡ true → P) → (P → b ≡ true) → Tells b P
tells_both_ways P true there back = there refl
tells_both_ways P false there back = λ p. let e : false ≡ true = back p in cc

-- members that pass a test of names
pub tested_members : (pre post sections : List NormalSection) (f : List ℕ → Bool) (members passed marks : List Bool) →
    TellEach (Member pre post) sections members → passed ≡ tests f sections → AreBoth passed members marks →
    TellWhich (λ name. Member pre post name × (f name ≡ true)) sections marks
tested_members pre post sections f members passed marks told tested both =
    record {
      len = both.len ∙ (ap length tested ∙ length-map sections (λ s. f s.name));
      each = λ i s at.
          let a : marked passed i ≡ f s.name = ap (λ m. marked m i) tested ∙ tests_at f sections i s at in
          tells_through (marked marks i) (λ (x : (f s.name ≡ true) × Member pre post s.name). (x.1, x.0))
          (λ (x : Member pre post s.name × (f s.name ≡ true)). (x.1, x.0))
          (rw (both.each i)
          (rw a (tells_and (f s.name ≡ true) (Member pre post s.name) (f s.name) (marked members i)
          (tells_test (f s.name)) (λ _. told i s at))));
    }

tells_and_not : (P Q : Type 0) (a b : Bool) → Tells a P → Tells b Q → Tells (a && not b) (P × (Q → ⊥))
tells_and_not P Q true true p q = λ (x : P × (Q → ⊥)). x.1 q
tells_and_not P Q true false p q = (p, q)
tells_and_not P Q false b p q = λ (x : P × (Q → ⊥)). p x.0

pub tell_staying : (pre post : List NormalSection) (members code marks : List Bool) →
    TellEach (Member pre post) post members → code ≡ tests (is_in is_code_class post) post →
    AreApart code members marks → TellWhich (Stays pre post) post marks
tell_staying pre post members code marks told tested apart =
    record {
      len = apart.len ∙ (ap length tested ∙ length-map post (λ s. is_in is_code_class post s.name));
      each = λ i s at.
          let a : marked code i ≡ is_in is_code_class post s.name =
          ap (λ m. marked m i) tested ∙ tests_at (is_in is_code_class post) post i s at in
          rw (apart.each i)
          (rw a (tells_and_not (is_in is_code_class post s.name ≡ true) (Member pre post s.name)
          (is_in is_code_class post s.name) (marked members i) (tells_test (is_in is_code_class post s.name))
          (told i s at)));
    }

-- data
pub tell_data_marks : (post : List NormalSection) (test : List ℕ → Bool) →
    ((name : List ℕ) → test name ≡ true → is_in is_data_class post name ≡ true) → (starts marks : List Bool) →
    starts ≡ tests test post → TellDataOf post starts marks → TellWhich (IsDataOf post test) post marks
tell_data_marks post test there_is starts marks tested told =
    record {
      len = told.len;
      each = λ i s at. tells_through (marked marks i) (there i s at) (back i s at s.name refl) (told.each i s at);
    } where
      start : (i : ℕ) (s : NormalSection) → slice_get post i ≡ Some s → marked starts i ≡ test s.name
      start i s at = ap (λ m. marked m i) tested ∙ tests_at test post i s at

      there : (i : ℕ) (s : NormalSection) → slice_get post i ≡ Some s →
          ((marked starts i ≡ true) ⊎ SeedReaches post starts s.name)
          × ((is_in is_read_only_class post s.name ≡ true) ⊎ (marked starts i ≡ true)) →
          IsDataOf post test s.name
      there i s at (inl seeded, more) = Itself s.name (sym (start i s at) ∙ seeded)
      there i s at (inr it, inr seeded) = Itself s.name (sym (start i s at) ∙ seeded)
      there i s at (inr it, inl constant) = Reached it.section.name s.name
          (sym (start it.place it.section it.at) ∙ it.seeded) it.reaches constant

      back : (i : ℕ) (s : NormalSection) → slice_get post i ≡ Some s → (name : List ℕ) → s.name ≡ name →
          IsDataOf post test name →
          ((marked starts i ≡ true) ⊎ SeedReaches post starts name)
          × ((is_in is_read_only_class post name ≡ true) ⊎ (marked starts i ≡ true))
      back i s at name same (Itself n passes) = let e : marked starts i ≡ true =
          start i s at ∙ (ap test same ∙ passes) in (inl e, inr e)
      back i s at name same (Reached from n passes reaches constant) =
          elim (option_cases (section_named post from)) [
            | inl none ↦ absurd (let data_there = there_is from passes in let e : false ≡ true =
                rw none at data_there in cc)
            | inr some ↦
                let (k, at_k, is) = section_found post from some.0 some.1 in (
                  inr (record {
                    place = k;
                    section = some.0;
                    at = at_k;
                    seeded =
                        start k some.0 at_k ∙ (ap test is ∙ passes);
                    reaches = rw is reaches;
                  }),
                  inl constant,
                )
          ]

pub both_is_data : (pre post : List NormalSection) (name : List ℕ) → is_in_both is_data_class pre post name ≡ true →
    is_in is_data_class post name ≡ true
both_is_data pre post name both = (and_parts (is_in is_data_class pre name) (is_in is_data_class post name) both).1

pub new_is_data : (pre post : List NormalSection) (name : List ℕ) → is_new_data pre post name ≡ true →
    is_in is_data_class post name ≡ true
new_is_data pre post name new = (and_parts (is_in is_data_class post name) (not (is_there pre name)) new).0

three : (a b c : Bool) → a ≡ true → b ≡ true → c ≡ true → (a && b && c) ≡ true
three a b c x y z = rw (x, y, z) refl

three_parts : (a b c : Bool) → (a && b && c) ≡ true → (a ≡ true) × (b ≡ true) × (c ≡ true)
three_parts true true true h = (refl, refl, refl)
three_parts true true false h = absurd cc
three_parts true false c h = absurd cc
three_parts false b c h = absurd cc

-- a reference breaks
module _ (pre post : List NormalSection) (distinct : HasDistinctNames post) (old new changed stays : List Bool)
    (old_told : TellWhich (IsDataOf post (is_in_both is_data_class pre post)) post old)
    (new_told : TellWhich (IsDataOf post (is_new_data pre post)) post new)
    (changed_told : TellWhich (IsChanged pre post) post changed)
    (stays_told : TellWhich (Stays pre post) post stays) where
  breaks_there : (i : ℕ) (s : NormalSection) → slice_get post i ≡ Some s → (r : Ref) → (o : Option ℕ) →
      place_of_target post r.target ≡ o → is_interior r ≡ true →
      breaks_at (marked old i) (marked new i) changed stays o ≡ true → IsBroken pre post (s.name, r)
  breaks_there i s at r None none interior it = absurd cc
  breaks_there i s at r (Some p) some interior it =
      let (t, at_t, goes) = target_of_place post r.target p some in
      elim (or_cases (marked old i && marked changed p) (marked new i && marked stays p) it) [
        | inl here ↦
            let parts = and_parts (marked old i) (marked changed p) here in
            OldData s.name r t.name (true_tells (IsDataOf post (is_in_both is_data_class pre post) s.name)
            (marked old i) (old_told.each i s at) parts.0) (and_from (goes_to t.name r) (is_interior r) goes interior)
            (true_tells (IsChanged pre post t.name) (marked changed p) (changed_told.each p t at_t) parts.1)
        | inr there ↦
            let parts = and_parts (marked new i) (marked stays p) there in
            let staying : Stays pre post t.name = true_tells (Stays pre post t.name) (marked stays p)
            (stays_told.each p t at_t) parts.1 in
            NewData s.name r t.name (true_tells (IsDataOf post (is_new_data pre post) s.name) (marked new i)
            (new_told.each i s at) parts.0)
            (three (is_in is_code_class post t.name) (goes_to t.name r) (is_interior r) staying.0 goes interior)
            staying.1
      ]

  record CodeAt (r : Ref) (code : List ℕ) : Type 0 where
    place : ℕ
    section : NormalSection
    at : slice_get post place ≡ Some section
    same : section.name ≡ code
    target : place_of_target post r.target ≡ Some place

  code_at : (r : Ref) (code : List ℕ) → is_in is_code_class post code ≡ true → goes_to code r ≡ true → CodeAt r code
  code_at r code is goes =
      elim (option_cases (section_named post code)) [
        | inl none ↦ absurd (let e : false ≡ true = rw none at is in cc)
        | inr some ↦
            let (k, at_k, same) = section_found post code some.0 some.1 in
            let goes_k : goes_to_target some.0.name r.target ≡ true = rw same goes in
            record {
              place = k;
              section = some.0;
              at = at_k;
              same = same;
              target =
                  place_of_goes post distinct r.target k some.0 at_k goes_k;
            }
      ]

  breaks_back : (i : ℕ) (s : NormalSection) → slice_get post i ≡ Some s → (x : List ℕ × Ref) → s.name ≡ x.0 →
      IsBroken pre post x →
      (is_interior x.1 ≡ true) × (breaks_at (marked old i) (marked new i) changed stays
      (place_of_target post x.1.target) ≡ true)
  breaks_back i s at x same (OldData name r code is goes changed_is) =
      let parts = and_parts (goes_to code r) (is_interior r) goes in
      let there = code_at r code (and_parts (is_in is_code_class pre code)
      (is_in is_code_class post code) changed_is.1).1 parts.0 in
      let k = there.place in
      let a : marked old i ≡ true = tells_true (IsDataOf post (is_in_both is_data_class pre post) s.name) (marked old i)
      (old_told.each i s at) (subst (IsDataOf post (is_in_both is_data_class pre post)) (sym same) is) in
      let b : marked changed k ≡ true = tells_true (IsChanged pre post there.section.name) (marked changed k)
      (changed_told.each k there.section there.at) (subst (IsChanged pre post) (sym there.same) changed_is) in (
        parts.1,
        rw there.target (or_left (marked old i && marked changed k) (marked new i && marked stays k)
            (and_from (marked old i) (marked changed k) a b)),
      )
  breaks_back i s at x same (NewData name r code is goes stays_is) =
      let parts = three_parts (is_in is_code_class post code) (goes_to code r) (is_interior r) goes in
      let there = code_at r code parts.0 parts.1 in
      let k = there.place in
      let stay : Stays pre post code = (parts.0, stays_is) in
      let a : marked new i ≡ true = tells_true (IsDataOf post (is_new_data pre post) s.name) (marked new i)
      (new_told.each i s at) (subst (IsDataOf post (is_new_data pre post)) (sym same) is) in
      let b : marked stays k ≡ true = tells_true (Stays pre post there.section.name) (marked stays k)
      (stays_told.each k there.section there.at) (subst (Stays pre post) (sym there.same) stay) in (
        parts.2,
        rw there.target (or_right (marked old i && marked changed k) (marked new i && marked stays k)
            (and_from (marked new i) (marked stays k) a b)),
      )

  break_tells : (i : ℕ) (s : NormalSection) → slice_get post i ≡ Some s → (r : Ref) →
      Tells (breaks post (marked old i) (marked new i) changed stays r) (IsBroken pre post (s.name, r))
  break_tells i s at r =
      tells_both_ways (IsBroken pre post (s.name, r)) (breaks post (marked old i) (marked new i) changed stays r)
      (λ it. let parts = and_parts (is_interior r)
      (breaks_at (marked old i) (marked new i) changed stays (place_of_target post r.target)) it in
      breaks_there i s at r (place_of_target post r.target) refl parts.0 parts.1)
      (λ broken. let parts = breaks_back i s at (s.name, r) refl broken in
      and_from (is_interior r) (breaks_at (marked old i) (marked new i) changed stays (place_of_target post r.target))
      parts.0 parts.1)

  no_break : (i : ℕ) (s : NormalSection) → slice_get post i ≡ Some s →
      breaks_in post old new changed stays i s ≡ None → NoneIs (λ r. IsBroken pre post (s.name, r)) s.refs
  no_break i s at none =
      none_of_test (breaks post (marked old i) (marked new i) changed stays) (λ r. IsBroken pre post (s.name, r))
      (break_tells i s at) s.refs none

  found_break : (i k : ℕ) → NoBreakBelow post old new changed stays i → (s : NormalSection) →
      slice_get post i ≡ Some s → breaks_in post old new changed stays i s ≡ Some k → FirstBroken pre post i k
  found_break i k none s at found =
      let (r, at_r, first) = first_of_test (breaks post (marked old i) (marked new i) changed stays)
      (λ r. IsBroken pre post (s.name, r)) (break_tells i s at) s.refs k found in
      record {
        section = s;
        reference = r;
        at = at;
        at_reference = at_r;
        first = first_placed (IsBroken pre post) post i s r at
            (λ j t below at_j. no_break j t at_j (none j t below at_j)) first;
      }

  pub tell_broken : (found : Option (ℕ × ℕ)) → FirstBreak post old new changed stays found → Broken pre post found
  tell_broken None none =
      none_placed (IsBroken pre post) post (λ i s at. no_break i s at (none i s (slice_get_within post i s at) at))
  tell_broken (Some found) first =
      elim (option_cases (slice_get post found.0)) [
        | inl none ↦ absurd (rw none at first.1)
        | inr some ↦ let it = rw some.1 at first.1 in found_break found.0 found.1 first.0 some.0 some.1 it.0
      ]
