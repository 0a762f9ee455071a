-- What is known of the functions of the old object as they run: each is the newest version of its home, has some bytes
-- and a name of its own.
use Rattle.std.proofs.Common.{◌≡◌, ◌≢◌, ◌⊎◌, inl, inr, ℕ, suc, ◌<◌, Bool, true, false, cond, List, [], ◌∷◌, map, Option}
use Rattle.std.proofs.Common.{Some, None, refl, sym, ap, subst, ◌∙◌}
use Rattle.std.specs.Prelude.{◌==◌}
use Rattle.std.specs.List.{All, IsDistinct, filter}
use Rattle.std.proofs.lemmas.Bool.{eqb-true}
use Rattle.std.specs.Cmp.Lexicographic.{bytes_decides}
use Rattle.std.proofs.lemmas.Map.Made.{IsDistinct-from_AllPairs}
use Rattle.symbol_table.specs.declared.values.Unknown.{Unknown}
use Rattle.symbol_table.specs.declared.values.Unknown.TheVariants.{Code}
use Rattle.symbol_table.specs.declared.values.Solved.{Solved}
use Rattle.symbol_table.specs.declared.values.Solved.TheVariants.{Body, Address}
use Rattle.symbol_table.specs.Bodies.{newest}
use Rattle.symbol_table.specs.Unknowns.{same_unknown}
use Rattle.i386_reloc.specs.declared.types.NormalSection.{NormalSection}
use Rattle.i386_reloc.specs.Classes.{is_code_class}
use Rattle.i386_reloc.specs.Normal.{same_bytes}
use Rattle.symbol_solve.specs.Matched.{PreSection}
use Rattle.symbol_solve.specs.Candidates.{Running, code_from, code_sections}
use Rattle.symbol_solve.specs.Solve.{Value}
use Rattle.symbol_solve.specs.Answered.{IsAnswered, is_about}
use Rattle.image_memory.specs.Contents.{Contents}
use Rattle.splice_jump.specs.Jumps.{AreSpliced, IsSpliced}
use Rattle.extract_post.specs.declared.types.Extract.{Extract}
use Rattle.link_post.specs.Values.{ValueList, solved_as}
use Rattle.update_retired.specs.declared.types.OldFunction.{OldFunction}
use Rattle.update_retired.specs.Retired.{section_of}
use Rattle.update_plan.specs.Olds.{fate_of, is_function, old_as, old_in, olds_of}
use Rattle.update_plan.proofs.SoundLists.{Has, IsShort, Pairs, all_has, all_pairs, filter_has, flat_has}
use Rattle.update_plan.proofs.SoundLists.{pairs_filter, pairs_flat, pairs_map}

pub record IsOldOf (bodies : List (ℕ × ℕ)) (extract : Extract) (old : OldFunction) : Type 0 where
  pub base : old.base ≡ newest bodies old.home
  pub some : 0 < old.length
  pub fate : old.fate ≡ fate_of extract old.section

-- ---- the newest version of a home is the first one, or the home has a row
pub row_of : (bodies : List (ℕ × ℕ)) (home base : ℕ) → base ≡ newest bodies home →
    (base ≡ home) ⊎ ((row : ℕ × ℕ) × Has bodies row × (row.0 ≡ home))
row_of [] home base is = inl is
row_of (row ∷ rows) home base is = by (row.0 == home) refl (row_of rows home base) is
  where
    by : (b : Bool) → (row.0 == home) ≡ b →
        (base ≡ newest rows home → (base ≡ home) ⊎ ((r : ℕ × ℕ) × Has rows r × (r.0 ≡ home))) →
        base ≡ cond b row.1 (newest rows home) →
        (base ≡ home) ⊎ ((r : ℕ × ℕ) × Has (row ∷ rows) r × (r.0 ≡ home))
    by true at later is = inr (row, inl refl, eqb-true row.0 home at)
    by false at later is =
        elim (later is) [ inl same ↦ inl same | inr it ↦ inr (it.0, inr it.1, it.2) ]

-- and there its jump stands
pub first_or_spliced : (contents : Contents) (bodies : List (ℕ × ℕ)) (home base : ℕ) → AreSpliced contents bodies →
    base ≡ newest bodies home → (base ≡ home) ⊎ IsSpliced contents home
first_or_spliced contents bodies home base spliced is =
    elim (row_of bodies home base is) [
      | inl first ↦ inl first
      | inr it ↦ inr (subst (IsSpliced contents) it.2
          (all_has (λ (row : ℕ × ℕ). IsSpliced contents row.0) bodies it.0 spliced.each it.1))
    ]

-- ---- the value of a code section
pub told_in : (values : ValueList) (which : Unknown) (value : Value) → filter (is_about which) values ≡ value ∷ [] →
    solved_as values which ≡ Some value.1
told_in [] which value is = absurd cc
told_in (pair ∷ values) which value is = by (same_unknown which pair.0) (told_in values which value) is
  where
    by : (b : Bool) → (filter (is_about which) values ≡ value ∷ [] → solved_as values which ≡ Some value.1) →
        cond b (pair ∷ filter (is_about which) values) (filter (is_about which) values) ≡ value ∷ [] →
        cond b (Some pair.1) (solved_as values which) ≡ Some value.1
    by true later here = let same : pair ≡ value = cc in ap (λ (v : Value). Some v.1) same
    by false later rest = later rest

abbrev pub as_pre : List NormalSection → ℕ → NormalSection → PreSection
as_pre object place section = record { object = object; place = place; section = section }

pub code_has : (object sections : List NormalSection) (place : ℕ) (section : NormalSection) → Has sections section →
    is_code_class section.class ≡ true → (p : ℕ) × Has (code_from object place sections) (as_pre object p section)
unfolding code_from
code_has object [] place section has code = absurd has
code_has object (s ∷ sections) place section (inl is) code = (
  place,
  subst (λ b. Has (cond b (as_pre object place s ∷ code_from object (suc place) sections)
      (code_from object (suc place) sections)) (as_pre object place section))
      (sym (ap (λ (x : NormalSection). is_code_class x.class) is ∙ code)) (inl (ap (as_pre object place) is)),
)
code_has object (s ∷ sections) place section (inr rest) code =
    let (p, has) = code_has object sections (suc place) section rest code in
    (p, by p (is_code_class s.class) has)
  where
    by : (p : ℕ) (b : Bool) → Has (code_from object (suc place) sections) (as_pre object p section) →
        Has (cond b (as_pre object place s ∷ code_from object (suc place) sections)
        (code_from object (suc place) sections)) (as_pre object p section)
    by p true later = inr later
    by p false later = later

-- ---- the functions one by one
old_from : (bodies : List (ℕ × ℕ)) (extract : Extract) (section : NormalSection) (home base size : ℕ)
    (o : Option Solved) (old : OldFunction) → o ≡ Some (Body home base size) → base ≡ newest bodies home → 0 < size →
    Has (old_as extract section o) old → IsOldOf bodies extract old
old_from bodies extract section home base size o old is newest_is some has =
    by (subst (λ (x : Option Solved). Has (old_as extract section x) old) is has)
  where
    by : Has (old_as extract section (Some (Body home base size))) old → IsOldOf bodies extract old
    by (inl here) = subst (IsOldOf bodies extract) here (record { base = newest_is; some = some; fate = refl })
    by (inr none) = absurd none

old_section : (extract : Extract) (section : NormalSection) (o : Option Solved) (old : OldFunction) →
    Has (old_as extract section o) old → old.section ≡ section.name
old_section extract section (Some (Body home base size)) old (inl here) =
    ap (λ (x : OldFunction). x.section) (sym here)
old_section extract section (Some (Body home base size)) old (inr none) = absurd none
old_section extract section (Some (Address address)) old has = absurd has
old_section extract section None old has = absurd has

old_short : (extract : Extract) (section : NormalSection) (o : Option Solved) → IsShort (old_as extract section o)
old_short extract section (Some (Body home base size)) = tt
old_short extract section (Some (Address address)) = tt
old_short extract section None = tt

module _ (running : Running) (extract : Extract) (found : ValueList) (pre : List NormalSection)
    (answered : All (IsAnswered running found) (code_sections pre)) where
  pub is_old : (old : OldFunction) → Has (olds_of extract found pre) old → IsOldOf running.bodies extract old
  unfolding olds_of
  is_old old has =
      let (section, has_section, has_old) = flat_has (old_in extract found) (filter is_function pre) old has in
      let (in_pre, code) = filter_has is_function pre section has_section in
      let (place, has_code) = code_has pre pre 0 section in_pre code in
      let it = all_has (IsAnswered running found) (code_sections pre) (as_pre pre place section) answered has_code in
      old_from running.bodies extract section it.home it.base it.size (solved_as found (Code section.name)) old
      (told_in found (Code section.name) (Code section.name, Body it.home it.base it.size) it.told) it.is_base it.some
      has_old

module _ (extract : Extract) (found : ValueList) (pre : List NormalSection)
    (differ : Pairs (λ (a b : NormalSection). a.name ≢ b.name) pre) where
  pub sections_differ : Pairs (λ (a b : OldFunction). a.section ≢ b.section) (olds_of extract found pre)
  unfolding olds_of
  sections_differ =
      pairs_flat (λ (a b : NormalSection). a.name ≢ b.name) (λ (a b : OldFunction). a.section ≢ b.section)
      (old_in extract found) (λ section. old_short extract section (solved_as found (Code section.name)))
      (λ a b y z has_y has_z apart same.
      apart (sym (old_section extract a (solved_as found (Code a.name)) y has_y) ∙ same
      ∙ old_section extract b (solved_as found (Code b.name)) z has_z))
      (filter is_function pre)
      (pairs_filter is_function (λ (a b : NormalSection). a.name ≢ b.name) pre differ)

  pub olds_distinct : IsDistinct same_bytes (map section_of (olds_of extract found pre))
  olds_distinct =
      IsDistinct-from_AllPairs bytes_decides (map section_of (olds_of extract found pre))
      (all_pairs (λ a b. a ≢ b) (map section_of (olds_of extract found pre))
      (pairs_map section_of (λ a b. a ≢ b) (olds_of extract found pre) sections_differ))
