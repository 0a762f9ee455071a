-- What the answers say.
use Rattle.std.proofs.Common.{◌≡◌, inl, inr, ℕ, zero, suc, ◌+◌, ◌<◌, Bool, true, false, not, List}
use Rattle.std.proofs.Common.{[], ◌∷◌, length, Option, Some, None, is_some, Ok, Err, refl, sym, ap, subst, ◌∙◌, arith}
use Rattle.std.specs.List.{slice_get, position}
use Rattle.std.proofs.lemmas.Bool.{and_parts}
use Rattle.std.proofs.lemmas.List.Elements.{All-head, All-tail}
use Rattle.std.proofs.lemmas.Option.{slice_get_within, same_Some}
use Rattle.reachability.specs.Reached.{Tells}
use Rattle.ks_base.specs.declared.refusals.Refusal.{Refusal}
use Rattle.ks_base.specs.declared.refusals.Refusal.TheVariants as refusal
use Rattle.i386_reloc.specs.declared.types.Ref.{Ref}
use Rattle.i386_reloc.specs.declared.types.NormalSection.{NormalSection}
use Rattle.i386_reloc.specs.Classes.{is_code_class}
use Rattle.i386_reloc.specs.Normal.{section_named}
use Rattle.i386_reloc.specs.Reaches.{is_in}
use Rattle.extract_post.specs.Members.{is_there, Member}
use Rattle.extract_post.specs.Members.Differs.{Itself as DiffersItself, Through as DiffersThrough}
use Rattle.extract_post.specs.Members.Member.{Differing, OnlyInPost, Joined}
use Rattle.extract_post.specs.declared.types.Extract.{Extract}
use Rattle.extract_post.specs.Extract.{IsFirst, NoneIs, DataDiffers, IsBroken, places, IsExtract, Extracts}
use Rattle.extract_post.specs.Extract.IsFirst.{Here, Later}
use Rattle.extract_post.specs.Extract.Extracts.{OtherData, Broken, NoMember, Extracted}
use Rattle.extract_post.specs.inside.Found.{FirstBroken, HasNoOther}
use Rattle.extract_post.specs.inside.Seeds.{IsSeed}
use Rattle.extract_post.specs.inside.Marks.{marked, TellEach, TellWhich, TellMembers, ArePart}
use Rattle.i386_reloc.specs.laws.NamedPlaces.{section_found}
use Rattle.extract_post.proofs.Links.{option_cases}
use Rattle.extract_post.proofs.Firsts.{first_marked_section, no_marked_section}

pub part_pre : (pre post : List NormalSection) (nodes part : List Bool) (from count : ℕ) → from ≡ length post →
    count ≡ length pre → TellMembers pre post nodes → ArePart nodes from count part →
    TellEach (Member pre post) pre part
part_pre pre post nodes part from count start all told are =
    λ i s at.
    let within : i < length pre = slice_get_within pre i s at in
    rw (are.each i (omega arith)) (let P : ℕ → Type 0 = λ k. Tells (marked nodes (k + i)) (Member pre post s.name) in
    subst P (sym start) (told.in_pre i s at))

-- members are there only where first ones are
seed_in_post : (pre post : List NormalSection) (name : List ℕ) → IsSeed pre post name →
    is_in is_code_class post name ≡ true
seed_in_post pre post name (inl (DiffersItself n both other)) =
    (and_parts (is_in is_code_class pre n) (is_in is_code_class post n) both).1
seed_in_post pre post name (inl (DiffersThrough n both reaches)) =
    (and_parts (is_in is_code_class pre n) (is_in is_code_class post n) both).1
seed_in_post pre post name (inr alone) = (and_parts (is_in is_code_class post name) (not (is_there pre name)) alone).0

pub none_at : (P : NormalSection → Type 0) (xs : List NormalSection) → NoneIs P xs → (i : ℕ) (s : NormalSection) →
    slice_get xs i ≡ Some s → P s → ⊥
none_at P [] none i s at = absurd cc
none_at P (x ∷ xs) none zero s at = let same : x ≡ s = same_Some x s at in
    subst (λ (v : NormalSection). P v → ⊥) same (All-head (λ z. P z → ⊥) x xs none)
none_at P (x ∷ xs) none (suc i) s at = none_at P xs (All-tail (λ z. P z → ⊥) x xs none) i s at

no_seed : (pre post : List NormalSection) → NoneIs (λ s. IsSeed pre post s.name) post → (name : List ℕ) →
    IsSeed pre post name → ⊥
no_seed pre post none name seed =
    elim (option_cases (section_named post name)) [
      | inl gone ↦ let is = seed_in_post pre post name seed in let e : false ≡ true = rw gone at is in cc
      | inr some ↦
          let (i, at, same) = section_found post name some.0 some.1 in
          none_at (λ s. IsSeed pre post s.name) post none i some.0 at (subst (IsSeed pre post) (sym same) seed)
    ]

no_member : (pre post : List NormalSection) → NoneIs (λ s. IsSeed pre post s.name) post → (name : List ℕ) →
    Member pre post name → ⊥
no_member pre post none name (Differing n it) = no_seed pre post none n (inl it)
no_member pre post none name (OnlyInPost n it) = no_seed pre post none n (inr it)
no_member pre post none name (Joined n other member tied) = no_member pre post none n member

seed_member : (pre post : List NormalSection) (name : List ℕ) → IsSeed pre post name → Member pre post name
seed_member pre post name (inl it) = Differing name it
seed_member pre post name (inr it) = OnlyInPost name it

first_is : {X : Type 0} (P : X → Type 0) (xs : List X) (x : X) → IsFirst P xs x → P x
first_is P xs x (Here y ys is) = is
first_is P xs x (Later y ys z isnt first) = first_is P ys z first

pub extracted : (pre post : List NormalSection) (first : List Bool) (extract : Extract) →
    TellWhich (IsSeed pre post) post first → is_some (position (λ m. m) first) ≡ true → HasNoOther pre post →
    NoneIs (IsBroken pre post) (places post) → IsExtract pre post extract → Extracts pre post (Ok extract)
extracted pre post first extract told some same whole is =
    elim (option_cases (position (λ m. m) first)) [
      | inl none ↦ let e = sym some ∙ ap is_some none in absurd cc
      | inr at ↦
          let (s, at_s, it) = first_marked_section (IsSeed pre post) post first told at.0 at.1 in
          Extracted s.name extract same whole
          (seed_member pre post s.name (first_is (λ s. IsSeed pre post s.name) post s it)) is
    ]

no_place : (o : Option ℕ) → is_some o ≡ false → o ≡ None
no_place None none = refl
no_place (Some k) none = absurd cc

pub without_members : (pre post : List NormalSection) (first : List Bool) → TellWhich (IsSeed pre post) post first →
    is_some (position (λ m. m) first) ≡ false → HasNoOther pre post → NoneIs (IsBroken pre post) (places post) →
    Extracts pre post (Err refusal.NoChange)
without_members pre post first told none same whole =
    NoMember same whole (no_member pre post (no_marked_section (IsSeed pre post) post first told
    (no_place (position (λ m. m) first) none)))

pub broken : (pre post : List NormalSection) (place k : ℕ) (why : Refusal) → FirstBroken pre post place k →
    HasNoOther pre post →
    ((section : NormalSection) (r : Ref) → slice_get post place ≡ Some section → slice_get section.refs k ≡ Some r
    → why ≡ refusal.Interior section.name r.offset) →
    Extracts pre post (Err why)
broken pre post place k why found same is =
    let e : why ≡ refusal.Interior found.section.name found.reference.offset =
    is found.section found.reference found.at found.at_reference in
    let P : Refusal → Type 0 = λ w. Extracts pre post (Err w) in
    subst P (sym e) (Broken found.section.name found.reference same found.first)

pub broken_place : (pre post : List NormalSection) (place k : ℕ) → FirstBroken pre post place k → place < length post
broken_place pre post place k found = slice_get_within post place found.section found.at

pub broken_reference : (pre post : List NormalSection) (place k : ℕ) → FirstBroken pre post place k →
    (section : NormalSection) → slice_get post place ≡ Some section → k < length section.refs
broken_reference pre post place k found section at =
    let same : found.section ≡ section = same_Some found.section section (sym found.at ∙ at) in
    let P : NormalSection → Type 0 = λ s. k < length s.refs in
    subst P same (slice_get_within found.section.refs k found.reference found.at_reference)

pub other_data : (pre post : List NormalSection) (marks : List Bool) (place : ℕ) (why : Refusal) →
    TellWhich (λ name. DataDiffers pre post name) post marks → position (λ m. m) marks ≡ Some place →
    ((section : NormalSection) → slice_get post place ≡ Some section → why ≡ refusal.DataChanged section.name) →
    Extracts pre post (Err why)
other_data pre post marks place why told at is =
    let (s, at_s, first) = first_marked_section (DataDiffers pre post) post marks told place at in
    let P : Refusal → Type 0 = λ w. Extracts pre post (Err w) in
    subst P (sym (is s at_s)) (OtherData s first)

pub no_other : (pre post : List NormalSection) (marks : List Bool) → TellWhich (DataDiffers pre post) post marks →
    position (λ m. m) marks ≡ None → HasNoOther pre post
no_other pre post marks told none = no_marked_section (DataDiffers pre post) post marks told none
