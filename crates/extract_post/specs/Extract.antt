-- What `extract` answers: five lists of sections, or why there are none.
use Rattle.std.specs.Prelude.{IsTrue, ℕ, Bool, not, ◌&&◌, false, List, [], ◌∷◌, map, All, Option, Some, Result, Ok, Err}
use Rattle.std.specs.List.{flat_map}
use Rattle.ks_base.specs.declared.refusals.Refusal.{Refusal}
use Rattle.ks_base.specs.declared.refusals.Refusal.TheVariants as refusal
use Rattle.i386_reloc.specs.declared.types.Ref.{Ref}
use Rattle.i386_reloc.specs.declared.types.NormalSection.{NormalSection}
use Rattle.i386_reloc.specs.Classes.{is_code_class}
use Rattle.i386_reloc.specs.Normal.{section_named}
use Rattle.section_equal.specs.Same.{same_class, same_in}
use Rattle.extract_post.specs.declared.types.Extract.{Extract}
use Rattle.i386_reloc.specs.Reaches.{is_read_only_class, is_data_class, is_in, goes_to, is_interior, Reaches}
use Rattle.extract_post.specs.Members.{is_in_both, is_new_data, ReachesChanged, Member}
use Rattle.extract_post.specs.Members.{IsChanged, IsAdded, IsDropped, IsCarried}

-- the names of the sections whose name has a property, in order
pub data Picks (P : List ℕ → Type 0) : List NormalSection → List (List ℕ) → Type 0 where
  Ends : Picks P [] []
  Takes : (section : NormalSection) (sections : List NormalSection) (names : List (List ℕ)) → P section.name →
      Picks P sections names → Picks P (section ∷ sections) (section.name ∷ names)
  Leaves : (section : NormalSection) (sections : List NormalSection) (names : List (List ℕ)) → (P section.name → ⊥) →
      Picks P sections names → Picks P (section ∷ sections) names

-- the first item of a list that has a property; and that none has it
pub data IsFirst {X : Type 0} (P : X → Type 0) : List X → X → Type 0 where
  Here : (x : X) (xs : List X) → P x → IsFirst P (x ∷ xs) x
  Later : (y : X) (xs : List X) (x : X) → (P y → ⊥) → IsFirst P xs x → IsFirst P (y ∷ xs) x

abbrev pub NoneIs : {X : Type 0} → (X → Type 0) → List X → Type 0
NoneIs P xs = All (λ x. P x → ⊥) xs

-- whether two sections are there, and of different classes
abbrev pub other_class : Option NormalSection → Option NormalSection → Bool
other_class (Some old) (Some new) = not (same_class old.class new.class)
other_class _ _ = false

-- A section of both objects has different data in them: a different class; or it is a data section that isn't the same,
-- or that in one of them reaches a read-only section that isn't.
pub data DataDiffers (pre post : List NormalSection) : List ℕ → Type 0 where
  OtherClass : (name : List ℕ) → IsTrue (other_class (section_named pre name) (section_named post name)) →
      DataDiffers pre post name
  Itself : (name : List ℕ) → IsTrue (is_in_both is_data_class pre post name) → IsTrue (not (same_in pre post name)) →
      DataDiffers pre post name
  Through : (name : List ℕ) → IsTrue (is_in_both is_data_class pre post name) → ReachesChanged pre post name →
      DataDiffers pre post name

-- a data section that passes a test, or a read-only section that such a one reaches in post
pub data IsDataOf (post : List NormalSection) (test : List ℕ → Bool) : List ℕ → Type 0 where
  Itself : (name : List ℕ) → IsTrue (test name) → IsDataOf post test name
  Reached : (from name : List ℕ) → IsTrue (test from) → Reaches post from name →
      IsTrue (is_in is_read_only_class post name) → IsDataOf post test name

-- A reference of post to the interior of a code section can't be kept: it stands in data of both objects, or in
-- read-only data that these reach, and goes to a changed section; or it stands in new data, or in read-only data that
-- these reach, and goes to a section that is neither changed nor added.
pub data IsBroken (pre post : List NormalSection) : List ℕ × Ref → Type 0 where
  OldData : (name : List ℕ) (r : Ref) (code : List ℕ) → IsDataOf post (is_in_both is_data_class pre post) name →
      IsTrue (goes_to code r && is_interior r) → IsChanged pre post code → IsBroken pre post (name, r)
  NewData : (name : List ℕ) (r : Ref) (code : List ℕ) → IsDataOf post (is_new_data pre post) name →
      IsTrue (is_in is_code_class post code && goes_to code r && is_interior r) → (Member pre post code → ⊥) →
      IsBroken pre post (name, r)

-- the references of all sections in order, each with its section's name
abbrev pub places : List NormalSection → List (List ℕ × Ref)
places sections = flat_map (λ section. map (λ r. (section.name, r)) section.refs) sections

-- Changed, added, carried and new data sections in post's order, dropped ones in pre's.
pub record IsExtract (pre post : List NormalSection) (extract : Extract) : Type 0 where
  pub changed : Picks (IsChanged pre post) post extract.changed
  pub added : Picks (IsAdded pre post) post extract.added
  pub carried : Picks (IsCarried pre post) post extract.carried
  pub new_data : Picks (λ name. IsTrue (is_new_data pre post name)) post extract.new_data
  pub dropped : Picks (IsDropped pre post) pre extract.dropped

-- What comes of two objects, the first that fits: a section of post with different data; a broken reference of post;
-- that there are no members; the extract.
pub data Extracts (pre post : List NormalSection) : Result Extract Refusal → Type 0 where
  OtherData : (section : NormalSection) → IsFirst (λ s. DataDiffers pre post s.name) post section →
      Extracts pre post (Err (refusal.DataChanged section.name))
  Broken : (name : List ℕ) (r : Ref) → NoneIs (λ s. DataDiffers pre post s.name) post →
      IsFirst (IsBroken pre post) (places post) (name, r) → Extracts pre post (Err (refusal.Interior name r.offset))
  NoMember : NoneIs (λ s. DataDiffers pre post s.name) post → NoneIs (IsBroken pre post) (places post) →
      ((name : List ℕ) → Member pre post name → ⊥) → Extracts pre post (Err refusal.NoChange)
  Extracted : (name : List ℕ) (extract : Extract) → NoneIs (λ s. DataDiffers pre post s.name) post →
      NoneIs (IsBroken pre post) (places post) → Member pre post name → IsExtract pre post extract →
      Extracts pre post (Ok extract)
