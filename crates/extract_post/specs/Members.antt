-- Which functions an update replaces, adds and drops, and which data it brings with it.
use Rattle.std.specs.Prelude.{◌≡◌, IsTrue, ◌⊎◌, ℕ, Bool, not, ◌&&◌, List, [], All, is_some}
use Rattle.i386_reloc.specs.declared.types.Class.{Class}
use Rattle.i386_reloc.specs.declared.types.Class.TheVariants.{Strings}
use Rattle.i386_reloc.specs.declared.types.NormalSection.{NormalSection}
use Rattle.i386_reloc.specs.Classes.{is_code_class}
use Rattle.i386_reloc.specs.Normal.{section_named}
use Rattle.section_equal.specs.Same.{same_in}
use Rattle.i386_reloc.specs.Reaches.{is_read_only_class, is_data_class, is_in}
use Rattle.i386_reloc.specs.Reaches.{some_reference, goes_to, is_interior, Reaches}

-- whether an object has a section of this name
abbrev pub is_there : List NormalSection → List ℕ → Bool
is_there sections name = is_some (section_named sections name)

-- a section that is read-only in an object, and isn't the same in both
abbrev pub is_changed_read_only : (of pre post : List NormalSection) → List ℕ → Bool
is_changed_read_only of pre post name = is_in is_read_only_class of name && not (same_in pre post name)

-- In one of two objects a section reaches one that is read-only there, and isn't the same in both.
pub data ReachesChanged (pre post : List NormalSection) (name : List ℕ) : Type 0 where
  InPre : (other : List ℕ) → Reaches pre name other → IsTrue (is_changed_read_only pre pre post other) →
      ReachesChanged pre post name
  InPost : (other : List ℕ) → Reaches post name other → IsTrue (is_changed_read_only post pre post other) →
      ReachesChanged pre post name

-- whether both objects have a section of this name, of a wanted class in each
abbrev pub is_in_both : (Class → Bool) → List NormalSection → List NormalSection → List ℕ → Bool
is_in_both wanted pre post name = is_in wanted pre name && is_in wanted post name

-- A code section of both objects differs where it isn't the same, or in one of them reaches a read-only section that
-- isn't.
pub data Differs (pre post : List NormalSection) : List ℕ → Type 0 where
  Itself : (name : List ℕ) → IsTrue (is_in_both is_code_class pre post name) → IsTrue (not (same_in pre post name)) →
      Differs pre post name
  Through : (name : List ℕ) → IsTrue (is_in_both is_code_class pre post name) → ReachesChanged pre post name →
      Differs pre post name

-- whether the section of a name has a reference to the interior of a code section of another name
abbrev pub points_into : List NormalSection → List ℕ → List ℕ → Bool
points_into sections name code =
    is_in is_code_class sections code && some_reference (λ r. goes_to code r && is_interior r)
    (section_named sections name)

-- A section has a reference to the interior of a code section, itself or in a read-only section that it reaches.
pub data PointsInto (sections : List NormalSection) : List ℕ → List ℕ → Type 0 where
  Itself : (name code : List ℕ) → IsTrue (points_into sections name code) → PointsInto sections name code
  Through : (name between code : List ℕ) → Reaches sections name between →
      IsTrue (is_in is_read_only_class sections between) → IsTrue (points_into sections between code) →
      PointsInto sections name code

-- Two code sections are tied where, in either object, one of them has a reference to the interior of the other, itself
-- or in a read-only section that it reaches.
pub data Tied (pre post : List NormalSection) : List ℕ → List ℕ → Type 0 where
  InPre : (a b : List ℕ) → IsTrue (is_in is_code_class pre a) → PointsInto pre a b → Tied pre post a b
  InPost : (a b : List ℕ) → IsTrue (is_in is_code_class post a) → PointsInto post a b → Tied pre post a b
  Back : (a b : List ℕ) → Tied pre post a b → Tied pre post b a

-- The members: code sections that differ, those of post alone, and each one that is tied to a member.
pub data Member (pre post : List NormalSection) : List ℕ → Type 0 where
  Differing : (name : List ℕ) → Differs pre post name → Member pre post name
  OnlyInPost : (name : List ℕ) → IsTrue (is_in is_code_class post name && not (is_there pre name)) →
      Member pre post name
  Joined : (name other : List ℕ) → Member pre post name → Tied pre post name other → Member pre post other

-- Members of both objects are changed, members of post alone are added, members of pre alone are dropped.
abbrev pub IsChanged : List NormalSection → List NormalSection → List ℕ → Type 0
IsChanged pre post name = Member pre post name × IsTrue (is_in_both is_code_class pre post name)

abbrev pub IsAdded : List NormalSection → List NormalSection → List ℕ → Type 0
IsAdded pre post name = Member pre post name × IsTrue (is_in is_code_class post name && not (is_there pre name))

abbrev pub IsDropped : List NormalSection → List NormalSection → List ℕ → Type 0
IsDropped pre post name = Member pre post name × IsTrue (is_in is_code_class pre name && not (is_there post name))

-- New data are the data sections of post alone.
abbrev pub is_new_data : List NormalSection → List NormalSection → List ℕ → Bool
is_new_data pre post name = is_in is_data_class post name && not (is_there pre name)

-- Carried are the sections of read-only data and texts that changed, added or new data sections reach in post.
pub record IsCarried (pre post : List NormalSection) (name : List ℕ) : Type 0 where
  pub from : List ℕ
  pub brought : (Member pre post from × IsTrue (is_in is_code_class post from)) ⊎ IsTrue (is_new_data pre post from)
  pub reaches : Reaches post from name

-- no section of texts has a reference
abbrev pub TextsReferToNothing : List NormalSection → Type 0
TextsReferToNothing sections = All (λ section. section.class ≡ Strings → section.refs ≡ []) sections
