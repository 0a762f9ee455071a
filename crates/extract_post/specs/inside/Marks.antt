-- Marks of sections: a list of marks has a place for each section.
use Rattle.std.specs.Prelude.{◌≡◌, ◌⊎◌, ◌<◌, ℕ, ◌+◌, Bool, true, false, not, ◌&&◌, ◌||◌}
use Rattle.std.specs.Prelude.{List, [], ◌∷◌, length, map, Option, Some, None, position}
use Rattle.std.specs.List.{slice_get, slice_index_or}
use Rattle.reachability.specs.Reached.{Tells}
use Rattle.i386_reloc.specs.declared.types.Ref.{Ref}
use Rattle.i386_reloc.specs.declared.types.NormalSection.{NormalSection}
use Rattle.i386_reloc.specs.Classes.{is_code_class}
use Rattle.section_equal.specs.Same.{same_in}
use Rattle.i386_reloc.specs.Reaches.{is_read_only_class, is_in, is_interior}
use Rattle.extract_post.specs.Members.{is_changed_read_only, ReachesChanged, Member}
use Rattle.extract_post.specs.inside.Closures.{SeedReaches, ReachesSeed}
use Rattle.i386_reloc.specs.Places.{place_of_target}

-- whether the section at a place is marked
abbrev pub marked : List Bool → ℕ → Bool
marked marks place = slice_index_or marks place false

-- marks that tell of each section whether its name has a property; and that are as many
abbrev pub TellEach : (List ℕ → Type 0) → List NormalSection → List Bool → Type 0
TellEach P sections marks =
    (place : ℕ) (section : NormalSection) → slice_get sections place ≡ Some section
    → Tells (marked marks place) (P section.name)

pub record TellWhich (P : List ℕ → Type 0) (sections : List NormalSection) (marks : List Bool) : Type 0 where
  pub len : length marks ≡ length sections
  pub each : TellEach P sections marks

-- the marks of a test of names
abbrev pub tests : (List ℕ → Bool) → List NormalSection → List Bool
tests test sections = map (λ section. test section.name) sections

-- marks that tell which sections are marked or reach a marked one; and which are marked or reached from one
pub record TellReaching (sections : List NormalSection) (seeds marks : List Bool) : Type 0 where
  pub len : length marks ≡ length sections
  pub each : (place : ℕ) (section : NormalSection) → slice_get sections place ≡ Some section →
      Tells (marked marks place) ((marked seeds place ≡ true) ⊎ ReachesSeed sections seeds section.name)

pub record TellReached (sections : List NormalSection) (seeds marks : List Bool) : Type 0 where
  pub len : length marks ≡ length sections
  pub each : (place : ℕ) (section : NormalSection) → slice_get sections place ≡ Some section →
      Tells (marked marks place) ((marked seeds place ≡ true) ⊎ SeedReaches sections seeds section.name)

-- whether the section of a name isn't the same in both objects
abbrev pub is_other : List NormalSection → List NormalSection → List ℕ → Bool
is_other pre post name = not (same_in pre post name)

-- marks of post's sections that tell which aren't the same in both or reach changed read-only data, of those that are
-- none in either object
pub record TellChanged (pre post : List NormalSection) (marks : List Bool) : Type 0 where
  pub len : length marks ≡ length post
  pub each : (place : ℕ) (section : NormalSection) → slice_get post place ≡ Some section →
      is_changed_read_only pre pre post section.name ≡ false → is_changed_read_only post pre post section.name ≡ false →
      Tells (marked marks place) ((is_other pre post section.name ≡ true) ⊎ ReachesChanged pre post section.name)

-- what the search for members has found in both objects: the marks of post's sections come first
pub record TellMembers (pre post : List NormalSection) (nodes : List Bool) : Type 0 where
  pub in_pre : (place : ℕ) (section : NormalSection) → slice_get pre place ≡ Some section →
      Tells (marked nodes (length post + place)) (Member pre post section.name)
  pub in_post : TellEach (Member pre post) post nodes

-- the marks that both lists have, and that either has
pub record AreBoth (a b both : List Bool) : Type 0 where
  pub len : length both ≡ length a
  pub each : (place : ℕ) → marked both place ≡ (marked a place && marked b place)

pub record AreEither (a b either : List Bool) : Type 0 where
  pub len : length either ≡ length a
  pub each : (place : ℕ) → marked either place ≡ (marked a place || marked b place)

-- the marks that the first list has and the second doesn't
pub record AreApart (a b apart : List Bool) : Type 0 where
  pub len : length apart ≡ length a
  pub each : (place : ℕ) → marked apart place ≡ (marked a place && not (marked b place))

-- so many of the marks, from a place on
pub record ArePart (marks : List Bool) (from count : ℕ) (part : List Bool) : Type 0 where
  pub len : length part ≡ count
  pub each : (place : ℕ) → place < count → marked part place ≡ marked marks (from + place)

-- whether the section at a place is marked, where there is one
abbrev pub marked_at : List Bool → Option ℕ → Bool
marked_at marks None = false
marked_at marks (Some place) = marked marks place

-- the names of marked sections, in order
abbrev pub marked_names : List NormalSection → List Bool → List (List ℕ)
marked_names [] marks = []
marked_names (section ∷ sections) [] = []
marked_names (section ∷ sections) (true ∷ marks) = section.name ∷ marked_names sections marks
marked_names (section ∷ sections) (false ∷ marks) = marked_names sections marks

-- whether a reference in old or new data goes to the interior of a marked section
abbrev pub breaks_at : (old new : Bool) (changed stays : List Bool) → Option ℕ → Bool
breaks_at old new changed stays None = false
breaks_at old new changed stays (Some place) = old && marked changed place || new && marked stays place

abbrev pub breaks : List NormalSection → (old new : Bool) (changed stays : List Bool) → Ref → Bool
breaks post old new changed stays r = is_interior r && breaks_at old new changed stays (place_of_target post r.target)

-- marks that tell which sections are starts, or read-only data that a start reaches
pub record TellDataOf (post : List NormalSection) (starts marks : List Bool) : Type 0 where
  pub len : length marks ≡ length post
  pub each : (place : ℕ) (section : NormalSection) → slice_get post place ≡ Some section →
      Tells (marked marks place) (((marked starts place ≡ true) ⊎ SeedReaches post starts section.name)
      × ((is_in is_read_only_class post section.name ≡ true) ⊎ (marked starts place ≡ true)))

-- the first reference that breaks, of the section at a place
abbrev pub breaks_in : List NormalSection → (old new changed stays : List Bool) → ℕ → NormalSection → Option ℕ
breaks_in post old new changed stays place section =
    position (breaks post (marked old place) (marked new place) changed stays) section.refs

-- no section before a place has one
abbrev pub NoBreakBelow : List NormalSection → (old new changed stays : List Bool) → ℕ → Type 0
NoBreakBelow post old new changed stays n =
    (place : ℕ) (section : NormalSection) → place < n → slice_get post place ≡ Some section
    → breaks_in post old new changed stays place section ≡ None

-- the places of the first section that has one, and of its first one
abbrev pub FirstBreak : List NormalSection → (old new changed stays : List Bool) → Option (ℕ × ℕ) → Type 0
FirstBreak post old new changed stays None = NoBreakBelow post old new changed stays (length post)
FirstBreak post old new changed stays (Some found) =
    NoBreakBelow post old new changed stays found.0 × FoundIn (slice_get post found.0) where
      FoundIn : Option NormalSection → Type 0
      FoundIn None = ⊥
      FoundIn (Some section) = (breaks_in post old new changed stays found.0 section ≡ Some found.1)
          × (found.1 < length section.refs)

-- a code section of post that is no member
abbrev pub Stays : List NormalSection → List NormalSection → List ℕ → Type 0
Stays pre post name = (is_in is_code_class post name ≡ true) × (Member pre post name → ⊥)
