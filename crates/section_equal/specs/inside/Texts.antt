-- What is known of the bytes before the ends of texts.
use Rattle.std.specs.Prelude.{◌≡◌, ◌≢◌, ℕ, suc, ◌+◌, ◌<◌, ◌≤◌, Bool, false, ◌&&◌, ◌||◌}
use Rattle.std.specs.Prelude.{◌==◌, List, length, All, Option, Some, None, IsSomeAnd}
use Rattle.std.specs.List.{slice_get, slice_index, slice_index_or}
use Rattle.std.specs.BTreeMap.{BTreeMap}
use Rattle.i386_reloc.specs.declared.types.NormalSection.{NormalSection}
use Rattle.i386_reloc.specs.declared.types.Ref.{Ref}
use Rattle.i386_reloc.specs.declared.types.Target.{Target}
use Rattle.i386_reloc.specs.declared.types.Target.TheVariants.{Section, Outside, Text}
use Rattle.i386_reloc.specs.Classes.{is_strings_class}
use Rattle.i386_reloc.specs.Normal.{same_bytes}
use Rattle.i386_reloc.specs.Texts.{StandsAt}
use Rattle.i386_reloc.specs.Places.{bytes_at, references_in}
use Rattle.section_equal.specs.Same.{same_class, same_form}
use Rattle.section_equal.specs.declared.texts.Ends.{Ends}

-- As many bytes before an end in one list of bytes are those before an end in another.
pub record Agree (old new : List ℕ) (old_end new_end count : ℕ) : Type 0 where
  pub in_old : count ≤ old_end
  pub in_new : count ≤ new_end
  pub each : (i j : ℕ) → i < old_end → old_end ≤ i + count → i + new_end ≡ j + old_end
      → slice_index old i ≡ slice_index new j

-- the greatest such number up to a bound
pub record AgreeFor (old new : List ℕ) (old_end new_end bound count : ℕ) : Type 0 where
  pub agree : Agree old new old_end new_end count
  pub within : count ≤ bound
  pub differs : (i j : ℕ) → count < bound → i + suc count ≡ old_end → j + suc count ≡ new_end
      → slice_index old i ≢ slice_index new j

-- the references of the section at a place
abbrev pub refs_at : List NormalSection → ℕ → List Ref
refs_at sections place = references_in (slice_get sections place)

-- so many bytes before the ends are equal
abbrev pub IsKnown : (pre post : List NormalSection) → Ends → ℕ → Type 0
IsKnown pre post ends count =
    Agree (bytes_at pre ends.old_place) (bytes_at post ends.new_place) ends.old_end ends.new_end count

-- of all that is kept
abbrev pub AreKnown : (pre post : List NormalSection) → BTreeMap Ends ℕ → Type 0
AreKnown pre post known = All (λ e. IsKnown pre post e.0 e.1) known.entries

abbrev pub AreKept : (pre post : List NormalSection) → Option (BTreeMap Ends ℕ) → Type 0
AreKept pre post None = Unit {0}
AreKept pre post (Some known) = AreKnown pre post known

-- a text ends before an end in a list of bytes
pub record EndsIn (bytes : List ℕ) (end : ℕ) (text : List ℕ) : Type 0 where
  pub within : end ≤ length bytes
  pub long : length text ≤ end
  pub each : (i j : ℕ) → i < length text → j + length text ≡ i + end → slice_index text i ≡ slice_index bytes j

-- where a target is a text, the section at a place holds it
abbrev pub HoldsAt : List NormalSection → ℕ → ℕ → List ℕ → Type 0
HoldsAt sections place offset text = IsSomeAnd (slice_get sections place) (λ section. StandsAt section offset text)

abbrev pub HoldsTarget : List NormalSection → ℕ → Target → Type 0
HoldsTarget sections place (Section name) = Unit {0}
HoldsTarget sections place (Outside name) = Unit {0}
HoldsTarget sections place (Text name offset text) = HoldsAt sections place offset text

-- the two objects that are compared
pub record Compared : Type 0 where
  pub pre : List NormalSection
  pub post : List NormalSection

-- what two references have in common without their targets
abbrev pub same_field : Ref → Ref → Bool
same_field a b = a.offset == b.offset && same_form a.form b.form && a.addend == b.addend

-- and two sections without their references
abbrev pub same_content : NormalSection → NormalSection → Bool
same_content old new =
    same_class old.class new.class && (is_strings_class old.class || old.size == new.size
    && same_bytes old.bytes new.bytes)

-- the mark at a place, false where there is none
abbrev pub mark_at : List Bool → Option ℕ → Bool
mark_at marks None = false
mark_at marks (Some place) = slice_index_or marks place false
