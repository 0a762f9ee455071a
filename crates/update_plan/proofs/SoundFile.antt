-- What is known of the sections of a file that isn't refused: each name stands once.
use Rattle.std.proofs.Common.{◌≡◌, ◌≢◌, ℕ, ◌<◌, List, map, length, get_or, Option, Some, None, refl, subst}
use Rattle.std.specs.Prelude.{Ok}
use Rattle.std.specs.List.{IsDistinct}
use Rattle.std.specs.Cmp.Lexicographic.{bytes_decides}
use Rattle.std.proofs.lemmas.Map.Made.{AllPairs-from_IsDistinct}
use Rattle.ks_base.specs.declared.refusals.Refusal.{Refusal}
use Rattle.i386_reloc.specs.ObjectFault.{ObjectFault}
use Rattle.i386_reloc.specs.Rules.{object_fault}
use Rattle.i386_reloc.specs.declared.types.NormalSection.{NormalSection}
use Rattle.i386_reloc.specs.Normal.{loaded_sections, name_of, same_bytes, section_named}
use Rattle.i386_reloc.specs.Refused.{normal_fault}
use Rattle.i386_reloc.specs.laws.NameLaws.{distinct_names, all_named}
use Rattle.i386_reloc.specs.Sections.{sections_of, sections_unless}
use Rattle.update_plan.proofs.SoundLists.{Has, Pairs, all_has, pairs_of, map_pairs}

pub record IsFile (bytes : List ℕ) (sections : List NormalSection) : Type 0 where
  pub object : object_fault bytes ≡ None
  pub normal : normal_fault bytes ≡ None
  pub is : loaded_sections bytes ≡ sections

file_by : (bytes : List ℕ) (fault : Option ObjectFault) (refusal : Option Refusal) (sections : List NormalSection) →
    object_fault bytes ≡ fault → normal_fault bytes ≡ refusal →
    sections_unless fault refusal (loaded_sections bytes) ≡ Ok sections → IsFile bytes sections
file_by bytes (Some f) refusal sections object normal is = absurd cc
file_by bytes None (Some r) sections object normal is = absurd cc
file_by bytes None None sections object normal is = record { object = object; normal = normal; is = cc }

pub is_file : (bytes : List ℕ) (sections : List NormalSection) → sections_of bytes ≡ Ok sections →
    IsFile bytes sections
unfolding sections_of
is_file bytes sections is = file_by bytes (object_fault bytes) (normal_fault bytes) sections refl refl is

module _ (bytes : List ℕ) (sections : List NormalSection) (file : IsFile bytes sections) where
  pub distinct_in : IsDistinct same_bytes (map name_of sections)
  distinct_in =
      let at_first = distinct_names bytes file.normal in
      subst (λ (s : List NormalSection). IsDistinct same_bytes (map name_of s)) file.is at_first

  pub names_differ : Pairs (λ (a b : NormalSection). a.name ≢ b.name) sections
  names_differ =
      map_pairs name_of (λ a b. a ≢ b) sections
      (pairs_of (λ a b. a ≢ b) (map name_of sections)
      (AllPairs-from_IsDistinct bytes_decides (map name_of sections) distinct_in))

  pub named_itself : (section : NormalSection) → Has sections section →
      section_named sections section.name ≡ Some section
  named_itself section has =
      all_has (λ (s : NormalSection). section_named sections s.name ≡ Some s) sections section
      (subst (λ (ss : List NormalSection). (k : ℕ) (d : NormalSection) → k < length ss →
      section_named ss (get_or ss k d).name ≡ Some (get_or ss k d)) file.is (all_named bytes file.normal))
      has
