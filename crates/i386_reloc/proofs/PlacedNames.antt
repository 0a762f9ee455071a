-- The place of one more loaded section's name.
use Rattle.std.proofs.Common.{◌≡◌, ℕ, ◌+◌, false, cond, List, Some, is_some, Result, Ok, Err, OnOk, refl, sym, ◌∙◌}
use denote.Ref.{Bor}
use Rattle.std.specs.BTreeMap.{BTreeMap, btree_map_len}
use Rattle.elf32_object.specs.declared.types.Section.{Section}
use Rattle.elf32_object.specs.Fields.{section_name, is_loaded}
use Rattle.ks_base.specs.declared.refusals.Refusal.{Refusal}
use Rattle.ks_base.specs.declared.refusals.Refusal.TheVariants as refusal
use Rattle.elf32_object.specs.Rule.{Finds}
use Rattle.i386_reloc.specs.inside.Loaded.{IsLoadedSection}
use Rattle.i386_reloc.specs.Normal.{same_bytes, loaded_below, normal_section}
use Rattle.i386_reloc.specs.inside.NamePlaces.{HasPlaces, named}
use Rattle.i386_reloc.specs.Refused.{refused_where, name_fault_at}
use Rattle.i386_reloc.specs.laws.NameLaws.{name_fault_loaded, not_refused}
use Rattle.i386_reloc.proofs.LoadedBelow.{loaded_below_more, loaded_below_same}
use Rattle.i386_reloc.proofs.Places.{no_place, has_places_push}

-- whether the name of a loaded section has a place
pub name_fault_read : (bytes : List ℕ) (i : ℕ) (section : Section) (places : BTreeMap (Bor (List ℕ)) ℕ)
    → IsLoadedSection bytes i section → HasPlaces (loaded_below bytes i) places
    → name_fault_at bytes i ≡ refused_where (is_some (named places section.name.now))
    (refusal.DoubleName section.name.now)
name_fault_read bytes i section places read has =
    name_fault_loaded bytes i read.loaded
    ∙ rw (read.name, has.each (section_name bytes i)) refl

-- the places with this name
pub has_places_read : {T : Type 0} (result : Result T Refusal) (bytes : List ℕ) (i : ℕ) (section : Section)
    (before after : BTreeMap (Bor (List ℕ)) ℕ) → IsLoadedSection bytes i section
    → HasPlaces (loaded_below bytes i) before →
    Finds refusal.Memory result (refused_where (is_some (named before section.name.now))
    (refusal.DoubleName section.name.now)) →
    OnOk result (btree_map_len after ≡ btree_map_len before + 1) →
    OnOk result ((q : List ℕ) → named after q ≡ cond (same_bytes section.name.now q) (Some (btree_map_len before))
    (named before q)) →
    OnOk result (HasPlaces (loaded_below bytes (i + 1)) after)
unfolding normal_section
has_places_read (Ok x) bytes i section before after read has finds len each =
    rw (loaded_below_more bytes i read.loaded)
    (has_places_push (loaded_below bytes i) (normal_section bytes i) before after has
    (rw (sym read.name) (no_place _ (not_refused _ _ finds))) len
    (λ q. rw (sym read.name) (each q)))
has_places_read (Err e) bytes i section before after read has finds len each = tt

-- no place for a section that isn't loaded
pub has_places_unloaded : (bytes : List ℕ) (i : ℕ) (places : BTreeMap (Bor (List ℕ)) ℕ) → is_loaded bytes i ≡ false
    → HasPlaces (loaded_below bytes i) places → HasPlaces (loaded_below bytes (i + 1)) places
has_places_unloaded bytes i places unloaded has = rw (loaded_below_same bytes i unloaded) has
