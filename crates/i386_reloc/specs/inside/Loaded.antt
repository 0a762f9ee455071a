-- A loaded section as it is read.
use Rattle.std.specs.Prelude.{◌≡◌, ◌≤◌, ℕ, true, List, length}
use Rattle.elf32_object.specs.declared.types.Section.{Section}
use Rattle.elf32_object.specs.Fields.{section_header, section_name, section_bytes, is_loaded}

-- section i is loaded, and this is it
pub record IsLoadedSection (bytes : List ℕ) (i : ℕ) (section : Section) : Type 0 where
  pub loaded : is_loaded bytes i ≡ true
  pub name : section.name.now ≡ section_name bytes i
  pub kind : section.kind ≡ (section_header bytes i).kind
  pub flags : section.flags ≡ (section_header bytes i).flags
  pub entry : section.entry ≡ (section_header bytes i).entry
  pub align : section.align ≡ (section_header bytes i).align
  pub size : section.size ≡ (section_header bytes i).size
  pub bytes_are : section.bytes.now ≡ section_bytes bytes i
  pub small : length section.bytes.now ≤ 8388608
