-- An object file in the making.
use Rattle.std.specs.Prelude.{◌≡◌, ◌+◌, ◌/◌, ℕ, List, ◌++◌, length, map}
use Rattle.work_gen.specs.declared.types.Draft.{Draft}
use Rattle.work_gen.specs.declared.types.Section.{Section}
use Rattle.work_gen.specs.Encoding.{zeros, name_table}
use Rattle.work_gen.specs.ElfFile.{name_of, contents, section_headers, file_header}

-- that a draft holds some sections: their headers, contents and names
pub record IsDraftOf (sections : List Section) (draft : Draft) : Type 0 where
  pub headed : draft.header_bytes.items ≡ section_headers 52 1 sections
  pub filled : draft.content_bytes.items ≡ contents sections
  pub named : draft.name_bytes.items ≡ name_table (map name_of sections)

-- the file that a draft comes to: each section header has 40 bytes
unfoldable pub drafted_file : Draft → List ℕ
drafted_file draft =
    file_header (52 + length draft.content_bytes.items) (length draft.header_bytes.items / 40)
    ++ draft.content_bytes.items
    ++ zeros 40
    ++ draft.header_bytes.items
