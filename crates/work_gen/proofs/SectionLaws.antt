-- Sections that are added to a draft one by one.
use Rattle.std.proofs.Common.{◌≡◌, ℕ, ◌+◌, ◌*◌, ◌/◌, List, [], ◌∷◌, ◌++◌, map, length, append_assoc, ap, sym, refl}
use Rattle.std.proofs.Common.{◌∙◌, codes, arith, length-append}
use Rattle.std.specs.List.{flat_map}
use Rattle.std.proofs.lemmas.List.{append-nil, map-append, flat_map_more}
use Rattle.work_gen.specs.declared.types.Draft.{Draft}
use Rattle.work_gen.specs.declared.types.Section.{Section}
use Rattle.work_gen.specs.Encoding.{ended, name_table, padded}
use Rattle.work_gen.specs.ElfFile.{name_of, padded_content, contents, section_header, section_headers}
use Rattle.work_gen.specs.ElfFile.{file_of, section_name_table, string_table}
use Rattle.work_gen.specs.inside.Drafts.{IsDraftOf, drafted_file}

-- the headers of sections and of one more
headers_more : (place name : ℕ) (sections : List Section) (section : Section)
    → section_headers place name (sections ++ section ∷ [])
    ≡ section_headers place name sections
    ++ section_header (place + length (contents sections)) (name + length (flat_map ended (map name_of sections))) section
unfolding section_headers contents
headers_more place name [] section =
    let p : place + 0 ≡ place = omega arith in
    let n : name + 0 ≡ name = omega arith in
    append-nil (section_header place name section)
    ∙ ap (λ k. section_header k name section) (sym p)
    ∙ ap (λ k. section_header (place + 0) k section) (sym n)
headers_more place name (first ∷ sections) section =
    let next = place + length (padded_content first) in
    let named = name + length first.name + 1 in
    let p : next + length (contents sections) ≡ place + length (padded_content first ++ flat_map padded_content sections)
    = omega (arith, length-append (padded_content first) (flat_map padded_content sections)) in
    let n : named + length (flat_map ended (map name_of sections))
    ≡ name + length (ended first.name ++ flat_map ended (map name_of sections))
    = omega (
      arith,
      length-append (ended first.name) (flat_map ended (map name_of sections)),
      length-append first.name (0 ∷ []),
    ) in
    ap (λ l. section_header place name first ++ l) (headers_more next named sections section)
    ∙ sym (append_assoc (section_header place name first) (section_headers next named sections) _)
    ∙ ap (λ k. section_headers place name (first ∷ sections) ++ section_header k
    (named + length (flat_map ended (map name_of sections))) section) p
    ∙ ap (λ k. section_headers place name (first ∷ sections) ++ section_header
    (place + length (padded_content first ++ flat_map padded_content sections)) k section) n

-- each header has 40 bytes
length-headers : (place name : ℕ) (sections : List Section) → length (section_headers place name sections)
    ≡ 40 * length sections
unfolding section_headers section_header
length-headers place name [] = refl
length-headers place name (section ∷ sections) =
    omega (
      arith,
      length-headers (place + length (padded_content section)) (name + length section.name + 1) sections,
    )

pub names_more : (names : List (List ℕ)) (name : List ℕ) → name_table names ++ ended name
    ≡ name_table (names ++ name ∷ [])
unfolding name_table
names_more names name = flat_map_more ended (0 ∷ []) names name

-- a draft to which a section was added
pub draft_more : (sections : List Section) (section : Section) (old new : Draft) → IsDraftOf sections old
    → new.header_bytes.items ≡ old.header_bytes.items
    ++ section_header (52 + length old.content_bytes.items) (length old.name_bytes.items) section
    → new.content_bytes.items ≡ old.content_bytes.items ++ padded section.content
    → new.name_bytes.items ≡ old.name_bytes.items ++ ended section.name
    → IsDraftOf (sections ++ section ∷ []) new
unfolding contents name_table
draft_more sections section old new is headers content names =
    let names_are : name_table (map name_of sections) ≡ 0 ∷ flat_map ended (map name_of sections) = refl in
    let long : length old.name_bytes.items ≡ 1 + length (flat_map ended (map name_of sections))
    = omega (arith, ap length is.named) in
    record {
      headed =
          headers
          ∙ ap (λ l. l ++ section_header (52 + length old.content_bytes.items) (length old.name_bytes.items) section)
          is.headed
          ∙ ap (λ l. section_headers 52 1 sections
          ++ section_header (52 + length l) (length old.name_bytes.items) section) is.filled
          ∙ ap (λ k. section_headers 52 1 sections ++ section_header (52 + length (contents sections)) k section) long
          ∙ sym (headers_more 52 1 sections section);
      filled =
          content
          ∙ ap (λ l. l ++ padded section.content) is.filled
          ∙ flat_map_more padded_content [] sections section;
      named =
          names
          ∙ ap (λ l. l ++ ended section.name) is.named
          ∙ names_more (map name_of sections) section.name
          ∙ ap name_table (sym (map-append name_of sections (section ∷ [])));
    }

-- the file of a draft that holds some sections
pub drafted : (sections : List Section) (draft : Draft) → IsDraftOf sections draft → drafted_file draft ≡ file_of sections
unfolding drafted_file file_of
drafted sections draft is =
    let last : length draft.header_bytes.items / 40 ≡ length sections
    = omega (arith, ap length is.headed, length-headers 52 1 sections) in
    rw (last, is.filled, is.headed) refl

-- the section of names behind those before it
pub name_table_is : (sections : List Section) → string_table (codes ".shstrtab")
    (name_table (map name_of sections) ++ ended (codes ".shstrtab")) ≡ section_name_table sections
unfolding section_name_table
name_table_is sections = ap (string_table (codes ".shstrtab")) (names_more (map name_of sections) (codes ".shstrtab"))
