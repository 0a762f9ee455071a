-- An object file that was written of sections has these.
use Rattle.std.proofs.Common.{◌≡◌, ℕ, zero, suc, ◌+◌, ◌-◌, ◌*◌, ◌%◌, ◌<◌, ◌^◌, ◌==◌, ◌||◌, if◌then◌else◌}
use Rattle.std.proofs.Common.{List, [], ◌∷◌, ◌++◌, length, take, drop, map, Some, refl, ap, sym, subst, ◌∙◌}
use Rattle.std.proofs.Common.{arith, length-append, append_assoc}
use Rattle.std.specs.List.{slice_get, flat_map}
use Rattle.std.proofs.lemmas.List.{map-append}
use Rattle.std.proofs.lemmas.Option.{none-some, same_Some, slice_get_within, get_or_from_slice_get}
use Rattle.std.proofs.lemmas.Grind.{flat_map-append}
use Rattle.i386_reloc.specs.Fields.{half_at, word_at, section_header_at, section_header, section_table, section_count}
use Rattle.i386_reloc.specs.Fields.{name_table, bytes_named, section_bytes, section_names, section_name, text_at}
use Rattle.work_gen.specs.declared.types.Section.{Section}
use Rattle.work_gen.specs.Encoding.{ended, padded, zeros, name_table as table_of_names}
use Rattle.work_gen.specs.ElfFile.{name_of, padded_content, contents, section_header as header_bytes, section_headers}
use Rattle.work_gen.specs.ElfFile.{file_header, string_table, section_name_table, file_of, elf_file}
use Rattle.work_forms.specs.ObjectFiles.{IsWritable, AreWritable, IsReadAs}
use Rattle.work_forms.proofs.WrittenLaws.{part_read, name_read, header_length, table_place, table_length, table_names}
use Rattle.work_forms.proofs.WrittenLaws.{FitsWords, header_of, header_length_40, header_behind}

-- the names of sections, each with the zero that ends it
abbrev pub names_of : List Section → List ℕ
names_of sections = flat_map ended (map name_of sections)

-- the contents, the section headers and the names of some sections, one among them
pub contents_split : (before after : List Section) (s : Section)
    → contents (before ++ s ∷ after) ≡ contents before ++ (padded_content s ++ contents after)
unfolding contents
contents_split before after s = flat_map-append padded_content before (s ∷ after)

pub names_split : (before after : List Section) (s : Section)
    → names_of (before ++ s ∷ after) ≡ names_of before ++ (ended s.name ++ names_of after)
names_split before after s =
    ap (flat_map ended) (map-append name_of before (s ∷ after))
    ∙ flat_map-append ended (map name_of before) (map name_of (s ∷ after))

headers_split : (before after : List Section) (s : Section) (first name place' name' : ℕ)
    → first + length (contents before) ≡ place' → name + length (names_of before) ≡ name'
    → section_headers first name (before ++ s ∷ after) ≡ section_headers first name before
    ++ (header_bytes place' name' s
    ++ section_headers (place' + length (padded_content s)) (name' + length s.name + 1) after)
unfolding section_headers contents
headers_split [] after s first name place' name' at named =
    let p : first ≡ place' = omega (arith, at) in
    let n : name ≡ name' = omega (arith, named) in
    ap (λ k. header_bytes k name s
    ++ section_headers (k + length (padded_content s)) (name + length s.name + 1) after) p
    ∙ ap (λ k. header_bytes place' k s
    ++ section_headers (place' + length (padded_content s)) (k + length s.name + 1) after) n
headers_split (b ∷ before) after s first name place' name' at named =
    let next = first + length (padded_content b) in
    let next_name = name + length b.name + 1 in
    let last = header_bytes place' name' s
    ++ section_headers (place' + length (padded_content s)) (name' + length s.name + 1) after in
    let others = headers_split before after s next next_name place' name'
    (omega (arith, at, length-append (padded_content b) (contents before)))
    (omega (arith, named, length-append (ended b.name) (names_of before), length-append b.name (0 ∷ []))) in
    ap (λ bytes. header_bytes first name b ++ bytes) others
    ∙ sym (append_assoc (header_bytes first name b) (section_headers next next_name before) last)

headers_length : (first name : ℕ) (sections : List Section) → length (section_headers first name sections)
    ≡ 40 * length sections
unfolding section_headers
headers_length first name [] = refl
headers_length first name (s ∷ sections) =
    omega (
      arith,
      length-append (header_bytes first name s)
          (section_headers (first + length (padded_content s)) (name + length s.name + 1) sections),
      header_length_40 first name s,
      headers_length (first + length (padded_content s)) (name + length s.name + 1) sections,
    )

-- the parts of a file
abbrev pub front : List Section → List ℕ
front all = file_header (52 + length (contents all)) (length all)

abbrev pub rest_of : List Section → List ℕ
rest_of all = contents all ++ (zeros 40 ++ section_headers 52 1 all)

pub file_parts : (all : List Section) → file_of all ≡ front all ++ rest_of all
unfolding file_of
file_parts all =
    append_assoc (front all ++ contents all) (zeros 40) (section_headers 52 1 all)
    ∙ append_assoc (front all) (contents all) (zeros 40 ++ section_headers 52 1 all)

pub file_length : (all : List Section) → length (file_of all) ≡ 92 + length (contents all) + 40 * length all
file_length all =
    omega (
      arith,
      ap length (file_parts all),
      length-append (front all) (rest_of all),
      header_length (52 + length (contents all)) (length all),
      length-append (contents all) (zeros 40 ++ section_headers 52 1 all),
      length-append (zeros 40) (section_headers 52 1 all),
      headers_length 52 1 all,
    )

-- sections that can be written with their names
pub record AreShort (all : List Section) : Type 0 where
  pub few : length all < 65535
  pub short : length (file_of all) < 2 ^ 32
  pub named : 1 + length (names_of all) < 2 ^ 32

pub table_there : (all : List Section) → AreShort all → section_table (file_of all) ≡ 52 + length (contents all)
unfolding section_table
table_there all are =
    ap (λ bytes. word_at bytes 32) (file_parts all)
    ∙ table_place (52 + length (contents all)) (length all) (rest_of all)
    (let short = are.short in omega (arith, short, file_length all))

pub names_there : (all : List Section) → AreShort all → name_table (file_of all) ≡ length all
unfolding name_table
names_there all are =
    ap (λ bytes. half_at bytes 50) (file_parts all)
    ∙ table_names (52 + length (contents all)) (length all) (rest_of all)
    (let few = are.few in omega (arith, few))

count_there : (all : List Section) → AreShort all → section_count (file_of all) ≡ length all + 1
unfolding section_count
count_there all are =
    ap (λ bytes. half_at bytes 48) (file_parts all)
    ∙ table_length (52 + length (contents all)) (length all) (rest_of all)
    (let few = are.few in omega (arith, few))

-- where the content of a section behind others begins, and where its name does among the names
abbrev pub place_behind : List Section → ℕ
place_behind before = 52 + length (contents before)

abbrev pub name_behind : List Section → ℕ
name_behind before = 1 + length (names_of before)

fits_there : (before after : List Section) (s : Section) → AreShort (before ++ s ∷ after) → IsWritable s
    → FitsWords (place_behind before) (name_behind before) s
unfolding padded
fits_there before after s are is =
    let all = before ++ s ∷ after in
    let short = are.short in
    let named = are.named in
    let size = file_length all in
    let parts = ap length (contents_split before after s) in
    let joined = length-append (contents before) (padded_content s ++ contents after) in
    let this = length-append (padded_content s) (contents after) in
    let filled = length-append s.content (zeros ((4 - length s.content % 4) % 4)) in
    let names = ap length (names_split before after s) in
    let some_names = length-append (names_of before) (ended s.name ++ names_of after) in
    record {
      name_fits = omega (arith, named, names, some_names);
      kind_fits = is.kind_fits;
      flags_fit = is.flags_fit;
      place_fits = omega (arith, short, size, parts, joined);
      size_fits = omega (arith, short, size, parts, joined, this, filled);
      link_fits = is.link_fits;
      info_fits = is.info_fits;
      alignment_fits = is.alignment_fits;
      entry_size_fits = is.entry_size_fits;
    }

pub header_there : (before after : List Section) (s : Section) → AreShort (before ++ s ∷ after) → IsWritable s
    → section_header (file_of (before ++ s ∷ after)) (length before + 1)
    ≡ header_of (place_behind before) (name_behind before) s
unfolding section_header file_of
header_there before after s are is =
    let all = before ++ s ∷ after in
    let place = place_behind before in
    let name = name_behind before in
    let start = front all ++ contents all ++ zeros 40 in
    let headers = section_headers 52 1 before in
    let rest = section_headers (place + length (padded_content s)) (name + length s.name + 1) after in
    let parts : file_of all ≡ (start ++ headers) ++ (header_bytes place name s ++ rest) =
    ap (λ bytes. start ++ bytes) (headers_split before after s 52 1 place name refl refl)
    ∙ sym (append_assoc start headers (header_bytes place name s ++ rest)) in
    let long : section_table (file_of all) + 40 * (length before + 1) ≡ length (start ++ headers) =
    omega (
      arith,
      table_there all are,
      length-append start headers,
      headers_length 52 1 before,
      length-append (front all ++ contents all) (zeros 40),
      length-append (front all) (contents all),
      header_length (52 + length (contents all)) (length all),
    ) in
    ap (section_header_at (file_of all)) long
    ∙ ap (λ bytes. section_header_at bytes (length (start ++ headers))) parts
    ∙ header_behind (start ++ headers) rest place name s (fits_there before after s are is)

content_there : (before after : List Section) (s : Section) → AreShort (before ++ s ∷ after) → IsWritable s
    → bytes_named (file_of (before ++ s ∷ after)) (section_header (file_of (before ++ s ∷ after)) (length before + 1))
    ≡ s.content
unfolding padded
content_there before after s are is =
    let all = before ++ s ∷ after in
    let fill = zeros ((4 - length s.content % 4) % 4) in
    let end = zeros 40 ++ section_headers 52 1 all in
    let rest = fill ++ (contents after ++ end) in
    let parts : file_of all ≡ (front all ++ contents before) ++ (s.content ++ rest) =
    file_parts all ∙ ap (λ bytes. front all ++ (bytes ++ end)) (contents_split before after s) ∙ simp append_assoc in
    ap (bytes_named (file_of all)) (header_there before after s are is)
    ∙ ap (λ bytes. take (length s.content) (drop (place_behind before) bytes)) parts
    ∙ part_read (front all ++ contents before) s.content rest (place_behind before)
    (omega (
      arith,
      length-append (front all) (contents before),
      header_length (52 + length (contents all)) (length all),
    ))

-- all sections of a file: those that were given, and that of their names
abbrev pub with_names : List Section → List Section
with_names sections = sections ++ section_name_table sections ∷ []

pub names_in_table : (sections : List Section)
    → (section_name_table sections).content ≡ 0 ∷ names_of (with_names sections)
unfolding section_name_table string_table table_of_names
names_in_table sections =
    ap (λ names. 0 ∷ flat_map ended names) (sym (map-append name_of sections (section_name_table sections ∷ [])))

pub table_writable : (sections : List Section) → IsWritable (section_name_table sections)
unfolding section_name_table string_table
table_writable sections =
    record {
      kind_fits = omega arith;
      flags_fit = omega arith;
      link_fits = omega arith;
      info_fits = omega arith;
      alignment_fits = omega arith;
      entry_size_fits = omega arith;
      has_bytes = refl;
      name_ends = refl;
    }

pub are_short : (sections : List Section) → AreWritable sections → AreShort (with_names sections)
unfolding elf_file padded
are_short sections are =
    let few = are.few in
    let short = are.short in
    let table = section_name_table sections in
    let all = with_names sections in
    let parts = ap length (contents_split sections [] table) in
    let joined = length-append (contents sections) (padded_content table ++ contents []) in
    let this = length-append (padded_content table) (contents []) in
    let filled = length-append table.content (zeros ((4 - length table.content % 4) % 4)) in
    record {
      few = omega (arith, few, length-append sections (table ∷ []));
      short = short;
      named = omega (arith, short, file_length all, parts, joined, this, filled, ap length (names_in_table sections));
    }

pub count_read : (sections : List Section) → AreWritable sections
    → section_count (elf_file sections) ≡ length sections + 2
unfolding elf_file
count_read sections are =
    omega (
      arith,
      count_there (with_names sections) (are_short sections are),
      length-append sections (section_name_table sections ∷ []),
    )

pub section_names_there : (sections : List Section) → AreWritable sections
    → section_names (elf_file sections) ≡ 0 ∷ names_of (with_names sections)
unfolding section_names elf_file
section_names_there sections are =
    let all = with_names sections in
    let short = are_short sections are in
    let at : name_table (file_of all) ≡ length sections + 1 =
    omega (arith, names_there all short, length-append sections (section_name_table sections ∷ [])) in
    ap (λ i. bytes_named (file_of all) (section_header (file_of all) i)) at
    ∙ content_there sections [] (section_name_table sections) short (table_writable sections)
    ∙ names_in_table sections

-- one section
one_read : (before after : List Section) (s : Section) → AreWritable (before ++ s ∷ after) → IsWritable s
    → IsReadAs (elf_file (before ++ s ∷ after)) (length before + 1) s
unfolding elf_file section_name section_bytes
one_read before after s are is =
    let sections = before ++ s ∷ after in
    let table = section_name_table sections in
    let others = after ++ table ∷ [] in
    let all : with_names sections ≡ before ++ s ∷ others = append_assoc before (s ∷ after) (table ∷ []) in
    let short = subst AreShort all (are_short sections are) in
    let file = file_of (with_names sections) in
    let header : section_header file (length before + 1) ≡ header_of (place_behind before) (name_behind before) s =
    subst (λ sections. section_header (file_of sections) (length before + 1)
    ≡ header_of (place_behind before) (name_behind before) s) (sym all) (header_there before others s short is) in
    let bytes : bytes_named file (section_header file (length before + 1)) ≡ s.content =
    subst (λ sections. bytes_named (file_of sections) (section_header (file_of sections) (length before + 1))
    ≡ s.content) (sym all) (content_there before others s short is) in
    let names : 0 ∷ names_of (with_names sections) ≡ (0 ∷ names_of before) ++ (s.name ++ 0 ∷ names_of others) =
    ap (λ sections. 0 ∷ names_of sections) all
    ∙ ap (λ bytes. 0 ∷ bytes) (names_split before others s)
    ∙ ap (λ bytes. 0 ∷ (names_of before ++ bytes)) (append_assoc s.name (0 ∷ []) (names_of others)) in
    let table_is : section_names file ≡ (0 ∷ names_of before) ++ (s.name ++ 0 ∷ names_of others) =
    section_names_there sections are ∙ names in
    let found : text_at ((0 ∷ names_of before) ++ (s.name ++ 0 ∷ names_of others)) (name_behind before) ≡ s.name =
    name_read (0 ∷ names_of before) s.name (names_of others) (name_behind before) (omega arith) is.name_ends in
    record {
      name = ap (λ bytes. text_at bytes (section_header file (length before + 1)).name) table_is
          ∙ ap (λ header. text_at ((0 ∷ names_of before) ++ (s.name ++ 0 ∷ names_of others)) header.name) header
          ∙ found;
      kind = ap (λ h. h.kind) header;
      flags = ap (λ h. h.flags) header;
      link = ap (λ h. h.link) header;
      info = ap (λ h. h.info) header;
      alignment = ap (λ h. h.align) header;
      entry_size = ap (λ h. h.entry) header;
      content = ap (λ k. if k == 0 || k == 8 then [] else bytes_named file (section_header file (length before + 1)))
          (ap (λ h. h.kind) header)
          ∙ rw is.has_bytes bytes;
    }

-- an item of a list, the items before it and those behind it
pub record Stands {X : Type 0} (xs : List X) (k : ℕ) (x : X) : Type 0 where
  pub before : List X
  pub after : List X
  pub parts : xs ≡ before ++ x ∷ after
  pub place : length before ≡ k

pub stands : {X : Type 0} (xs : List X) (k : ℕ) (x : X) → slice_get xs k ≡ Some x → Stands xs k x
stands [] k x at = absurd (none-some x at)
stands (y ∷ xs) zero x at =
    record { before = []; after = xs; parts = ap (λ z. z ∷ xs) (same_Some y x at); place = refl }
stands (y ∷ xs) (suc k) x at =
    let s = stands xs k x at in
    record {
      before = y ∷ s.before;
      after = s.after;
      parts = ap (λ zs. y ∷ zs) s.parts;
      place = ap suc s.place;
    }

-- The content of section i stands in a file, where its header says.
pub record HasContent (file : List ℕ) (i : ℕ) (content : List ℕ) : Type 0 where
  pub before : List ℕ
  pub rest : List ℕ
  pub parts : file ≡ before ++ (content ++ rest)
  pub offset : (section_header file i).offset ≡ length before
  pub size : (section_header file i).size ≡ length content

pub named_bytes : (file : List ℕ) (i : ℕ) (content : List ℕ) → HasContent file i content
    → bytes_named file (section_header file i) ≡ content
named_bytes file i content has =
    ap (λ n. take n (drop (section_header file i).offset file)) has.size
    ∙ ap (λ bytes. take (length content) (drop (section_header file i).offset bytes)) has.parts
    ∙ part_read has.before content has.rest (section_header file i).offset (sym has.offset)

pub content_placed : (before after : List Section) (s : Section) → AreShort (before ++ s ∷ after) → IsWritable s
    → HasContent (file_of (before ++ s ∷ after)) (length before + 1) s.content
unfolding padded
content_placed before after s are is =
    let all = before ++ s ∷ after in
    let fill = zeros ((4 - length s.content % 4) % 4) in
    let end = zeros 40 ++ section_headers 52 1 all in
    let header = header_there before after s are is in
    record {
      before = front all ++ contents before;
      rest = fill ++ (contents after ++ end);
      parts = file_parts all ∙ ap (λ bytes. front all ++ (bytes ++ end)) (contents_split before after s)
          ∙ simp append_assoc;
      offset = ap (λ h. h.offset) header
          ∙ omega (
            arith,
            length-append (front all) (contents before),
            header_length (52 + length (contents all)) (length all),
          );
      size = ap (λ h. h.size) header;
    }

pub content_read : (sections : List Section) (k : ℕ) (section : Section) → AreWritable sections
    → slice_get sections k ≡ Some section → HasContent (elf_file sections) (k + 1) section.content
unfolding elf_file
content_read sections k section are at =
    let s = stands sections k section at in
    let table = section_name_table sections in
    let all : with_names sections ≡ s.before ++ section ∷ (s.after ++ table ∷ []) =
    ap (λ xs. xs ++ table ∷ []) s.parts ∙ append_assoc s.before (section ∷ s.after) (table ∷ []) in
    let short = subst AreShort all (are_short sections are) in
    let is = subst IsWritable (get_or_from_slice_get sections k section section at)
    (are.each k section (slice_get_within sections k section at)) in
    subst (λ n. HasContent (file_of (with_names sections)) (n + 1) section.content) s.place
    (subst (λ xs. HasContent (file_of xs) (length s.before + 1) section.content) (sym all)
    (content_placed s.before (s.after ++ table ∷ []) section short is))

pub section_read : (sections : List Section) (k : ℕ) (section : Section) → AreWritable sections
    → slice_get sections k ≡ Some section → IsReadAs (elf_file sections) (k + 1) section
section_read sections k section are at =
    let s = stands sections k section at in
    let all = s.parts in
    let each = subst AreWritable all are in
    let is = subst IsWritable (get_or_from_slice_get sections k section section at)
    (are.each k section (slice_get_within sections k section at)) in
    subst (λ n. IsReadAs (elf_file sections) (n + 1) section) s.place
    (subst (λ sections. IsReadAs (elf_file sections) (length s.before + 1) section) (sym all)
    (one_read s.before s.after section each is))
