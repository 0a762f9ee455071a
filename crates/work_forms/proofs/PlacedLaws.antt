-- Each section of a file that was written, that of the names too, stands where its header says.
use Rattle.std.proofs.Common.{◌≡◌, ℕ, ◌+◌, ◌≤◌, ◌||◌, Bool, true, false, not, nat_le, List, [], ◌∷◌}
use Rattle.std.proofs.Common.{◌++◌, length, take, drop, Some, None, refl, ap, sym, subst, ◌∙◌, arith, length-append}
use Rattle.std.proofs.Common.{append_assoc}
use Rattle.std.specs.List.{slice_get, list_any, position_or_len, All}
use Rattle.std.proofs.lemmas.Bool.Decides.{nat_tests}
use Rattle.std.proofs.lemmas.List.Elements.{All-nil, All-cons, All-append}
use Rattle.std.proofs.lemmas.Option.{slice_get_within, get_or_from_slice_get}
use Rattle.i386_reloc.specs.Fields.{section_header, section_names, section_name, is_zero, ends_in, lies_in_file}
use Rattle.i386_reloc.specs.Fields.{has_no_bytes, is_loaded}
use Rattle.i386_reloc.specs.Rules.{place_fault, can_be_loaded}
use Rattle.work_gen.specs.declared.types.Section.{Section}
use Rattle.work_gen.specs.ElfFile.{section_name_table, file_of, elf_file}
use Rattle.work_forms.specs.ObjectFiles.{IsWritable, AreWritable}
use Rattle.work_forms.proofs.WrittenLaws.{drop_front, first_name, header_of}
use Rattle.work_forms.proofs.SectionLaws.{names_of, with_names, names_split, AreShort, are_short, table_writable}
use Rattle.work_forms.proofs.SectionLaws.{header_there, section_names_there, HasContent, content_placed, stands}
use Rattle.work_forms.proofs.SectionLaws.{place_behind, name_behind}

pub record IsPlaced (file : List ℕ) (i : ℕ) (s : Section) : Type 0 where
  pub content : HasContent file i s.content
  pub rest : List ℕ
  pub named : drop (section_header file i).name (section_names file) ≡ s.name ++ 0 ∷ rest
  pub name : section_name file i ≡ s.name
  pub kind : (section_header file i).kind ≡ s.kind
  pub flags : (section_header file i).flags ≡ s.flags
  pub link : (section_header file i).link ≡ s.link
  pub info : (section_header file i).info ≡ s.info
  pub alignment : (section_header file i).align ≡ s.alignment
  pub entry_size : (section_header file i).entry ≡ s.entry_size

placed_behind : (sections before after : List Section) (s : Section) → AreWritable sections → IsWritable s
    → with_names sections ≡ before ++ s ∷ after → IsPlaced (elf_file sections) (length before + 1) s
unfolding elf_file section_name
placed_behind sections before after s are is all =
    let short = subst AreShort all (are_short sections are) in
    let file = file_of (with_names sections) in
    let i = length before + 1 in
    let header : section_header file i ≡ header_of (place_behind before) (name_behind before) s =
    subst (λ xs. section_header (file_of xs) i ≡ header_of (place_behind before) (name_behind before) s) (sym all)
    (header_there before after s short is) in
    let names : section_names file ≡ (0 ∷ names_of before) ++ (s.name ++ 0 ∷ names_of after) =
    section_names_there sections are
    ∙ ap (λ xs. 0 ∷ names_of xs) all
    ∙ ap (λ bytes. 0 ∷ bytes) (names_split before after s)
    ∙ ap (λ bytes. 0 ∷ (names_of before ++ bytes)) (append_assoc s.name (0 ∷ []) (names_of after)) in
    let named : drop (section_header file i).name (section_names file) ≡ s.name ++ 0 ∷ names_of after =
    ap (λ h. drop h.name (section_names file)) header
    ∙ ap (drop (name_behind before)) names
    ∙ drop_front (0 ∷ names_of before) (s.name ++ 0 ∷ names_of after) (name_behind before) (omega arith) in
    record {
      content = subst (λ xs. HasContent (file_of xs) i s.content) (sym all) (content_placed before after s short is);
      rest = names_of after;
      named = named;
      name = ap (λ bytes. take (position_or_len is_zero bytes) bytes) named
          ∙ first_name s.name (names_of after) is.name_ends;
      kind = ap (λ h. h.kind) header;
      flags = ap (λ h. h.flags) header;
      link = ap (λ h. h.link) header;
      info = ap (λ h. h.info) header;
      alignment = ap (λ h. h.align) header;
      entry_size = ap (λ h. h.entry) header;
    }

pub placed : (sections : List Section) (k : ℕ) (s : Section) → AreWritable sections
    → slice_get (with_names sections) k ≡ Some s → IsPlaced (elf_file sections) (k + 1) s
placed sections k s are at =
    let all = with_names sections in
    let each : All IsWritable all = All-append IsWritable sections (section_name_table sections ∷ []) are.each
    (All-cons IsWritable (section_name_table sections) [] (table_writable sections) (All-nil IsWritable)) in
    let is = subst IsWritable (get_or_from_slice_get all k s s at) (each k s (slice_get_within all k s at)) in
    let there = stands all k s at in
    subst (λ n. IsPlaced (elf_file sections) (n + 1) s) there.place
    (placed_behind sections there.before there.after s are is there.parts)

-- a section's name ends, and its content lies in the file
pub or_true : (b : Bool) → (b || true) ≡ true
or_true true = refl
or_true false = refl

pub zero_in : (name rest : List ℕ) → list_any is_zero (name ++ 0 ∷ rest) ≡ true
zero_in [] rest = refl
zero_in (x ∷ name) rest = rw (zero_in name rest) (or_true (is_zero x))

pub name_ends : (file : List ℕ) (i : ℕ) (s : Section) → IsPlaced file i s
    → ends_in (section_names file) (section_header file i).name ≡ true
name_ends file i s is = ap (list_any is_zero) is.named ∙ zero_in s.name is.rest

pub lies : (file : List ℕ) (i : ℕ) (content : List ℕ) → HasContent file i content
    → lies_in_file file (section_header file i) ≡ true
lies file i content has =
    let offset = has.offset in
    let size = has.size in
    let long : length file ≡ length has.before + (length content + length has.rest) =
    ap length has.parts
    ∙ omega (arith, length-append has.before (content ++ has.rest), length-append content has.rest) in
    let within : (section_header file i).offset + (section_header file i).size ≤ length file =
    omega (arith, offset, size, long) in
    grind (arith, nat_tests)

pub place_kept : (file : List ℕ) (i : ℕ) (s : Section) → IsPlaced file i s → length s.name ≤ 4096
    → can_be_loaded (section_header file i) ≡ true → place_fault file i ≡ None
unfolding place_fault
place_kept file i s is few can =
    let short : nat_le (length (section_name file i)) 4096 ≡ true =
    ap (λ name. nat_le (length name) 4096) is.name ∙ (grind (arith, nat_tests)) in
    let there : (has_no_bytes (section_header file i) || lies_in_file file (section_header file i)) ≡ true =
    ap (λ b. has_no_bytes (section_header file i) || b) (lies file i s.content is.content)
    ∙ or_true (has_no_bytes (section_header file i)) in
    let loads : (not (is_loaded file i) || can_be_loaded (section_header file i)) ≡ true =
    ap (λ b. not (is_loaded file i) || b) can ∙ or_true (not (is_loaded file i)) in
    rw (name_ends file i s is, short, there, loads) refl
