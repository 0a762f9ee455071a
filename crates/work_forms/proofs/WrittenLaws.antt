-- What was written behind some bytes is read back from its place.
use Rattle.std.proofs.Common.{◌≡◌, ℕ, suc, ◌+◌, ◌<◌, ◌^◌, false, List, [], ◌∷◌, ◌++◌, length, take, drop}
use Rattle.std.proofs.Common.{refl, ap, ◌∙◌, arith}
use Rattle.std.specs.List.{list_any, position_or_len}
use Rattle.std.proofs.lemmas.Bool.{or_parts}
use Rattle.byteorder.specs.Numbers.{little_number-reads_back}
use Rattle.byteorder.specs.Endian.{little_number}
use Rattle.i386_reloc.specs.SectionHeader.{SectionHeader}
use Rattle.i386_reloc.specs.Fields.{half_at, word_at, section_header_at, is_zero, text_at}
use Rattle.work_gen.specs.declared.types.Section.{Section}
use Rattle.work_gen.specs.Encoding.{half, word}
use Rattle.work_gen.specs.ElfFile.{section_header, file_header}

-- what stands behind some bytes
pub drop_before : (before rest : List ℕ) (k : ℕ) → drop (length before + k) (before ++ rest) ≡ drop k rest
drop_before [] rest k = let e : 0 + k ≡ k = omega arith in ap (λ n. drop n rest) e
drop_before (x ∷ before) rest k =
    let n = length before in
    let e : suc n + k ≡ suc (n + k) = omega arith in
    ap (λ n. drop n ((x ∷ before) ++ rest)) e ∙ drop_before before rest k

pub drop_front : (before rest : List ℕ) (place : ℕ) → length before ≡ place → drop place (before ++ rest) ≡ rest
drop_front before rest place at =
    let e : place ≡ length before + 0 = omega (arith, at) in
    ap (λ n. drop n (before ++ rest)) e ∙ drop_before before rest 0

take_front : (part rest : List ℕ) → take (length part) (part ++ rest) ≡ part
take_front [] rest = refl
take_front (x ∷ part) rest = ap (λ xs. x ∷ xs) (take_front part rest)

-- so many bytes from a place on
pub part_read : (before part rest : List ℕ) (place : ℕ) → length before ≡ place
    → take (length part) (drop place (before ++ (part ++ rest))) ≡ part
part_read before part rest place at =
    ap (take (length part)) (drop_front before (part ++ rest) place at) ∙ take_front part rest

-- a name and the zero that ends it
name_length : (name rest : List ℕ) → list_any is_zero name ≡ false
    → position_or_len is_zero (name ++ 0 ∷ rest) ≡ length name
name_length [] rest none = refl
name_length (x ∷ name) rest none =
    let parts = or_parts (is_zero x) (list_any is_zero name) none in
    rw parts.0 (omega (arith, name_length name rest parts.1))

pub first_name : (name rest : List ℕ) → list_any is_zero name ≡ false
    → take (position_or_len is_zero (name ++ 0 ∷ rest)) (name ++ 0 ∷ rest) ≡ name
first_name name rest none =
    ap (λ n. take n (name ++ 0 ∷ rest)) (name_length name rest none) ∙ take_front name (0 ∷ rest)

pub name_read : (before name rest : List ℕ) (place : ℕ) → length before ≡ place → list_any is_zero name ≡ false
    → text_at (before ++ (name ++ 0 ∷ rest)) place ≡ name
name_read before name rest place at none =
    let behind = drop_front before (name ++ 0 ∷ rest) place at in
    ap (λ bytes. take (position_or_len is_zero bytes) bytes) behind
    ∙ ap (λ n. take n (name ++ 0 ∷ rest)) (name_length name rest none)
    ∙ take_front name (0 ∷ rest)

-- numbers of two and of four bytes
half_read : (n : ℕ) (rest : List ℕ) → n < 2 ^ 16 → little_number 2 (half n ++ rest) ≡ n
half_read n rest small = little_number-reads_back 2 n rest small

word_read : (n : ℕ) (rest : List ℕ) → n < 2 ^ 32 → little_number 4 (word n ++ rest) ≡ n
word_read n rest small = little_number-reads_back 4 n rest small

-- the ELF header
pub header_length : (place last : ℕ) → length (file_header place last) ≡ 52
unfolding file_header
header_length place last = refl

pub table_place : (place last : ℕ) (rest : List ℕ) → place < 2 ^ 32
    → word_at (file_header place last ++ rest) 32 ≡ place
unfolding word_at file_header
table_place place last rest small = word_read place (drop 36 (file_header place last ++ rest)) small

pub table_length : (place last : ℕ) (rest : List ℕ) → last + 1 < 2 ^ 16
    → half_at (file_header place last ++ rest) 48 ≡ last + 1
unfolding half_at file_header
table_length place last rest small = half_read (last + 1) (drop 50 (file_header place last ++ rest)) small

pub table_names : (place last : ℕ) (rest : List ℕ) → last < 2 ^ 16
    → half_at (file_header place last ++ rest) 50 ≡ last
unfolding half_at file_header
table_names place last rest small = half_read last rest small

-- a section header: the numbers of one have room in its fields
pub record FitsWords (place name : ℕ) (s : Section) : Type 0 where
  pub name_fits : name < 2 ^ 32
  pub kind_fits : s.kind < 2 ^ 32
  pub flags_fit : s.flags < 2 ^ 32
  pub place_fits : place < 2 ^ 32
  pub size_fits : length s.content < 2 ^ 32
  pub link_fits : s.link < 2 ^ 32
  pub info_fits : s.info < 2 ^ 32
  pub alignment_fits : s.alignment < 2 ^ 32
  pub entry_size_fits : s.entry_size < 2 ^ 32

abbrev pub header_of : (place name : ℕ) → Section → SectionHeader
header_of place name s =
    record {
      name = name;
      kind = s.kind;
      flags = s.flags;
      offset = place;
      size = length s.content;
      link = s.link;
      info = s.info;
      align = s.alignment;
      entry = s.entry_size;
    }

pub header_length_40 : (place name : ℕ) (s : Section) → length (section_header place name s) ≡ 40
unfolding section_header
header_length_40 place name s = refl

pub header_behind : (before rest : List ℕ) (place name : ℕ) (s : Section) → FitsWords place name s
    → section_header_at (before ++ (section_header place name s ++ rest)) (length before) ≡ header_of place name s
unfolding section_header_at word_at section_header
header_behind before rest place name s fits =
    let all = section_header place name s ++ rest in
    let at : (k : ℕ) → drop (length before + k) (before ++ all) ≡ drop k all = drop_before before all in
    let first : length before ≡ length before + 0 = omega arith in
    rw (at 4, at 8, at 16, at 20, at 24, at 28, at 32, at 36)
    (rw (ap (λ k. drop k (before ++ all)) first ∙ at 0)
    (rw (
      word_read name (drop 4 all) fits.name_fits,
      word_read s.kind (drop 8 all) fits.kind_fits,
      word_read s.flags (drop 12 all) fits.flags_fit,
      word_read place (drop 20 all) fits.place_fits,
      word_read (length s.content) (drop 24 all) fits.size_fits,
      word_read s.link (drop 28 all) fits.link_fits,
      word_read s.info (drop 32 all) fits.info_fits,
      word_read s.alignment (drop 36 all) fits.alignment_fits,
      word_read s.entry_size (drop 40 all) fits.entry_size_fits,
    ) refl))
