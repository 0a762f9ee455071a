-- A linked section has as many bytes as its size, and a region as many as lie between its start and its end.
use Rattle.std.proofs.Common.{◌≡◌, ◌≢◌, ℕ, ◌+◌, ◌-◌, ◌<◌, ◌≤◌, true, false, cond, List, [], ◌∷◌, ◌++◌, length, map}
use Rattle.std.proofs.Common.{replicate, take, drop, Some, unwrap_or, refl, sym, ap, ◌∙◌, arith, inl, inr, nat_le}
use Rattle.std.proofs.Common.{add-zero, length-append, length-take, length-drop}
use Rattle.std.specs.Int.{w32, to_le_bytes}
use Rattle.std.specs.List.{AllByRecursion, flat_map, filter, fold, zip}
use Rattle.std.proofs.lemmas.Bool.{cases_Bool}
use Rattle.std.proofs.lemmas.List.{length-replicate}
use Rattle.std.proofs.lemmas.Bool.Decides.{nat_tests}
use Rattle.image_memory.specs.declared.types.Kind.{Kind}
use Rattle.image_memory.specs.declared.types.Kind.TheVariants as kinds
use Rattle.image_memory.specs.declared.types.Piece.{Piece}
use Rattle.i386_reloc.specs.declared.types.Class.{Class}
use Rattle.i386_reloc.specs.declared.types.Class.TheVariants.{Zero, Code, Writable, Strings, ReadOnly}
use Rattle.i386_reloc.specs.declared.types.Ref.{Ref}
use Rattle.i386_reloc.specs.declared.types.NormalSection.{NormalSection}
use Rattle.i386_reloc.specs.Normal.{section_named}
use Rattle.i386_reloc.specs.Whole.{IsWhole}
use Rattle.link_post.specs.declared.types.Placed.{Placed}
use Rattle.link_post.specs.Places.{base_in}
use Rattle.link_post.specs.Values.{ValueList}
use Rattle.link_post.specs.Linked.{with_word, filled, linked, linked_by, linked_section}
use Rattle.image_link.specs.Regions.{kind_of, gap_of, start_of}
use Rattle.image_link.specs.Places.{Ends, Laid, behind, end_in, ends_after, first_ends, laid_from, laid_out, last_ends}
use Rattle.image_link.specs.Places.{next_base, next_place, places_from, region_length}
use Rattle.image_link.specs.Linked.{Filled, filled_part, filled_in, goes_to_region, joined, region, region_by, same_kind}
use Rattle.image_link.specs.inside.Laying.{laid}
use Rattle.image_link.proofs.Growth.{begins_behind, end_with}

-- ---- the bytes of one section
four : (word : ℕ) → length (to_le_bytes w32 word) ≡ 4
four word = refl

word_put : (bytes : List ℕ) (offset word : ℕ) → offset + 4 ≤ length bytes
    → length (take offset bytes ++ (to_le_bytes w32 word ++ drop (offset + 4) bytes)) ≡ length bytes
word_put bytes offset word within =
    let here = length-append (take offset bytes) (to_le_bytes w32 word ++ drop (offset + 4) bytes) in
    let there = length-append (to_le_bytes w32 word) (drop (offset + 4) bytes) in
    omega (arith, here, there, four word, length-take offset bytes, length-drop (offset + 4) bytes)

word_length : (bytes : List ℕ) (offset word : ℕ) → length (with_word bytes offset word) ≡ length bytes
word_length bytes offset word =
    elim (cases_Bool (nat_le (offset + 4) (length bytes))) [
      | inl fits ↦ let within : offset + 4 ≤ length bytes = grind (arith, nat_tests) in
          rw fits (word_put bytes offset word within)
      | inr other ↦ rw other refl
    ]

filled_length : (object : List NormalSection) (places : List Placed) (values : ValueList) (base : ℕ) (bytes : List ℕ)
    (refs : List Ref) → length (fold (filled object places values base) bytes refs) ≡ length bytes
unfolding filled
filled_length object places values base bytes [] = refl
filled_length object places values base bytes (r ∷ refs) =
    filled_length object places values base (filled object places values base bytes r) refs ∙ word_length bytes r.offset _

linked_length_by : (class : Class) (object : List NormalSection) (places : List Placed) (values : ValueList)
    (section : NormalSection) (base : ℕ) → (class ≢ Zero → length section.bytes ≡ section.size)
    → length (linked_by class object places values section base) ≡ section.size
linked_length_by Zero object places values section base all = length-replicate section.size 0
linked_length_by Code object places values section base all =
    filled_length object places values base section.bytes section.refs ∙ all (λ e. cc)
linked_length_by Writable object places values section base all =
    filled_length object places values base section.bytes section.refs ∙ all (λ e. cc)
linked_length_by Strings object places values section base all =
    filled_length object places values base section.bytes section.refs ∙ all (λ e. cc)
linked_length_by ReadOnly object places values section base all =
    filled_length object places values base section.bytes section.refs ∙ all (λ e. cc)

pub linked_length : (object : List NormalSection) (places : List Placed) (values : ValueList) (section : NormalSection)
    → section_named object section.name ≡ Some section → IsWhole section
    → length (linked object places values section.name) ≡ section.size
unfolding linked
linked_length object places values section named whole =
    ap (λ found. length (linked_section object places values found)) named
    ∙ linked_length_by section.class object places values section (unwrap_or (base_in places section.name) 0) whole.all

-- ---- the bytes of a region
-- a section of an object has some bytes, as many as its size
pub record IsSized (laid : Laid) (values : ValueList) (section : NormalSection) : Type 0 where
  pub some : 0 < section.size
  pub size : length (linked laid.object laid.places values section.name) ≡ section.size

abbrev pub parts_of : Kind → Laid → ValueList → Ends → List NormalSection → List Filled
parts_of kind laid values ends sections =
    map (filled_part laid values) (filter (goes_to_region kind) (zip sections (places_from ends sections)))

-- what stands behind a gap and some bytes
joined_behind : (gap address : ℕ) (one : Filled) (rest : List Filled) → address ≤ one.base
    → address + length (joined gap address (one ∷ rest))
    ≡ one.base + length one.bytes + length (joined gap (one.base + length one.bytes) rest)
unfolding joined
joined_behind gap address one rest below =
    let between = replicate (one.base - address) gap in
    let behind = joined gap (one.base + length one.bytes) rest in
    let all = length-append (between ++ one.bytes) behind in
    let front = length-append between one.bytes in
    let count = length-replicate (one.base - address) gap in
    omega (arith, all, front, count)

kind_is : (one other : Kind) → same_kind one other ≡ true → one ≡ other
kind_is kinds.Code kinds.Code same = refl
kind_is kinds.Code kinds.ReadOnly same = absurd cc
kind_is kinds.Code kinds.Writable same = absurd cc
kind_is kinds.ReadOnly kinds.Code same = absurd cc
kind_is kinds.ReadOnly kinds.ReadOnly same = refl
kind_is kinds.ReadOnly kinds.Writable same = absurd cc
kind_is kinds.Writable kinds.Code same = absurd cc
kind_is kinds.Writable kinds.ReadOnly same = absurd cc
kind_is kinds.Writable kinds.Writable same = refl

-- where the region ends behind a section that goes to it, and behind another
pub end_same : (kind : Kind) (ends : Ends) (section : NormalSection) → same_kind kind (kind_of section) ≡ true
    → end_in (behind ends section) kind ≡ next_base ends section + section.size
end_same kind ends section same =
    end_with ends (kind_of section) kind (next_base ends section + section.size)
    ∙ ap (λ b. cond b (next_base ends section + section.size) (end_in ends kind)) same

pub end_other : (kind : Kind) (ends : Ends) (section : NormalSection) → same_kind kind (kind_of section) ≡ false
    → end_in (behind ends section) kind ≡ end_in ends kind
end_other kind ends section other =
    end_with ends (kind_of section) kind (next_base ends section + section.size)
    ∙ ap (λ b. cond b (next_base ends section + section.size) (end_in ends kind)) other

pub begins_above : (kind : Kind) (ends : Ends) (section : NormalSection) → same_kind kind (kind_of section) ≡ true
    → end_in ends kind ≤ next_base ends section
begins_above kind ends section same =
    let e : end_in ends kind ≡ end_in ends (kind_of section) = ap (end_in ends) (kind_is kind (kind_of section) same) in
    let above = begins_behind ends section in
    omega (arith, e, above)

object_end : (kind : Kind) (laid : Laid) (values : ValueList) (ends : Ends) (sections : List NormalSection)
    (rest : List Filled) → AllByRecursion (IsSized laid values) sections
    → end_in ends kind + length (joined (gap_of kind) (end_in ends kind) (parts_of kind laid values ends sections ++ rest))
    ≡ end_in (ends_after ends sections) kind
    + length (joined (gap_of kind) (end_in (ends_after ends sections) kind) rest)
unfolding places_from
object_end kind laid values ends [] rest sized = refl
object_end kind laid values ends (section ∷ sections) rest sized =
    let after = behind ends section in
    let more = parts_of kind laid values after sections ++ rest in
    let one = filled_part laid values (section, next_place ends section) in
    let later = object_end kind laid values after sections rest sized.1 in
    let follow = λ (e : ℕ). e + length (joined (gap_of kind) e more) in
    elim (cases_Bool (same_kind kind (kind_of section))) [
      | inl same ↦
          let size : length one.bytes ≡ section.size = sized.0.size in
          let end : next_base ends section + length one.bytes ≡ end_in after kind =
          ap (λ n. next_base ends section + n) size ∙ sym (end_same kind ends section same) in
          rw same (
          joined_behind (gap_of kind) (end_in ends kind) one more (begins_above kind ends section same)
          ∙ ap follow end ∙ later)
      | inr other ↦ rw other (ap follow (sym (end_other kind ends section other)) ∙ later)
    ]

-- all objects' sections have their bytes
abbrev pub AreSized : ValueList → List Laid → Type 0
AreSized values laid = AllByRecursion (λ one. AllByRecursion (IsSized one values) one.object) laid

pub region_end : (kind : Kind) (values : ValueList) (ends : Ends) (objects : List (List NormalSection))
    → AreSized values (laid_from ends objects)
    → end_in ends kind
    + length (joined (gap_of kind) (end_in ends kind) (flat_map (filled_in kind values) (laid_from ends objects)))
    ≡ end_in (fold ends_after ends objects) kind
unfolding laid_from joined
region_end kind values ends [] sized = add-zero (end_in ends kind)
region_end kind values ends (object ∷ objects) sized =
    let laid = laid object (places_from ends object) in
    let rest = flat_map (filled_in kind values) (laid_from (ends_after ends object) objects) in
    object_end kind laid values ends object rest sized.0 ∙ region_end kind values (ends_after ends object) objects sized.1

-- each part of a region has some bytes
abbrev pub HasBytes : Filled → Type 0
HasBytes one = 0 < length one.bytes

pub append_each : {X : Type 0} (P : X → Type 0) (xs ys : List X) → AllByRecursion P xs → AllByRecursion P ys
    → AllByRecursion P (xs ++ ys)
append_each P [] ys of_xs of_ys = of_ys
append_each P (x ∷ xs) ys of_xs of_ys = (of_xs.0, append_each P xs ys of_xs.1 of_ys)

object_bytes : (kind : Kind) (laid : Laid) (values : ValueList) (sections : List NormalSection) (places : List Placed)
    → AllByRecursion (IsSized laid values) sections
    → AllByRecursion HasBytes (map (filled_part laid values) (filter (goes_to_region kind) (zip sections places)))
object_bytes kind laid values [] places sized = tt
object_bytes kind laid values (section ∷ sections) [] sized = tt
object_bytes kind laid values (section ∷ sections) (place ∷ places) sized =
    let later = object_bytes kind laid values sections places sized.1 in
    let some : 0 < length (linked laid.object laid.places values section.name) =
    omega (arith, sized.0.some, sized.0.size) in
    elim (cases_Bool (same_kind kind (kind_of section))) [
      | inl same ↦ rw same (some, later)
      | inr other ↦ rw other later
    ]

pub region_bytes : (kind : Kind) (values : ValueList) (laid : List Laid) → AreSized values laid
    → AllByRecursion HasBytes (flat_map (filled_in kind values) laid)
region_bytes kind values [] sized = tt
region_bytes kind values (one ∷ laid) sized =
    append_each HasBytes (filled_in kind values one) (flat_map (filled_in kind values) laid)
    (object_bytes kind one values one.object one.places sized.0) (region_bytes kind values laid sized.1)

-- what a region is: nothing, or one piece from its start to its end
pub data IsRegion (kind : Kind) (n : ℕ) (pieces : List Piece) : Type 0 where
  nothing : pieces ≡ [] → n ≡ 0 → IsRegion kind n pieces
  one_piece : (bytes : List ℕ) → pieces ≡ record { kind = kind; base = start_of kind; bytes = bytes } ∷ []
      → length bytes ≡ n → 0 < n → IsRegion kind n pieces

region_by_parts : (kind : Kind) (n : ℕ) (parts : List Filled) → AllByRecursion HasBytes parts
    → length (joined (gap_of kind) (start_of kind) parts) ≡ n → IsRegion kind n (region_by kind parts)
unfolding joined
region_by_parts kind n [] some is = nothing refl (sym is)
region_by_parts kind n (first ∷ rest) some is =
    let between = replicate (first.base - start_of kind) (gap_of kind) in
    let behind = joined (gap_of kind) (first.base + length first.bytes) rest in
    let all = length-append (between ++ first.bytes) behind in
    let front = length-append between first.bytes in
    one_piece _ refl is (omega (arith, is, all, front, some.0))

at_start : (kind : Kind) (end : ℕ) (parts : List Filled)
    → end_in first_ends kind + length (joined (gap_of kind) (end_in first_ends kind) parts) ≡ end
    → length (joined (gap_of kind) (start_of kind) parts) ≡ end - start_of kind
at_start kinds.Code end parts is = omega (arith, is)
at_start kinds.ReadOnly end parts is = omega (arith, is)
at_start kinds.Writable end parts is = omega (arith, is)

pub region_is : (kind : Kind) (values : ValueList) (objects : List (List NormalSection))
    → AreSized values (laid_out objects)
    → IsRegion kind (region_length (last_ends objects) kind) (region (laid_out objects) values kind)
region_is kind values objects sized =
    let parts = flat_map (filled_in kind values) (laid_out objects) in
    let end = region_end kind values first_ends objects sized in
    region_by_parts kind (region_length (last_ends objects) kind) parts (region_bytes kind values (laid_out objects) sized)
    (at_start kind (end_in (last_ends objects) kind) parts end)
