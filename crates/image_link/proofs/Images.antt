-- What is known of objects that were read is enough for the image to which they are linked.
use Rattle.std.proofs.Common.{◌≡◌, ℕ, ◌^◌, ◌<◌, ◌≤◌, true, false, List, [], ◌∷◌, ◌++◌}
use Rattle.std.proofs.Common.{length, nat_le, Some, refl, sym, ap, ◌∙◌, arith, length-append, subst, inl, inr}
use Rattle.std.specs.Prelude.{IsTrue}
use Rattle.std.specs.Option.{option_map}
use Rattle.std.specs.List.{All, AllByRecursion, list_any}
use Rattle.std.proofs.lemmas.Bool.{cases_Bool}
use Rattle.std.proofs.lemmas.Bool.Decides.{nat_tests}
use Rattle.std.proofs.lemmas.List.Elements.{All-from_recursion, recursion_from_All}
use Rattle.ks_base.specs.declared.places.Range.{Range}
use Rattle.image_memory.specs.declared.types.Kind.{Kind}
use Rattle.image_memory.specs.declared.types.Kind.TheVariants as kinds
use Rattle.image_memory.specs.declared.types.Piece.{Piece}
use Rattle.image_memory.specs.Access.{kind_of}
use Rattle.image_memory.specs.Contents.{ArePlaced, holding, piece_range}
use Rattle.image_memory.specs.Fetch.{is_code}
use Rattle.image_file.specs.Rules.{is_zero}
use Rattle.image_file.specs.Keeps.{keeps_region, keeps_stack, keeps_symbol}
use Rattle.symbol_table.specs.declared.symbols.Symbol.{Symbol}
use Rattle.i386_reloc.specs.declared.types.NormalSection.{NormalSection}
use Rattle.link_post.specs.Values.{ValueList}
use Rattle.image_link.specs.Places.{Ends, Laid, end_in, ends_after, first_ends, laid_from, laid_out, last_ends}
use Rattle.image_link.specs.Places.{lengths_of, places_from, region_length, total_length}
use Rattle.image_link.specs.Symbols.{all_symbols}
use Rattle.image_link.specs.Linked.{Filled, arena, region, region_by, regions, stacks}
use Rattle.image_link.specs.inside.Laying.{laid}
use Rattle.image_link.specs.inside.Linkable.{IsLinkable, AreLinkable}
use Rattle.image_link.proofs.Sizes.{AreSized, IsRegion, IsSized, linked_length, region_is}
use Rattle.image_link.proofs.Named.{IsKnown, IsListed, all_listed}
use Rattle.image_link.proofs.Ruled.{Fits, fits_more, fits_none, held_here, held_later, stacks_kept}

-- ---- what is known of each object
sized_object : (values : ValueList) (ends : Ends) (object : List NormalSection) → IsLinkable object
    → AllByRecursion (IsSized (laid object (places_from ends object)) values) object
sized_object values ends object linkable =
    let one = laid object (places_from ends object) in
    recursion_from_All (IsSized one values) object (λ k d within. record {
      some = (linkable.whole k d within).some;
      size = linked_length object (places_from ends object) values _ (linkable.named k d within)
          (linkable.whole k d within);
    })

sized_from : (values : ValueList) (ends : Ends) (objects : List (List NormalSection))
    → AllByRecursion IsLinkable objects → AreSized values (laid_from ends objects)
unfolding laid_from
sized_from values ends [] linkable = tt
sized_from values ends (object ∷ objects) linkable =
    (sized_object values ends object linkable.0, sized_from values (ends_after ends object) objects linkable.1)

known_object : (object : List NormalSection) → IsLinkable object → AllByRecursion IsKnown object
known_object object linkable =
    recursion_from_All IsKnown object (λ k d within. record {
      some = (linkable.whole k d within).some;
      names = linkable.names k d within;
    })

known_all : (objects : List (List NormalSection)) → AllByRecursion IsLinkable objects
    → AllByRecursion (λ object. AllByRecursion IsKnown object) objects
known_all [] linkable = tt
known_all (object ∷ objects) linkable = (known_object object linkable.0, known_all objects linkable.1)

-- ---- the regions
length_by : (kind : Kind) (parts : List Filled) → length (region_by kind parts) ≤ 1
length_by kind [] = omega arith
length_by kind (first ∷ rest) = omega arith

-- what holds of the regions of objects whose lengths aren't too much
pub record AreRegions (pieces : List Piece) (ends : Ends) : Type 0 where
  pub few : length pieces ≤ 3
  pub fits : Fits 0 (lengths_of ends) pieces
  pub held : (kind : Kind) (address : ℕ) → end_in first_ends kind ≤ address → address < end_in ends kind
      → option_map kind_of (holding pieces address) ≡ Some kind

held_by : (ends : Ends) (code read_only writable : List Piece)
    → IsRegion kinds.Code (region_length ends kinds.Code) code
    → IsRegion kinds.ReadOnly (region_length ends kinds.ReadOnly) read_only
    → IsRegion kinds.Writable (region_length ends kinds.Writable) writable
    → lengths_of ends ≤ 16777216 → (kind : Kind) (address : ℕ) → end_in first_ends kind ≤ address
    → address < end_in ends kind
    → option_map kind_of (holding (code ++ (read_only ++ (writable ++ []))) address) ≡ Some kind
held_by ends code read_only writable is_code is_read_only is_writable short kinds.Code address above below =
    held_here kinds.Code (region_length ends kinds.Code) code (read_only ++ (writable ++ [])) address is_code
    (omega arith) (omega arith)
held_by ends code read_only writable is_code is_read_only is_writable short kinds.ReadOnly address above below =
    ap (option_map kind_of) (held_later kinds.Code (region_length ends kinds.Code) code (read_only ++ (writable ++ []))
    address is_code (omega arith))
    ∙ held_here kinds.ReadOnly (region_length ends kinds.ReadOnly) read_only (writable ++ []) address is_read_only
    (omega arith) (omega arith)
held_by ends code read_only writable is_code is_read_only is_writable short kinds.Writable address above below =
    ap (option_map kind_of) (held_later kinds.Code (region_length ends kinds.Code) code (read_only ++ (writable ++ []))
    address is_code (omega arith))
    ∙ ap (option_map kind_of) (held_later kinds.ReadOnly (region_length ends kinds.ReadOnly) read_only (writable ++ [])
    address is_read_only (omega arith))
    ∙ held_here kinds.Writable (region_length ends kinds.Writable) writable [] address is_writable
    (omega arith) (omega arith)

fits_by : (ends : Ends) (code read_only writable : List Piece)
    → IsRegion kinds.Code (region_length ends kinds.Code) code
    → IsRegion kinds.ReadOnly (region_length ends kinds.ReadOnly) read_only
    → IsRegion kinds.Writable (region_length ends kinds.Writable) writable
    → lengths_of ends ≤ 16777216 → Fits 0 (lengths_of ends) (code ++ (read_only ++ (writable ++ [])))
fits_by ends code read_only writable is_code is_read_only is_writable short =
    let last = fits_more kinds.Writable (region_length ends kinds.Writable) 0x0300_0000 0x0400_0000 0 writable []
    is_writable (omega arith) (omega arith) (omega arith) (omega arith) (fits_none 0x0400_0000) in
    let middle = fits_more kinds.ReadOnly (region_length ends kinds.ReadOnly) 0x0200_0000 0x0300_0000 _ read_only
    (writable ++ []) is_read_only (omega arith) (omega arith) (omega arith) (omega arith) last in
    let all = fits_more kinds.Code (region_length ends kinds.Code) 0 0x0200_0000 _ code (read_only ++ (writable ++ []))
    is_code (omega arith) (omega arith) (omega arith) (omega arith) middle in
    subst (λ total. Fits 0 total (code ++ (read_only ++ (writable ++ [])))) (omega arith) all

three_at_most : (code read_only writable : List Piece) → length code ≤ 1 → length read_only ≤ 1 → length writable ≤ 1
    → length (code ++ (read_only ++ (writable ++ []))) ≤ 3
three_at_most code read_only writable a b c =
    omega (
      arith,
      length-append code (read_only ++ (writable ++ [])),
      length-append read_only (writable ++ []),
      length-append writable [],
    )

pub are_regions : (objects : List (List NormalSection)) (values : ValueList) → AreLinkable objects
    → total_length objects ≤ 16777216 → AreRegions (regions (laid_out objects) values) (last_ends objects)
unfolding regions
are_regions objects values linkable short =
    let sized = sized_from values first_ends objects (recursion_from_All IsLinkable objects linkable) in
    let one = λ (kind : Kind). region (laid_out objects) values kind in
    let is = λ (kind : Kind). region_is kind values objects sized in
    record {
      few = three_at_most (one kinds.Code) (one kinds.ReadOnly) (one kinds.Writable)
          (length_by kinds.Code _) (length_by kinds.ReadOnly _) (length_by kinds.Writable _);
      fits = fits_by (last_ends objects) (one kinds.Code) (one kinds.ReadOnly) (one kinds.Writable) (is kinds.Code)
          (is kinds.ReadOnly) (is kinds.Writable) short;
      held = held_by (last_ends objects) (one kinds.Code) (one kinds.ReadOnly) (one kinds.Writable) (is kinds.Code)
          (is kinds.ReadOnly) (is kinds.Writable) short;
    }

-- ---- the symbols
kept_by : (pieces : List Piece) (symbol : Symbol) (kind : Kind)
    → option_map kind_of (holding pieces symbol.address) ≡ Some kind → is_code kind ≡ symbol.function
    → 1 ≤ length symbol.name → length symbol.name ≤ 4096 → list_any is_zero symbol.name ≡ false
    → IsTrue (keeps_symbol pieces symbol)
kept_by pieces symbol kind held fits some short no_zero =
    let few : nat_le (length symbol.name) 4096 ≡ true = grind (arith, nat_tests) in
    let one : nat_le 1 (length symbol.name) ≡ true = grind (arith, nat_tests) in
    elim (cases_Bool symbol.function) [
      | inl function ↦
          let code : is_code kind ≡ true = fits ∙ function in
          rw (function, held, code, few, one, no_zero) refl
      | inr other ↦
          let code : is_code kind ≡ false = fits ∙ other in
          rw (other, held, code, few, one, no_zero) refl
    ]

kept_each : (pieces : List Piece) (ends : Ends) → AreRegions pieces ends → (symbols : List Symbol)
    → AllByRecursion (IsListed first_ends ends) symbols
    → AllByRecursion (λ symbol. IsTrue (keeps_symbol pieces symbol)) symbols
kept_each pieces ends are [] listed = tt
kept_each pieces ends are (symbol ∷ symbols) listed =
    let one = listed.0 in (
      kept_by pieces symbol one.kind (are.held one.kind symbol.address one.above one.below) one.fits one.some
          one.name.short one.name.no_zero,
      kept_each pieces ends are symbols listed.1,
    )

low_ends : (ends : Ends) (kind : Kind) → lengths_of ends ≤ 16777216 → end_in ends kind < 2 ^ 32
low_ends ends kinds.Code short = omega arith
low_ends ends kinds.ReadOnly short = omega arith
low_ends ends kinds.Writable short = omega arith

pub symbols_kept : (objects : List (List NormalSection)) (values : ValueList) → AreLinkable objects
    → total_length objects ≤ 16777216
    → All (λ symbol. IsTrue (keeps_symbol (regions (laid_out objects) values) symbol)) (all_symbols (laid_out objects))
unfolding all_symbols
symbols_kept objects values linkable short =
    let ends = last_ends objects in
    let pieces = regions (laid_out objects) values in
    let are = are_regions objects values linkable short in
    let low = λ (kind : Kind). low_ends ends kind short in
    let listed = all_listed first_ends first_ends ends objects
    (known_all objects (recursion_from_All IsLinkable objects linkable)) (λ kind. omega arith) (λ kind. omega arith) low in
    All-from_recursion (λ symbol. IsTrue (keeps_symbol pieces symbol)) (all_symbols (laid_out objects))
    (kept_each pieces ends are (all_symbols (laid_out objects)) listed)

-- ---- the ghost fields of the image
pub image_regions : (objects : List (List NormalSection)) (values : ValueList) (laid : List Laid) (pieces : List Piece)
    → laid ≡ laid_out objects → pieces ≡ regions laid values → AreLinkable objects → total_length objects ≤ 16777216
    → AreRegions pieces (last_ends objects)
image_regions objects values laid pieces are is linkable short =
    subst (λ (pieces : List Piece). AreRegions pieces (last_ends objects))
    (sym (is ∙ ap (λ (laid : List Laid). regions laid values) are)) (are_regions objects values linkable short)

pub image_symbols : (objects : List (List NormalSection)) (values : ValueList) (laid : List Laid) (pieces : List Piece)
    (symbols : List Symbol) → laid ≡ laid_out objects → pieces ≡ regions laid values → symbols ≡ all_symbols laid
    → AreLinkable objects → total_length objects ≤ 16777216
    → All (λ symbol. IsTrue (keeps_symbol pieces symbol)) symbols
image_symbols objects values laid pieces symbols are is listed linkable short =
    subst (λ (pieces : List Piece). All (λ symbol. IsTrue (keeps_symbol pieces symbol)) symbols)
    (sym (is ∙ ap (λ (laid : List Laid). regions laid values) are))
    (subst (λ (symbols : List Symbol). All (λ symbol. IsTrue (keeps_symbol (regions (laid_out objects) values) symbol)) symbols)
    (sym (listed ∙ ap all_symbols are)) (symbols_kept objects values linkable short))

low_each : (pieces : List Piece) → AllByRecursion (λ piece. (piece_range piece).high ≤ 0x0400_0000) pieces
    → AllByRecursion (λ piece. (piece_range piece).high ≤ 0xFFFF_0000) pieces
low_each [] low = tt
low_each (piece ∷ pieces) low = (omega (arith, low.0), low_each pieces low.1)

pub image_placed : (pieces : List Piece) (ends : Ends) → AreRegions pieces ends → ArePlaced pieces
image_placed pieces ends are = record {
  ascend = are.fits.ascend;
  end_below = All-from_recursion (λ piece. (piece_range piece).high ≤ 0xFFFF_0000) pieces
      (low_each pieces are.fits.low);
}

pub image_kept : (pieces : List Piece) (ends : Ends) → AreRegions pieces ends
    → All (λ piece. IsTrue (keeps_region arena piece)) pieces
image_kept pieces ends are =
    All-from_recursion (λ piece. IsTrue (keeps_region arena piece)) pieces are.fits.kept

pub image_stacks : (pieces : List Piece) (ends : Ends) (ranges : List Range) → AreRegions pieces ends
    → ranges ≡ stacks → All (λ stack. IsTrue (keeps_stack arena pieces stack)) ranges
image_stacks pieces ends ranges are is =
    subst (λ (ranges : List Range). All (λ stack. IsTrue (keeps_stack arena pieces stack)) ranges) (sym is)
    (All-from_recursion (λ stack. IsTrue (keeps_stack arena pieces stack)) stacks
    (stacks_kept pieces are.fits.low))
