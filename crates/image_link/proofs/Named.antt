-- Each symbol lies in the region of its kind, and has a name that an image may have.
use Rattle.std.proofs.Common.{◌≡◌, ℕ, ◌+◌, ◌%◌, ◌^◌, ◌<◌, ◌≤◌, ◌==◌, true, false, List, [], ◌∷◌, length}
use Rattle.std.proofs.Common.{refl, ◌∙◌, arith, inl, inr, nat_lt}
use Rattle.std.specs.List.{AllByRecursion, flat_map, fold, zip}
use Rattle.std.proofs.lemmas.Bool.{cases_Bool}
use Rattle.std.proofs.lemmas.Bool.Decides.{nat_tests}
use Rattle.std.proofs.lemmas.List.Elements.{recursion_from_All}
use Rattle.image_memory.specs.declared.types.Kind.{Kind}
use Rattle.image_memory.specs.declared.types.Kind.TheVariants as kinds
use Rattle.image_memory.specs.Fetch.{is_code}
use Rattle.symbol_table.specs.declared.symbols.Symbol.{Symbol}
use Rattle.i386_reloc.specs.declared.types.Class.{Class}
use Rattle.i386_reloc.specs.declared.types.Class.TheVariants.{Zero, Code, Writable, Strings, ReadOnly}
use Rattle.i386_reloc.specs.declared.types.ObjectSymbol.{ObjectSymbol}
use Rattle.i386_reloc.specs.declared.types.NormalSection.{NormalSection}
use Rattle.i386_reloc.specs.Classes.{is_code_class}
use Rattle.i386_reloc.specs.Whole.{HasSymbolNames, IsSymbolName}
use Rattle.link_post.specs.Sections.{function_symbol, kind_of_class, variable_symbol}
use Rattle.image_link.specs.Regions.{kind_of}
use Rattle.image_link.specs.Places.{Ends, behind, end_in, ends_after, laid_from, next_base, places_from}
use Rattle.image_link.specs.Linked.{same_kind}
use Rattle.image_link.specs.Symbols.{if_named, symbols_at, symbols_of, symbols_of_part, variable_in}
use Rattle.image_link.proofs.Growth.{each_after, each_all, each_behind}
use Rattle.image_link.proofs.Sizes.{append_each, begins_above, end_same}

-- a region's ends lie at or above those of another time
abbrev pub Below : Ends → Ends → Type 0
Below low high = (kind : Kind) → end_in low kind ≤ end_in high kind

-- a symbol in the region of a kind, with a name
pub record IsListed (low high : Ends) (symbol : Symbol) : Type 0 where
  pub kind : Kind
  pub fits : is_code kind ≡ symbol.function
  pub above : end_in low kind ≤ symbol.address
  pub below : symbol.address < end_in high kind
  pub some : 1 ≤ length symbol.name
  pub name : IsSymbolName symbol.name

-- the same of one that may have no name
pub record IsPlaced (low high : Ends) (symbol : Symbol) : Type 0 where
  pub kind : Kind
  pub fits : is_code kind ≡ symbol.function
  pub above : end_in low kind ≤ symbol.address
  pub below : symbol.address < end_in high kind
  pub name : IsSymbolName symbol.name

listed_where : (low high : Ends) (symbol : Symbol) → IsPlaced low high symbol
    → AllByRecursion (IsListed low high) (if_named symbol)
listed_where low high symbol placed =
    elim (cases_Bool (length symbol.name == 0)) [
      | inl none ↦ rw none tt
      | inr some ↦ rw some (
        record {
          kind = placed.kind;
          fits = placed.fits;
          above = placed.above;
          below = placed.below;
          some = grind (arith, nat_tests);
          name = placed.name;
        },
        tt,
      )
    ]

-- ---- one section
code_kind : (class : Class) → is_code (kind_of_class class) ≡ is_code_class class
code_kind Zero = refl
code_kind Code = refl
code_kind Writable = refl
code_kind Strings = refl
code_kind ReadOnly = refl

same_itself : (kind : Kind) → same_kind kind kind ≡ true
same_itself kinds.Code = refl
same_itself kinds.ReadOnly = refl
same_itself kinds.Writable = refl

-- how far a section reaches into its region
pub record Reaches (low high : Ends) (section : NormalSection) (base : ℕ) : Type 0 where
  pub above : end_in low (kind_of section) ≤ base
  pub below : base + section.size ≤ end_in high (kind_of section)
  pub fits : base + section.size < 2 ^ 32

variables_listed : (low high : Ends) (section : NormalSection) (base : ℕ) (objects : List ObjectSymbol)
    → is_code_class section.class ≡ false → Reaches low high section base
    → AllByRecursion (λ (object : ObjectSymbol). IsSymbolName object.name) objects
    → AllByRecursion (IsListed low high) (flat_map (variable_in section base) objects)
variables_listed low high section base [] other reaches names = tt
variables_listed low high section base (object ∷ objects) other reaches names =
    let later = variables_listed low high section base objects other reaches names.1 in
    elim (cases_Bool (nat_lt object.value section.size)) [
      | inl inside ↦
          let within : object.value < section.size = grind (arith, nat_tests) in
          let address : (base + object.value) % 2 ^ 32 ≡ base + object.value = omega (arith, reaches.fits, within) in
          let placed : IsPlaced low high (variable_symbol base object) = record {
            kind = kind_of section;
            fits = code_kind section.class ∙ other;
            above = omega (arith, address, reaches.above);
            below = omega (arith, address, reaches.below, within);
            name = names.0;
          } in
          rw inside (append_each (IsListed low high) (if_named (variable_symbol base object))
          (flat_map (variable_in section base) objects) (listed_where low high (variable_symbol base object) placed) later)
      | inr outside ↦ rw outside later
    ]

section_listed : (low high : Ends) (section : NormalSection) (base : ℕ) → 0 < section.size
    → HasSymbolNames section → Reaches low high section base
    → AllByRecursion (IsListed low high) (symbols_at section base)
section_listed low high section base some names reaches =
    elim (cases_Bool (is_code_class section.class)) [
      | inl code ↦
          let placed : IsPlaced low high (function_symbol section base) = record {
            kind = kind_of section;
            fits = code_kind section.class ∙ code;
            above = reaches.above;
            below = omega (arith, reaches.below, some);
            name = names.function;
          } in
          rw code (listed_where low high (function_symbol section base) placed)
      | inr other ↦ rw other (variables_listed low high section base section.objects other reaches
          (recursion_from_All (λ (object : ObjectSymbol). IsSymbolName object.name) section.objects names.variables))
    ]

-- ---- one object, and all
-- what is known of a section
pub record IsKnown (section : NormalSection) : Type 0 where
  pub some : 0 < section.size
  pub names : HasSymbolNames section

-- the ends are low enough that addresses fit 32 bits
abbrev pub IsLow : Ends → Type 0
IsLow ends = (kind : Kind) → end_in ends kind < 2 ^ 32

object_listed : (low ends high : Ends) (sections : List NormalSection) → AllByRecursion IsKnown sections
    → Below low ends → Below (ends_after ends sections) high → IsLow high
    → AllByRecursion (IsListed low high) (flat_map symbols_of_part (zip sections (places_from ends sections)))
unfolding places_from
object_listed low ends high [] known under over fits = tt
object_listed low ends high (section ∷ sections) known under over fits =
    let after = behind ends section in
    let kind = kind_of section in
    let base = next_base ends section in
    let same = same_itself kind in
    let above : end_in low kind ≤ base = omega (arith, under kind, begins_above kind ends section same) in
    let below : base + section.size ≤ end_in high kind =
    omega (arith, end_same kind ends section same, each_after after sections kind, over kind) in
    let reaches : Reaches low high section base = record {
      above = above;
      below = below;
      fits = omega (arith, below, fits kind);
    } in
    let under_after : Below low after = λ (k : Kind). omega (arith, under k, each_behind ends section k) in
    append_each (IsListed low high) (symbols_at section base) _
    (section_listed low high section base known.0.some known.0.names reaches)
    (object_listed low after high sections known.1 under_after over fits)

pub all_listed : (low ends high : Ends) (objects : List (List NormalSection))
    → AllByRecursion (λ object. AllByRecursion IsKnown object) objects
    → Below low ends → Below (fold ends_after ends objects) high → IsLow high
    → AllByRecursion (IsListed low high) (flat_map symbols_of (laid_from ends objects))
unfolding laid_from
all_listed low ends high [] known under over fits = tt
all_listed low ends high (object ∷ objects) known under over fits =
    let after = ends_after ends object in
    let over_object : Below after high = λ (k : Kind). omega (arith, each_all after objects k, over k) in
    let under_after : Below low after = λ (k : Kind). omega (arith, under k, each_after ends object k) in
    append_each (IsListed low high) (flat_map symbols_of_part (zip object (places_from ends object))) _
    (object_listed low ends high object known.0 under over_object fits)
    (all_listed low after high objects known.1 under_after over fits)
