-- The image to which objects are linked: its regions with all sections at their places, its symbols, an arena and four
-- stacks.
use Rattle.std.specs.Prelude.{ℕ, ◌+◌, ◌-◌, Bool, true, false, List, [], ◌∷◌, ◌++◌, map, length, replicate}
use Rattle.std.specs.Prelude.{Option, Some, None, Result, Ok, Err}
use Rattle.std.specs.List.{flat_map, filter}
use Rattle.ks_base.specs.declared.places.Range.{Range}
use Rattle.ks_base.specs.declared.refusals.Refusal.{Refusal}
use Rattle.image_memory.specs.declared.types.Kind.{Kind}
use Rattle.image_memory.specs.declared.types.Kind.TheVariants.{Code, ReadOnly, Writable}
use Rattle.image_memory.specs.declared.types.Piece.{Piece}
use Rattle.image_memory.specs.Ranges.{from_to}
use Rattle.symbol_table.specs.declared.symbols.Symbol.{Symbol}
use Rattle.symbol_table.specs.declared.values.Unknown.TheVariants.{Outside}
use Rattle.symbol_table.specs.declared.values.Solved.{Solved}
use Rattle.symbol_table.specs.declared.values.Solved.TheVariants.{Address}
use Rattle.symbol_table.specs.declared.values.Unknown.{Unknown}
use Rattle.image_file.specs.Reading.{Contents}
use Rattle.i386_reloc.specs.declared.types.NormalSection.{NormalSection}
use Rattle.link_post.specs.declared.types.Placed.{Placed}
use Rattle.link_post.specs.Values.{ValueList}
use Rattle.link_post.specs.Linked.{linked}
use Rattle.image_link.specs.Regions.{kind_of, start_of, gap_of}
use Rattle.image_link.specs.Places.{Laid, laid_out, at_places}
use Rattle.image_link.specs.Symbols.{all_symbols}
use Rattle.image_link.specs.Refused.{link_fault}

-- What outside names come to: the address of each global symbol, under its name. Sections go by their places.
abbrev pub is_global : Symbol → Bool
is_global symbol = symbol.global

abbrev pub global_value : Symbol → Unknown × Solved
global_value symbol = (Outside symbol.name, Address symbol.address)

unfoldable pub global_values : List Symbol → ValueList
global_values symbols = map global_value (filter is_global symbols)

-- whether two kinds are one
abbrev pub same_kind : Kind → Kind → Bool
same_kind Code Code = true
same_kind ReadOnly ReadOnly = true
same_kind Writable Writable = true
same_kind one other = false

-- bytes that stand at an address
pub record Filled : Type 0 where
  pub base : ℕ
  pub bytes : List ℕ

-- the linked bytes of a section at its place
abbrev pub filled_part : Laid → ValueList → NormalSection × Placed → Filled
filled_part laid values part =
    record { base = (part.1).base; bytes = linked laid.object laid.places values (part.0).name }

abbrev pub goes_to_region : Kind → NormalSection × Placed → Bool
goes_to_region kind part = same_kind kind (kind_of part.0)

-- those of an object's sections that go to a region
abbrev pub filled_in : Kind → ValueList → Laid → List Filled
filled_in kind values laid = map (filled_part laid values) (filter (goes_to_region kind) (at_places laid))

-- bytes one after another from an address on, each behind a gap up to its place
unfoldable pub joined : (gap address : ℕ) → List Filled → List ℕ
joined gap address [] = []
joined gap address (one ∷ rest) =
    replicate (one.base - address) gap ++ one.bytes ++ joined gap (one.base + length one.bytes) rest

-- a region, unless no section goes to it
abbrev pub region_by : Kind → List Filled → List Piece
region_by kind [] = []
region_by kind (first ∷ rest) =
    record { kind = kind; base = start_of kind; bytes = joined (gap_of kind) (start_of kind) (first ∷ rest) } ∷ []

abbrev pub region : List Laid → ValueList → Kind → List Piece
region laid values kind = region_by kind (flat_map (filled_in kind values) laid)

-- the regions in ascending order
unfoldable pub regions : List Laid → ValueList → List Piece
regions laid values = flat_map (region laid values) (Code ∷ ReadOnly ∷ Writable ∷ [])

abbrev pub arena : Range
arena = from_to 0x0400_0000 0x0410_0000

abbrev pub stack_at : ℕ → Range
stack_at low = from_to low (low + 0x1_0000)

abbrev pub stacks : List Range
stacks = map stack_at (0x0500_0000 ∷ 0x0502_0000 ∷ 0x0504_0000 ∷ 0x0506_0000 ∷ [])

-- the image of objects at their places
unfoldable pub image_of_laid : List Laid → Contents
image_of_laid laid =
    let symbols = all_symbols laid in
    record {
      pieces = regions laid (global_values symbols);
      symbols = symbols;
      stacks = stacks;
      arena = arena;
    }

abbrev pub image_unless : Option Refusal → Contents → Result Contents Refusal
image_unless (Some refusal) image = Err refusal
image_unless None image = Ok image

-- the image to which objects are linked, or why they can't be
unfoldable pub linked_image : List (List NormalSection) → Result Contents Refusal
linked_image objects = image_unless (link_fault objects) (image_of_laid (laid_out objects))
