-- What the bytes of an image file say, or the first rule that they break, in the order of the file.
use Rattle.std.specs.Prelude.{ℕ, ◌+◌, ◌==◌, nat_le, List, [], ◌∷◌, length}
use Rattle.std.specs.Prelude.{Result, Ok}
use Rattle.ks_base.specs.declared.places.Range.{Range}
use Rattle.ks_base.specs.declared.refusals.ImageFault.TheVariants as faults
use Rattle.ks_base.specs.declared.refusals.Refusal.{Refusal}
use Rattle.image_memory.specs.declared.types.Piece.{Piece}
use Rattle.image_memory.specs.Contents.{piece_range}
use Rattle.symbol_table.specs.declared.symbols.Symbol.{Symbol}
use Rattle.image_file.specs.declared.front.Header.{Header}
use Rattle.image_file.specs.Fields.{◌>>=◌, ◌orElse◌, content_at, checked, field, items_at}
use Rattle.image_file.specs.Rules.{own_range, end_of, total_of, magic_rules, count_rules, arena_low_rules}
use Rattle.image_file.specs.Rules.{arena_high_rules, region_kind_rules, region_kind, base_rules}
use Rattle.image_file.specs.Rules.{length_rules, no_rules, symbol_kind_rules, binding_rules}
use Rattle.image_file.specs.Rules.{name_length_rules, name_rules, stack_low_rules, stack_high_rules}

-- what an image says
pub record Contents : Type 0 where
  pub pieces : List Piece
  pub symbols : List Symbol
  pub stacks : List Range
  pub arena : Range

-- the magic bytes, the counts and the arena
unfoldable pub header_at : List ℕ → Result Header Refusal
header_at bytes = do
  magic ← field bytes 0 magic_rules
  regions ← field bytes 4 (count_rules 1024)
  symbols ← field bytes 8 (count_rules 65536)
  stacks ← field bytes 12 (count_rules 64)
  low ← field bytes 16 arena_low_rules
  high ← field bytes 20 (arena_high_rules low)
  Ok (record { regions = regions; symbols = symbols; stacks = stacks; arena = record { low = low; high = high } })

-- the region at an offset, where those before it end at floor and have so many bytes in all
unfoldable pub region_after : List ℕ → Range → ℕ → ℕ → ℕ → Result Piece Refusal
region_after bytes arena floor total offset = do
  kind ← field bytes offset region_kind_rules
  base ← field bytes (offset + 4) base_rules
  n ← field bytes (offset + 8) (length_rules arena floor total base)
  content ← content_at bytes (offset + 12) n
  Ok (record { kind = region_kind kind; base = base; bytes = content })

abbrev pub region_at : List ℕ → Range → List Piece → ℕ → Result Piece Refusal
region_at bytes arena before offset = region_after bytes arena (end_of piece_range 0 before)
    (total_of piece_range before) offset

abbrev pub region_width : Piece → ℕ
region_width piece = 12 + length piece.bytes

-- a name of n bytes at an offset
abbrev pub name_at : List ℕ → ℕ → ℕ → Result (List ℕ) Refusal
name_at bytes offset n = do
  name ← content_at bytes offset n
  checked offset (name_rules name) name

-- the symbol at an offset, among such regions
unfoldable pub symbol_among : List ℕ → List Piece → ℕ → Result Symbol Refusal
symbol_among bytes pieces offset = do
  address ← field bytes offset no_rules
  kind ← field bytes (offset + 4) (symbol_kind_rules pieces address)
  binding ← field bytes (offset + 8) binding_rules
  n ← field bytes (offset + 12) name_length_rules
  name ← name_at bytes (offset + 16) n
  Ok (record { address = address; function = kind == 1; global = binding == 1; name = name })

abbrev pub symbol_at : List ℕ → List Piece → List Symbol → ℕ → Result Symbol Refusal
symbol_at bytes pieces before offset = symbol_among bytes pieces offset

abbrev pub symbol_width : Symbol → ℕ
symbol_width symbol = 16 + length symbol.name

-- the stack at an offset, where those before it end at floor and have so many bytes in all
unfoldable pub stack_after : List ℕ → Range → List Piece → ℕ → ℕ → ℕ → Result Range Refusal
stack_after bytes arena pieces floor total offset = do
  low ← field bytes offset stack_low_rules
  high ← field bytes (offset + 4) (stack_high_rules arena pieces floor total low)
  Ok (record { low = low; high = high })

abbrev pub stack_at : List ℕ → Range → List Piece → List Range → ℕ → Result Range Refusal
stack_at bytes arena pieces before offset = stack_after bytes arena pieces (end_of own_range 0 before)
    (total_of own_range before) offset

abbrev pub stack_width : Range → ℕ
stack_width stack = 8

-- the image that the bytes spell, or the refusal of the first broken rule
unfoldable pub image_of : List ℕ → Result Contents Refusal
image_of bytes = do
  header ← header_at bytes
  regions ← items_at header.regions (region_at bytes header.arena) region_width [] 24
  symbols ← items_at header.symbols (symbol_at bytes regions.0) symbol_width [] regions.1
  stacks ← items_at header.stacks (stack_at bytes header.arena regions.0) stack_width [] symbols.1
  checked stacks.1 ((nat_le (length bytes) stacks.1 orElse faults.Trailing) ∷ [])
      (record { pieces = regions.0; symbols = symbols.0; stacks = stacks.0; arena = header.arena })
