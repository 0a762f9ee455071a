-- The rules that an image keeps.
use Rattle.std.specs.Prelude.{ℕ, ◌≤◌, ◌<◌, ◌^◌, Bool, true, ◌&&◌, List, [], ◌∷◌, length, if◌then◌else◌, IsTrue}
use Rattle.std.specs.List.{All}
use Rattle.ks_base.specs.declared.places.Range.{Range}
use Rattle.image_memory.specs.declared.types.Piece.{Piece}
use Rattle.image_memory.specs.Contents.{ArePlaced, piece_range}
use Rattle.image_memory.specs.Ranges.{Ascends}
use Rattle.symbol_table.specs.declared.symbols.Symbol.{Symbol}
use Rattle.image_file.specs.Fields.{Rule}
use Rattle.image_file.specs.Rules.{own_range, total_of, arena_low_rules, arena_high_rules, base_rules, length_rules}
use Rattle.image_file.specs.Rules.{symbol_kind_rules, name_length_rules, name_rules, stack_low_rules, stack_high_rules}
use Rattle.image_file.specs.Reading.{Contents}

-- whether each rule of a list holds
abbrev pub all_hold : List Rule → Bool
all_hold [] = true
all_hold (rule ∷ rules) = rule.holds && all_hold rules

abbrev pub keeps_arena : Range → Bool
keeps_arena arena = all_hold (arena_low_rules arena.low) && all_hold (arena_high_rules arena.low arena.high)

abbrev pub keeps_region : Range → Piece → Bool
keeps_region arena piece =
    all_hold (base_rules piece.base) && all_hold (length_rules arena 0 0 piece.base (length piece.bytes))

-- the number of a symbol's kind
abbrev pub symbol_kind : Symbol → ℕ
symbol_kind symbol = if symbol.function then 1 else 2

abbrev pub keeps_symbol : List Piece → Symbol → Bool
keeps_symbol pieces symbol =
    all_hold (symbol_kind_rules pieces symbol.address (symbol_kind symbol))
    && all_hold (name_length_rules (length symbol.name))
    && all_hold (name_rules symbol.name)

abbrev pub keeps_stack : Range → List Piece → Range → Bool
keeps_stack arena pieces stack =
    all_hold (stack_low_rules stack.low) && all_hold (stack_high_rules arena pieces 0 0 stack.low stack.high)

-- the counts and sums are within their limits, regions and stacks ascend, and each part keeps its rules
pub record Keeps (image : Contents) : Type 0 where
  pub few_regions : length image.pieces ≤ 1024
  pub few_symbols : length image.symbols ≤ 65536
  pub few_stacks : length image.stacks ≤ 64
  pub arena_fits : image.arena.high < 2 ^ 32
  pub arena_kept : IsTrue (keeps_arena image.arena)
  pub regions_placed : ArePlaced image.pieces
  pub regions_kept : All (λ piece. IsTrue (keeps_region image.arena piece)) image.pieces
  pub regions_fit : total_of piece_range image.pieces ≤ 16777216
  pub symbols_kept : All (λ symbol. IsTrue (keeps_symbol image.pieces symbol)) image.symbols
  pub stacks_kept : All (λ stack. IsTrue (keeps_stack image.arena image.pieces stack)) image.stacks
  pub stacks_ascend : Ascends own_range 0 image.stacks
  pub stacks_fit : total_of own_range image.stacks ≤ 16777216
