-- The spelling of an image is read as that image.
use Rattle.std.proofs.Common.{◌≡◌, ℕ, ◌+◌, ◌≤◌, true, leb, List, [], ◌∷◌, ◌++◌}
use Rattle.std.proofs.Common.{length, Ok, refl, subst, append_assoc, arith, IsTrue}
use Rattle.std.specs.List.{flat_map}
use Rattle.std.proofs.lemmas.Bool.{and_parts, le-leb}
use Rattle.std.proofs.lemmas.Bool.Decides.{nat_tests}
use Rattle.std.proofs.lemmas.List.{append-nil}
use Rattle.ks_base.specs.declared.places.Range.{Range}
use Rattle.image_memory.specs.declared.types.Piece.{Piece}
use Rattle.image_memory.specs.Contents.{piece_range}
use Rattle.symbol_table.specs.declared.symbols.Symbol.{Symbol}
use Rattle.image_file.specs.declared.front.Header.{Header}
use Rattle.image_file.specs.Fields.{items_at}
use Rattle.image_file.specs.Rules.{own_range, end_of, total_of, magic_rules}
use Rattle.image_file.specs.Rules.{count_rules, arena_low_rules, arena_high_rules}
use Rattle.image_file.specs.Keeps.{all_hold, keeps_region, keeps_symbol, keeps_stack, Keeps}
use Rattle.image_file.specs.Reading.{Contents, header_at, region_at, region_width, symbol_at}
use Rattle.image_file.specs.Reading.{symbol_width, stack_at, stack_width, image_of}
use Rattle.image_file.specs.Spelling.{number, region_spelling, symbol_spelling}
use Rattle.image_file.specs.Spelling.{stack_spelling, header_spelling, spelling}
use Rattle.image_file.proofs.Ends.{ends_below, total_below, All_here}
use Rattle.image_file.proofs.Stands.{Stands, behind, field_read, items_read}
use Rattle.image_file.proofs.PartsRead.{region_read, symbol_read, stack_read}

count_holds : (limit n : ℕ) → n ≤ limit → all_hold (count_rules limit n) ≡ true
count_holds limit n h = grind (arith, nat_tests)

arena_rises : (low high : ℕ) → all_hold (arena_high_rules low high) ≡ true → low ≤ high
arena_rises low high h = grind (arith, nat_tests)

abbrev header_of : Contents → Header
header_of image = record {
  regions = length image.pieces;
  symbols = length image.symbols;
  stacks =
      length image.stacks;
  arena = image.arena;
}

header_read : (bytes : List ℕ) (image : Contents) (rest : List ℕ) → Keeps image →
    Stands bytes 0 (header_spelling image ++ rest) → header_at bytes ≡ Ok (header_of image)
unfolding header_at header_spelling
header_read bytes image rest keeps s =
    let a = image.arena in
    let p = and_parts (all_hold (arena_low_rules a.low)) (all_hold (arena_high_rules a.low a.high)) keeps.arena_kept in
    let rises = arena_rises a.low a.high p.1 in
    let fits = keeps.arena_fits in
    let few_regions = keeps.few_regions in
    let few_symbols = keeps.few_symbols in
    let few_stacks = keeps.few_stacks in
    let t20 : List ℕ = number a.high ++ rest in
    let t16 : List ℕ = number a.low ++ t20 in
    let t12 : List ℕ = number (length image.stacks) ++ t16 in
    let t8 : List ℕ = number (length image.symbols) ++ t12 in
    let t4 : List ℕ = number (length image.pieces) ++ t8 in
    let s0 : Stands bytes 0 (number 0x314D_494B ++ t4) = s in
    let s4 = behind bytes 0 (number 0x314D_494B) t4 4 refl s0 in
    let s8 = behind bytes 4 (number (length image.pieces)) t8 8 refl s4 in
    let s12 = behind bytes 8 (number (length image.symbols)) t12 12 refl s8 in
    let s16 = behind bytes 12 (number (length image.stacks)) t16 16 refl s12 in
    let s20 = behind bytes 16 (number a.low) t20 20 refl s16 in
    rw (
      field_read bytes 0 magic_rules 0x314D_494B t4 (omega arith) refl s0,
      field_read bytes 4 (count_rules 1024) (length image.pieces) t8 (omega arith)
          (count_holds 1024 (length image.pieces) few_regions) s4,
      field_read bytes 8 (count_rules 65536) (length image.symbols) t12 (omega arith)
          (count_holds 65536 (length image.symbols) few_symbols) s8,
      field_read bytes 12 (count_rules 64) (length image.stacks) t16 (omega arith)
          (count_holds 64 (length image.stacks) few_stacks) s12,
      field_read bytes 16 arena_low_rules a.low t20 (omega arith) p.0 s16,
      field_read bytes 20 (arena_high_rules a.low) a.high rest fits p.1 s20,
    ) refl

region_wide : (piece : Piece) → length (region_spelling piece) ≡ region_width piece
unfolding region_spelling
region_wide piece = omega arith

symbol_wide : (symbol : Symbol) → length (symbol_spelling symbol) ≡ symbol_width symbol
unfolding symbol_spelling
symbol_wide symbol = omega arith

stack_wide : (stack : Range) → length (stack_spelling stack) ≡ stack_width stack
unfolding stack_spelling
stack_wide stack = refl

header_wide : (image : Contents) → length (header_spelling image) ≡ 24
unfolding header_spelling
header_wide image = refl

regions_read : (bytes : List ℕ) (image : Contents) (end : ℕ) (rest : List ℕ) → Keeps image →
    24 + length (flat_map region_spelling image.pieces) ≡ end
    → Stands bytes 24 (flat_map region_spelling image.pieces ++ rest)
    → items_at (length image.pieces) (region_at bytes image.arena) region_width [] 24 ≡ Ok (image.pieces, end)
regions_read bytes image end rest keeps last s =
    items_read bytes (region_at bytes image.arena) region_width region_spelling image.pieces region_wide each []
    image.pieces 24 end rest refl last s
  where
    each : (before : List Piece) (x : Piece) (after : List Piece) (offset : ℕ) (rest : List ℕ) →
        image.pieces ≡ before ++ x ∷ after
        → Stands bytes offset (region_spelling x ++ rest) → region_at bytes image.arena before offset ≡ Ok x
    each before x after offset rest parts s =
        let up = rw parts at keeps.regions_placed.ascend in
        let fit = rw parts at keeps.regions_fit in
        let below = ends_below piece_range 0 before x after up in
        let total = total_below piece_range before x after in
        region_read bytes image.arena (end_of piece_range 0 before) (total_of piece_range before) offset x rest
        (All_here (λ (y : Piece). IsTrue (keeps_region image.arena y)) image.pieces before x after parts
        keeps.regions_kept) below (omega arith) s

symbols_read : (bytes : List ℕ) (image : Contents) (offset end : ℕ) (rest : List ℕ) → Keeps image →
    offset + length (flat_map symbol_spelling image.symbols) ≡ end
    → Stands bytes offset (flat_map symbol_spelling image.symbols ++ rest)
    → items_at (length image.symbols) (symbol_at bytes image.pieces) symbol_width [] offset ≡ Ok (image.symbols, end)
symbols_read bytes image offset end rest keeps last s =
    items_read bytes (symbol_at bytes image.pieces) symbol_width symbol_spelling image.symbols symbol_wide each []
    image.symbols offset end rest refl last s
  where
    each : (before : List Symbol) (x : Symbol) (after : List Symbol) (offset : ℕ) (rest : List ℕ) →
        image.symbols ≡ before ++ x ∷ after
        → Stands bytes offset (symbol_spelling x ++ rest) → symbol_at bytes image.pieces before offset ≡ Ok x
    each before x after offset rest parts s =
        symbol_read bytes image.pieces offset x rest keeps.regions_placed.end_below
        (All_here (λ (y : Symbol). IsTrue (keeps_symbol image.pieces y)) image.symbols before x after parts
        keeps.symbols_kept) s

stacks_read : (bytes : List ℕ) (image : Contents) (offset end : ℕ) (rest : List ℕ) → Keeps image →
    offset + length (flat_map stack_spelling image.stacks) ≡ end
    → Stands bytes offset (flat_map stack_spelling image.stacks ++ rest)
    → items_at (length image.stacks) (stack_at bytes image.arena image.pieces) stack_width [] offset ≡ Ok
    (image.stacks, end)
stacks_read bytes image offset end rest keeps last s =
    items_read bytes (stack_at bytes image.arena image.pieces) stack_width stack_spelling image.stacks stack_wide each
    [] image.stacks offset end rest refl last s
  where
    each : (before : List Range) (x : Range) (after : List Range) (offset : ℕ) (rest : List ℕ) →
        image.stacks ≡ before ++ x ∷ after
        → Stands bytes offset (stack_spelling x ++ rest) → stack_at bytes image.arena image.pieces before offset ≡ Ok x
    each before x after offset rest parts s =
        let up = rw parts at keeps.stacks_ascend in
        let fit = rw parts at keeps.stacks_fit in
        let below = ends_below own_range 0 before x after up in
        let total = total_below own_range before x after in
        stack_read bytes image.arena image.pieces (end_of own_range 0 before) (total_of own_range before) offset x rest
        (All_here (λ (y : Range). IsTrue (keeps_stack image.arena image.pieces y)) image.stacks before x after parts
        keeps.stacks_kept) below (omega arith) s

-- a file stands whole at its own beginning
begins : (bytes : List ℕ) → Stands bytes 0 bytes
begins bytes = record { is = refl; place = omega arith }

pub image_read : (image : Contents) → Keeps image → image_of (spelling image) ≡ Ok image
unfolding image_of spelling
image_read image keeps =
    let bytes = spelling image in
    let h = header_spelling image in
    let r = flat_map region_spelling image.pieces in
    let s = flat_map symbol_spelling image.symbols in
    let t = flat_map stack_spelling image.stacks in
    let regrouped : bytes ≡ h ++ (r ++ (s ++ (t ++ []))) = simp (append_assoc, append-nil) in
    let from0 : Stands bytes 0 (h ++ (r ++ (s ++ (t ++ [])))) =
    subst (λ (w : List ℕ). Stands bytes 0 w) regrouped (begins bytes) in
    let from1 : Stands bytes 24 (r ++ (s ++ (t ++ []))) =
    behind bytes 0 h (r ++ (s ++ (t ++ []))) 24 (omega (arith, header_wide image)) from0 in
    let e1 = 24 + length r in
    let from2 : Stands bytes e1 (s ++ (t ++ [])) = behind bytes 24 r (s ++ (t ++ [])) e1 refl from1 in
    let e2 = e1 + length s in
    let from3 : Stands bytes e2 (t ++ []) = behind bytes e1 s (t ++ []) e2 refl from2 in
    let e3 = e2 + length t in
    let from4 : Stands bytes e3 [] = behind bytes e2 t [] e3 refl from3 in
    let whole : leb (length bytes) e3 ≡ true = le-leb (length bytes) e3 (let p = from4.place in omega arith) in
    rw (
      header_read bytes image (r ++ (s ++ (t ++ []))) keeps from0,
      regions_read bytes image e1 (s ++ (t ++ [])) keeps refl from1,
      symbols_read bytes image e1 e2 (t ++ []) keeps refl from2,
      stacks_read bytes image e2 e3 [] keeps refl from3,
      whole,
    ) refl
