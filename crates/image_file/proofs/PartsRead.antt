-- Each part of an image is read where its spelling stands.
use Rattle.std.proofs.Common.{◌≡◌, ℕ, ◌+◌, ◌-◌, ◌^◌, ◌<◌, ◌≤◌, Bool, true, false, cond, leb, eqb, List}
use Rattle.std.proofs.Common.{[], ◌∷◌, ◌++◌, length, ◌⊎◌, inl, inr, None, Ok, refl, arith, ◌&&◌}
use Rattle.std.specs.Option.{option_map}
use Rattle.std.specs.List.{All}
use Rattle.std.proofs.lemmas.Bool.{and_parts, cases_Bool}
use Rattle.std.proofs.lemmas.Bool.Decides.{nat_tests}
use Rattle.std.proofs.lemmas.List.Elements.{All-head, All-tail}
use Rattle.ks_base.specs.declared.places.Range.{Range}
use Rattle.image_memory.specs.declared.types.Kind.{Kind}
use Rattle.image_memory.specs.declared.types.Kind.TheVariants.{Code, ReadOnly, Writable}
use Rattle.image_memory.specs.declared.types.Piece.{Piece}
use Rattle.image_memory.specs.Contents.{holding, piece_range}
use Rattle.image_memory.specs.Ranges.{lies_in}
use Rattle.image_memory.specs.Access.{kind_of}
use Rattle.symbol_table.specs.declared.symbols.Symbol.{Symbol}
use Rattle.image_file.specs.Rules.{region_kind_rules, region_kind, base_rules, length_rules}
use Rattle.image_file.specs.Rules.{fits_region, no_rules, symbol_kind_rules, binding_rules}
use Rattle.image_file.specs.Rules.{name_length_rules, name_rules, stack_low_rules, stack_high_rules}
use Rattle.image_file.specs.Keeps.{all_hold, keeps_region, symbol_kind, keeps_symbol, keeps_stack}
use Rattle.image_file.specs.Reading.{region_after, symbol_among, stack_after}
use Rattle.image_file.specs.Spelling.{number, kind_number, region_spelling, symbol_spelling, stack_spelling}
use Rattle.image_file.proofs.Stands.{Stands, behind, content_read, all_read, field_read}

-- ---- regions

kind_again : (kind : Kind) → region_kind (kind_number kind) ≡ kind
kind_again Code = refl
kind_again ReadOnly = refl
kind_again Writable = refl

kind_holds : (kind : Kind) → all_hold (region_kind_rules (kind_number kind)) ≡ true
kind_holds Code = refl
kind_holds ReadOnly = refl
kind_holds Writable = refl

kind_small : (kind : Kind) → kind_number kind < 2 ^ 32
kind_small Code = omega arith
kind_small ReadOnly = omega arith
kind_small Writable = omega arith

length_holds : (arena : Range) (floor total base n : ℕ) → all_hold (length_rules arena 0 0 base n) ≡ true →
    total + n ≤ 16777216 → floor ≤ base
    → (all_hold (length_rules arena floor total base n) ≡ true) × (base + n ≤ 0xFFFF_0000)
length_holds arena floor total base n h small above = grind (arith, nat_tests)

pub region_read : (bytes : List ℕ) (arena : Range) (floor total offset : ℕ) (piece : Piece) (rest : List ℕ)
    → keeps_region arena piece ≡ true → floor ≤ piece.base → total + length piece.bytes ≤ 16777216
    → Stands bytes offset (region_spelling piece ++ rest) → region_after bytes arena floor total offset ≡ Ok piece
unfolding region_after region_spelling
region_read bytes arena floor total offset piece rest kept above small s =
    let n = length piece.bytes in
    let k = kind_number piece.kind in
    let p = and_parts (all_hold (base_rules piece.base)) (all_hold (length_rules arena 0 0 piece.base n)) kept in
    let fits = length_holds arena floor total piece.base n p.1 small above in
    let end = fits.1 in
    let s0 : Stands bytes offset (number k ++ (number piece.base ++ (number n ++ (piece.bytes ++ rest)))) = s in
    let s4 = behind bytes offset (number k) (number piece.base ++ (number n ++ (piece.bytes ++ rest)))
    (offset + 4) refl s0 in
    let s8 = behind bytes (offset + 4) (number piece.base) (number n ++ (piece.bytes ++ rest)) (offset + 8)
    (omega arith) s4 in
    let s12 = behind bytes (offset + 8) (number n) (piece.bytes ++ rest) (offset + 12) (omega arith) s8 in
    rw (
      field_read bytes offset region_kind_rules k (number piece.base ++ (number n ++ (piece.bytes ++ rest)))
          (kind_small piece.kind) (kind_holds piece.kind) s0,
      field_read bytes (offset + 4) base_rules piece.base (number n ++ (piece.bytes ++ rest)) (omega arith) p.0 s4,
      field_read bytes (offset + 8) (length_rules arena floor total piece.base) n (piece.bytes ++ rest)
          (omega arith) fits.0 s8,
      content_read bytes (offset + 12) piece.bytes rest n refl s12,
      kind_again piece.kind,
    ) refl

-- ---- symbols

held_low : (pieces : List Piece) (a : ℕ) → All (λ piece. (piece_range piece).high ≤ 0xFFFF_0000) pieces →
    (holding pieces a ≡ None) ⊎ (a < 0xFFFF_0000)
held_low [] a below = inl refl
held_low (piece ∷ pieces) a below =
    let end = All-head (λ (x : Piece). (piece_range x).high ≤ 0xFFFF_0000) piece pieces below in
    elim (cases_Bool (lies_in a (piece_range piece))) [
      | inl here ↦ inr (let low : a < (piece_range piece).high = grind (arith, nat_tests) in omega arith)
      | inr not_here ↦ elim (held_low pieces a
          (All-tail (λ (x : Piece). (piece_range x).high ≤ 0xFFFF_0000) piece pieces below)) [
            | inl none ↦ inl (rw not_here none)
            | inr low ↦ inr low
          ]
    ]

pub fits_low : (pieces : List Piece) (a kind : ℕ) → All (λ piece. (piece_range piece).high ≤ 0xFFFF_0000) pieces
    → fits_region kind (option_map kind_of (holding pieces a)) ≡ true → a < 0xFFFF_0000
fits_low pieces a kind below fits =
    elim (held_low pieces a below) [
      | inl none ↦ absurd (let wrong : false ≡ true = rw none at fits in cc)
      | inr low ↦ low
    ]

function_again : (function : Bool) → eqb (cond function 1 2) 1 ≡ function
function_again true = refl
function_again false = refl

function_small : (function : Bool) → cond function 1 2 < 2 ^ 32
function_small true = omega arith
function_small false = omega arith

global_again : (global : Bool) → eqb (cond global 1 0) 1 ≡ global
global_again true = refl
global_again false = refl

global_holds : (global : Bool) → all_hold (binding_rules (cond global 1 0)) ≡ true
global_holds true = refl
global_holds false = refl

global_small : (global : Bool) → cond global 1 0 < 2 ^ 32
global_small true = omega arith
global_small false = omega arith

name_small : (n : ℕ) → all_hold (name_length_rules n) ≡ true → n ≤ 4096
name_small n h = grind (arith, nat_tests)

-- the region that a symbol lies in is one of its kind
pub lies_well : (pieces : List Piece) (address kind : ℕ) → all_hold (symbol_kind_rules pieces address kind) ≡ true
    → fits_region kind (option_map kind_of (holding pieces address)) ≡ true
lies_well pieces address kind h =
    let fits = fits_region kind (option_map kind_of (holding pieces address)) in
    (and_parts fits true (and_parts (leb 1 kind && leb kind 2) (fits && true) h).1).0

pub symbol_read : (bytes : List ℕ) (pieces : List Piece) (offset : ℕ) (symbol : Symbol) (rest : List ℕ)
    → All (λ piece. (piece_range piece).high ≤ 0xFFFF_0000) pieces → keeps_symbol pieces symbol ≡ true
    → Stands bytes offset (symbol_spelling symbol ++ rest) → symbol_among bytes pieces offset ≡ Ok symbol
unfolding symbol_among symbol_spelling
symbol_read bytes pieces offset symbol rest below kept s =
    let n = length symbol.name in
    let k : ℕ = symbol_kind symbol in
    let g : ℕ = cond symbol.global 1 0 in
    let p = and_parts (all_hold (symbol_kind_rules pieces symbol.address k) && all_hold (name_length_rules n))
    (all_hold (name_rules symbol.name)) kept in
    let q = and_parts (all_hold (symbol_kind_rules pieces symbol.address k)) (all_hold (name_length_rules n)) p.0 in
    let fits : fits_region k (option_map kind_of (holding pieces symbol.address)) ≡ true =
    lies_well pieces symbol.address k q.0 in
    let low = fits_low pieces symbol.address k below fits in
    let short = name_small n q.1 in
    let s0 : Stands bytes offset (number symbol.address
    ++ (number k ++ (number g ++ (number n ++ (symbol.name ++ rest))))) = s in
    let s4 = behind bytes offset (number symbol.address) (number k ++ (number g ++ (number n ++ (symbol.name ++ rest))))
    (offset + 4) refl s0 in
    let s8 = behind bytes (offset + 4) (number k) (number g ++ (number n ++ (symbol.name ++ rest))) (offset + 8)
    (omega arith) s4 in
    let s12 = behind bytes (offset + 8) (number g) (number n ++ (symbol.name ++ rest)) (offset + 12) (omega arith) s8 in
    let s16 = behind bytes (offset + 12) (number n) (symbol.name ++ rest) (offset + 16) (omega arith) s12 in
    rw (
      field_read bytes offset no_rules symbol.address (number k ++ (number g ++ (number n ++ (symbol.name ++ rest))))
          (omega arith) refl s0,
      field_read bytes (offset + 4) (symbol_kind_rules pieces symbol.address) k
          (number g ++ (number n ++ (symbol.name ++ rest))) (function_small symbol.function) q.0 s4,
      field_read bytes (offset + 8) binding_rules g (number n ++ (symbol.name ++ rest)) (global_small symbol.global)
          (global_holds symbol.global) s8,
      field_read bytes (offset + 12) name_length_rules n (symbol.name ++ rest) (omega arith) q.1 s12,
      content_read bytes (offset + 16) symbol.name rest n refl s16,
      all_read (offset + 16) (name_rules symbol.name) symbol.name p.1,
      function_again symbol.function,
      global_again symbol.global,
    ) refl

-- ---- stacks

stack_holds : (arena : Range) (pieces : List Piece) (floor total low high : ℕ) →
    all_hold (stack_high_rules arena pieces 0 0 low high) ≡ true
    → total + (high - low) ≤ 16777216 → floor ≤ low
    → (all_hold (stack_high_rules arena pieces floor total low high) ≡ true) × (low ≤ high) × (high ≤ 0xFFFF_0000)
stack_holds arena pieces floor total low high h small above = grind (arith, nat_tests)

pub stack_read : (bytes : List ℕ) (arena : Range) (pieces : List Piece) (floor total offset : ℕ) (stack : Range)
    (rest : List ℕ)
    → keeps_stack arena pieces stack ≡ true → floor ≤ stack.low → total + (stack.high - stack.low) ≤ 16777216
    → Stands bytes offset (stack_spelling stack ++ rest) → stack_after bytes arena pieces floor total offset ≡ Ok stack
unfolding stack_after stack_spelling
stack_read bytes arena pieces floor total offset stack rest kept above small s =
    let p = and_parts (all_hold (stack_low_rules stack.low))
    (all_hold (stack_high_rules arena pieces 0 0 stack.low stack.high)) kept in
    let fits = stack_holds arena pieces floor total stack.low stack.high p.1 small above in
    let end = fits.1 in
    let up = fits.2 in
    let s0 : Stands bytes offset (number stack.low ++ (number stack.high ++ rest)) = s in
    let s4 = behind bytes offset (number stack.low) (number stack.high ++ rest) (offset + 4) refl s0 in
    rw (
      field_read bytes offset stack_low_rules stack.low (number stack.high ++ rest) (omega arith) p.0 s0,
      field_read bytes (offset + 4) (stack_high_rules arena pieces floor total stack.low) stack.high rest
          (omega arith) fits.0 s4,
    ) refl
