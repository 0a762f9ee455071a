-- The image of a work keeps the rules of images.
use Rattle.std.proofs.Common.{◌≡◌, ℕ, ◌+◌, ◌≤◌, ◌<◌, ◌^◌, ◌==◌, Bool, true, false, if◌then◌else◌}
use Rattle.std.proofs.Common.{IsTrue, List, [], ◌∷◌, map, codes, length, Some, refl, sym, subst, ◌∙◌, arith}
use Rattle.std.specs.Option.{option_map}
use Rattle.std.specs.List.{list_any, All}
use Rattle.std.specs.Int.Digits.{digits_of}
use Rattle.std.proofs.lemmas.Bool.Decides.{nat_tests}
use Rattle.std.proofs.lemmas.Int.Digits.{length-digits_of-le}
use Rattle.std.proofs.lemmas.List.{length-map}
use Rattle.std.proofs.lemmas.List.Elements.{All-nil, All-cons, All-map}
use Rattle.std.proofs.lemmas.List.FromFn.{length-range_with_len, get_or-range_with_len}
use Rattle.std.proofs.lemmas.Nat.{mod_below}
use Rattle.ks_base.specs.declared.places.Range.{Range}
use Rattle.ks_base.specs.Text.{hex_digit, digits_text, number_text}
use Rattle.symbol_table.specs.declared.symbols.Symbol.{Symbol}
use Rattle.image_memory.specs.declared.types.Kind.TheVariants.{Code}
use Rattle.image_memory.specs.declared.types.Piece.{Piece}
use Rattle.image_memory.specs.Access.{kind_of}
use Rattle.image_memory.specs.Contents.{holding, piece_range}
use Rattle.image_memory.specs.Ranges.{from_to, lies_in, meets}
use Rattle.image_file.specs.Keeps.{Keeps, keeps_region, keeps_symbol, keeps_stack}
use Rattle.image_file.specs.Rules.{is_zero, meets_a_piece}
use Rattle.work_gen.specs.Functions.{function_count, functions, function_name}
use Rattle.work_gen.specs.Image.{code_base, stack_lows}
use Rattle.work_forms.specs.Program.{code_piece, symbol_of, stack_from, work_image}
use Rattle.work_forms.proofs.SpellingLaws.{symbol_count, code_length}

pub few_functions : (number : ℕ) → function_count number ≤ 512
few_functions number = omega (arith, mod_below number 497 (omega arith))

-- the code has at least one byte, and ends below the stacks
record IsShort (n : ℕ) : Type 0 where
  some : 1 ≤ n
  few : n ≤ 16384

code_short : (number : ℕ) → IsShort (length (code_piece number).bytes)
code_short number =
    record {
      some = omega (arith, code_length number);
      few = omega (arith, code_length number, few_functions number);
    }

-- names
number_short : (is_0 : Bool) (i : ℕ) → i < 10 ^ 4
    → length (if is_0 then codes "0" else map hex_digit (digits_of 10 i)) ≤ 4
number_short true i small = omega arith
number_short false i small =
    omega (arith, length-map (digits_of 10 i) hex_digit, length-digits_of-le 10 4 i (omega arith) small)

pub name_short : (i : ℕ) → i < 10 ^ 4 → length (function_name i) ≤ 5
unfolding function_name number_text digits_text
name_short i small = omega (arith, number_short (i == 0) i small)

name_some : (i : ℕ) → 1 ≤ length (function_name i)
unfolding function_name
name_some i = omega arith

digit_shown : (d : ℕ) → is_zero (hex_digit d) ≡ false
digit_shown d = grind (arith, nat_tests)

digits_shown : (ds : List ℕ) → list_any is_zero (map hex_digit ds) ≡ false
digits_shown [] = refl
digits_shown (d ∷ ds) = rw (digit_shown d) (digits_shown ds)

number_shown : (is_0 : Bool) (i : ℕ)
    → list_any is_zero (if is_0 then codes "0" else map hex_digit (digits_of 10 i)) ≡ false
number_shown true i = refl
number_shown false i = digits_shown (digits_of 10 i)

pub name_shown : (i : ℕ) → list_any is_zero (function_name i) ≡ false
unfolding function_name number_text digits_text
name_shown i = number_shown (i == 0) i

-- symbols
symbol_keeps : (pieces : List Piece) (s : Symbol) → s.function ≡ true
    → option_map kind_of (holding pieces s.address) ≡ Some Code
    → 1 ≤ length s.name → length s.name ≤ 4096 → list_any is_zero s.name ≡ false → IsTrue (keeps_symbol pieces s)
symbol_keeps pieces s function there some few shown = rw (function, there, shown) (grind (arith, nat_tests))

lies_there : (address : ℕ) (piece : Piece) → piece.base ≤ address → address < piece.base + length piece.bytes
    → lies_in address (piece_range piece) ≡ true
lies_there address piece above below = grind (arith, nat_tests)

code_there : (number i : ℕ) → i < function_count number
    → option_map kind_of (holding (code_piece number ∷ []) (symbol_of i).address) ≡ Some Code
code_there number i within =
    let here = lies_there (symbol_of i).address (code_piece number) (omega arith)
    (omega (arith, code_length number, within)) in
    rw here refl

work_symbol : (number i : ℕ) → i < function_count number
    → IsTrue (keeps_symbol (code_piece number ∷ []) (symbol_of i))
work_symbol number i within =
    symbol_keeps (code_piece number ∷ []) (symbol_of i) refl (code_there number i within) (name_some i)
    (omega (arith, name_short i (omega (arith, few_functions number, within)))) (name_shown i)

work_symbols : (number : ℕ) → All (λ symbol. IsTrue (keeps_symbol (code_piece number ∷ []) symbol))
    (map symbol_of (functions (function_count number)))
work_symbols number =
    let count = function_count number in
    All-map (λ (symbol : Symbol). IsTrue (keeps_symbol (code_piece number ∷ []) symbol)) symbol_of (functions count)
    (λ k d within.
    let below : k < count = omega (arith, length-range_with_len 0 count, within) in
    let at : k ≡ 0 + k = omega arith in
    subst (λ (i : ℕ). IsTrue (keeps_symbol (code_piece number ∷ []) (symbol_of i)))
    (at ∙ sym (get_or-range_with_len 0 count k d below)) (work_symbol number k below))

-- the region and the stacks
below_arena : (piece arena : Range) → piece.high ≤ arena.low → meets piece arena ≡ false
below_arena piece arena h = grind (arith, nat_tests)

above_code : (stack piece : Range) → piece.high ≤ stack.low → meets stack piece ≡ false
above_code stack piece h = grind (arith, nat_tests)

region_apart : (n : ℕ) → n ≤ 16384
    → meets (from_to code_base (code_base + n)) (from_to 0x0080_0000 0x0090_0000) ≡ false
region_apart n few = below_arena (from_to code_base (code_base + n)) (from_to 0x0080_0000 0x0090_0000) (omega arith)

work_region : (number : ℕ) → IsTrue (keeps_region (work_image number).arena (code_piece number))
unfolding work_image
work_region number =
    let n = length (code_piece number).bytes in
    let some = (code_short number).some in
    let few = (code_short number).few in
    rw (region_apart n few) (grind (arith, nat_tests))

stack_apart : (number low : ℕ) → 0x0040_0000 ≤ low → meets_a_piece (code_piece number ∷ []) (stack_from low) ≡ false
stack_apart number low h =
    let few = (code_short number).few in
    let apart = above_code (stack_from low) (piece_range (code_piece number)) (omega arith) in
    rw apart refl

abbrev KeepsStack : ℕ → Range → Type 0
KeepsStack number stack = IsTrue (keeps_stack (from_to 0x0080_0000 0x0090_0000) (code_piece number ∷ []) stack)

work_stacks : (number : ℕ) → All (KeepsStack number) (map stack_from stack_lows)
work_stacks number =
    let P : Range → Type 0 = KeepsStack number in
    let one = stack_from 0x0040_0000 in
    let two = stack_from 0x0042_0000 in
    let three = stack_from 0x0044_0000 in
    let four = stack_from 0x0046_0000 in
    All-cons P one (two ∷ three ∷ four ∷ []) (rw (stack_apart number 0x0040_0000 (omega arith)) refl)
    (All-cons P two (three ∷ four ∷ []) (rw (stack_apart number 0x0042_0000 (omega arith)) refl)
    (All-cons P three (four ∷ []) (rw (stack_apart number 0x0044_0000 (omega arith)) refl)
    (All-cons P four [] (rw (stack_apart number 0x0046_0000 (omega arith)) refl) (All-nil P))))

pub image_keeps : (number : ℕ) → Keeps (work_image number)
unfolding work_image
image_keeps number =
    let some = (code_short number).some in
    let few = (code_short number).few in
    record {
      few_regions = omega arith;
      few_symbols = omega (arith, symbol_count number, few_functions number);
      few_stacks = omega arith;
      arena_fits = omega arith;
      arena_kept = refl;
      regions_placed =
          record {
            ascend = (omega arith, omega arith, tt);
            end_below =
                All-cons (λ (piece : Piece). (piece_range piece).high ≤ 0xFFFF_0000) (code_piece number) []
                (omega arith) (All-nil (λ (piece : Piece). (piece_range piece).high ≤ 0xFFFF_0000));
          };
      regions_kept =
          All-cons (λ (piece : Piece). IsTrue (keeps_region (work_image number).arena piece)) (code_piece number) []
          (work_region number) (All-nil (λ (piece : Piece). IsTrue (keeps_region (work_image number).arena piece)));
      regions_fit = omega arith;
      symbols_kept = work_symbols number;
      stacks_kept = work_stacks number;
      stacks_ascend = (
        omega arith,
        omega arith,
        (omega arith, omega arith, (omega arith, omega arith, (omega arith, omega arith, tt))),
      );
      stacks_fit = omega arith;
    }
