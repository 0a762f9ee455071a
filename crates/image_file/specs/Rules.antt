-- The rules of each field of an image, in the order in which they are tried.
use Rattle.std.specs.Prelude.{ℕ, ◌+◌, ◌-◌, ◌%◌, Bool, false, not, ◌&&◌, ◌||◌}
use Rattle.std.specs.Prelude.{◌==◌, nat_le, if◌then◌else◌, List, [], ◌∷◌}
use Rattle.std.specs.Prelude.{Option, Some, None}
use Rattle.std.specs.Option.{option_map}
use Rattle.std.specs.List.{list_any}
use Rattle.ks_base.specs.declared.places.Range.{Range}
use Rattle.ks_base.specs.declared.refusals.ImageFault.TheVariants as faults
use Rattle.image_memory.specs.declared.types.Kind.{Kind}
use Rattle.image_memory.specs.declared.types.Kind.TheVariants.{Code, ReadOnly, Writable}
use Rattle.image_memory.specs.declared.types.Piece.{Piece}
use Rattle.image_memory.specs.Ranges.{meets}
use Rattle.image_memory.specs.Contents.{holding, piece_range}
use Rattle.image_memory.specs.Access.{kind_of}
use Rattle.image_memory.specs.Fetch.{is_code}
use Rattle.image_file.specs.Fields.{Rule, ◌orElse◌}

abbrev pub is_aligned : ℕ → Bool
is_aligned n = n % 16 == 0

-- the end of the last of several things that each have a range, floor where there are none
abbrev pub end_of : {X : Type 0} → (X → Range) → ℕ → List X → ℕ
end_of range floor [] = floor
end_of range floor (x ∷ xs) = end_of range (range x).high xs

-- how many addresses their ranges have in all
abbrev pub total_of : {X : Type 0} → (X → Range) → List X → ℕ
total_of range [] = 0
total_of range (x ∷ xs) = ((range x).high - (range x).low) + total_of range xs

abbrev pub own_range : Range → Range
own_range range = range

-- the four bytes 4B 49 4D 31
abbrev pub magic_rules : ℕ → List Rule
magic_rules n = (n == 0x314D_494B orElse faults.Magic) ∷ []

abbrev pub count_rules : ℕ → ℕ → List Rule
count_rules limit n = (nat_le n limit orElse faults.Limit) ∷ []

abbrev pub arena_low_rules : ℕ → List Rule
arena_low_rules low = (is_aligned low orElse faults.Range) ∷ []

-- whether an arena is empty, or begins at 0x1000 or above and ends at 0xFFFF0000 or below
abbrev pub is_arena_placed : ℕ → ℕ → Bool
is_arena_placed low high = (low == high) || (nat_le 0x1000 low && nat_le high 0xFFFF_0000)

abbrev pub arena_high_rules : ℕ → ℕ → List Rule
arena_high_rules low high =
    (nat_le (high - low) 0x0100_0000 orElse faults.Limit)
    ∷ (is_aligned high orElse faults.Range)
    ∷ (nat_le low high orElse faults.Range)
    ∷ (is_arena_placed low high orElse faults.Range)
    ∷ []

abbrev pub region_kind_rules : ℕ → List Rule
region_kind_rules n = (nat_le 1 n && nat_le n 3 orElse faults.Kind) ∷ []

abbrev pub region_kind : ℕ → Kind
region_kind n = if n == 1 then Code else if n == 2 then ReadOnly else Writable

abbrev pub base_rules : ℕ → List Rule
base_rules base = (nat_le 0x1000 base orElse faults.Range) ∷ []

-- the rules of a region's length, where the regions before it end at floor and have so many bytes in all
abbrev pub length_rules : Range → ℕ → ℕ → ℕ → ℕ → List Rule
length_rules arena floor total base n =
    (nat_le 1 n orElse faults.Limit)
    ∷ (nat_le (total + n) 0x0100_0000 orElse faults.Limit)
    ∷ (nat_le (base + n) 0xFFFF_0000 orElse faults.Range)
    ∷ (nat_le floor base orElse faults.Order)
    ∷ (not (meets (record { low = base; high = base + n }) arena) orElse faults.Order)
    ∷ []

-- whether a symbol of a kind, 1 for a function and 2 for data, may lie in a region of a kind, or in none
abbrev pub fits_region : ℕ → Option Kind → Bool
fits_region kind None = false
fits_region kind (Some region) = if kind == 1 then is_code region else not (is_code region)

abbrev pub no_rules : ℕ → List Rule
no_rules n = []

abbrev pub symbol_kind_rules : List Piece → ℕ → ℕ → List Rule
symbol_kind_rules pieces address kind =
    (nat_le 1 kind && nat_le kind 2 orElse faults.Kind)
    ∷ (fits_region kind (option_map kind_of (holding pieces address)) orElse faults.Range)
    ∷ []

abbrev pub binding_rules : ℕ → List Rule
binding_rules n = (nat_le n 1 orElse faults.Kind) ∷ []

abbrev pub name_length_rules : ℕ → List Rule
name_length_rules n = (nat_le n 4096 orElse faults.Limit) ∷ (nat_le 1 n orElse faults.Name) ∷ []

abbrev pub is_zero : ℕ → Bool
is_zero byte = byte == 0

abbrev pub name_rules : List ℕ → List Rule
name_rules name = (not (list_any is_zero name) orElse faults.Name) ∷ []

abbrev pub stack_low_rules : ℕ → List Rule
stack_low_rules low = (is_aligned low orElse faults.Range) ∷ (nat_le 0x1000 low orElse faults.Range) ∷ []

-- whether a range meets one of the pieces
abbrev pub meets_a_piece : List Piece → Range → Bool
meets_a_piece pieces range = list_any (λ piece. meets range (piece_range piece)) pieces

-- the rules of a stack's high, where the stacks before it end at floor and have so many bytes in all
abbrev pub stack_high_rules : Range → List Piece → ℕ → ℕ → ℕ → ℕ → List Rule
stack_high_rules arena pieces floor total low high =
    (nat_le (total + (high - low)) 0x0100_0000 orElse faults.Limit)
    ∷ (is_aligned high orElse faults.Range)
    ∷ (nat_le (low + 32) high orElse faults.Range)
    ∷ (nat_le high 0xFFFF_0000 orElse faults.Range)
    ∷ (nat_le floor low orElse faults.Order)
    ∷ (not (meets (record { low = low; high = high }) arena) orElse faults.Order)
    ∷ (not (meets_a_piece pieces (record { low = low; high = high })) orElse faults.Order)
    ∷ []
