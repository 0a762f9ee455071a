-- The padding that is computed is all that there is, and the room is the greatest number of bytes that have room.
use Rattle.std.proofs.Common.{◌≡◌, ℕ, zero, suc, ◌+◌, ◌-◌, ◌<◌, ◌≤◌, min, true, false, cond, nat_lt, ◌⊎◌, inl, inr}
use Rattle.std.proofs.Common.{List, [], ◌∷◌, map, Option, Some, None, refl, arith}
use Rattle.std.specs.List.{AllByRecursion, filter, fold, reduce}
use Rattle.std.proofs.lemmas.Bool.{ltb-true, lt-ltb}
use Rattle.std.proofs.lemmas.List.Elements.{All-from_recursion, recursion_from_All}
use Rattle.image_memory.specs.Contents.{Contents}
use Rattle.image_memory.specs.Fetch.{view_at}
use Rattle.symbol_table.specs.declared.symbols.Symbol.{Symbol}
use Rattle.symbol_table.specs.Symbols.{address_of, next_address}
use Rattle.update_retired.specs.Room.{end_of_code, padded_end, padding_end, padding_length, past, room, up_to_symbol}
use Rattle.update_retired.specs.Roomy.{HasRoom, LiesBetween, PaddedTo}
use Rattle.update_retired.specs.Roomy.PaddedTo.{Ends, Follows}
use Rattle.update_retired.proofs.PaddingLaws.{AreSome, padded_from, padding_some, one_on}
use Rattle.update_retired.proofs.SameRoom.{code_length}

-- ---- the next symbol
-- an end lies no further than the least of some numbers exactly where it lies no further than each
each_from : (end first : ℕ) (ns : List ℕ) → end ≤ fold min first ns →
    (end ≤ first) × AllByRecursion (λ n. end ≤ n) ns
each_from end first [] up = (up, tt)
each_from end first (n ∷ ns) up =
    let rest = each_from end (min first n) ns up in
    let below = rest.0 in (omega (arith, below), (omega (arith, below), rest.1))

least_from : (end first : ℕ) (ns : List ℕ) → end ≤ first → AllByRecursion (λ n. end ≤ n) ns →
    end ≤ fold min first ns
least_from end first [] up each = up
least_from end first (n ∷ ns) up each =
    let next = each.0 in least_from end (min first n) ns (omega (arith, up, next)) each.1

-- an end lies no further than a number, where there is one
abbrev IsUpTo : ℕ → Option ℕ → Type 0
IsUpTo end None = Unit {0}
IsUpTo end (Some address) = end ≤ address

each_of : (end : ℕ) (ns : List ℕ) → IsUpTo end (reduce min ns) → AllByRecursion (λ n. end ≤ n) ns
each_of end [] up = tt
each_of end (n ∷ ns) up = each_from end n ns up

least_of : (end : ℕ) (ns : List ℕ) → AllByRecursion (λ n. end ≤ n) ns → IsUpTo end (reduce min ns)
least_of end [] each = tt
least_of end (n ∷ ns) each = least_from end n ns each.0 each.1

-- the addresses above a home
abbrev above : ℕ → List Symbol → List ℕ
above home symbols = filter (nat_lt home) (map address_of symbols)

-- no symbol lies between
abbrev AreFree : (home end : ℕ) → List Symbol → Type 0
AreFree home end symbols = AllByRecursion (λ symbol. LiesBetween home end symbol → ⊥) symbols

none_between : (home end : ℕ) (symbols : List Symbol) → AllByRecursion (λ n. end ≤ n) (above home symbols) →
    AreFree home end symbols
none_between home end [] each = tt
none_between home end (x ∷ xs) each =
    elim (nat_lt home x.address) as (λ b. nat_lt home x.address ≡ b →
    AllByRecursion (λ n. end ≤ n) (cond b (x.address ∷ above home xs) (above home xs)) → AreFree home end (x ∷ xs)) [
      | true ↦ λ is each.
          let far = each.0 in
          (λ between. let low = between.1 in absurd (omega (arith, low, far)), none_between home end xs each.1)
      | false ↦ λ is each.
          (λ between. let up = lt-ltb home x.address between.0 in absurd cc, none_between home end xs each)
    ] refl each

far_each : (home end : ℕ) (symbols : List Symbol) → AreFree home end symbols →
    AllByRecursion (λ n. end ≤ n) (above home symbols)
far_each home end [] free = tt
far_each home end (x ∷ xs) free =
    elim (nat_lt home x.address) as (λ b. nat_lt home x.address ≡ b →
    AllByRecursion (λ n. end ≤ n) (cond b (x.address ∷ above home xs) (above home xs))) [
      | true ↦ λ is. (far x.address end (λ low. free.0 (ltb-true home x.address is, low)), far_each home end xs free.1)
      | false ↦ λ is. far_each home end xs free.1
    ] refl where
      some_or_none : (a b : ℕ) → (a < b) ⊎ (b ≤ a)
      some_or_none a b = grind arith

      far : (a b : ℕ) → (a < b → ⊥) → b ≤ a
      far a b none = elim (some_or_none a b) [ inl below ↦ absurd (none below) | inr up ↦ up ]

-- ---- the padding
past_reached : (contents : Contents) (address : ℕ) (rest : ℕ → ℕ) (o : Option ℕ) →
    padding_length (view_at contents address) ≡ o → ((a : ℕ) → PaddedTo contents a (rest a)) →
    PaddedTo contents address (past address rest o)
past_reached contents address rest None is on = Ends address
past_reached contents address rest (Some n) is on = Follows address n (rest (address + n)) is (on (address + n))

-- padding instructions lead to where padding ends
padding_reached : (contents : Contents) (n address : ℕ) → PaddedTo contents address (padding_end contents n address)
unfolding padding_end
padding_reached contents zero address = Ends address
padding_reached contents (suc n) address =
    past_reached contents address (padding_end contents n) (padding_length (view_at contents address)) refl
    (λ a. padding_reached contents n a)

-- and up to a limit no further, by as many instructions as there are addresses
padding_greatest : AreSome → (contents : Contents) (n address end limit : ℕ) → PaddedTo contents address end →
    limit ≤ end → limit ≤ address + n → limit ≤ padding_end contents n address
padding_greatest some contents zero address end limit padded reached by_n =
    let on = padded_from contents zero address in
    omega (arith, on, by_n)
padding_greatest some contents (suc n) address _ limit (Ends _) reached by_n =
    let on = padded_from contents (suc n) address in
    omega (arith, on, reached)
padding_greatest some contents (suc n) address end limit (Follows _ k _ is rest) reached by_n =
    let long = padding_some some (view_at contents address) k is in
    let same = one_on contents n address k is in
    let far = padding_greatest some contents n (address + k) end limit rest reached (omega (arith, long, by_n)) in
    omega (arith, same, far)

-- where a body ends with its padding
pub padded_reached : (contents : Contents) (home long : ℕ) →
    PaddedTo contents (home + long) (padded_end contents home long)
padded_reached contents home long =
    padding_reached contents (end_of_code contents.pieces home - (home + long)) (home + long)

pub padded_greatest : AreSome → (contents : Contents) (home long end limit : ℕ) → PaddedTo contents (home + long) end →
    limit ≤ end → limit ≤ end_of_code contents.pieces home → limit ≤ padded_end contents home long
padded_greatest some contents home long end limit padded reached in_code =
    padding_greatest some contents (end_of_code contents.pieces home - (home + long)) (home + long) end limit padded
    reached (omega (arith, in_code))

-- ---- the room
-- what a number of bytes up to the room says, and what says it
record Parts (home code padding n : ℕ) (next : Option ℕ) : Type 0 where
  in_code : n ≤ code
  in_padding : home + n ≤ padding
  below : IsUpTo (home + n) next

parts_of : (home code padding n : ℕ) (next : Option ℕ) → 0 < n →
    n ≤ up_to_symbol (min (home + code) padding) next - home → Parts home code padding n next
parts_of home code padding n None some enough =
    record { in_code = omega (arith, some, enough); in_padding = omega (arith, some, enough); below = tt }
parts_of home code padding n (Some a) some enough =
    record {
      in_code = omega (arith, some, enough);
      in_padding = omega (arith, some, enough);
      below = omega (arith, some, enough);
    }

whole_of : (home code padding n : ℕ) (next : Option ℕ) → n ≤ code → home + n ≤ padding → IsUpTo (home + n) next →
    n ≤ up_to_symbol (min (home + code) padding) next - home
whole_of home code padding n None in_code in_padding below = omega (arith, in_code, in_padding)
whole_of home code padding n (Some a) in_code in_padding below = omega (arith, in_code, in_padding, below)

nothing_between : (home : ℕ) (symbols : List Symbol) → AreFree home (home + 0) symbols
nothing_between home [] = tt
nothing_between home (x ∷ xs) =
    (λ between. let low = between.0 in let high = between.1 in absurd (omega (arith, low, high)), nothing_between home xs)

pub room_enough : (contents : Contents) (symbols : List Symbol) (home long n : ℕ) → n ≤ room contents symbols home long →
    HasRoom contents symbols home long n
unfolding room
room_enough contents symbols home long zero enough =
    record {
      code = omega arith;
      end = home + long;
      padding = Ends (home + long);
      within = omega arith;
      free = All-from_recursion (λ symbol. LiesBetween home (home + 0) symbol → ⊥) symbols (nothing_between home symbols);
    }
room_enough contents symbols home long (suc n) enough =
    let parts = parts_of home (code_length contents.pieces home) (padded_end contents home long) (suc n)
    (next_address symbols home) (omega arith) enough in
    record {
      code = parts.in_code;
      end = padded_end contents home long;
      padding = padded_reached contents home long;
      within = parts.in_padding;
      free = All-from_recursion (λ symbol. LiesBetween home (home + suc n) symbol → ⊥) symbols
          (none_between home (home + suc n) symbols (each_of (home + suc n) (above home symbols) parts.below));
    }

pub room_greatest : AreSome → (contents : Contents) (symbols : List Symbol) (home long n : ℕ) →
    HasRoom contents symbols home long n → n ≤ room contents symbols home long
unfolding room
room_greatest some contents symbols home long n has =
    let code : n ≤ code_length contents.pieces home = has.code in
    let free = recursion_from_All (λ symbol. LiesBetween home (home + n) symbol → ⊥) symbols has.free in
    whole_of home (code_length contents.pieces home) (padded_end contents home long) n (next_address symbols home) code
    (padded_greatest some contents home long has.end (home + n) has.padding has.within (omega (arith, code)))
    (least_of (home + n) (above home symbols) (far_each home (home + n) symbols free))
