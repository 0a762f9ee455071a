-- Where there is a window: by the pieces of code, the homes and the retired ranges.
use Rattle.std.proofs.Common.{◌≡◌, ℕ, ◌-◌, ◌≤◌, Bool, true, false, not, cond, ◌&&◌, ◌||◌, nat_lt}
use Rattle.std.proofs.Common.{if◌then◌else◌, List, [], ◌∷◌, map, length, get_or, drop, Option, Some, None, unwrap_or}
use Rattle.std.proofs.Common.{Contains, refl, sym, ◌∙◌, ap, arith, subst}
use Rattle.std.specs.List.{Any, filter, find}
use Rattle.std.proofs.lemmas.Bool.Decides.{nat_tests}
use Rattle.std.proofs.lemmas.List.{length-drop, length-map, get_or-map}
use Rattle.std.proofs.lemmas.List.Elements.{All-contains, All-contains_itself, All-filter}
use Rattle.std.proofs.lemmas.List.Folds.{Any-from_list_any, list_any_at}
use Rattle.ks_base.specs.declared.places.Range.{Range}
use Rattle.image_memory.specs.declared.types.Piece.{Piece}
use Rattle.image_memory.specs.declared.types.Fence.{Fence}
use Rattle.image_memory.specs.Ranges.{are_same, lies_in, is_one_of}
use Rattle.image_memory.specs.Contents.{Contents, IsValid, piece_range, fence_range, holding}
use Rattle.image_memory.specs.Access.{overlaid_piece, written}
use Rattle.image_memory.specs.Fetch.{AtHome, Stray, Bytes, is_code, code_in, HasCode, window_of, seen_in, view}
use Rattle.image_memory.specs.Fetch.{has_window}
use Rattle.image_memory.specs.laws.AccessLaws.{length-overlaid}
use Rattle.image_memory.specs.laws.RangeLaws.{inside, found, found_here}
use Rattle.update_memory.specs.Retired.{with_range, with_ranges}
use Rattle.update_memory.specs.Withdrawn.{is_based_at, without_pieces}
use Rattle.stack_scan.specs.Standing.{in_one}

-- whether a piece is one of code, and whether a code piece holds an address
abbrev pub has_text : Option Piece → Bool
has_text None = false
has_text (Some piece) = is_code piece.kind

abbrev pub text_at : List Piece → ℕ → Bool
text_at pieces address = has_text (holding pieces address)

-- There is a window where a code piece is, at a home or outside the retired ranges.
abbrev pub shows : (text home stray : Bool) → Bool
shows text home stray = text && (home || not stray)

pub window_by : (is_home : ℕ → Bool) (retired : List Range) (pieces : List Piece) (address : ℕ)
    → has_window (view is_home retired pieces address)
    ≡ shows (text_at pieces address) (is_home address) (in_one retired address)
unfolding view
window_by is_home retired pieces address = by_piece (holding pieces address)
  where
    by_bits : (home stray : Bool) (bytes : List ℕ)
        → has_window (if home then AtHome else (if stray then Stray else Bytes bytes)) ≡ (home || not stray)
    by_bits true stray bytes = refl
    by_bits false true bytes = refl
    by_bits false false bytes = refl

    by_kind : (text : Bool) (code : List ℕ)
        → has_window (seen_in is_home retired address (if text then Some code else None))
        ≡ shows text (is_home address) (in_one retired address)
    by_kind true code = by_bits (is_home address) (in_one retired address) (window_of retired address code)
    by_kind false code = refl

    by_piece : (o : Option Piece)
        → has_window (seen_in is_home retired address (code_in address o))
        ≡ shows (has_text o) (is_home address) (in_one retired address)
    by_piece None = refl
    by_piece (Some piece) = by_kind (is_code piece.kind) (drop (address - piece.base) piece.bytes)

-- A window stays where its code does, if each home stays or is in no retired range.
pub shows_on : (text home stray text_after home_after stray_after : Bool) → shows text home stray ≡ true
    → (text ≡ true → text_after ≡ true) → (home ≡ true → home_after ≡ false → stray_after ≡ true → ⊥)
    → (stray ≡ false → home_after ≡ false → stray_after ≡ true → ⊥)
    → shows text_after home_after stray_after ≡ true
shows_on false home stray text_after home_after stray_after was text_stays at_home outside = absurd (cc)
shows_on true false true text_after home_after stray_after was text_stays at_home outside = absurd (cc)
shows_on true true stray text_after true stray_after was text_stays at_home outside = rw (text_stays refl) refl
shows_on true true stray text_after false true was text_stays at_home outside = absurd (at_home refl refl refl)
shows_on true true stray text_after false false was text_stays at_home outside = rw (text_stays refl) refl
shows_on true false false text_after true stray_after was text_stays at_home outside = rw (text_stays refl) refl
shows_on true false false text_after false true was text_stays at_home outside = absurd (outside refl refl refl)
shows_on true false false text_after false false was text_stays at_home outside = rw (text_stays refl) refl

-- a write changes bytes alone
pub text_written : (start : ℕ) (bytes : List ℕ) (pieces : List Piece) (address : ℕ)
    → text_at (written start bytes pieces) address ≡ text_at pieces address
text_written start bytes [] address = refl
text_written start bytes (piece ∷ pieces) address =
    rw (length-overlaid start bytes piece.base piece.bytes)
    (by_place (lies_in address (piece_range piece)) (text_written start bytes pieces address))
  where
    by_place : (here : Bool) → text_at (written start bytes pieces) address ≡ text_at pieces address
        → has_text (cond here (Some (overlaid_piece start bytes piece)) (holding (written start bytes pieces) address))
        ≡ has_text (cond here (Some piece) (holding pieces address))
    by_place true rest = refl
    by_place false rest = rest

-- where a code piece is, it has a byte of code, and the other way round
pub text_is_code : (pieces : List Piece) (address : ℕ) → text_at pieces address ≡ true → HasCode pieces address 1
text_is_code pieces address is = by_piece (holding pieces address) refl is
  where
    by_kind : (text : Bool) (code : List ℕ) → text ≡ true → 1 ≤ length code
        → 1 ≤ length (unwrap_or (if text then Some code else None) [])
    by_kind true code here some = some
    by_kind false code here some = absurd (cc)

    by_piece : (o : Option Piece) → holding pieces address ≡ o → has_text o ≡ true
        → 1 ≤ length (unwrap_or (code_in address o) [])
    by_piece None held is = absurd (cc)
    by_piece (Some piece) held is =
        let there = inside address (piece_range piece)
        (found (λ (p : Piece). lies_in address (piece_range p)) pieces piece held).passes in
        let low = there.0 in
        let high = there.1 in
        by_kind (is_code piece.kind) (drop (address - piece.base) piece.bytes) is
        (omega (arith, length-drop (address - piece.base) piece.bytes))

pub code_is_text : (pieces : List Piece) (address : ℕ) → HasCode pieces address 1 → text_at pieces address ≡ true
code_is_text pieces address has = by_piece (holding pieces address) has
  where
    by_kind : (text : Bool) (code : List ℕ) → 1 ≤ length (unwrap_or (if text then Some code else None) [])
        → text ≡ true
    by_kind true code some = refl
    by_kind false code some = absurd (omega arith)

    by_piece : (o : Option Piece) → 1 ≤ length (unwrap_or (code_in address o) []) → has_text o ≡ true
    by_piece None some = absurd (omega arith)
    by_piece (Some piece) some = by_kind (is_code piece.kind) (drop (address - piece.base) piece.bytes) some

-- what lies in one of some ranges, when more are put among them
or_past : (a b c : Bool) → (a || (b || c)) ≡ (b || (a || c))
or_past true true c = refl
or_past true false c = refl
or_past false b c = refl

one_put : (range : Range) (ranges : List Range) (address : ℕ)
    → in_one (with_range ranges range) address ≡ (lies_in address range || in_one ranges address)
one_put range [] address = refl
one_put range (first ∷ ranges) address =
    by_order (nat_lt range.low first.low) (one_put range ranges address)
  where
    by_order : (b : Bool)
        → in_one (with_range ranges range) address ≡ (lies_in address range || in_one ranges address)
        → in_one (cond b (range ∷ first ∷ ranges) (first ∷ with_range ranges range)) address
        ≡ (lies_in address range || (lies_in address first || in_one ranges address))
    by_order true rest = refl
    by_order false rest =
        ap (λ (b : Bool). lies_in address first || b) rest
        ∙ or_past (lies_in address first) (lies_in address range) (in_one ranges address)

or_across : (a b c : Bool) → (b || (a || c)) ≡ ((a || b) || c)
or_across true true c = refl
or_across true false c = refl
or_across false b c = refl

pub one_more : (ranges more : List Range) (address : ℕ)
    → in_one (with_ranges ranges more) address ≡ (in_one more address || in_one ranges address)
one_more ranges [] address = refl
one_more ranges (range ∷ more) address =
    one_more (with_range ranges range) more address
    ∙ ap (λ (b : Bool). in_one more address || b) (one_put range ranges address)
    ∙ or_across (lies_in address range) (in_one more address) (in_one ranges address)

-- code stays outside the pieces that are taken away
pub text_left : (bases : List ℕ) (pieces : List Piece) (address : ℕ) → text_at pieces address ≡ true
    → in_one (map piece_range (filter (is_based_at bases) pieces)) address ≡ false
    → text_at (without_pieces bases pieces) address ≡ true
text_left bases [] address is apart = absurd (cc)
text_left bases (piece ∷ pieces) address is apart =
    by_place (lies_in address (piece_range piece)) (is_based_at bases piece) refl is apart
    (text_left bases pieces address)
  where
    taken : List Piece
    taken = filter (is_based_at bases) pieces

    left : List Piece
    left = without_pieces bases pieces

    by_place : (here gone : Bool) → lies_in address (piece_range piece) ≡ here
        → has_text (cond here (Some piece) (holding pieces address)) ≡ true
        → in_one (map piece_range (cond gone (piece ∷ taken) taken)) address ≡ false
        → (text_at pieces address ≡ true → in_one (map piece_range taken) address ≡ false → text_at left address ≡ true)
        → text_at (cond (not gone) (piece ∷ left) left) address ≡ true
    by_place true true at is apart rest = absurd (cc)
    by_place true false at is apart rest =
        ap (λ (b : Bool). has_text (cond b (Some piece) (holding left address))) at ∙ is
    by_place false true at is apart rest =
        rest is (ap (λ (b : Bool). b || in_one (map piece_range taken) address) (sym at) ∙ apart)
    by_place false false at is apart rest =
        ap (λ (b : Bool). has_text (cond b (Some piece) (holding left address))) at ∙ rest is apart

-- a range of a list that holds an address
pub record IsHeld (ranges : List Range) (address : ℕ) : Type 0 where
  pub range : Range
  pub there : Contains ranges range
  pub holds : lies_in address range ≡ true

pub held_in : (ranges : List Range) (address : ℕ) → in_one ranges address ≡ true → IsHeld ranges address
held_in ranges address is = read (Any-from_list_any (lies_in address) ranges is)
  where
    read : Any (λ (range : Range). lies_in address range ≡ true) ranges → IsHeld ranges address
    read (k, range, less, at, passes) = record { range = range; there = (k, less, at); holds = passes }

pub in_one_of : (ranges : List Range) (range : Range) (address : ℕ) → Contains ranges range
    → lies_in address range ≡ true → in_one ranges address ≡ true
in_one_of ranges range address (k, less, at) passes =
    list_any_at (lies_in address) ranges k range less
    (subst (λ (r : Range). lies_in address r ≡ true) (sym at) passes)

-- a range of a list is one of it
pub listed_one : (ranges : List Range) (range : Range) → Contains ranges range → is_one_of ranges range ≡ true
listed_one ranges range (k, less, at) =
    let itself : are_same range range ≡ true = grind (arith, nat_tests) in
    list_any_at (are_same range) ranges k range less
    (subst (λ (other : Range). are_same range other ≡ true) (sym at) itself)

-- what a filtered list has, and a mapped one
pub filter_contains : {X : Type 0} (p : X → Bool) (xs : List X) (x : X) → Contains (filter p xs) x → Contains xs x
filter_contains p xs x there =
    All-contains (Contains xs) (filter p xs) x (All-filter p (Contains xs) xs (All-contains_itself xs)) there

pub mapped_contains : {X Y : Type 0} (f : X → Y) (xs : List X) (x : X) → Contains xs x → Contains (map f xs) (f x)
mapped_contains f xs x (k, less, at) =
    (k, rw (length-map xs f) less, get_or-map f xs k x (f x) less ∙ ap f at)

-- two retired ranges that hold one address are one
pub one_there : (contents : Contents) (one other : Fence) (address : ℕ) → IsValid contents
    → Contains contents.fences one → Contains contents.fences other → lies_in address one.range ≡ true
    → lies_in address other.range ≡ true → one ≡ other
one_there contents one other address valid (i, less, here) (j, within_list, there) first second =
    let p : Fence → Bool = λ f. lies_in address (fence_range f) in
    let of_one : find p contents.fences ≡ Some (get_or contents.fences i one) =
    found_here fence_range 0 contents.fences address i one valid.fenced less
    (subst (λ (f : Fence). p f ≡ true) (sym here) first) in
    let of_other : find p contents.fences ≡ Some (get_or contents.fences j other) =
    found_here fence_range 0 contents.fences address j other valid.fenced within_list
    (subst (λ (f : Fence). p f ≡ true) (sym there) second) in
    cc
