-- Ascending ranges by halving: the first that ends above an address decides whether one of them holds the address, or
-- meets a range that begins there. And what a loop over later updates, or over what they need, has looked at.
use Rattle.std.proofs.Common.{◌≡◌, ℕ, zero, suc, ◌+◌, ◌≤◌, ◌<◌, nat_le, nat_lt, ltb-true, ltb-false, arith}
use Rattle.std.proofs.Common.{Bool, true, false, cond, ◌&&◌, ◌||◌, List, [], ◌∷◌, length, get_or, drop}
use Rattle.std.proofs.Common.{Option, Some, None, Iter, Bor, inl, inr, refl, sym, ◌∙◌, ap}
use Rattle.std.specs.Option.{MatchOption, is_some, option_map, option_map_or, option_copied}
use Rattle.std.specs.List.{find, slice_get, AllWithin}
use Rattle.std.specs.Iterator.Adapters.{zip_first, zip_second}
use Rattle.std.specs.List.Sorted.{IsNonDecreasingBy}
use Rattle.std.specs.Slice.{IsItemAt}
use Rattle.std.specs.Slice.Iter.{iter_rest}
use Rattle.std.specs.declared.iter.Zip.{Zip}
use Rattle.std.proofs.iter.Yields.{fronts}
use Rattle.std.proofs.lemmas.Bool.Decides.{nat_tests}
use Rattle.std.proofs.lemmas.Iterator.{zips}
use Rattle.std.proofs.lemmas.List.{at_drop_more}
use Rattle.std.proofs.lemmas.Option.{slice_get_past, slice_get_read}
use Rattle.std.proofs.lemmas.Slice.Zip.{Zip-more, either_empty_from_Zip}
use Rattle.ks_base.specs.declared.places.Range.{Range}
use Rattle.ks_base.specs.declared.refusals.Refusal.{Refusal}
use Rattle.ks_base.specs.declared.refusals.Refusal.TheVariants.{Needed}
use Rattle.i386_reloc.specs.Below.{first_of}
use Rattle.i386_reloc.specs.Refused.{first_among}
use Rattle.image_memory.specs.Ranges.{Ascends, lies_in, meets}
use Rattle.image_memory.specs.laws.RangeLaws.{each_above, meet_where}
use Rattle.link_post.specs.declared.types.Need.{Need}
use Rattle.link_post.specs.declared.types.Needs.{Needs}
use Rattle.stack_scan.specs.Standing.{in_one}
use Rattle.update_stack.specs.AbstractMachine.{Update}
use Rattle.update_stack.specs.declared.updates.Kept.{Kept}
use Rattle.update_stack.specs.declared.updates.Update.{Update as Shown}
use Rattle.update_stack.specs.Systems.{live_update, live_updates}
use Rattle.update_stack.specs.Undo.{meets_one, is_need_in, needed_at, first_need_of}

-- the ends of ascending ranges rise
pub highs_rise : (floor : ℕ) (ranges : List Range) → Ascends (λ range. range) floor ranges
    → IsNonDecreasingBy (λ range. range.high) ranges
highs_rise floor [] up i j d l m = absurd (omega arith)
highs_rise floor (x ∷ xs) up zero zero d l m = omega arith
highs_rise floor (x ∷ xs) up zero (suc j) d l m =
    let above = each_above (λ (range : Range). range) x.high xs j d up.2 (omega arith) in
    omega arith
highs_rise floor (x ∷ xs) up (suc i) zero d l m = absurd (omega arith)
highs_rise floor (x ∷ xs) up (suc i) (suc j) d l m = highs_rise x.high xs up.2 i j d (omega arith) (omega arith)

-- what stands where the items that fail a test end is the first that passes
pub found_at : {X : Type 0} (p : X → Bool) (xs : List X) (i : ℕ) → AllWithin (λ x. p x ≡ false) xs 0 i
    → AllWithin (λ x. p x ≡ true) xs i (length xs) → slice_get xs i ≡ find p xs
found_at p [] i fail pass = refl
found_at p (x ∷ xs) zero fail pass = rw (pass zero x (omega arith) (omega arith)) refl
found_at p (x ∷ xs) (suc i) fail pass =
    rw (fail zero x (omega arith) (omega arith))
    (found_at p xs i (λ k d l m. fail (suc k) d (omega arith) (omega arith))
    (λ k d l m. pass (suc k) d (omega arith) (omega arith)))

-- no range holds an address below them all, or meets a range that ends there
none_holds : (floor address : ℕ) (ranges : List Range) → Ascends (λ range. range) floor ranges → address < floor
    → in_one ranges address ≡ false
none_holds floor address [] up below = refl
none_holds floor address (x ∷ xs) up below =
    let low = up.0 in
    let full = up.1 in
    let fails : lies_in address x ≡ false = grind (arith, nat_tests) in
    rw fails (none_holds x.high address xs up.2 (omega arith))

none_meets : (floor : ℕ) (one : Range) (ranges : List Range) → Ascends (λ range. range) floor ranges → one.high ≤ floor
    → meets_one ranges one ≡ false
none_meets floor one [] up below = refl
none_meets floor one (x ∷ xs) up below =
    let low = up.0 in
    let full = up.1 in
    let fails : meets one x ≡ false = grind (arith, nat_tests) in
    rw fails (none_meets x.high one xs up.2 (omega arith))

-- An address is one of ascending ranges' exactly where the first that ends above it begins at it or below.
pub held_by_first : (floor address : ℕ) (ranges : List Range) → Ascends (λ range. range) floor ranges →
    option_map_or (λ range. nat_le range.low address) (find (λ range. nat_lt address range.high) ranges) false
    ≡ in_one ranges address
held_by_first floor address [] up = refl
held_by_first floor address (x ∷ xs) up =
    by_tests (nat_lt address x.high) (nat_le x.low address) refl refl (held_by_first x.high address xs up.2)
  where
    IsHeld : Bool → Bool → Type 0
    IsHeld ends begun =
        option_map_or (λ range. nat_le range.low address)
        (cond ends (Some x) (find (λ range. nat_lt address range.high) xs)) false
        ≡ ((begun && ends) || in_one xs address)

    by_tests : (ends begun : Bool) → nat_lt address x.high ≡ ends → nat_le x.low address ≡ begun
        → IsHeld false false → IsHeld ends begun
    by_tests true true above below rest = below
    by_tests true false above below rest =
        below ∙ sym (none_holds x.high address xs up.2 (ltb-true address x.high above))
    by_tests false true above below rest = rest
    by_tests false false above below rest = rest

-- A range that isn't empty meets one of them exactly where the first that ends above its begin begins below its end.
pub met_by_first : (floor : ℕ) (one : Range) (ranges : List Range) → Ascends (λ range. range) floor ranges
    → one.low < one.high →
    option_map_or (λ range. nat_lt range.low one.high) (find (λ range. nat_lt one.low range.high) ranges) false
    ≡ meets_one ranges one
met_by_first floor one [] up is = refl
met_by_first floor one (x ∷ xs) up is =
    by_tests (nat_lt one.low x.high) (nat_lt x.low one.high) refl refl (met_by_first x.high one xs up.2 is)
  where
    IsMet : Bool → Bool → Type 0
    IsMet ends met =
        option_map_or (λ range. nat_lt range.low one.high)
        (cond ends (Some x) (find (λ range. nat_lt one.low range.high) xs)) false
        ≡ (met || meets_one xs one)

    apart : one.high ≤ x.low → meets one x ≡ false
    apart behind = grind (arith, nat_tests)

    before : x.high ≤ one.low → meets one x ≡ false
    before behind = grind (arith, nat_tests)

    by_tests : (ends begins : Bool) → nat_lt one.low x.high ≡ ends → nat_lt x.low one.high ≡ begins
        → IsMet false false → IsMet ends (meets one x)
    by_tests true true above below rest =
        rw (meet_where one x (ltb-true one.low x.high above) (ltb-true x.low one.high below) is up.1) below
    by_tests true false above below rest =
        let full = up.1 in
        let behind = ltb-false x.low one.high below in
        rw (apart behind) (below ∙ sym (none_meets x.high one xs up.2 (omega arith)))
    by_tests false begins above below rest = rw (before (ltb-false one.low x.high above)) rest

-- A range that is empty meets none.
pub none_met : (one : Range) (ranges : List Range) → one.high ≤ one.low → meets_one ranges one ≡ false
none_met one [] empty = refl
none_met one (x ∷ xs) empty =
    let fails : meets one x ≡ false = grind (arith, nat_tests) in
    rw fails (none_met one xs empty)

-- a test of an item, where there is one
pub tested : {X : Type 0} (test : X → Bool) (item : Option X) (passes : Bool)
    → MatchOption item (passes ≡ false) (λ x. passes ≡ test x) → passes ≡ option_map_or test item false
tested test None passes is = is
tested test (Some x) passes is = is

-- the copy of what was read of a list at an index
pub item_copied : {X : Type 0} (xs : List X) (i : ℕ) (item : Option (Bor X)) → IsItemAt xs i item
    → option_copied item ≡ slice_get xs i
item_copied xs i None is = sym (slice_get_past xs i is.3)
item_copied xs i (Some x) is = sym (slice_get_read xs (length xs) i x.now refl is.3.0 is.1)

-- the refusal for the first field of a section that needs an address in one of some ranges, by the field's offset
pub need_told : (ranges : List Range) (later : Update) (needs : Needs) (offset : Option ℕ)
    → offset ≡ option_map (λ need. need.offset) (find (is_need_in ranges) needs.fields)
    → first_need_of ranges later needs ≡ option_map (Needed later.name needs.section) offset
need_told ranges later needs offset is = rw is (by_found (find (is_need_in ranges) needs.fields))
  where
    by_found : (found : Option Need) → option_map (needed_at later needs) found
        ≡ option_map (Needed later.name needs.section) (option_map (λ need. need.offset) found)
    by_found None = refl
    by_found (Some need) = refl

-- the refusal for the first of the items that a loop hasn't looked at yet
pub among_left : {X : Type 0} (fault : X → Option Refusal) (xs : List X) (i : ℕ) (x : X) (why : Refusal) → i < length xs
    → x ≡ get_or xs i x → fault x ≡ Some why → first_among fault (drop i xs) ≡ Some why
among_left {X} fault xs i x why within at here =
    let rest = first_among fault (drop (i + 1) xs) in
    at_drop_more (first_among fault) xs i x within
    ∙ ap (λ (y : X). first_of (fault y) rest) (sym at)
    ∙ ap (λ (first : Option Refusal). first_of first rest) here

-- the later updates that a loop hasn't come to yet
abbrev pub ahead : Zip (Iter Shown) (Iter Kept) → List Update
ahead left = live_updates (iter_rest (zip_first left)) (iter_rest (zip_second left))

-- the next of them, and their end
pub next_ahead : (left past : Zip (Iter Shown) (Iter Kept)) (next : Option (Bor Shown × Bor Kept)) (update : Bor Shown)
    (one : Bor Kept) → next ≡ Some (update, one) → zips fronts fronts left next past
    → ahead left ≡ live_update update.now one.now ∷ ahead past
next_ahead left past next update one is steps =
    let more = Zip-more left past next (update, one) is steps in
    rw (more.0, more.1) refl

pub none_ahead : (left past : Zip (Iter Shown) (Iter Kept)) (next : Option (Bor Shown × Bor Kept)) → next ≡ None
    → zips fronts fronts left next past → ahead left ≡ []
none_ahead left past next is steps = elim (either_empty_from_Zip left past next is steps) [
  | inl none ↦ rw none refl
  | inr none ↦ rw none (none_kept (iter_rest (zip_first left)))
]
  where
    none_kept : (updates : List Shown) → live_updates updates [] ≡ []
    none_kept [] = refl
    none_kept (update ∷ updates) = refl

-- the refusal for the next of them is that for all
pub told_next : (next after all : Option Refusal) (why : Refusal) → all ≡ first_of next after → next ≡ Some why
    → all ≡ Some why
told_next next after all why is here = is ∙ ap (λ (first : Option Refusal). first_of first after) here

pub some_next : (next after all : Option Refusal) → all ≡ first_of next after → is_some next ≡ true → is_some all ≡ true
some_next None after all is here = absurd (cc)
some_next (Some why) after all is here = ap is_some is
