-- What later updates have to do with one at a place, told by what is kept of it.
use Rattle.std.proofs.Common.{◌≡◌, ℕ, ◌+◌, ◌≤◌, ◌<◌, Bool, true, false, cond, List, [], ◌∷◌, map, length, take, drop}
use Rattle.std.proofs.Common.{slice_get, Option, Some, None, refl, sym, ◌∙◌, ap, arith, subst, suc, zero}
use Rattle.std.proofs.Common.{◌≢◌, Result, Ok, Err, MatchResult, OnErr}
use Rattle.std.specs.Option.{option_map, is_some}
use Rattle.std.specs.List.{Any, filter, find, list_any}
use Rattle.std.specs.List.Sorted.{IsPermutation}
use Rattle.std.proofs.lemmas.Bool.{false≢true}
use Rattle.std.proofs.lemmas.List.Folds.{Any-from_list_any}
use Rattle.std.proofs.lemmas.List.Sorted.{Contains-permutation, IsPermutation-sym}
use Rattle.ks_base.specs.declared.places.Range.{Range}
use Rattle.ks_base.specs.declared.refusals.Refusal.{Refusal}
use Rattle.ks_base.specs.declared.refusals.Refusal.TheVariants.{Memory}
use Rattle.i386_reloc.specs.Below.{first_of}
use Rattle.i386_reloc.specs.Refused.{first_among}
use Rattle.image_memory.specs.declared.types.Piece.{Piece}
use Rattle.image_memory.specs.Ranges.{Ascends, lies_in, meets}
use Rattle.image_memory.specs.Contents.{piece_range}
use Rattle.image_threads.specs.Program.{Program}
use Rattle.link_post.specs.declared.types.Need.{Need}
use Rattle.link_post.specs.declared.types.Needs.{Needs}
use Rattle.update_memory.specs.Withdrawn.{is_based_at}
use Rattle.update_stack.specs.declared.updates.Arena.{Arena}
use Rattle.update_stack.specs.declared.updates.Update.{Update as Shown}
use Rattle.update_stack.specs.declared.updates.Kept.{Kept}
use Rattle.update_stack.specs.AbstractMachine.{AbstractMachine, Update}
use Rattle.update_stack.specs.Undo.{ranges_in, is_code_of, code_ranges_in, later_than, retires_in, covered_by}
use Rattle.update_stack.specs.Undo.{cover_refusal, needed_at, first_need, need_refusal}
use Rattle.update_stack.specs.Systems.{live_update, live_updates, machine_of, Holds}
use Rattle.update_stack.specs.laws.StackedLaws.{built_sound}
use Rattle.update_stack.proofs.SiftLaws.{one_passes}
use Rattle.update_stack.proofs.PastLaws.{IsAmong, later_among}
use Rattle.update_stack.proofs.ThereLaws.{built_names, listed_among}
use Rattle.update_stack.proofs.AtLaws.{live_at, parts_at, length_front, within}
use Rattle.update_stack.proofs.OrderLaws.{ascends_sorted}
use Rattle.update_stack.proofs.KeptAtLaws.{KeptRanges, kept_ranges}

-- the order of a list has no say in whether one of its items passes
passes_too : {X : Type 0} (p : X → Bool) (xs ys : List X) → IsPermutation xs ys → list_any p xs ≡ true
    → list_any p ys ≡ true
passes_too {X} p xs ys same is = read (Any-from_list_any p xs is)
  where
    read : Any (λ (x : X). p x ≡ true) xs → list_any p ys ≡ true
    read (i, x, less, at, passes) = one_passes p ys x (Contains-permutation xs ys x same (i, less, at)) passes

any_same : {X : Type 0} (p : X → Bool) (xs ys : List X) → IsPermutation xs ys → list_any p xs ≡ list_any p ys
any_same p xs ys same = by_both (list_any p xs) (list_any p ys) refl refl
  where
    by_both : (b c : Bool) → list_any p xs ≡ b → list_any p ys ≡ c → b ≡ c
    by_both true true one other = refl
    by_both false false one other = refl
    by_both true false one other = absurd (false≢true (sym other ∙ passes_too p xs ys same one))
    by_both false true one other =
        absurd (false≢true (sym one ∙ passes_too p ys xs (IsPermutation-sym xs ys same) other))

-- so the same updates cover, and need, whatever the order of the ranges
covers_same : (ranges others : List Range) → IsPermutation ranges others → retires_in ranges ≡ retires_in others
covers_same ranges others same =
    ap (λ (p : Range → Bool). let q : Update → Bool = λ update. list_any p update.retired in q)
    (λ i range. any_same (meets range) ranges others same i)

needs_same : (ranges others : List Range) → IsPermutation ranges others → first_need ranges ≡ first_need others
needs_same ranges others same =
    ap (λ (p : Need → Bool). let q : Update → Option Refusal = λ update.
    first_among (λ (needs : Needs). option_map (needed_at update needs) (find p needs.fields)) update.needs in q)
    (λ i need. any_same (lies_in need.s) ranges others same i)

-- some of the pieces of a memory ascend
lower : (floor below : ℕ) (ranges : List Range) → Ascends (λ range. range) floor ranges → below ≤ floor
    → Ascends (λ range. range) below ranges
lower floor below [] up less = tt
lower floor below (range ∷ ranges) up less = (omega (arith, up.0), up.1, up.2)

ascend_some : (p : Piece → Bool) (floor : ℕ) (pieces : List Piece) → Ascends piece_range floor pieces
    → Ascends (λ range. range) floor (map piece_range (filter p pieces))
ascend_some p floor [] up = tt
ascend_some p floor (piece ∷ pieces) up =
    by_test (p piece) (ascend_some p (piece_range piece).high pieces up.2)
  where
    by_test : (b : Bool)
        → Ascends (λ range. range) (piece_range piece).high (map piece_range (filter p pieces))
        → Ascends (λ range. range) floor (map piece_range (cond b (piece ∷ filter p pieces) (filter p pieces)))
    by_test true rest = (up.0, up.1, rest)
    by_test false rest =
        lower (piece_range piece).high floor (map piece_range (filter p pieces)) rest (omega (arith, up.0, up.1))

-- live updates behind a place
pub live_behind : (updates : List Shown) (kept : List Kept) (n : ℕ) → length kept ≡ length updates
    → live_updates (drop n updates) (drop n kept) ≡ drop n (live_updates updates kept)
live_behind updates kept zero paired = refl
live_behind [] [] (suc n) paired = refl
live_behind [] (one ∷ kept) (suc n) paired = absurd (omega arith)
live_behind (update ∷ updates) [] (suc n) paired = absurd (omega arith)
live_behind (update ∷ updates) (one ∷ kept) (suc n) paired = live_behind updates kept n (omega arith)

-- What is told of an update at a place by the ranges that are kept of it, and by what is kept of the later ones.
pub record IsTold (k : AbstractMachine) (update : Update) (ranges code_ranges : List Range) (later : List Update)
    : Type 0 where
  pub covers : option_map covered_by (find (retires_in code_ranges) later) ≡ cover_refusal k update
  pub needs : first_among (first_need ranges) later ≡ need_refusal k update
  pub threads : IsPermutation ranges (ranges_in k update)
  pub ascend : Ascends (λ range. range) 0 ranges
  pub code_ascend : Ascends (λ range. range) 0 code_ranges

pub told_at : (program : Program) (arena : Arena) (updates : List Shown) (kept : List Kept)
    → Holds program arena updates kept → (i : ℕ) (update : Update) (one : Kept)
    → slice_get (machine_of program arena updates kept).updates i ≡ Some update → slice_get kept i ≡ Some one
    → IsTold (machine_of program arena updates kept) update one.ranges one.code_ranges
    (live_updates (drop (i + 1) updates) (drop (i + 1) kept))
unfolding cover_refusal need_refusal
told_at program arena updates kept holds i update one here there =
    let k = machine_of program arena updates kept in
    let front = length_front k.updates i (within k.updates i update here) in
    let kept_front = length_front kept i (within kept i one there) in
    let among : IsAmong k.updates update (take i k.updates) (drop (i + 1) k.updates) =
    listed_among k.updates update (take i k.updates) (drop (i + 1) k.updates) (built_names k holds.built)
    (parts_at k.updates i update here) in
    let later : live_updates (drop (i + 1) updates) (drop (i + 1) kept) ≡ later_than update.name k.updates =
    live_behind updates kept (i + 1) holds.paired
    ∙ sym (later_among k.updates update (take i k.updates) (drop (i + 1) k.updates) among) in
    let has : KeptRanges k update one =
    kept_ranges k kept holds.are_kept holds.built update (take i k.updates) (drop (i + 1) k.updates) among
    (take i kept) (drop (i + 1) kept) one (parts_at kept i one there) (kept_front ∙ sym front) in
    let up = (built_sound k holds.built).jumps.valid.placed.ascend in record {
      covers =
          ap (λ (p : Update → Bool). option_map covered_by (find p (live_updates (drop (i + 1) updates)
          (drop (i + 1) kept)))) (covers_same one.code_ranges (code_ranges_in k update) has.code_ranges)
          ∙ ap (λ (us : List Update). option_map covered_by (find (retires_in (code_ranges_in k update)) us)) later;
      needs =
          ap (λ (f : Update → Option Refusal). first_among f (live_updates (drop (i + 1) updates) (drop (i + 1) kept)))
          (needs_same one.ranges (ranges_in k update) has.ranges)
          ∙ ap (first_among (first_need (ranges_in k update))) later;
      threads = has.ranges;
      ascend =
          ascends_sorted one.ranges (ranges_in k update)
          (ascend_some (is_based_at update.pieces) 0 k.pieces up) has.ranges has.order;
      code_ascend =
          ascends_sorted one.code_ranges (code_ranges_in k update) (ascend_some (is_code_of update) 0 k.pieces up)
          has.code_ranges has.code_order;
    }

-- the same of what a system is seen as
pub told_of : (program : Program) (arena : Arena) (updates : List Shown) (kept : List Kept)
    → Holds program arena updates kept → (k : AbstractMachine) → machine_of program arena updates kept ≡ k
    → (i : ℕ) (update : Update) (one : Kept) (ranges code_ranges : List Range) (later : List Shown)
    (later_kept : List Kept)
    → slice_get k.updates i ≡ Some update → slice_get kept i ≡ Some one → ranges ≡ one.ranges
    → code_ranges ≡ one.code_ranges → later ≡ drop (i + 1) updates → later_kept ≡ drop (i + 1) kept
    → IsTold k update ranges code_ranges (live_updates later later_kept)
told_of program arena updates kept holds k view i update one ranges code_ranges later later_kept here there same code
    behind kept_behind =
    let told = told_at program arena updates kept holds i update one
    (subst (λ (m : AbstractMachine). slice_get m.updates i ≡ Some update) (sym view) here) there in
    subst (λ (m : AbstractMachine). IsTold m update ranges code_ranges (live_updates later later_kept)) view
    (subst (λ (rs : List Range). IsTold (machine_of program arena updates kept) update rs code_ranges
    (live_updates later later_kept)) (sym same)
    (subst (λ (rs : List Range). IsTold (machine_of program arena updates kept) update one.ranges rs
    (live_updates later later_kept)) (sym code)
    (subst (λ (us : List Shown). IsTold (machine_of program arena updates kept) update one.ranges one.code_ranges
    (live_updates us later_kept)) (sym behind)
    (subst (λ (ks : List Kept). IsTold (machine_of program arena updates kept) update one.ranges one.code_ranges
    (live_updates (drop (i + 1) updates) ks)) (sym kept_behind) told))))

-- the ranges that are kept ascend
pub record Ascending (one : Kept) : Type 0 where
  pub all : Ascends (λ range. range) 0 one.ranges
  pub code : Ascends (λ range. range) 0 one.code_ranges

some_at : {X : Type 0} (xs : List X) (i : ℕ) → i < length xs → (x : X) × (slice_get xs i ≡ Some x)
some_at [] i less = absurd (omega arith)
some_at (x ∷ xs) zero less = (x, refl)
some_at (x ∷ xs) (suc i) less = some_at xs i (omega arith)

pub ascending_at : (program : Program) (arena : Arena) (updates : List Shown) (kept : List Kept)
    → Holds program arena updates kept → (i : ℕ) (one : Kept) → i < length updates → slice_get kept i ≡ Some one
    → Ascending one
ascending_at program arena updates kept holds i one less there =
    let shown = some_at updates i less in
    let told = told_at program arena updates kept holds i (live_update shown.0 one) one
    (live_at updates kept i shown.0 one shown.1 there) there in
    record { all = told.ascend; code = told.code_ascend }

-- What a look at the later updates comes to, where none covers the one, and where one does.
module _ (k : AbstractMachine) (update : Update) (ranges code_ranges : List Range) (later : List Update)
    (told : IsTold k update ranges code_ranges later) where
  uncovered : find (retires_in code_ranges) later ≡ None → cover_refusal k update ≡ None
  uncovered none = sym told.covers ∙ ap (option_map covered_by) none

  pub later_found : (r : Result (Unit {0}) Refusal) → find (retires_in code_ranges) later ≡ None
      → MatchResult r (λ _. first_among (first_need ranges) later ≡ None)
      (λ refusal. refusal ≢ Memory → first_among (first_need ranges) later ≡ Some refusal)
      → MatchResult r (λ _. (cover_refusal k update ≡ None) × (need_refusal k update ≡ None))
      (λ refusal. refusal ≢ Memory → first_of (cover_refusal k update) (need_refusal k update) ≡ Some refusal)
  later_found (Ok x) none found = (uncovered none, sym told.needs ∙ found)
  later_found (Err refusal) none found = λ other.
      ap (λ (o : Option Refusal). first_of o (need_refusal k update)) (uncovered none) ∙ sym told.needs ∙ found other

  pub later_named : (r : Result (Unit {0}) Refusal) → find (retires_in code_ranges) later ≡ None
      → OnErr r (is_some (first_among (first_need ranges) later) ≡ true)
      → OnErr r (is_some (first_of (cover_refusal k update) (need_refusal k update)) ≡ true)
  later_named (Ok x) none found = tt
  later_named (Err refusal) none found =
      ap (λ (o : Option Refusal). is_some (first_of o (need_refusal k update))) (uncovered none)
      ∙ ap is_some (sym told.needs) ∙ found

  pub cover_found : (refusal : Refusal)
      → option_map covered_by (find (retires_in code_ranges) later) ≡ Some refusal
      → first_of (cover_refusal k update) (need_refusal k update) ≡ Some refusal
  cover_found refusal is =
      ap (λ (o : Option Refusal). first_of o (need_refusal k update)) (sym told.covers ∙ is)

  pub cover_named : is_some (find (retires_in code_ranges) later) ≡ true
      → is_some (first_of (cover_refusal k update) (need_refusal k update)) ≡ true
  cover_named is =
      ap (λ (o : Option Refusal). is_some (first_of o (need_refusal k update))) (sym told.covers)
      ∙ by_found (find (retires_in code_ranges) later) is
    where
      by_found : (o : Option Update) → is_some o ≡ true
          → is_some (first_of (option_map covered_by o) (need_refusal k update)) ≡ true
      by_found None none = absurd (cc)
      by_found (Some one) some = refl
