-- What holds of the machine at every moment: before and after an update, and after a write.
use Rattle.std.proofs.Common.{◌≡◌, ◌≢◌, ℕ, suc, ◌^◌, ◌<◌, ◌≤◌, ◌==◌, ◌&&◌, ◌||◌, Bool, true, false, not, cond, nat_lt}
use Rattle.std.proofs.Common.{List, [], ◌∷◌, ◌++◌, map, length, get_or, Some, None, refl, sym, ◌∙◌, ap, arith, subst}
use Rattle.std.proofs.Common.{IsTrue, IfSome, Option, ne_eqb}
use Rattle.std.proofs.Common.{length-append, ◌⊎◌, inl, inr}
use Rattle.std.specs.List.{All, Any, Contains, fold, flat_map, list_any}
use Rattle.std.proofs.lemmas.List.{length-map, get_or-map}
use Rattle.std.proofs.lemmas.List.Elements.{All-head, All-tail, All-cons, All-map, All-contains, Contains-get_or}
use Rattle.std.proofs.lemmas.List.Elements.{Contains-append_cases, Contains-append_left, Contains-append_right}
use Rattle.std.proofs.lemmas.List.Folds.{Any-from_list_any, list_any_at}
use Rattle.std.proofs.lemmas.Grind.{flat_map-append}
use Rattle.std.proofs.lemmas.Bool.{false≢true}
use Rattle.std.proofs.lemmas.Bool.Decides.{nat_tests}
use Rattle.ks_base.specs.declared.places.Range.{Range}
use Rattle.ks_base.specs.declared.reports.Replaced.{Replaced}
use Rattle.image_memory.specs.declared.types.Piece.{Piece}
use Rattle.image_memory.specs.declared.types.Fence.{Fence}
use Rattle.image_memory.specs.Ranges.{Ascends, meets, MeetsNone, are_same, is_one_of}
use Rattle.image_memory.specs.Contents.{Contents, IsValid, ArePlaced, piece_range, fence_range}
use Rattle.image_memory.specs.Access.{overlaid_piece, written}
use Rattle.image_memory.specs.Changes.{ArePlaceable, HasPiece, with_piece, with_fence, after_add, after_fence}
use Rattle.image_memory.specs.Fetch.{HasCode}
use Rattle.image_memory.specs.laws.AccessLaws.{length-overlaid, Ascends-written}
use Rattle.splice_jump.specs.Jumps.{IsFenced, IsSpliced, AreSpliced}
use Rattle.splice_jump.specs.laws.CodeLaws.{code_written, spliced_written}
use Rattle.update_memory.specs.Added.{AreAddable, with_pieces}
use Rattle.update_memory.specs.Retired.{AreRetirable, with_fences, with_ranges}
use Rattle.update_memory.specs.Withdrawn.{is_based_at, without_pieces, ranges_but}
use Rattle.ia32_step.specs.declared.types.Thread.{Thread}
use Rattle.image_threads.specs.Spawning.{is_writable, is_stack}
use Rattle.update_plan.specs.declared.types.Plan.{Plan}
use Rattle.update_plan.specs.Sound.{IsCode, IsJumpTo, is_replaced_at, IsVersion, BeginsAt, AllReplaceNewest, CanBeMade}
use Rattle.update_stack.specs.AbstractMachine.{AbstractMachine, Row, Update, is_home, base_of, bodies_in, fence_in}
use Rattle.update_stack.specs.AbstractMachine.{with_replaced, contents_of}
use Rattle.update_stack.specs.Apply.{has_name, with_new_piece, update_as, committed, retired_of}
use Rattle.update_stack.specs.Undo.{without_last, withdrawn, newest_update}
use Rattle.update_stack.specs.Scratch.{IsScratch, HasScratch, LeavesScratch, is_among}
use Rattle.update_stack.specs.Stacked.{IsSound, IsVersionOf, IsOnTop, IsBuilt, Untouched, Updated}
use Rattle.update_stack.specs.laws.StackedLaws.{built_sound, last_more}
use Rattle.update_stack.specs.laws.TableLaws.{homes_after, homes_spliced}
use Rattle.update_stack.specs.laws.ViewLaws.{ranges_back}
use Rattle.update_stack.proofs.ScratchLaws.{same_ends, scratch_stays, based_apart}
use Rattle.update_stack.proofs.TableLaws.{IsTable, first_table, table_stays, table_back, last_back}
use Rattle.update_stack.proofs.TableLaws.{pairs_map, all_homes_more, bases_after, table_spliced}
use Rattle.update_stack.proofs.PlaceLaws.{last_parted, without_newest, withdrawn_newest, updates_left}

-- the laws of changes of memory that are used here
abbrev pub PiecesValid : Type 0
PiecesValid = (contents : Contents) (pieces : List Piece) → IsValid contents → ArePlaceable pieces
    → AreAddable contents pieces → IsValid (with_pieces contents pieces)

abbrev pub FencesStay : Type 0
FencesStay = (contents : Contents) (pieces : List Piece) → (with_pieces contents pieces).fences ≡ contents.fences

abbrev pub PiecesGiven : Type 0
PiecesGiven = (contents : Contents) (pieces : List Piece) (piece : Piece) → Contains pieces piece
    → Contains (with_pieces contents pieces).pieces piece

abbrev pub PiecesCode : Type 0
PiecesCode = (contents : Contents) (pieces : List Piece) (address count : ℕ) → IsValid contents
    → ArePlaceable pieces → AreAddable contents pieces → HasCode contents.pieces address count
    → HasCode (with_pieces contents pieces).pieces address count

abbrev pub PiecesSpliced : Type 0
PiecesSpliced = (contents : Contents) (pieces : List Piece) (rows : List (ℕ × ℕ)) → IsValid contents
    → ArePlaceable pieces → AreAddable contents pieces → AreSpliced contents rows
    → AreSpliced (with_pieces contents pieces) rows

abbrev pub RangesValid : Type 0
RangesValid = (contents : Contents) (fences : List Fence) → IsValid contents → AreRetirable contents fences
    → IsValid (with_fences contents fences)

abbrev pub PiecesStay : Type 0
PiecesStay = (contents : Contents) (fences : List Fence) → (with_fences contents fences).pieces ≡ contents.pieces

abbrev pub RangesMade : Type 0
RangesMade = (contents : Contents) (fences : List Fence) → map fence_range (with_fences contents fences).fences
    ≡ with_ranges (map fence_range contents.fences) (map fence_range fences)

abbrev pub RangesKept : Type 0
RangesKept = (contents : Contents) (fences : List Fence) (fence : Fence) → Contains contents.fences fence
    → Contains (with_fences contents fences).fences fence

abbrev pub RangesGiven : Type 0
RangesGiven = (contents : Contents) (fences : List Fence) (fence : Fence) → Contains fences fence
    → Contains (with_fences contents fences).fences fence

abbrev pub PiecesBack : Type 0
PiecesBack = (contents : Contents) (pieces : List Piece) → IsValid contents → ArePlaceable pieces
    → AreAddable contents pieces
    → without_pieces (map (λ (p : Piece). p.base) pieces) (with_pieces contents pieces).pieces ≡ contents.pieces

abbrev pub RangesBack : Type 0
RangesBack = (contents : Contents) (fences : List Fence) → IsValid contents → AreRetirable contents fences
    → ranges_but (map fence_range fences) (with_ranges (map fence_range contents.fences) (map fence_range fences))
    ≡ map fence_range contents.fences

pub record MemoryLaws : Type 0 where
  pub pieces_valid : PiecesValid
  pub pieces_fences : FencesStay
  pub pieces_given : PiecesGiven
  pub pieces_code : PiecesCode
  pub pieces_spliced : PiecesSpliced
  pub pieces_back : PiecesBack
  pub ranges_valid : RangesValid
  pub ranges_pieces : PiecesStay
  pub ranges_made : RangesMade
  pub ranges_kept : RangesKept
  pub ranges_given : RangesGiven
  pub ranges_back : RangesBack

-- and its table is one
pub built_table : (k : AbstractMachine) → IsBuilt k → IsTable k.table
built_table _ (Untouched k sound none empty unused) = subst IsTable (sym empty) first_table
built_table _ (Updated k update sound newest above built) =
    subst IsTable (sym above.table)
    (table_stays (withdrawn k update).table update.report.replaced (built_table (withdrawn k update) built))

-- a machine by its parts
pub machine_is : (a b : AbstractMachine) → a.pieces ≡ b.pieces → a.table ≡ b.table → a.retired ≡ b.retired
    → a.symbols ≡ b.symbols → a.stacks ≡ b.stacks → a.arena ≡ b.arena → a.scratch ≡ b.scratch
    → a.threads ≡ b.threads → a.updates ≡ b.updates → a ≡ b
machine_is a b pieces table retired symbols stacks arena scratch threads updates = λ i. record {
  pieces = pieces i;
  table = table i;
  retired = retired i;
  symbols = symbols i;
  stacks = stacks i;
  arena = arena i;
  scratch = scratch i;
  threads = threads i;
  updates = updates i;
}

-- a memory by its two parts
memory_is : (a b : Contents) → a.pieces ≡ b.pieces → a.fences ≡ b.fences → a ≡ b
memory_is a b pieces fences = λ i. record { pieces = pieces i; fences = fences i }

none_listed : {X : Type 0} (P : X → Type 0) → All P []
none_listed P k d l = absurd (omega arith)

or_none : (a : Bool) → (a || false) ≡ a
or_none true = refl
or_none false = refl

pub contains_mapped : {X Y : Type 0} (f : X → Y) (xs : List X) (x : X) → Contains xs x → Contains (map f xs) (f x)
contains_mapped f xs x (k, less, at) =
    (k, rw (length-map xs f) less, get_or-map f xs k x (f x) less ∙ ap f at)

any_mapped : {X Y : Type 0} (P : Y → Type 0) (f : X → Y) (xs : List X) → Any (λ x. P (f x)) xs → Any P (map f xs)
any_mapped P f xs (k, x, less, at, is) =
    let there = contains_mapped f xs x (k, less, at) in
    (there.0, f x, there.1, there.2, is)

pub ascends_full : {X : Type 0} (range : X → Range) (floor : ℕ) (xs : List X) → Ascends range floor xs
    → All (λ x. (range x).low < (range x).high) xs
ascends_full range floor [] up = none_listed (λ x. (range x).low < (range x).high)
ascends_full range floor (x ∷ xs) up =
    All-cons (λ x. (range x).low < (range x).high) x xs up.1 (ascends_full range (range x).high xs up.2)

-- retired ranges that begin at one address meet
low_meets : (a b : Range) → a.low ≡ b.low → a.low < a.high → b.low < b.high → meets a b ≡ true
low_meets a b same full some = grind (arith, nat_tests)

low_differs : (a b : Range) → meets a b ≡ false → a.low < a.high → b.low < b.high → a.low ≢ b.low
low_differs a b apart full some = λ same. false≢true (sym apart ∙ low_meets a b same full some)

are_other : (a b : Range) → meets a b ≡ false → a.low < a.high → b.low < b.high → are_same a b ≡ false
are_other a b apart full some =
    ap (λ (t : Bool). t && (a.high == b.high)) (ne_eqb a.low b.low (low_differs a b apart full some))

clash : (fence : Fence) (fences : List Fence) (other : Fence) → MeetsNone fence_range fence.range fences
    → Contains fences other → fence.range.low ≡ other.range.low → fence.range.low < fence.range.high
    → other.range.low < other.range.high → ⊥
clash fence fences other none (k, less, at) same full some =
    let here : meets fence.range (get_or fences k other).range ≡ true =
    subst (λ (f : Fence). meets fence.range f.range ≡ true) (sym at)
    (low_meets fence.range other.range same full some) in
    false≢true (sym none ∙ list_any_at (λ f. meets fence.range (fence_range f)) fences k other less here)

-- what holds of each retired range holds of all when more are retired of which it holds
all_put : (P : Fence → Type 0) (fence : Fence) (fences : List Fence) → P fence → All P fences
    → All P (with_fence fence fences)
all_put P fence [] is all = All-cons P fence [] is all
all_put P fence (x ∷ xs) is all =
    by_order (nat_lt fence.range.low x.range.low)
    (all_put P fence xs is (All-tail P x xs all))
  where
    by_order : (b : Bool) → All P (with_fence fence xs) → All P (cond b (fence ∷ x ∷ xs) (x ∷ with_fence fence xs))
    by_order true rest = All-cons P fence (x ∷ xs) is all
    by_order false rest = All-cons P x (with_fence fence xs) (All-head P x xs all) rest

all_fenced : (P : Fence → Type 0) (contents : Contents) (fences : List Fence) → All P contents.fences → All P fences
    → All P (with_fences contents fences).fences
unfolding with_fences
all_fenced P contents [] before all = before
all_fenced P contents (fence ∷ fences) before all =
    all_fenced P (after_fence contents fence) fences
    (all_put P fence contents.fences (All-head P fence fences all) before) (All-tail P fence fences all)

-- retired ranges that are marked by a table are its fences
abbrev IsMarked : List Row → Fence → Type 0
IsMarked table fence = fence.jump ≡ is_home table fence.range.low

fences_back : (table : List Row) (fences : List Fence) → All (IsMarked table) fences
    → map (fence_in table) (map fence_range fences) ≡ fences
fences_back table [] marked = refl
fences_back table (fence ∷ fences) marked =
    ap (λ (jump : Bool). let f : Fence = record { range = fence.range; jump = jump } in
    f ∷ map (fence_in table) (map fence_range fences)) (sym (All-head (IsMarked table) fence fences marked))
    ∙ ap (λ (fs : List Fence). fence ∷ fs) (fences_back table fences (All-tail (IsMarked table) fence fences marked))

-- the pieces of a memory to which some were added
pub pieces_made : (contents : Contents) (pieces : List Piece)
    → (with_pieces contents pieces).pieces ≡ fold with_new_piece contents.pieces pieces
unfolding with_pieces
pieces_made contents [] = refl
pieces_made contents (piece ∷ pieces) = pieces_made (after_add contents piece) pieces

-- a plan that can be made fits
pub pieces_fit : (contents : Contents) (plan : Plan) → CanBeMade contents plan → AreAddable contents plan.pieces
pieces_fit contents plan can = record {
  apart = pairs_map piece_range (λ a b. meets a b ≡ false) plan.pieces can.apart;
  clear = All-map (λ range. MeetsNone piece_range range contents.pieces) piece_range plan.pieces can.alone;
}

-- code stays code where a plan is made
pub code_kept : PiecesCode → (k : AbstractMachine) (name : List ℕ) (plan : Plan) (address count : ℕ) → IsBuilt k
    → CanBeMade (contents_of k) plan → HasCode k.pieces address count
    → HasCode (committed k name plan).pieces address count
unfolding committed
code_kept code k name plan address count built can is =
    subst (λ (pieces : List Piece). HasCode pieces address count) (pieces_made (contents_of k) plan.pieces)
    (code (contents_of k) plan.pieces address count (built_sound k built).jumps.valid can.placeable
    (pieces_fit (contents_of k) plan can) is)

pub ranges_fit : FencesStay → (contents : Contents) (plan : Plan) → CanBeMade contents plan
    → AreRetirable (with_pieces contents plan.pieces) plan.fences
ranges_fit stay contents plan can = record {
  full = All-map (λ (range : Range). range.low < range.high) fence_range plan.fences can.full;
  apart = pairs_map fence_range (λ a b. meets a b ≡ false) plan.fences can.retired_apart;
  clear =
      subst (λ (fences : List Fence). All (λ range. MeetsNone fence_range range fences) (map fence_range plan.fences))
      (sym (stay contents plan.pieces))
      (All-map (λ range. MeetsNone fence_range range contents.fences) fence_range plan.fences can.in_use);
}

plain_fit : (contents : Contents) (plan : Plan) → CanBeMade contents plan → AreRetirable contents plan.fences
plain_fit contents plan can = record {
  full = All-map (λ (range : Range). range.low < range.high) fence_range plan.fences can.full;
  apart = pairs_map fence_range (λ a b. meets a b ≡ false) plan.fences can.retired_apart;
  clear = All-map (λ range. MeetsNone fence_range range contents.fences) fence_range plan.fences can.in_use;
}

-- an update that was made under a new name is the newest, and the only one of its name
newest_made : (k : AbstractMachine) (name : List ℕ) (plan : Plan)
    → newest_update (committed k name plan) ≡ Some (update_as name plan)
unfolding committed
newest_made k name plan = last_more None k.updates (update_as name plan)

name_made : (k : AbstractMachine) (name : List ℕ) (plan : Plan) → list_any (has_name name) k.updates ≡ false
    → list_any (has_name name) (without_last 1 (committed k name plan).updates) ≡ false
unfolding committed
name_made k name plan new =
    ap (list_any (has_name name)) (last_back k.updates (update_as name plan ∷ [])) ∙ new

-- and it is taken back
pub committed_back : MemoryLaws → (k : AbstractMachine) (name : List ℕ) (plan : Plan) → IsBuilt k
    → CanBeMade (contents_of k) plan → list_any (has_name name) k.updates ≡ false
    → withdrawn (committed k name plan) (update_as name plan) ≡ k
unfolding committed
committed_back laws k name plan built can new =
    let contents = contents_of k in
    let valid = (built_sound k built).jumps.valid in
    withdrawn_newest (committed k name plan) (update_as name plan) (newest_made k name plan) (name_made k name plan new)
    ∙ machine_is (without_newest (committed k name plan) (update_as name plan)) k
    (ap (without_pieces (map (λ (p : Piece). p.base) plan.pieces)) (sym (pieces_made contents plan.pieces))
    ∙ laws.pieces_back contents plan.pieces valid can.placeable (pieces_fit contents plan can))
    (table_back k.table plan.report.replaced (built_table k built) can.once)
    (ap (λ (rs : List Range). ranges_but (map fence_range plan.fences) (with_ranges rs (map fence_range plan.fences)))
    (sym (ranges_back k.table k.retired))
    ∙ laws.ranges_back contents plan.fences valid (plain_fit contents plan can)
    ∙ ranges_back k.table k.retired)
    (last_back k.symbols plan.symbols)
    refl refl refl refl
    (last_back k.updates (update_as name plan ∷ []))

-- stacks among pieces, when a piece is put in
later_true : (a b : Bool) → b ≡ true → (a || b) ≡ true
later_true true b is = refl
later_true false b is = is

either_true : (here rest more : Bool) → (here || rest) ≡ true → (rest ≡ true → more ≡ true) → (here || more) ≡ true
either_true true rest more is then = refl
either_true false rest more is then = then is

pub stack_put : (piece : Piece) (pieces : List Piece) (stack : Range) → is_stack pieces stack ≡ true
    → is_stack (with_piece piece pieces) stack ≡ true
stack_put piece [] stack is = absurd (false≢true is)
stack_put piece (x ∷ xs) stack is = by_order (nat_lt piece.base x.base) (stack_put piece xs stack)
  where
    by_order : (b : Bool) → (is_stack xs stack ≡ true → is_stack (with_piece piece xs) stack ≡ true)
        → is_stack (cond b (piece ∷ x ∷ xs) (x ∷ with_piece piece xs)) stack ≡ true
    by_order true rest =
        later_true (is_writable piece.kind && are_same (piece_range piece) stack) (is_stack (x ∷ xs) stack) is
    by_order false rest =
        either_true (is_writable x.kind && are_same (piece_range x) stack) (is_stack xs stack)
        (is_stack (with_piece piece xs) stack) is rest

pub stacks_stay : (before pieces : List Piece) (stack : Range) → is_stack before stack ≡ true
    → is_stack (fold with_new_piece before pieces) stack ≡ true
stacks_stay before [] stack is = is
stacks_stay before (piece ∷ pieces) stack is =
    stacks_stay (with_piece piece before) pieces stack (stack_put piece before stack is)

-- A machine on which an update is made.
module _ (laws : MemoryLaws) (k : AbstractMachine) (name : List ℕ) (plan : Plan) (built : IsBuilt k)
    (can : CanBeMade (contents_of k) plan) where
  abbrev contents : Contents
  contents = contents_of k

  abbrev added : Contents
  added = with_pieces contents plan.pieces

  abbrev pub text_after : Contents
  text_after = with_fences added plan.fences

  abbrev replaced : List Replaced
  replaced = plan.report.replaced

  abbrev table_after : List Row
  table_after = fold with_replaced k.table replaced

  sound : IsSound k
  sound = built_sound k built

  full_before : All (λ (fence : Fence). fence.range.low < fence.range.high) contents.fences
  full_before = ascends_full fence_range 0 contents.fences sound.jumps.valid.fenced

  marked_before : All (IsMarked k.table) contents.fences
  marked_before = All-map (IsMarked k.table) (fence_in k.table) k.retired (λ i d l. refl)

  -- a range that is retired already begins at no home that had no row
  no_new_home : (fence : Fence) → Contains contents.fences fence
      → is_replaced_at replaced fence.range.low ≡ true → is_home k.table fence.range.low ≡ true
  no_new_home fence there is =
      read (Any-from_list_any (λ (one : Replaced). one.home == fence.range.low) replaced is)
    where
      at_fence : (one : Replaced) (other : Fence) → one.home ≡ fence.range.low → IsFenced one.home other
          → Contains plan.fences other ⊎ Contains contents.fences other → is_home k.table fence.range.low ≡ true
      at_fence one other same is (inl new) =
          absurd (clash other contents.fences fence
          (All-contains (λ (f : Fence). MeetsNone fence_range f.range contents.fences) plan.fences other can.in_use new)
          there (is.low ∙ same)
          (All-contains (λ (f : Fence). f.range.low < f.range.high) plan.fences other can.full new)
          (All-contains (λ (f : Fence). f.range.low < f.range.high) contents.fences fence full_before there))
      at_fence one other same is (inr old) =
          ap (is_home k.table) (sym (is.low ∙ same))
          ∙ sym (All-contains (IsMarked k.table) contents.fences other marked_before old)
          ∙ is.jump

      read : Any (λ (one : Replaced). (one.home == fence.range.low) ≡ true) replaced
          → is_home k.table fence.range.low ≡ true
      read (j, one, less, at, passes) =
          let jump : IsJumpTo contents plan.fences one =
          All-contains (IsJumpTo contents plan.fences) replaced one can.jumps (j, less, at) in
          let same : one.home ≡ fence.range.low = grind (arith, nat_tests) in
          found one same jump.fence
        where
          found : (one : Replaced) → one.home ≡ fence.range.low
              → Any (IsFenced one.home) (plan.fences ++ contents.fences) → is_home k.table fence.range.low ≡ true
          found one same (m, other, within, stands, fenced) =
              at_fence one other same fenced
              (Contains-append_cases plan.fences contents.fences other (m, within, stands))

  -- a range that the plan retires begins at no home that has a row
  no_old_home : (fence : Fence) → Contains plan.fences fence → is_home k.table fence.range.low ≡ false
  no_old_home fence new = by_home (is_home k.table fence.range.low) refl
    where
      read : Any (λ (row : Row). (row.home == fence.range.low) ≡ true) k.table → ⊥
      read (j, row, less, at, passes) =
          let spliced : IsSpliced contents row.home =
          All-contains (λ (r : Row). IsSpliced contents r.home) k.table row
          (homes_spliced contents k.table sound.jumps.spliced) (j, less, at) in
          let same : row.home ≡ fence.range.low = grind (arith, nat_tests) in
          found row same spliced.fence
        where
          found : (row : Row) → row.home ≡ fence.range.low → Any (IsFenced row.home) contents.fences → ⊥
          found row same (m, other, within, stands, fenced) =
              clash fence contents.fences other
              (All-contains (λ (f : Fence). MeetsNone fence_range f.range contents.fences) plan.fences fence
              can.in_use new) (m, within, stands) (sym (fenced.low ∙ same))
              (All-contains (λ (f : Fence). f.range.low < f.range.high) plan.fences fence can.full new)
              (omega (arith, fenced.long, fenced.low))

      by_home : (b : Bool) → is_home k.table fence.range.low ≡ b → is_home k.table fence.range.low ≡ false
      by_home true there =
          absurd (read (Any-from_list_any (λ (row : Row). row.home == fence.range.low) k.table there))
      by_home false none = none

  mark_stays : (fence : Fence) → Contains contents.fences fence
      → is_home table_after fence.range.low ≡ is_home k.table fence.range.low
  mark_stays fence there =
      homes_after k.table replaced fence.range.low
      ∙ by_home (is_replaced_at replaced fence.range.low) (no_new_home fence there)
    where
      by_home : (b : Bool) → (b ≡ true → is_home k.table fence.range.low ≡ true)
          → (is_home k.table fence.range.low || b) ≡ is_home k.table fence.range.low
      by_home true then =
          ap (λ (a : Bool). a || true) (then refl) ∙ sym (then refl)
      by_home false then = or_none (is_home k.table fence.range.low)

  marked_after : All (IsMarked table_after) text_after.fences
  marked_after =
      all_fenced (IsMarked table_after) added plan.fences
      (subst (All (IsMarked table_after)) (sym (laws.pieces_fences contents plan.pieces))
      (λ i d l.
      let there = Contains-get_or contents.fences i d l in
      marked_before i d l ∙ sym (mark_stays (get_or contents.fences i d) there)))
      (λ i d l.
      let fence = get_or plan.fences i d in
      can.marked i d l
      ∙ sym (homes_after k.table replaced fence.range.low
      ∙ ap (λ (b : Bool). b || is_replaced_at replaced fence.range.low)
      (no_old_home fence (Contains-get_or plan.fences i d l))))

  ranges_after : map fence_range text_after.fences ≡ (committed k name plan).retired
  unfolding committed
  ranges_after =
      laws.ranges_made added plan.fences
      ∙ ap (λ (fences : List Fence). with_ranges (map fence_range fences) (map fence_range plan.fences))
      (laws.pieces_fences contents plan.pieces)
      ∙ ap (λ (ranges : List Range). with_ranges ranges (map fence_range plan.fences)) (ranges_back k.table k.retired)

  pieces_after : text_after.pieces ≡ (committed k name plan).pieces
  unfolding committed
  pieces_after = laws.ranges_pieces added plan.fences ∙ pieces_made contents plan.pieces

  -- the machine after the update, as a memory
  pub contents_after : contents_of (committed k name plan) ≡ text_after
  unfolding committed
  contents_after =
      memory_is (contents_of (committed k name plan)) text_after (sym pieces_after)
      (ap (map (fence_in table_after)) (sym ranges_after) ∙ fences_back table_after text_after.fences marked_after)

  valid_after : IsValid text_after
  valid_after =
      laws.ranges_valid added plan.fences
      (laws.pieces_valid contents plan.pieces sound.jumps.valid can.placeable (pieces_fit contents plan can))
      (ranges_fit laws.pieces_fences contents plan can)

  fence_kept : (home : ℕ) → Any (IsFenced home) added.fences → Any (IsFenced home) text_after.fences
  fence_kept home (j, fence, less, at, is) =
      let there = laws.ranges_kept added plan.fences fence (j, less, at) in
      (there.0, fence, there.1, there.2, is)

  fence_found : (home : ℕ) → Any (IsFenced home) (plan.fences ++ contents.fences)
      → Any (IsFenced home) text_after.fences
  fence_found home (j, fence, less, at, is) =
      by_side (Contains-append_cases plan.fences contents.fences fence (j, less, at))
    where
      by_side : Contains plan.fences fence ⊎ Contains contents.fences fence → Any (IsFenced home) text_after.fences
      by_side (inl new) =
          let there = laws.ranges_given added plan.fences fence new in
          (there.0, fence, there.1, there.2, is)
      by_side (inr old) =
          let there = laws.ranges_kept added plan.fences fence
          (subst (λ (fences : List Fence). Contains fences fence)
          (sym (laws.pieces_fences contents plan.pieces)) old) in
          (there.0, fence, there.1, there.2, is)

  homes_kept : All (λ (row : Row). IsSpliced text_after row.home) k.table
  homes_kept i d l =
      let before = homes_spliced added k.table
      (laws.pieces_spliced contents plan.pieces (bodies_in k.table) sound.jumps.valid can.placeable
      (pieces_fit contents plan can) sound.jumps.spliced) in
      record {
        code = subst (λ (pieces : List Piece). HasCode pieces (get_or k.table i d).home 5)
            (sym (laws.ranges_pieces added plan.fences)) (before i d l).code;
        fence = fence_kept (get_or k.table i d).home (before i d l).fence;
      }

  homes_new : All (λ (one : Replaced). IsSpliced text_after one.home) replaced
  homes_new i d l = record {
    code =
        subst (λ (pieces : List Piece). HasCode pieces (get_or replaced i d).home 5)
        (sym (laws.ranges_pieces added plan.fences))
        (laws.pieces_code contents plan.pieces (get_or replaced i d).home 5 sound.jumps.valid can.placeable
        (pieces_fit contents plan can) (can.jumps i d l).code);
    fence = fence_found (get_or replaced i d).home (can.jumps i d l).fence;
  }

  spliced_after : AreSpliced text_after (bodies_in table_after)
  spliced_after =
      table_spliced text_after table_after
      (all_homes_more (IsSpliced text_after) k.table replaced homes_kept homes_new)
      (table_stays k.table replaced (built_table k built)).homes

  low_after : All (λ (row : ℕ × ℕ). row.1 < 2 ^ 32) (bodies_in table_after)
  low_after = bases_after (λ base. base < 2 ^ 32) k.table replaced sound.jumps.low (λ i d l. (can.jumps i d l).base)

  code_more : (range : Range) → IsCode k.pieces range → IsCode text_after.pieces range
  code_more range code a lies =
      subst (λ (pieces : List Piece). HasCode pieces a 1) (sym (laws.ranges_pieces added plan.fences))
      (laws.pieces_code contents plan.pieces a 1 sound.jumps.valid can.placeable (pieces_fit contents plan can)
      (code a lies))

  code_before : All (λ (fence : Fence). IsCode k.pieces fence.range) contents.fences
  code_before = All-map (λ (fence : Fence). IsCode k.pieces fence.range) (fence_in k.table) k.retired sound.retired

  fences_code : All (λ (fence : Fence). IsCode text_after.pieces fence.range) text_after.fences
  fences_code =
      let Is : Fence → Type 0 = λ fence. IsCode text_after.pieces fence.range in
      all_fenced Is added plan.fences
      (subst (All Is) (sym (laws.pieces_fences contents plan.pieces))
      (λ i d l. code_more (get_or contents.fences i d).range (code_before i d l)))
      (λ i d l. code_more (get_or plan.fences i d).range (can.code i d l))

  -- what is retired is code, by the update and before it
  retired_code : All (IsCode (committed k name plan).pieces) (committed k name plan).retired
  retired_code =
      subst (All (IsCode (committed k name plan).pieces)) ranges_after
      (All-map (IsCode (committed k name plan).pieces) fence_range text_after.fences
      (subst (λ (pieces : List Piece). All (λ (fence : Fence). IsCode pieces fence.range) text_after.fences)
      pieces_after fences_code))

  -- the scratch piece stays, and none of the update's is it
  scratch_after : HasScratch (committed k name plan)
  unfolding committed
  scratch_after =
      scratch_stays k.scratch k.pieces (fold with_new_piece k.pieces plan.pieces) k.stacks
      (stacks_stay k.pieces plan.pieces) sound.scratch

  scratch_left : LeavesScratch (committed k name plan) (update_as name plan)
  unfolding committed
  scratch_left = by_scratch k.scratch sound.scratch
    where
      bases : List ℕ
      bases = map (λ (p : Piece). p.base) plan.pieces

      by_scratch : (o : Option Range) → IfSome o (IsScratch k.pieces k.stacks)
          → IfSome o (λ range. is_among bases range.low ≡ false)
      by_scratch None is = tt
      by_scratch (Some range) is =
          based_apart bases added.pieces range
          (subst (λ (ps : List Piece). is_stack ps range ≡ true)
          (sym (laws.pieces_back contents plan.pieces sound.jumps.valid can.placeable (pieces_fit contents plan can)))
          is.piece)

  sound_after : IsSound (committed k name plan)
  unfolding committed
  sound_after = record {
    jumps = record {
      valid = subst IsValid (sym contents_after) valid_after;
      spliced = subst (λ (m : Contents). AreSpliced m (bodies_in table_after)) (sym contents_after) spliced_after;
      low = low_after;
    };
    stacks = λ i d l. stacks_stay k.pieces plan.pieces (get_or k.stacks i d) (sound.stacks i d l);
    arena = sound.arena;
    retired = retired_code;
    scratch = scratch_after;
  }

  full_piece : (piece : Piece) → Contains plan.pieces piece → (piece_range piece).low < (piece_range piece).high
  full_piece piece there =
      (All-contains (λ (p : Piece). ((piece_range p).low < (piece_range p).high)
      × ((piece_range p).high ≤ 0xFFFF_0000)) plan.pieces piece can.placeable there).0

  piece_given : (piece : Piece) → Contains plan.pieces piece → Contains (committed k name plan).pieces piece
  piece_given piece there =
      subst (λ (pieces : List Piece). Contains pieces piece) pieces_after
      (subst (λ (pieces : List Piece). Contains pieces piece) (sym (laws.ranges_pieces added plan.fences))
      (laws.pieces_given contents plan.pieces piece there))

  piece_there : (piece : Piece) → Contains plan.pieces piece → HasPiece (contents_of (committed k name plan)) piece.base
  piece_there piece there =
      let at = piece_given piece there in
      (at.0, piece, at.1, at.2, refl)

  -- a base of the update is where one of its pieces of code begins
  version_there : (one : Replaced) → Any (IsVersion one.base) plan.pieces
      → IsVersionOf (committed k name plan) (update_as name plan) one
  version_there one (j, piece, less, stands, is) =
      let at = piece_given piece (j, less, stands) in
      record {
        own =
            subst (Contains (map (λ (p : Piece). p.base) plan.pieces)) is.begins
            (contains_mapped (λ (p : Piece). p.base) plan.pieces piece (j, less, stands));
        code = (at.0, piece, at.1, at.2, is);
      }

  range_there : (fence : Fence) → Contains plan.fences fence → Contains (committed k name plan).retired fence.range
  range_there fence there =
      subst (λ (ranges : List Range). Contains ranges fence.range) ranges_after
      (contains_mapped fence_range text_after.fences fence (laws.ranges_given added plan.fences fence there))

  on_top : list_any (has_name name) k.updates ≡ false → AllReplaceNewest (bodies_in k.table) plan
      → IsOnTop (committed k name plan) (update_as name plan)
  unfolding committed
  on_top new replace =
      let back = committed_back laws k name plan built can new in record {
        table = ap (λ (m : AbstractMachine). fold with_replaced m.table replaced) (sym back);
        once = can.once;
        marked =
            subst (λ (m : AbstractMachine). All (λ (range : Range).
            is_home table_after range.low ≡ is_home m.table range.low)
            m.retired) (sym back)
            (λ i d l.
            mark_stays (fence_in k.table (get_or k.retired i d))
            (contains_mapped (fence_in k.table) k.retired (get_or k.retired i d) (Contains-get_or k.retired i d l)));
        pieces =
            All-map (HasPiece (contents_of (committed k name plan))) (λ (p : Piece). p.base) plan.pieces
            (λ i d l. piece_there (get_or plan.pieces i d) (Contains-get_or plan.pieces i d l));
        bases =
            pairs_map (λ (p : Piece). p.base) (λ (a b : ℕ). a ≢ b) plan.pieces
            (λ i j d less within.
            low_differs (piece_range (get_or plan.pieces i d)) (piece_range (get_or plan.pieces j d))
            (can.apart i j d less within)
            (full_piece (get_or plan.pieces i d) (Contains-get_or plan.pieces i d (omega arith)))
            (full_piece (get_or plan.pieces j d) (Contains-get_or plan.pieces j d within)));
        retired =
            All-map (Contains (committed k name plan).retired) fence_range plan.fences
            (λ i d l. range_there (get_or plan.fences i d) (Contains-get_or plan.fences i d l));
        ranges =
            pairs_map fence_range (λ a b. are_same a b ≡ false) plan.fences
            (λ i j d less within.
            are_other (get_or plan.fences i d).range (get_or plan.fences j d).range
            (can.retired_apart i j d less within) (can.full i d (omega arith)) (can.full j d within));
        symbols = omega (arith, length-append k.symbols plan.symbols);
        versions = λ i d l. version_there (get_or replaced i d) (replace i d l).version;
        over =
            subst (λ (m : AbstractMachine). All (λ (one : Replaced).
            Any (BeginsAt (base_of m one.home)) (map fence_range plan.fences)) replaced) (sym back)
            (λ i d l. any_mapped (BeginsAt (base_of k (get_or replaced i d).home)) fence_range plan.fences
            (replace i d l).over);
        name = name_made k name plan new;
        scratch = scratch_left;
      }

  -- what holds of a machine at every moment holds after an update
  pub built_commit : list_any (has_name name) k.updates ≡ false → AllReplaceNewest (bodies_in k.table) plan
      → IsBuilt (committed k name plan)
  built_commit new replace =
      Updated (committed k name plan) (update_as name plan) sound_after (newest_made k name plan) (on_top new replace)
      (subst IsBuilt (sym (committed_back laws k name plan built can new)) built)

-- the machine after some bytes were written and its threads went on
abbrev pub wrote : ℕ → List ℕ → List Thread → AbstractMachine → AbstractMachine
wrote start bytes threads k = record k { pieces = written start bytes k.pieces; threads = threads }

drop_written : (bases : List ℕ) (start : ℕ) (bytes : List ℕ) (pieces : List Piece)
    → without_pieces bases (written start bytes pieces) ≡ written start bytes (without_pieces bases pieces)
drop_written bases start bytes [] = refl
drop_written bases start bytes (piece ∷ pieces) =
    by_base (is_based_at bases piece) (drop_written bases start bytes pieces)
  where
    by_base : (b : Bool)
        → without_pieces bases (written start bytes pieces) ≡ written start bytes (without_pieces bases pieces)
        → cond (not b) (overlaid_piece start bytes piece ∷ without_pieces bases (written start bytes pieces))
        (without_pieces bases (written start bytes pieces))
        ≡ written start bytes (cond (not b) (piece ∷ without_pieces bases pieces) (without_pieces bases pieces))
    by_base true rest = rest
    by_base false rest = ap (λ (ps : List Piece). overlaid_piece start bytes piece ∷ ps) rest

pub withdrawn_wrote : (k : AbstractMachine) (update : Update) (start : ℕ) (bytes : List ℕ) (threads : List Thread)
    → withdrawn (wrote start bytes threads k) update ≡ wrote start bytes threads (withdrawn k update)
unfolding withdrawn
withdrawn_wrote k update start bytes threads =
    ap (λ (ps : List Piece). let m : AbstractMachine = record (withdrawn k update) { pieces = ps; threads = threads }
    in m)
    (drop_written update.pieces start bytes k.pieces)

placed_written : (start : ℕ) (bytes : List ℕ) (pieces : List Piece) → ArePlaced pieces
    → ArePlaced (written start bytes pieces)
placed_written start bytes pieces placed = record {
  ascend = Ascends-written start bytes 0 pieces placed.ascend;
  end_below = λ i d l.
      let m : i < length pieces = rw length-map at l in
      let p = get_or pieces i d in
      rw (get_or-map (overlaid_piece start bytes) pieces i d d m, length-overlaid start bytes p.base p.bytes)
      (placed.end_below i d m);
}

stack_written : (start : ℕ) (bytes : List ℕ) (pieces : List Piece) (stack : Range)
    → is_stack (written start bytes pieces) stack ≡ is_stack pieces stack
stack_written start bytes [] stack = refl
stack_written start bytes (p ∷ ps) stack =
    rw (length-overlaid start bytes p.base p.bytes, stack_written start bytes ps stack) refl

sound_written : (k : AbstractMachine) (start : ℕ) (bytes : List ℕ) (threads : List Thread) → IsSound k
    → IsSound (wrote start bytes threads k)
sound_written k start bytes threads sound = record {
  jumps = record {
    valid = record {
      placed = placed_written start bytes k.pieces sound.jumps.valid.placed;
      fenced = sound.jumps.valid.fenced;
    };
    spliced = spliced_written (contents_of k) (bodies_in k.table) start bytes sound.jumps.spliced;
    low = sound.jumps.low;
  };
  stacks = λ i d l.
      subst (λ (b : Bool). IsTrue b) (sym (stack_written start bytes k.pieces (get_or k.stacks i d)))
      (sound.stacks i d l);
  arena = sound.arena;
  retired = λ i d l a lies. code_written k.pieces start bytes a 1 (sound.retired i d l a lies);
  scratch =
      scratch_stays k.scratch k.pieces (written start bytes k.pieces) k.stacks
      (λ range is. stack_written start bytes k.pieces range ∙ is) sound.scratch;
}

piece_written : (start : ℕ) (bytes : List ℕ) (pieces : List Piece) (base : ℕ) → Any (λ piece. piece.base ≡ base) pieces
    → Any (λ piece. piece.base ≡ base) (written start bytes pieces)
piece_written start bytes pieces base (j, piece, less, at, is) =
    any_mapped (λ (p : Piece). p.base ≡ base) (overlaid_piece start bytes) pieces (j, piece, less, at, is)

version_written : (start : ℕ) (bytes : List ℕ) (pieces : List Piece) (base : ℕ) → Any (IsVersion base) pieces
    → Any (IsVersion base) (written start bytes pieces)
version_written start bytes pieces base (j, piece, less, at, is) =
    any_mapped (IsVersion base) (overlaid_piece start bytes) pieces
    (j, piece, less, at, record { kind = is.kind; begins = is.begins })

on_top_written : (k : AbstractMachine) (update : Update) (start : ℕ) (bytes : List ℕ) (threads : List Thread)
    → IsOnTop k update → IsOnTop (wrote start bytes threads k) update
unfolding withdrawn
on_top_written k update start bytes threads is = record {
  table = is.table;
  once = is.once;
  marked = is.marked;
  pieces = λ i d l. piece_written start bytes k.pieces (get_or update.pieces i d) (is.pieces i d l);
  bases = is.bases;
  retired = is.retired;
  ranges = is.ranges;
  symbols = is.symbols;
  versions = λ i d l.
      let version = is.versions i d l in
      record {
        own = version.own;
        code = version_written start bytes k.pieces (get_or update.report.replaced i d).base version.code;
      };
  over = is.over;
  name = is.name;
  scratch = is.scratch;
}

-- what holds of a machine at every moment holds after any write, and when threads went on
pub built_write : (k : AbstractMachine) (start : ℕ) (bytes : List ℕ) (threads : List Thread) → IsBuilt k
    → IsBuilt (wrote start bytes threads k)
built_write _ start bytes threads (Untouched k sound none empty unused) =
    Untouched (wrote start bytes threads k) (sound_written k start bytes threads sound) none empty unused
built_write _ start bytes threads (Updated k update sound newest above built) =
    Updated (wrote start bytes threads k) update (sound_written k start bytes threads sound) newest
    (on_top_written k update start bytes threads above)
    (subst IsBuilt (sym (withdrawn_wrote k update start bytes threads))
    (built_write (withdrawn k update) start bytes threads built))

-- a range of a list is one of some or is kept when these are taken away
pub contains_first : {X : Type 0} (x : X) (xs : List X) → Contains (x ∷ xs) x
contains_first x xs = (0, omega arith, refl)

pub contains_later : {X : Type 0} (y : X) (xs : List X) (x : X) → Contains xs x → Contains (y ∷ xs) x
contains_later y xs x (j, less, at) = (suc j, omega arith, at)

-- taken, or kept
abbrev OneOrKept : (taken kept : List Range) → Range → Type 0
OneOrKept taken kept range = Contains taken range ⊎ Contains kept range

one_or_kept : (taken ranges : List Range) → All (OneOrKept taken (ranges_but taken ranges)) ranges
one_or_kept taken [] = none_listed (λ range. Contains taken range ⊎ Contains (ranges_but taken []) range)
one_or_kept taken (range ∷ ranges) = by_test (is_one_of taken range) refl (one_or_kept taken ranges)
  where
    listed : Any (λ (other : Range). are_same range other ≡ true) taken → Contains taken range
    listed (j, other, less, at, same) =
        subst (Contains taken) (sym (same_ends range other same)) (j, less, at)

    widened : (others : List Range) → All (λ r. Contains taken r ⊎ Contains (ranges_but taken ranges) r) ranges
        → ((r : Range) → Contains (ranges_but taken ranges) r → Contains others r)
        → All (λ r. Contains taken r ⊎ Contains others r) ranges
    widened others rest wider i d l = elim (rest i d l) [
      | inl there ↦ inl there
      | inr kept ↦ inr (wider (get_or ranges i d) kept)
    ]

    by_test : (b : Bool) → is_one_of taken range ≡ b
        → All (λ r. Contains taken r ⊎ Contains (ranges_but taken ranges) r) ranges
        → All (OneOrKept taken (cond (not b) (range ∷ ranges_but taken ranges) (ranges_but taken ranges)))
        (range ∷ ranges)
    by_test true one rest =
        let P : Range → Type 0 = λ r. Contains taken r ⊎ Contains (ranges_but taken ranges) r in
        All-cons P range ranges (inl (listed (Any-from_list_any (are_same range) taken one))) rest
    by_test false other rest =
        let P : Range → Type 0 = λ r. Contains taken r ⊎ Contains (range ∷ ranges_but taken ranges) r in
        All-cons P range ranges (inr (contains_first range (ranges_but taken ranges)))
        (widened (range ∷ ranges_but taken ranges) rest (contains_later range (ranges_but taken ranges)))

-- each retired range was retired by a live update
pub retired_listed : (k : AbstractMachine) → IsBuilt k → (range : Range) → Contains k.retired range
    → Contains (retired_of k) range
unfolding withdrawn
retired_listed _ (Untouched k sound none empty unused) range there =
    let nowhere = subst (λ (ranges : List Range). Contains ranges range) unused there in
    absurd (omega (arith, nowhere.1))
retired_listed _ (Updated k update sound newest above built) range there =
    let earlier = retired_listed (withdrawn k update) built range in
    let retired : Update → List Range = λ one. one.retired in
    subst (λ (ranges : List Range). Contains ranges range)
    (sym (ap (flat_map retired) (last_parted k.updates update newest)
    ∙ flat_map-append retired (without_last 1 k.updates) (update ∷ [])))
    (elim (All-contains (λ r. Contains update.retired r ⊎ Contains (ranges_but update.retired k.retired) r)
    k.retired range (one_or_kept update.retired k.retired) there) [
      | inl new ↦
          Contains-append_right (flat_map retired (without_last 1 k.updates)) (update.retired ++ []) range
          (Contains-append_left update.retired [] range new)
      | inr old ↦
          Contains-append_left (flat_map retired (without_last 1 k.updates)) (update.retired ++ []) range
          (subst (λ (us : List Update). Contains (flat_map retired us) range)
          (updates_left k update newest above.name) (earlier old))
    ])

-- the ranges of the machine's memory among them
pub fences_listed : (k : AbstractMachine) → IsBuilt k
    → All (λ (fence : Fence). Contains (retired_of k) fence.range) (contents_of k).fences
fences_listed k built =
    All-map (λ (fence : Fence). Contains (retired_of k) fence.range) (fence_in k.table) k.retired
    (λ i d l. retired_listed k built (get_or k.retired i d) (Contains-get_or k.retired i d l))
