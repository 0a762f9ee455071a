-- What comes of taking an update back that stands among others.
use Rattle.std.proofs.Common.{◌≡◌, ◌≢◌, ℕ, ◌-◌, ◌<◌, Bool, true, false, cond, not, List, [], ◌∷◌, ◌++◌, map}
use Rattle.std.proofs.Common.{length, get_or, Some, None, inl, inr}
use Rattle.std.proofs.Common.{refl, sym, ◌∙◌, ap, subst, arith}
use Rattle.std.specs.List.{All, AllPairs, Any, Contains, find, flat_map, fold, list_any}
use Rattle.std.proofs.lemmas.List.{length-map, length-append, get_or-map, get_or_default}
use Rattle.std.proofs.lemmas.List.Elements.{All-head, All-tail, All-cons, All-map, All-weaker, All-push}
use Rattle.std.proofs.lemmas.List.Elements.{Contains-get_or, Contains-append_right}
use Rattle.std.proofs.lemmas.Grind.{flat_map-append}
use Rattle.ks_base.specs.declared.places.Range.{Range}
use Rattle.ks_base.specs.declared.reports.Replaced.{Replaced}
use Rattle.image_memory.specs.declared.types.Piece.{Piece}
use Rattle.image_memory.specs.declared.types.Fence.{Fence}
use Rattle.image_memory.specs.Ranges.{Ascends, are_same, is_one_of}
use Rattle.image_memory.specs.Contents.{Contents, IsValid, piece_range, fence_range}
use Rattle.image_memory.specs.Access.{bytes_at, written}
use Rattle.image_memory.specs.Fetch.{HasCode}
use Rattle.image_memory.specs.Changes.{without_ranges}
use Rattle.symbol_table.specs.declared.symbols.Symbol.{Symbol}
use Rattle.symbol_table.specs.Table.{without_symbols}
use Rattle.splice_jump.specs.Jump.{five_at, jump_bytes}
use Rattle.splice_jump.specs.Jumps.{jumped, jumped_memory, with_row, old_at, olds_at, unjumped, AreSpliced}
use Rattle.update_memory.specs.declared.types.Jump.{Jump}
use Rattle.update_memory.specs.Rows.{row_of, rows_of, old_of, olds_of}
use Rattle.update_memory.specs.Withdrawn.{without_pieces, ranges_but, withdrawn_memory}
use Rattle.image_threads.specs.Program.{Program}
use Rattle.update_stack.specs.declared.updates.Arena.{Arena}
use Rattle.update_stack.specs.declared.updates.Update.{Update as Shown}
use Rattle.update_stack.specs.declared.updates.Kept.{Kept}
use Rattle.update_stack.specs.AbstractMachine.{AbstractMachine, Row, Update, is_home, bodies_in, fence_in, contents_of}
use Rattle.update_stack.specs.AbstractMachine.{jump_rows}
use Rattle.update_stack.specs.AbstractMachine.{with_replaced}
use Rattle.update_stack.specs.StandsFor.{Seen, seen, seen_of, patched}
use Rattle.update_stack.specs.Apply.{has_name}
use Rattle.update_stack.specs.Undo.{without_base, symbols_of, withdrawn, cover_refusal}
use Rattle.update_stack.specs.Uncovered.{IsUncovered, HasOtherHomes}
use Rattle.update_stack.specs.Systems.{text_of, table_of, live_update, live_updates, machine_of}
use Rattle.update_stack.specs.Systems.{HasJumpCode, Holds}
use Rattle.update_stack.specs.Stacked.{IsSound, IsBuilt, Untouched, Updated, IsKept, AreKept, NoneKept, OneKept}
use Rattle.update_stack.specs.inside.TakingBack.{CanBeTaken, after_taking, AtUpdate, IsHeldWithout}
use Rattle.update_stack.specs.laws.StackedLaws.{HasNewest, built_newest, built_sound}
use Rattle.update_stack.proofs.TableLaws.{JumpsAdded, JumpsReplaced, spliced_new}
use Rattle.update_stack.proofs.BuiltLaws.{machine_is, contains_first, contains_later}
use Rattle.update_stack.proofs.PlaceLaws.{own_name}
use Rattle.update_stack.proofs.KeptLaws.{CodeWasThere, withdrawn_pieces}
use Rattle.update_stack.proofs.ApartLaws.{AllAway}
use Rattle.std.proofs.lemmas.Bool.{or_parts}
use Rattle.update_stack.proofs.PastLaws.{IsAmong, without_one, later_among, withdrawn_among}
use Rattle.update_stack.proofs.UncoveredLaws.{uncovered_alone}
use Rattle.update_stack.proofs.LeftLaws.{LeftLaws, uncovered_goes}
use Rattle.update_stack.proofs.StillKeptLaws.{BytesStay, uncovered_kept}
use Rattle.update_stack.proofs.OldsLaws.{AreOlds, olds_behind, kept_olds, olds_away}
use Rattle.update_stack.proofs.AtLaws.{length_live}
use Rattle.update_stack.proofs.ThereLaws.{newest_or_older, live_there, built_names, listed_among, built_symbols}
use Rattle.update_stack.proofs.StandingLaws.{Stands, OnTop, Under, spliced_own, jumps_over}
use Rattle.update_stack.proofs.MarkLaws.{marked_left}
use Rattle.update_stack.proofs.AmongLaws.{live_joined, symbols_kept, text_joined, text_swapped, table_without}

-- the laws of other crates that are used here
abbrev pub ValidJumped : Type 0
ValidJumped = (contents : Contents) (rows : List (ℕ × ℕ)) → IsValid contents → IsValid (jumped_memory rows contents)

abbrev pub StaySpliced : Type 0
StaySpliced = (contents : Contents) (rows others : List (ℕ × ℕ)) → AreSpliced contents rows
    → AreSpliced (jumped_memory others contents) rows

abbrev pub TakenBack : Type 0
TakenBack = (contents : Contents) (rows : List (ℕ × ℕ)) → IsValid contents → AreSpliced contents rows
    → unjumped (olds_at contents.pieces rows) (jumped rows contents.pieces) ≡ contents.pieces

abbrev pub CodeStays : Type 0
CodeStays = (pieces : List Piece) (start : ℕ) (bytes : List ℕ) (address count : ℕ) → HasCode pieces address count
    → HasCode (written start bytes pieces) address count

abbrev pub PlacesStay : Type 0
PlacesStay = (rows : List (ℕ × ℕ)) (pieces : List Piece)
    → map piece_range (jumped rows pieces) ≡ map piece_range pieces

abbrev pub DropsPastJumps : Type 0
DropsPastJumps = (bases : List ℕ) (rows : List (ℕ × ℕ)) (pieces : List Piece)
    → without_pieces bases (jumped rows pieces) ≡ jumped rows (without_pieces bases pieces)

abbrev pub DropsPastOlds : Type 0
DropsPastOlds = (bases : List ℕ) (olds : List (ℕ × List ℕ)) (pieces : List Piece)
    → without_pieces bases (unjumped olds pieces) ≡ unjumped olds (without_pieces bases pieces)

abbrev pub RangesLeft : Type 0
RangesLeft = (taken : List Range) (fences : List Fence)
    → map fence_range (without_ranges taken fences) ≡ ranges_but taken (map fence_range fences)

pub record Laws : Type 0 where
  pub added : JumpsAdded
  pub over : JumpsReplaced
  pub valid : ValidJumped
  pub spliced : StaySpliced
  pub taken_back : TakenBack
  pub stays : CodeStays
  pub places : PlacesStay
  pub past_jumps : DropsPastJumps
  pub past_olds : DropsPastOlds
  pub was_there : CodeWasThere
  pub ranges : RangesLeft

-- the code that was noted has five bytes a jump
five_long : (pieces : List Piece) (home : ℕ) → length (five_at pieces home) ≡ 5
unfolding bytes_at
five_long pieces home = refl

pub old_lengths : (pieces : List Piece) (rows : List (ℕ × ℕ)) (jumps : List Jump) → olds_of jumps ≡ olds_at pieces rows
    → All (λ (jump : Jump). length jump.old ≡ 5) jumps
old_lengths pieces rows jumps same i d l =
    let all : All (λ (old : ℕ × List ℕ). length old.1 ≡ 5) (olds_of jumps) =
    subst (All (λ (old : ℕ × List ℕ). length old.1 ≡ 5)) (sym same)
    (All-map (λ (old : ℕ × List ℕ). length old.1 ≡ 5) (old_at pieces) rows
    (λ j e m. five_long pieces (get_or rows j e).0)) in
    subst (λ (old : ℕ × List ℕ). length old.1 ≡ 5) (get_or-map old_of jumps i d (old_of d) l)
    (all i (old_of d) (rw (length-map jumps old_of) l))

-- the code at the homes of rows and of jumps
abbrev pub CodeAt : List Piece → ℕ × ℕ → Type 0
CodeAt pieces row = HasCode pieces row.0 5

abbrev pub HasFive : List Piece → Jump → Type 0
HasFive pieces jump = HasCode pieces jump.home 5

pub jump_code : (pieces : List Piece) (jumps : List Jump) → All (CodeAt pieces) (rows_of jumps)
    → All (HasFive pieces) jumps
jump_code pieces jumps code i d l =
    subst (CodeAt pieces) (get_or-map row_of jumps i d (row_of d) l)
    (code i (row_of d) (rw (length-map jumps row_of) l))

pub code_jumped : CodeStays → (rows : List (ℕ × ℕ)) (pieces : List Piece) (address count : ℕ)
    → HasCode pieces address count → HasCode (jumped rows pieces) address count
unfolding jumped
code_jumped stays [] pieces address count has = has
code_jumped stays (row ∷ rows) pieces address count has =
    code_jumped stays rows (with_row pieces row) address count
    (stays pieces row.0 (jump_bytes row.0 row.1) address count has)

-- the homes of the newest update are code
pub newest_code : (k : AbstractMachine) (update : Update) (one : Kept) → HasNewest k update
    → rows_of one.jumps ≡ jump_rows update.report.replaced → All (HasFive k.pieces) one.jumps
newest_code k update one has rows =
    let spliced : AreSpliced (contents_of k)
    (bodies_in (fold with_replaced (withdrawn k update).table update.report.replaced)) =
    subst (λ (t : List Row). AreSpliced (contents_of k) (bodies_in t)) has.top.table has.sound.jumps.spliced in
    let later = spliced_new (contents_of k) (withdrawn k update).table update.report.replaced has.top.once spliced in
    jump_code k.pieces one.jumps
    (subst (All (CodeAt k.pieces)) (sym rows) (λ i d l. (later.each i d l).code))

-- and so are those of the updates before it
pub kept_code : CodeWasThere → (k : AbstractMachine) (kept : List Kept)
    → IsBuilt k → AreKept k kept
    → All (λ (one : Kept). All (HasJumpCode k.pieces) one.jumps) kept
kept_code there k kept built (NoneKept _ _ none nothing free) =
    subst (All (λ (one : Kept). All (HasJumpCode k.pieces) one.jumps)) (sym nothing) (λ i d l. absurd (omega arith))
kept_code there k kept built (OneKept _ update earlier _ one newest ends is before) =
    let has = built_newest k update built newest in
    let here : All (HasJumpCode k.pieces) one.jumps =
    λ i d l. subst (λ (n : ℕ). HasCode k.pieces (get_or one.jumps i d).home n)
    (sym (old_lengths (jumped (bodies_in (withdrawn k update).table) k.pieces) (jump_rows update.report.replaced)
    one.jumps is.olds i d l))
    (newest_code k update one has is.rows i d l) in
    let below : All (λ (o : Kept). All (HasJumpCode (withdrawn k update).pieces) o.jumps) earlier =
    kept_code there (withdrawn k update) earlier has.below before in
    subst (All (λ (o : Kept). All (HasJumpCode k.pieces) o.jumps)) (sym ends)
    (All-push (λ (o : Kept). All (HasJumpCode k.pieces) o.jumps) earlier one
    (All-weaker (λ (o : Kept). All (HasJumpCode (withdrawn k update).pieces) o.jumps)
    (λ (o : Kept). All (HasJumpCode k.pieces) o.jumps)
    (λ o all. All-weaker (HasJumpCode (withdrawn k update).pieces) (HasJumpCode k.pieces)
    (λ jump code. there (contents_of k) update.pieces jump.home (length jump.old) has.sound.jumps.valid
    (subst (λ (ps : List Piece). HasCode ps jump.home (length jump.old)) (withdrawn_pieces k update) code))
    o.jumps all) earlier below) here)

-- pieces of the same ranges begin at the same addresses
has_based : (ps qs : List Piece) (base : ℕ) → map piece_range ps ≡ map piece_range qs
    → Any (λ (piece : Piece). piece.base ≡ base) qs → Any (λ (piece : Piece). piece.base ≡ base) ps
has_based ps qs base same (k, piece, less, at, is) =
    let long : length ps ≡ length qs =
    omega (arith, length-map ps piece_range, length-map qs piece_range, ap length same) in
    let other = get_or ps k piece in
    let there : k < length ps = omega arith in
    let ranges : piece_range other ≡ piece_range (get_or qs k piece) =
    sym (get_or-map piece_range ps k piece (piece_range piece) there)
    ∙ ap (λ (rs : List Range). get_or rs k (piece_range piece)) same
    ∙ get_or-map piece_range qs k piece (piece_range piece) less in (
      k,
      other,
      there,
      get_or_default ps k other piece there,
      ap (λ (r : Range). r.low) ranges ∙ ap (λ (p : Piece). p.base) at ∙ is,
    )

-- the marks of the ranges that stay retired
abbrev AreMarked : (before now : List Row) → List Range → Type 0
AreMarked before now ranges = All (λ (r : Range). is_home before r.low ≡ is_home now r.low) ranges

left_marked : (taken : List Range) (before now : List Row) (ranges : List Range)
    → All (λ (range : Range). is_home before range.low ≡ is_home now range.low) (ranges_but taken ranges)
    → without_ranges taken (map (fence_in before) ranges) ≡ map (fence_in now) (ranges_but taken ranges)
left_marked taken before now [] marked = refl
left_marked taken before now (range ∷ ranges) marked =
    by_taken (is_one_of taken range) marked (left_marked taken before now ranges)
  where
    by_taken : (b : Bool)
        → AreMarked before now (cond (not b) (range ∷ ranges_but taken ranges) (ranges_but taken ranges))
        → (AreMarked before now (ranges_but taken ranges)
        → without_ranges taken (map (fence_in before) ranges) ≡ map (fence_in now) (ranges_but taken ranges))
        → cond (not b) (fence_in before range ∷ without_ranges taken (map (fence_in before) ranges))
        (without_ranges taken (map (fence_in before) ranges))
        ≡ map (fence_in now) (cond (not b) (range ∷ ranges_but taken ranges) (ranges_but taken ranges))
    by_taken true all rest = rest all
    by_taken false all rest =
        ap (λ (jump : Bool). let f : Fence = record { range = range; jump = jump } in
        f ∷ without_ranges taken (map (fence_in before) ranges))
        (All-head (λ (r : Range). is_home before r.low ≡ is_home now r.low) range (ranges_but taken ranges) all)
        ∙ ap (λ (fs : List Fence). fence_in now range ∷ fs)
        (rest (All-tail (λ (r : Range). is_home before r.low ≡ is_home now r.low) range (ranges_but taken ranges) all))

-- old code is put back beside pieces that are dropped
text_dropped : DropsPastOlds → (bases : List ℕ) (kept : List Kept) (pieces : List Piece)
    → text_of kept (without_pieces bases pieces) ≡ without_pieces bases (text_of kept pieces)
text_dropped past bases [] pieces = refl
text_dropped past bases (one ∷ later) pieces =
    ap (unjumped (olds_of one.jumps)) (text_dropped past bases later pieces)
    ∙ sym (past bases (olds_of one.jumps) (text_of later pieces))

-- what holds of each item of two lists holds of each one's
all_parts : {X : Type 0} (P : X → Type 0) (xs ys : List X) → All P (xs ++ ys) → All P xs × All P ys
all_parts P [] ys all = ((λ i d l. absurd (omega arith)), all)
all_parts P (x ∷ xs) ys all =
    let rest = all_parts P xs ys (All-tail P x (xs ++ ys) all) in
    (All-cons P x xs (All-head P x (xs ++ ys) all) rest.0, rest.1)

-- An update whose homes no later one has stands among the others.
pub stands_from : (k : AbstractMachine) → IsBuilt k → (update : Update) (earlier later : List Update)
    → IsAmong k.updates update earlier later → All (HasOtherHomes update) later → Stands k update
stands_from _ (Untouched k sound none empty unused) update earlier later among alone =
    absurd (nowhere earlier (sym none ∙ among.parts))
  where
    nowhere : (before : List Update) → [] ≡ before ++ update ∷ later → ⊥
    nowhere [] is = absurd (cc)
    nowhere (x ∷ before) is = absurd (cc)
stands_from _ (Updated k newest sound is top below) update earlier later among alone =
    let has : HasNewest k newest = record { sound = sound; top = top; below = below } in
    elim (newest_or_older k newest update earlier later is top.name among) [
      | inl one ↦ subst (Stands k) (sym one.same) (OnTop k newest has)
      | inr older ↦
          let parts = all_parts (HasOtherHomes update) older.between (newest ∷ [])
          (subst (All (HasOtherHomes update)) older.parts alone) in
          Under k update newest has (All-head (HasOtherHomes update) newest [] parts.1)
          (stands_from (withdrawn k newest) below update earlier older.between older.among parts.0)
    ]

-- it is the one of its name
found_first : {X : Type 0} (p : X → Bool) (before : List X) (x : X) (after : List X) → list_any p before ≡ false
    → p x ≡ true → find p (before ++ x ∷ after) ≡ Some x
found_first p [] x after none is = rw is refl
found_first p (y ∷ before) x after none is =
    let parts = or_parts (p y) (list_any p before) none in
    let here : p y ≡ false = parts.0 in
    rw here (found_first p before x after parts.1 is)

-- What each update that stands among others has of its own.
pub record HasOwn (update : Update) : Type 0 where
  pub once : AllPairs (λ (a b : Replaced). a.home ≢ b.home) update.report.replaced
  pub bases : AllPairs (λ (a b : ℕ). a ≢ b) update.pieces
  pub ranges : AllPairs (λ a b. are_same a b ≡ false) update.retired

own_of : (k : AbstractMachine) (update : Update) → Stands k update → HasOwn update
own_of k update (OnTop _ _ has) = record { once = has.top.once; bases = has.top.bases; ranges = has.top.ranges }
own_of k update (Under _ _ newest has apart stands) = own_of (withdrawn k newest) update stands

-- What is left where an update goes from among others: the machine without it is built, with what is kept of the others;
-- what is kept of it is so in the whole machine, and puts no code back at the homes of the later ones.
pub record Leaves (k : AbstractMachine) (update : Update) (one : Kept) (earlier later : List Kept) : Type 0 where
  pub built : IsBuilt (withdrawn k update)
  pub are_kept : AreKept (withdrawn k update) (earlier ++ later)
  pub is_kept : IsKept k update one
  pub apart : All (λ (other : Kept). AllAway (olds_of one.jumps) (olds_of other.jumps)) later

module _ (laws : Laws) (program : Program) (arena : Arena) (updates : List Shown) (kept : List Kept)
    (at : AtUpdate updates kept) (holds : Holds program arena updates kept) where
  -- the machine, the update, the machine without it, and the other updates
  abbrev pub k : AbstractMachine
  k = machine_of program arena updates kept

  abbrev pub live : Update
  live = live_update at.update at.one

  abbrev before : AbstractMachine
  before = withdrawn k live

  abbrev replaced : List Replaced
  replaced = at.update.report.replaced

  abbrev pub earlier : List Update
  earlier = live_updates at.earlier at.kept_earlier

  abbrev pub later : List Update
  later = live_updates at.later at.kept_later

  later_paired : length at.kept_later ≡ length at.later
  later_paired =
      let all : length kept ≡ length updates = holds.paired in
      let some : length at.kept_earlier ≡ length at.earlier = at.beside in
      let long : length kept ≡ length (at.kept_earlier ++ at.one ∷ at.kept_later) = ap length at.kept_are in
      let wide : length updates ≡ length (at.earlier ++ at.update ∷ at.later) = ap length at.updates_are in
      omega (
        arith,
        all,
        some,
        long,
        wide,
        length-append at.kept_earlier (at.one ∷ at.kept_later),
        length-append at.earlier (at.update ∷ at.later),
      )

  live_parts : k.updates ≡ earlier ++ live ∷ later
  live_parts =
      ap (λ (us : List Shown). live_updates us kept) at.updates_are
      ∙ ap (live_updates (at.earlier ++ at.update ∷ at.later)) at.kept_are
      ∙ live_joined at.earlier (at.update ∷ at.later) at.kept_earlier (at.one ∷ at.kept_later) at.beside

  pub among : IsAmong k.updates live earlier later
  among = listed_among k.updates live earlier later (built_names k holds.built) live_parts

  sound : IsSound k
  sound = built_sound k holds.built

  memory : program.contents ≡ jumped_memory (bodies_in k.table) (contents_of k)
  unfolding patched
  memory = ap (λ (s : Seen). s.contents) holds.stands

  pub named_live : find (has_name live.name) k.updates ≡ Some live
  named_live =
      ap (find (has_name live.name)) live_parts
      ∙ found_first (has_name live.name) earlier live later among.new (own_name live.name)

  -- where no later update covers it, it can go
  module _ (clear : cover_refusal k live ≡ None) where
    uncovered : IsUncovered k live
    uncovered = record { built = holds.built; live = named_live; uncovered = clear }

    pub free_at : All (HasOtherHomes live) later
    free_at =
        subst (All (HasOtherHomes live)) (later_among k.updates live earlier later among)
        (uncovered_alone k live uncovered)

    front_paired : length at.kept_earlier ≡ length earlier
    front_paired = at.beside ∙ sym (length_live at.earlier at.kept_earlier at.beside)

    back_paired : length at.kept_later ≡ length later
    back_paired = later_paired ∙ sym (length_live at.later at.kept_later later_paired)

    all_paired : length kept ≡ length k.updates
    all_paired = holds.paired ∙ sym (length_live updates kept holds.paired)

    olds : AreOlds (live ∷ later) (at.one ∷ at.kept_later)
    olds =
        olds_behind earlier (live ∷ later) at.kept_earlier (at.one ∷ at.kept_later) front_paired
        (subst (λ (us : List Update). AreOlds us (at.kept_earlier ++ at.one ∷ at.kept_later)) live_parts
        (subst (AreOlds k.updates) at.kept_are (kept_olds k kept holds.are_kept holds.built all_paired)))

    live_listed : Contains k.updates live
    live_listed =
        subst (λ (us : List Update). Contains us live) (sym live_parts)
        (Contains-append_right earlier (live ∷ later) live (contains_first live later))

    later_listed : All (Contains k.updates) later
    later_listed i d l =
        subst (λ (us : List Update). Contains us (get_or later i d)) (sym live_parts)
        (Contains-append_right earlier (live ∷ later) (get_or later i d)
        (contains_later live later (get_or later i d) (Contains-get_or later i d l)))

    pub leaves_at : LeftLaws → BytesStay → Leaves k live at.one at.kept_earlier at.kept_later
    leaves_at left bytes =
        let still = uncovered_kept left bytes k live uncovered earlier later live_parts kept at.kept_earlier
        at.kept_later at.one holds.are_kept at.kept_are front_paired in record {
          built = uncovered_goes left k live uncovered;
          are_kept = still.rest;
          is_kept = still.own;
          apart =
              olds_away k holds.built live at.one live_listed olds.0 later at.kept_later back_paired later_listed free_at
              olds.1;
        }

  module _ (alone : All (HasOtherHomes live) later) (leaves : Leaves k live at.one at.kept_earlier at.kept_later) where
    stands : Stands k live
    stands = stands_from k holds.built live earlier later among alone

    own : HasOwn live
    own = own_of k live stands

    own_spliced : AreSpliced (contents_of k) (jump_rows replaced)
    own_spliced = spliced_own k live stands (contents_of k) sound.jumps.spliced

    own_code : All (HasFive k.pieces) at.one.jumps
    own_code =
        jump_code k.pieces at.one.jumps
        (subst (All (CodeAt k.pieces)) (sym leaves.is_kept.rows) (λ i d l. (own_spliced.each i d l).code))

    -- what is taken away can be
    pub can_be_taken : CanBeTaken program at.one at.kept_later
    can_be_taken =
        let there = live_there k holds.built live (record { earlier = earlier; later = later; among = among }) in record {
          pieces = λ i d l. has_based program.contents.pieces k.pieces (get_or at.one.pieces i d)
              (ap (λ (c : Contents). map piece_range c.pieces) memory ∙ laws.places (bodies_in k.table) k.pieces)
              (there.pieces i d l);
          bases = own.bases;
          retired = there.retired;
          ranges = own.ranges;
          code =
              All-weaker (HasFive k.pieces) (HasFive program.contents.pieces)
              (λ jump code. subst (λ (c : Contents). HasCode c.pieces jump.home 5) (sym memory)
              (code_jumped laws.stays (bodies_in k.table) k.pieces jump.home 5 code))
              at.one.jumps own_code;
          symbols =
              let all = built_symbols k holds.built in
              let parts : length (symbols_of k.updates) ≡ length (symbols_of (earlier ++ live ∷ later)) =
              ap (λ (us : List Update). length (symbols_of us)) live_parts in
              let joined : length (symbols_of (earlier ++ live ∷ later))
              ≡ length (symbols_of earlier ++ symbols_of (live ∷ later)) =
              ap length (flat_map-append (λ (u : Update). u.symbols) earlier (live ∷ later)) in
              let sum = length-append (symbols_of earlier) (symbols_of (live ∷ later)) in
              let same : length (at.one.symbols ++ symbols_of later)
              ≡ length (at.one.symbols ++ flat_map (λ (o : Kept). o.symbols) at.kept_later) =
              ap (λ (ss : List Symbol). length (at.one.symbols ++ ss))
              (symbols_kept at.later at.kept_later later_paired) in
              omega (arith, all, parts, joined, sum, same);
          count = leaves.is_kept.count;
        }

    restored : unjumped (olds_of at.one.jumps) program.contents.pieces ≡ jumped (bodies_in before.table) k.pieces
    restored =
        let under = jumped (bodies_in before.table) k.pieces in
        ap (λ (olds : List (ℕ × List ℕ)). unjumped olds program.contents.pieces) leaves.is_kept.olds
        ∙ ap (λ (c : Contents). unjumped (olds_at under (jump_rows replaced)) c.pieces) memory
        ∙ ap (unjumped (olds_at under (jump_rows replaced)))
        (jumps_over laws.added laws.over k live stands (contents_of k) sound.jumps.valid sound.jumps.spliced)
        ∙ laws.taken_back (jumped_memory (bodies_in before.table) (contents_of k)) (jump_rows replaced)
        (laws.valid (contents_of k) (bodies_in before.table) sound.jumps.valid)
        (laws.spliced (contents_of k) (jump_rows replaced) (bodies_in before.table) own_spliced)

    pieces_left : without_pieces at.one.pieces (unjumped (olds_of at.one.jumps) program.contents.pieces)
        ≡ jumped (bodies_in before.table) before.pieces
    pieces_left =
        ap (without_pieces at.one.pieces) restored
        ∙ laws.past_jumps at.one.pieces (bodies_in before.table) k.pieces
        ∙ ap (jumped (bodies_in before.table)) (sym (withdrawn_pieces k live))

    fences_left : without_ranges at.one.retired program.contents.fences ≡ map (fence_in before.table) before.retired
    unfolding withdrawn
    fences_left =
        ap (λ (c : Contents). without_ranges at.one.retired c.fences) memory
        ∙ left_marked at.one.retired k.table before.table k.retired
        (λ i d l. marked_left k live stands (get_or before.retired i d) (Contains-get_or before.retired i d l))

    contents_left : withdrawn_memory at.one.pieces at.one.retired (olds_of at.one.jumps) program.contents ≡ patched before
    unfolding withdrawn_memory patched
    contents_left = λ i. record { pieces = pieces_left i; fences = fences_left i }

    module _ (after : Program) (is : seen after ≡ after_taking at.one at.kept_later (seen program)) where
      abbrev others : List Shown
      others = at.earlier ++ at.later

      abbrev kept_others : List Kept
      kept_others = at.kept_earlier ++ at.kept_later

      abbrev now : AbstractMachine
      now = machine_of after arena others kept_others

      pieces_now : after.contents.pieces
          ≡ without_pieces at.one.pieces (unjumped (olds_of at.one.jumps) program.contents.pieces)
      unfolding withdrawn_memory
      pieces_now = ap (λ (s : Seen). s.contents.pieces) is

      fences_now : after.contents.fences ≡ without_ranges at.one.retired program.contents.fences
      unfolding withdrawn_memory
      fences_now = ap (λ (s : Seen). s.contents.fences) is

      ascend : Ascends piece_range 0 program.contents.pieces
      ascend =
          subst (λ (c : Contents). Ascends piece_range 0 c.pieces) (sym memory)
          (laws.valid (contents_of k) (bodies_in k.table) sound.jumps.valid).placed.ascend

      text_now : now.pieces ≡ without_pieces at.one.pieces k.pieces
      text_now =
          let olds = olds_of at.one.jumps in
          let code = program.contents.pieces in
          ap (text_of kept_others) pieces_now
          ∙ text_dropped laws.past_olds at.one.pieces kept_others (unjumped olds code)
          ∙ ap (without_pieces at.one.pieces)
          (text_joined at.kept_earlier at.kept_later (unjumped olds code)
          ∙ ap (text_of at.kept_earlier) (sym (text_swapped olds at.kept_later code ascend leaves.apart))
          ∙ sym (text_joined at.kept_earlier (at.one ∷ at.kept_later) code)
          ∙ ap (λ (ks : List Kept). text_of ks code) (sym at.kept_are))

      table_now : now.table ≡ fold without_base k.table replaced
      table_now =
          table_without at.earlier at.update at.later at.one at.kept_later later_paired alone own.once
          ∙ ap (λ (us : List Shown). fold without_base (table_of us) replaced) (sym at.updates_are)

      symbols_now : after.table.symbols
          ≡ without_symbols (length k.symbols - length (live.symbols ++ symbols_of later)) (length live.symbols) k.symbols
      symbols_now =
          ap (λ (s : Seen). s.symbols) is
          ∙ ap (λ (ss : List Symbol). without_symbols (length k.symbols - length (live.symbols ++ ss))
          at.one.symbol_count k.symbols) (sym (symbols_kept at.later at.kept_later later_paired))
          ∙ ap (λ (n : ℕ). without_symbols (length k.symbols - length (live.symbols ++ symbols_of later)) n k.symbols)
          leaves.is_kept.count

      pub same : now ≡ before
      same =
          machine_is now (without_one k live earlier later) text_now table_now
          (ap (map fence_range) fences_now ∙ laws.ranges at.one.retired program.contents.fences)
          symbols_now
          (ap (λ (s : Seen). s.stacks) is)
          refl refl
          (ap (λ (s : Seen). s.threads) is)
          (live_joined at.earlier at.later at.kept_earlier at.kept_later at.beside)
          ∙ sym (withdrawn_among k live earlier later among)

      stands_now : seen after ≡ seen_of now
      stands_now =
          ap (λ (c : Contents). let s : Seen = record (seen after) { contents = c } in s)
          (ap (λ (s : Seen). s.contents) is ∙ contents_left ∙ ap patched (sym same))

      built : IsBuilt now
      built = subst IsBuilt (sym same) leaves.built

      are_kept : AreKept now kept_others
      are_kept = subst (λ (m : AbstractMachine). AreKept m kept_others) (sym same) leaves.are_kept

      code : All (λ (o : Kept). All (HasJumpCode after.contents.pieces) o.jumps) kept_others
      unfolding patched
      code =
          All-weaker (λ (o : Kept). All (HasJumpCode now.pieces) o.jumps)
          (λ (o : Kept). All (HasJumpCode after.contents.pieces) o.jumps)
          (λ o all. All-weaker (HasJumpCode now.pieces) (HasJumpCode after.contents.pieces)
          (λ jump there. subst (λ (s : Seen). HasCode s.contents.pieces jump.home (length jump.old)) (sym stands_now)
          (code_jumped laws.stays (bodies_in now.table) now.pieces jump.home (length jump.old) there))
          o.jumps all) kept_others (kept_code laws.was_there now kept_others built are_kept)

      others_paired : length kept_others ≡ length others
      others_paired =
          let some : length at.kept_earlier ≡ length at.earlier = at.beside in
          let rest = later_paired in
          omega (arith, some, rest, length-append at.kept_earlier at.kept_later, length-append at.earlier at.later)

      pub held_without : IsHeldWithout program after arena updates kept at
      held_without = record {
        live = named_live;
        holds = record {
          stands = stands_now;
          opened = tt;
          built = built;
          are_kept = are_kept;
          code = code;
          paired = others_paired;
        };
        same = same;
      }
