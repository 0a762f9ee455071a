-- A machine without an update that no later one covers is built.
use Rattle.std.proofs.Common.{◌≡◌, ◌≢◌, ℕ, zero, suc, ◌^◌, ◌≤◌, ◌<◌, ◌==◌, ◌&&◌, ◌||◌, Bool, true, false, not, List, []}
use Rattle.std.proofs.Common.{◌∷◌, ◌++◌, map, length, get_or, Option, Some, None, refl, sym, ◌∙◌, ap, arith, subst, inl}
use Rattle.std.proofs.Common.{inr, append_assoc, unwrap_or, IsTrue}
use Rattle.std.specs.List.{All, Any, AllPairs, Contains, filter, fold, last_or, list_any}
use Rattle.std.proofs.lemmas.List.Elements.{All-contains, Contains-get_or, Contains-push}
use Rattle.std.proofs.lemmas.List.Folds.{Any-from_list_any}
use Rattle.std.proofs.lemmas.Bool.{false≢true, false_from_ne_true, and_from, or_left, or_right, not_from_false}
use Rattle.std.proofs.lemmas.Bool.{or_parts, and_parts}
use Rattle.std.proofs.lemmas.Bool.Decides.{nat_tests}
use Rattle.ks_base.specs.declared.places.Range.{Range}
use Rattle.ks_base.specs.declared.reports.Replaced.{Replaced}
use Rattle.image_memory.specs.declared.types.Piece.{Piece}
use Rattle.image_memory.specs.declared.types.Fence.{Fence}
use Rattle.image_memory.specs.Ranges.{Ascends, are_same, lies_in, is_one_of}
use Rattle.image_memory.specs.Contents.{Contents, IsValid, piece_range, fence_range, holding}
use Rattle.image_memory.specs.Changes.{HasPiece, without_ranges}
use Rattle.image_memory.specs.Fetch.{HasCode, code_in}
use Rattle.image_memory.specs.laws.RangeLaws.{each_above, inside, found}
use Rattle.image_threads.specs.Spawning.{is_stack, is_writable}
use Rattle.symbol_table.specs.Bodies.{newest as newest_base}
use Rattle.splice_jump.specs.Jumps.{IsFenced, IsSpliced, AreSpliced}
use Rattle.splice_jump.specs.laws.CodeLaws.{held}
use Rattle.update_memory.specs.Withdrawn.{is_based_at, without_pieces, ranges_but}
use Rattle.update_plan.specs.Sound.{IsCode, IsVersion, BeginsAt, is_replaced_at}
use Rattle.update_stack.specs.AbstractMachine.{AbstractMachine, Row, Update, is_home, bodies_in, base_of, fence_in}
use Rattle.update_stack.specs.AbstractMachine.{contents_of, is_text, with_replaced}
use Rattle.update_stack.specs.Apply.{has_name}
use Rattle.update_stack.specs.Undo.{without_last, without_base, symbols_of, withdrawn, newest_update, retires_in}
use Rattle.update_stack.specs.Undo.{ranges_in, is_code_of, code_ranges_in}
use Rattle.update_stack.specs.Scratch.{HasScratch, LeavesScratch}
use Rattle.update_stack.specs.Stacked.{IsSound, IsBuilt, Untouched, Updated, IsOnTop, IsVersionOf}
use Rattle.update_stack.specs.Uncovered.{HasOtherHomes, UncoveredCanGo}
use Rattle.update_stack.specs.laws.StackedLaws.{last_more, built_sound}
use Rattle.update_stack.specs.laws.TableLaws.{homes_after, homes_spliced}
use Rattle.update_stack.specs.laws.ViewLaws.{ranges_back}
use Rattle.update_stack.proofs.ScratchLaws.{scratch_stays}
use Rattle.update_stack.proofs.BuiltLaws.{built_table, contains_mapped}
use Rattle.update_stack.proofs.KeptLaws.{CodeWasThere, withdrawn_pieces}
use Rattle.update_stack.proofs.PastLaws.{IsAmong, home_kept, newest_kept, replaced_past, updates_pass, last_stays}
use Rattle.update_stack.proofs.PastLaws.{last_fits}
use Rattle.update_stack.proofs.SiftLaws.{listed_before, listed_kept, any_kept, any_of, filter_again, found_kept}
use Rattle.update_stack.proofs.SiftLaws.{one_passes}
use Rattle.update_stack.proofs.TableLaws.{IsTable, table_stays, last_back, all_homes_more, bases_after, table_spliced}
use Rattle.update_stack.proofs.ThereLaws.{IsLive, IsThere, live_named, none_live, live_there, newest_or_older}
use Rattle.update_stack.proofs.ThereLaws.{built_names, built_symbols, listed_among}
use Rattle.update_stack.proofs.UncoveredLaws.{pieces_apart, ranges_apart, one_listed, listed_one, IsClearOf}
use Rattle.update_stack.proofs.UncoveredLaws.{code_untouched, later_clear, clear_parts, IsFree, uncovered_free}

-- the laws of memory that are used here: what is left of a memory is one, its retired ranges are those that are left,
-- and code that is left was there
abbrev pub MemoryStays : Type 0
MemoryStays = (contents : Contents) (bases : List ℕ) (taken : List Range) → IsValid contents
    → IsValid (record {
      pieces = without_pieces bases contents.pieces;
      fences = without_ranges taken contents.fences;
    })

abbrev pub RangesStay : Type 0
RangesStay = (taken : List Range) (fences : List Fence)
    → map fence_range (without_ranges taken fences) ≡ ranges_but taken (map fence_range fences)

pub record LeftLaws : Type 0 where
  pub valid : MemoryStays
  pub ranges : RangesStay
  pub code : CodeWasThere

-- retired ranges ascend whatever is marked at their lows
ascend_again : (table : List Row) (floor : ℕ) (fences : List Fence) → Ascends fence_range floor fences
    → Ascends fence_range floor (map (fence_in table) (map fence_range fences))
ascend_again table floor [] up = tt
ascend_again table floor (fence ∷ fences) up = (up.0, up.1, ascend_again table fence.range.high fences up.2)

-- some item of which something is read
any_read : {X Y : Type 0} (f : X → Y) (P : Y → Type 0) (xs : List X) → Any P (map f xs) → Any (λ x. P (f x)) xs
any_read f P [] (k, y, less, at, is) = absurd (omega arith)
any_read f P (x ∷ xs) (zero, y, less, at, is) = (0, x, omega arith, refl, subst P (sym at) is)
any_read f P (x ∷ xs) (suc k, y, less, at, is) =
    let rest = any_read f P xs (k, y, omega arith, at, is) in
    (suc rest.0, rest.1, (let l = rest.2 in omega arith), rest.3, rest.4)

any_mapped : {X Y : Type 0} (f : X → Y) (P : Y → Type 0) (xs : List X) (x : X) → Contains xs x → P (f x)
    → Any P (map f xs)
any_mapped f P xs x there is = any_of P (map f xs) (f x) (contains_mapped f xs x there) is

-- a home without a row is its own newest base
own_base : (table : List Row) (home : ℕ) → is_home table home ≡ false → newest_base (bodies_in table) home ≡ home
own_base [] home none = refl
own_base (row ∷ rows) home none =
    let parts = or_parts (row.home == home) (is_home rows home) none in
    rw parts.0 (own_base rows home parts.1)

-- where the homes of a table are spliced, each with a row is
pub home_spliced : (contents : Contents) (table : List Row) (home : ℕ)
    → All (λ (row : Row). IsSpliced contents row.home) table → is_home table home ≡ true → IsSpliced contents home
home_spliced contents table home each there = read (Any-from_list_any (λ row. row.home == home) table there)
  where
    read : Any (λ (row : Row). (row.home == home) ≡ true) table → IsSpliced contents home
    read (j, row, less, at, passes) =
        let same : row.home ≡ home = grind (arith, nat_tests) in
        subst (IsSpliced contents) same
        (All-contains (λ (r : Row). IsSpliced contents r.home) table row each (j, less, at))

-- a writable piece that is left was there
stack_before : (test : Piece → Bool) (pieces : List Piece) (stack : Range) → is_stack (filter test pieces) stack ≡ true
    → is_stack pieces stack ≡ true
stack_before test pieces stack is =
    read (Any-from_list_any (λ piece. is_writable piece.kind && are_same (piece_range piece) stack)
    (filter test pieces) is)
  where
    read : Any (λ piece. (is_writable piece.kind && are_same (piece_range piece) stack) ≡ true) (filter test pieces)
        → is_stack pieces stack ≡ true
    read (k, piece, less, at, passes) =
        one_passes (λ p. is_writable p.kind && are_same (piece_range p) stack) pieces piece
        (listed_before test pieces piece (k, less, at)) passes

-- the table and the retired ranges that an update leaves
pub table_without : (k : AbstractMachine) (update : Update)
    → (withdrawn k update).table ≡ fold without_base k.table update.report.replaced
unfolding withdrawn
table_without k update = refl

retired_without : (k : AbstractMachine) (update : Update)
    → (withdrawn k update).retired ≡ ranges_but update.retired k.retired
unfolding withdrawn
retired_without k update = refl

or_none : (a : Bool) → (a || false) ≡ a
or_none true = refl
or_none false = refl

-- An update that no later one covers, and the newest above it.
pub record IsUnder (k : AbstractMachine) (newest update : Update) (earlier between : List Update) : Type 0 where
  pub sound : IsSound k
  pub top : IsOnTop k newest
  pub there : IsThere (withdrawn k newest) update
  pub clear : IsClearOf k update newest
  pub apart : HasOtherHomes update newest
  pub parts : k.updates ≡ earlier ++ update ∷ (between ++ newest ∷ [])
  pub new : list_any (has_name update.name) earlier ≡ false
  pub other_new : list_any (has_name newest.name) (earlier ++ update ∷ between) ≡ false
  pub enough : length (symbols_of k.updates) ≤ length k.symbols

module _ (k : AbstractMachine) (newest update : Update) (earlier between : List Update)
    (is : IsUnder k newest update earlier between) where
  -- the machine without it, and without both
  abbrev left : AbstractMachine
  left = withdrawn k update

  abbrev bare : AbstractMachine
  bare = withdrawn (withdrawn k update) newest

  -- it comes to the same whether it or the newest is taken back first
  pub both_gone : withdrawn (withdrawn k update) newest ≡ withdrawn (withdrawn k newest) update
  both_gone =
      updates_pass k update newest earlier between [] is.parts is.new is.other_new is.enough is.apart

  -- the newest stays the newest
  pub newest_left : newest_update left ≡ Some newest
  newest_left =
      ap (last_or None)
      (last_stays k update newest earlier between [] is.parts is.new is.other_new is.enough is.apart).parts
      ∙ last_more None (earlier ++ between) newest

  name_left : list_any (has_name newest.name) (without_last 1 left.updates) ≡ false
  name_left =
      let stays = last_stays k update newest earlier between [] is.parts is.new is.other_new is.enough is.apart in
      ap (λ (us : List Update). list_any (has_name newest.name) (without_last 1 us)) stays.parts
      ∙ ap (list_any (has_name newest.name)) (last_back (earlier ++ between) (newest ∷ []))
      ∙ stays.new

  -- homes of the newest are none of its own
  others : (home : ℕ) → is_replaced_at newest.report.replaced home ≡ true
      → All (λ (old : Replaced). old.home ≢ home) update.report.replaced
  others home passes i d l same = read (Any-from_list_any (λ one. one.home == home) newest.report.replaced passes)
    where
      read : Any (λ one. (one.home == home) ≡ true) newest.report.replaced → ⊥
      read (j, other, less, at, test) =
          let equal : other.home ≡ home = grind (arith, nat_tests) in
          is.apart i d l j other less (same ∙ sym equal ∙ ap (λ (r : Replaced). r.home) (sym at))

  home_stays : (home : ℕ) → is_replaced_at newest.report.replaced home ≡ true
      → is_home bare.table home ≡ is_home (withdrawn k newest).table home
  home_stays home passes =
      ap (λ (m : AbstractMachine). is_home m.table home) both_gone
      ∙ ap (λ (rows : List Row). is_home rows home) (table_without (withdrawn k newest) update)
      ∙ home_kept (withdrawn k newest).table update.report.replaced home (others home passes)

  base_stays : (home : ℕ) → is_replaced_at newest.report.replaced home ≡ true
      → base_of bare home ≡ base_of (withdrawn k newest) home
  base_stays home passes =
      ap (λ (m : AbstractMachine). base_of m home) both_gone
      ∙ ap (λ (rows : List Row). newest_base (bodies_in rows) home) (table_without (withdrawn k newest) update)
      ∙ newest_kept (withdrawn k newest).table update.report.replaced home (others home passes)

  -- the table is that without both, with the newest update's bases
  pub table_left : left.table ≡ fold with_replaced bare.table newest.report.replaced
  table_left =
      table_without k update
      ∙ ap (λ (rows : List Row). fold without_base rows update.report.replaced) is.top.table
      ∙ replaced_past (withdrawn k newest).table newest.report.replaced update.report.replaced is.apart
      ∙ ap (λ (rows : List Row). fold with_replaced rows newest.report.replaced)
      (sym (table_without (withdrawn k newest) update) ∙ sym (ap (λ (m : AbstractMachine). m.table) both_gone))

  -- so its homes are those without both, and those of the newest
  pub homes_left : (home : ℕ)
      → is_home left.table home ≡ (is_home bare.table home || is_replaced_at newest.report.replaced home)
  homes_left home =
      ap (λ (rows : List Row). is_home rows home) table_left
      ∙ homes_after bare.table newest.report.replaced home

  newest_home : (home : ℕ) → is_replaced_at newest.report.replaced home ≡ true → is_home k.table home ≡ true
  newest_home home passes =
      ap (λ (rows : List Row). is_home rows home) is.top.table
      ∙ homes_after (withdrawn k newest).table newest.report.replaced home
      ∙ or_right (is_home (withdrawn k newest).table home) (is_replaced_at newest.report.replaced home) passes

  -- what is retired without both was without the newest
  retired_below : (range : Range) → Contains bare.retired range → Contains (withdrawn k newest).retired range
  retired_below range there =
      listed_before (λ (r : Range). not (is_one_of update.retired r)) (withdrawn k newest).retired range
      (subst (λ (rs : List Range). Contains rs range)
      (ap (λ (m : AbstractMachine). m.retired) both_gone ∙ retired_without (withdrawn k newest) update) there)

  mark_left : (range : Range) → Contains bare.retired range
      → is_home left.table range.low ≡ is_home bare.table range.low
  mark_left range there =
      homes_left range.low ∙ by_home (is_replaced_at newest.report.replaced range.low) refl
    where
      by_home : (b : Bool) → is_replaced_at newest.report.replaced range.low ≡ b
          → (is_home bare.table range.low || b) ≡ is_home bare.table range.low
      by_home false none = or_none (is_home bare.table range.low)
      by_home true passes =
          let Marked : Range → Type 0 = λ r. is_home k.table r.low ≡ is_home (withdrawn k newest).table r.low in
          let was : is_home k.table range.low ≡ is_home (withdrawn k newest).table range.low =
          All-contains Marked (withdrawn k newest).retired range is.top.marked (retired_below range there) in
          let stays : is_home bare.table range.low ≡ true =
          home_stays range.low passes ∙ sym was ∙ newest_home range.low passes in
          ap (λ (a : Bool). a || true) stays ∙ sym stays

  -- the newest update's pieces and ranges are none of its own
  based : (base : ℕ) (piece : Piece) → Contains newest.pieces base → piece.base ≡ base
      → is_based_at newest.pieces piece ≡ true
  based base piece there begins =
      let equal : (base == piece.base) ≡ true = grind (arith, nat_tests) in
      one_passes (λ b. b == piece.base) newest.pieces base there equal

  piece_stays : (piece : Piece) → is_based_at newest.pieces piece ≡ true → not (is_based_at update.pieces piece) ≡ true
  piece_stays piece own =
      not_from_false (is_based_at update.pieces piece) (false_from_ne_true (is_based_at update.pieces piece)
      (λ other. false≢true (sym (pieces_apart k newest update is.there piece other) ∙ own)))

  -- its pieces, and its code, are the same with the other and without
  pub newest_ranges : ranges_in left newest ≡ ranges_in k newest
  unfolding withdrawn
  newest_ranges =
      ap (map piece_range)
      (filter_again (is_based_at newest.pieces) (λ (p : Piece). not (is_based_at update.pieces p)) k.pieces piece_stays)

  pub newest_code : code_ranges_in left newest ≡ code_ranges_in k newest
  unfolding withdrawn
  newest_code =
      ap (map piece_range)
      (filter_again (is_code_of newest) (λ (p : Piece). not (is_based_at update.pieces p)) k.pieces
      (λ piece code. piece_stays piece (and_parts (is_based_at newest.pieces piece) (is_text piece) code).0))

  range_stays : (range : Range) → is_one_of newest.retired range ≡ true → not (is_one_of update.retired range) ≡ true
  range_stays range own =
      not_from_false (is_one_of update.retired range) (false_from_ne_true (is_one_of update.retired range)
      (λ other. false≢true (sym (ranges_apart k newest update is.there range other) ∙ own)))

  pieces_left : All (HasPiece (contents_of left)) newest.pieces
  unfolding withdrawn
  pieces_left i d l =
      let base = get_or newest.pieces i d in
      any_kept (λ (p : Piece). not (is_based_at update.pieces p)) (λ (p : Piece). p.base ≡ base) k.pieces
      (λ p begins. piece_stays p (based base p (Contains-get_or newest.pieces i d l) begins)) (is.top.pieces i d l)

  retired_left : All (Contains left.retired) newest.retired
  unfolding withdrawn
  retired_left i d l =
      let range = get_or newest.retired i d in
      listed_kept (λ (r : Range). not (is_one_of update.retired r)) k.retired range (is.top.retired i d l)
      (range_stays range (listed_one newest.retired range (Contains-get_or newest.retired i d l)))

  versions_left : All (IsVersionOf left newest) newest.report.replaced
  unfolding withdrawn
  versions_left i d l =
      let one = get_or newest.report.replaced i d in
      let version = is.top.versions i d l in
      record {
        own = version.own;
        code =
            any_kept (λ (p : Piece). not (is_based_at update.pieces p)) (IsVersion one.base) k.pieces
            (λ p code. piece_stays p (based one.base p version.own code.begins)) version.code;
      }

  replaced_own : (i : ℕ) (d : Replaced) → i < length newest.report.replaced
      → is_replaced_at newest.report.replaced (get_or newest.report.replaced i d).home ≡ true
  replaced_own i d l =
      let one = get_or newest.report.replaced i d in
      let equal : (one.home == one.home) ≡ true = grind (arith, nat_tests) in
      one_passes (λ (r : Replaced). r.home == one.home) newest.report.replaced one
      (Contains-get_or newest.report.replaced i d l) equal

  scratch_top : LeavesScratch left newest
  unfolding withdrawn
  scratch_top = is.top.scratch

  -- The newest lies on what is there without the other.
  pub on_top_left : IsOnTop left newest
  on_top_left = record {
    table = table_left;
    once = is.top.once;
    marked = λ i d l. mark_left (get_or bare.retired i d) (Contains-get_or bare.retired i d l);
    pieces = pieces_left;
    bases = is.top.bases;
    retired = retired_left;
    ranges = is.top.ranges;
    symbols = last_fits k update newest earlier between [] is.parts is.new is.other_new is.enough is.apart;
    versions = versions_left;
    over = λ i d l.
        subst (λ (base : ℕ). Any (BeginsAt base) newest.retired)
        (sym (base_stays (get_or newest.report.replaced i d).home (replaced_own i d l))) (is.top.over i d l);
    name = name_left;
    scratch = scratch_top;
  }

  -- Code of other updates stays, and so does code in what the newest retired.
  code_left : (range : Range) (a count : ℕ) → Contains newest.retired range → range.low ≤ a → a < range.high
      → 0 < count → HasCode k.pieces a count → HasCode left.pieces a count
  unfolding withdrawn
  code_left range a count retired low high some code =
      let here = held k.pieces a count some code in
      let at = found (λ piece. lies_in a (piece_range piece)) k.pieces here.piece here.found in
      let from = here.low in
      let room = here.room in
      let stays : is_based_at update.pieces here.piece ≡ false =
      false_from_ne_true (is_based_at update.pieces here.piece)
      (λ own. code_untouched k update newest range here.piece a is.clear retired
      (at.index, at.in_list, at.at here.piece)
      (and_from (is_based_at update.pieces here.piece) (is_text here.piece) own here.code) low high from
      (omega arith)) in
      let same : holding (filter (λ (p : Piece). not (is_based_at update.pieces p)) k.pieces) a ≡ Some here.piece =
      found_kept (λ piece. lies_in a (piece_range piece)) (λ (p : Piece). not (is_based_at update.pieces p)) k.pieces
      here.piece here.found (not_from_false (is_based_at update.pieces here.piece) stays) in
      subst (λ (o : Option Piece). count ≤ length (unwrap_or (code_in a o) [])) (here.found ∙ sym same) code

  -- What is left is sound where it is without the newest.
  module _ (laws : LeftLaws) (sound : IsSound (withdrawn (withdrawn k update) newest))
      (table : IsTable (withdrawn (withdrawn k update) newest).table) where
    valid_left : IsValid (contents_of left)
    unfolding withdrawn
    valid_left =
        let valid = laws.valid (contents_of k) update.pieces update.retired is.sound.jumps.valid in
        record {
          placed = valid.placed;
          fenced =
              subst (λ (rs : List Range). Ascends fence_range 0 (map (fence_in left.table) rs))
              (laws.ranges update.retired (contents_of k).fences
              ∙ ap (ranges_but update.retired) (ranges_back k.table k.retired))
              (ascend_again left.table 0 (without_ranges update.retired (contents_of k).fences) valid.fenced);
        }

    code_more : (a count : ℕ) → HasCode bare.pieces a count → HasCode left.pieces a count
    code_more a count code =
        laws.code (contents_of left) newest.pieces a count valid_left
        (subst (λ (ps : List Piece). HasCode ps a count) (withdrawn_pieces left newest) code)

    range_more : (range : Range) → Contains bare.retired range → Contains left.retired range
    range_more range there =
        listed_before (λ (r : Range). not (is_one_of newest.retired r)) left.retired range
        (subst (λ (rs : List Range). Contains rs range) (retired_without left newest) there)

    -- the homes that had rows without the newest
    fence_more : (home : ℕ) → Any (λ range. IsFenced home (fence_in bare.table range)) bare.retired
        → Any (IsFenced home) (contents_of left).fences
    fence_more home (j, range, less, at, fenced) =
        any_mapped (fence_in left.table) (IsFenced home) left.retired range (range_more range (j, less, at))
        (record {
          jump =
              homes_left range.low
              ∙ or_left (is_home bare.table range.low) (is_replaced_at newest.report.replaced range.low) fenced.jump;
          low = fenced.low;
          long = fenced.long;
        })

    old_homes : All (λ (row : Row). IsSpliced (contents_of left) row.home) bare.table
    old_homes i d l =
        let home = (get_or bare.table i d).home in
        let was = homes_spliced (contents_of bare) bare.table sound.jumps.spliced i d l in
        record {
          code = code_more home 5 was.code;
          fence = fence_more home (any_read (fence_in bare.table) (IsFenced home) bare.retired was.fence);
        }

    -- A home that is new with it: the code there stays, and the range that begins there.
    module _ (one : Replaced) (there : Contains newest.report.replaced one)
        (none : is_home bare.table one.home ≡ false) where
      passes : is_replaced_at newest.report.replaced one.home ≡ true
      passes =
          let equal : (one.home == one.home) ≡ true = grind (arith, nat_tests) in
          one_passes (λ (r : Replaced). r.home == one.home) newest.report.replaced one there equal

      spliced_before : IsSpliced (contents_of k) one.home
      spliced_before =
          home_spliced (contents_of k) k.table one.home
          (homes_spliced (contents_of k) k.table is.sound.jumps.spliced) (newest_home one.home passes)

      new_code : HasCode left.pieces one.home 5
      new_code =
          read (All-contains (λ (r : Replaced). Any (BeginsAt (base_of (withdrawn k newest) r.home)) newest.retired)
          newest.report.replaced one is.top.over there)
        where
          read : Any (BeginsAt (base_of (withdrawn k newest) one.home)) newest.retired → HasCode left.pieces one.home 5
          read (x, range, less, at, begins) =
              let own : base_of (withdrawn k newest) one.home ≡ one.home =
              sym (base_stays one.home passes) ∙ own_base bare.table one.home none in
              let low : range.low ≡ one.home = begins.low ∙ own in
              let full = begins.full in
              code_left range one.home 5 (x, less, at) (omega arith) (omega arith) (omega arith) spliced_before.code

      new_fence : Any (IsFenced one.home) (contents_of left).fences
      new_fence = read (any_read (fence_in k.table) (IsFenced one.home) k.retired spliced_before.fence)
        where
          was_none : is_home (withdrawn k newest).table one.home ≡ false
          was_none = sym (home_stays one.home passes) ∙ none

          not_own : (range : Range) → range.low ≡ one.home → is_home k.table range.low ≡ true
              → is_one_of update.retired range ≡ true → ⊥
          not_own range low marked own =
              let Marked : Range → Type 0 = λ r. is_home k.table r.low ≡ is_home (withdrawn k newest).table r.low in
              let below : Contains (withdrawn k newest).retired range =
              All-contains (Contains (withdrawn k newest).retired) update.retired range is.there.retired
              (one_listed update.retired range own) in
              let same : is_home k.table range.low ≡ is_home (withdrawn k newest).table range.low =
              All-contains Marked (withdrawn k newest).retired range is.top.marked below in
              false≢true (sym was_none ∙ ap (is_home (withdrawn k newest).table) (sym low) ∙ sym same ∙ marked)

          read : Any (λ range. IsFenced one.home (fence_in k.table range)) k.retired
              → Any (IsFenced one.home) (contents_of left).fences
          read (j, range, less, at, fenced) =
              let kept : Contains left.retired range =
              subst (λ (rs : List Range). Contains rs range) (sym (retired_without k update))
              (listed_kept (λ (r : Range). not (is_one_of update.retired r)) k.retired range (j, less, at)
              (not_from_false (is_one_of update.retired range) (false_from_ne_true (is_one_of update.retired range)
              (not_own range fenced.low fenced.jump)))) in
              any_mapped (fence_in left.table) (IsFenced one.home) left.retired range kept
              (record {
                jump =
                    homes_left range.low
                    ∙ or_right (is_home bare.table range.low) (is_replaced_at newest.report.replaced range.low)
                    (ap (is_replaced_at newest.report.replaced) fenced.low ∙ passes);
                low = fenced.low;
                long = fenced.long;
              })

    new_homes : All (λ (one : Replaced). IsSpliced (contents_of left) one.home) newest.report.replaced
    new_homes i d l =
        by_home (get_or newest.report.replaced i d) (Contains-get_or newest.report.replaced i d l)
        (is_home bare.table (get_or newest.report.replaced i d).home) refl
      where
        by_home : (one : Replaced) → Contains newest.report.replaced one → (b : Bool)
            → is_home bare.table one.home ≡ b → IsSpliced (contents_of left) one.home
        by_home one there true had = home_spliced (contents_of left) bare.table one.home old_homes had
        by_home one there false none = record { code = new_code one there none; fence = new_fence one there none }

    spliced_left : AreSpliced (contents_of left) (bodies_in left.table)
    spliced_left =
        table_spliced (contents_of left) left.table
        (subst (λ (rows : List Row). All (λ (row : Row). IsSpliced (contents_of left) row.home) rows) (sym table_left)
        (all_homes_more (IsSpliced (contents_of left)) bare.table newest.report.replaced old_homes new_homes))
        (subst (λ (rows : List Row). AllPairs (λ (a b : Row). a.home ≢ b.home) rows) (sym table_left)
        (table_stays bare.table newest.report.replaced table).homes)

    low_base : All (λ (one : Replaced). one.base < 2 ^ 32) newest.report.replaced
    low_base i d l = read (get_or newest.report.replaced i d) (is.top.versions i d l).code
      where
        read : (one : Replaced) → Any (IsVersion one.base) k.pieces → one.base < 2 ^ 32
        read one (y, piece, within, stands, version) =
            let placed = is.sound.jumps.valid.placed in
            let full : (piece_range piece).low < (piece_range piece).high =
            rw stands at (each_above piece_range 0 k.pieces y piece placed.ascend within).1 in
            let end : (piece_range piece).high ≤ 0xFFFF_0000 = rw stands at (placed.end_below y piece within) in
            let begins = version.begins in
            omega arith

    low_left : All (λ (row : ℕ × ℕ). row.1 < 2 ^ 32) (bodies_in left.table)
    low_left =
        subst (λ (rows : List Row). All (λ (row : ℕ × ℕ). row.1 < 2 ^ 32) (bodies_in rows)) (sym table_left)
        (bases_after (λ base. base < 2 ^ 32) bare.table newest.report.replaced sound.jumps.low low_base)

    stacks_left : All (λ (stack : Range). IsTrue (is_stack left.pieces stack)) left.stacks
    unfolding withdrawn
    stacks_left i d l =
        stack_before (λ (p : Piece). not (is_based_at newest.pieces p)) left.pieces (get_or k.stacks i d)
        (sound.stacks i d l)

    scratch_left : HasScratch left
    unfolding withdrawn
    scratch_left =
        scratch_stays k.scratch (without_pieces newest.pieces left.pieces) left.pieces k.stacks
        (stack_before (λ (p : Piece). not (is_based_at newest.pieces p)) left.pieces) sound.scratch

    ranges_left : All (IsCode left.pieces) left.retired
    ranges_left i d l =
        by_test (get_or left.retired i d) (Contains-get_or left.retired i d l)
        (is_one_of newest.retired (get_or left.retired i d)) refl
      where
        by_test : (range : Range) → Contains left.retired range → (b : Bool) → is_one_of newest.retired range ≡ b
            → IsCode left.pieces range
        by_test range there true own = λ a lies.
            let among = inside a range lies in
            let before : Contains k.retired range =
            listed_before (λ (r : Range). not (is_one_of update.retired r)) k.retired range
            (subst (λ (rs : List Range). Contains rs range) (retired_without k update) there) in
            code_left range a 1 (one_listed newest.retired range own) among.0 among.1 (omega arith)
            (All-contains (IsCode k.pieces) k.retired range is.sound.retired before a lies)
        by_test range there false other = λ a lies.
            let kept : Contains bare.retired range =
            subst (λ (rs : List Range). Contains rs range) (sym (retired_without left newest))
            (listed_kept (λ (r : Range). not (is_one_of newest.retired r)) left.retired range there
            (not_from_false (is_one_of newest.retired range) other)) in
            code_more a 1 (All-contains (IsCode bare.pieces) bare.retired range sound.retired kept a lies)

    -- so what is left is sound
    pub sound_left : IsSound left
    unfolding withdrawn
    sound_left = record {
      jumps = record { valid = valid_left; spliced = spliced_left; low = low_left };
      stacks = stacks_left;
      arena = is.sound.arena;
      retired = ranges_left;
      scratch = scratch_left;
    }

-- the newest update, which lies on all others
pub free_under : (k : AbstractMachine) (newest update : Update) (earlier between : List Update) → IsSound k → IsBuilt k
    → IsOnTop k newest → IsThere (withdrawn k newest) update → IsClearOf k update newest
    → IsAmong k.updates update earlier (between ++ newest ∷ []) → IsFree k update (between ++ newest ∷ [])
    → IsUnder k newest update earlier between
free_under k newest update earlier between sound built top there clear among free = record {
  sound = sound;
  top = top;
  there = there;
  clear = clear;
  apart =
      All-contains (HasOtherHomes update) (between ++ newest ∷ []) newest free.alone (Contains-push between newest);
  parts = among.parts;
  new = among.new;
  other_new =
      (listed_among k.updates newest (earlier ++ update ∷ between) [] (built_names k built)
      (among.parts ∙ sym (append_assoc earlier (update ∷ between) (newest ∷ [])))).new;
  enough = built_symbols k built;
}

-- Without it the machine is built.
pub free_built : LeftLaws → (k : AbstractMachine) → IsBuilt k → (update : Update) (earlier later : List Update)
    → IsAmong k.updates update earlier later → list_any (retires_in (code_ranges_in k update)) later ≡ false
    → IsBuilt (withdrawn k update)
free_built laws _ (Untouched k sound none empty unused) update earlier later among clear =
    absurd (none_live update (subst (λ (us : List Update). IsLive us update) none
    (record { earlier = earlier; later = later; among = among })))
free_built laws _ (Updated k newest sound is top below) update earlier later among clear =
    elim (newest_or_older k newest update earlier later is top.name among) [
      | inl last ↦ subst (λ (u : Update). IsBuilt (withdrawn k u)) (sym last.same) below
      | inr older ↦
          let built : IsBuilt k = Updated k newest sound is top below in
          let live : IsLive (withdrawn k newest).updates update =
          record { earlier = earlier; later = older.between; among = older.among } in
          let there = live_there (withdrawn k newest) below update live in
          let parts = clear_parts k newest update older.between there
          (subst (λ (us : List Update). list_any (retires_in (code_ranges_in k update)) us ≡ false) older.parts
          clear) in
          let under = free_under k newest update earlier older.between sound built top there parts.last
          (subst (IsAmong k.updates update earlier) older.parts among)
          (subst (IsFree k update) older.parts (uncovered_free k built update earlier later among clear)) in
          let rest = free_built laws (withdrawn k newest) below update earlier older.between older.among parts.before in
          let bare : IsBuilt (withdrawn (withdrawn k update) newest) =
          subst IsBuilt (sym (both_gone k newest update earlier older.between under)) rest in
          Updated (withdrawn k update) newest
          (sound_left k newest update earlier older.between under laws
          (built_sound (withdrawn (withdrawn k update) newest) bare)
          (built_table (withdrawn (withdrawn k update) newest) bare))
          (newest_left k newest update earlier older.between under)
          (on_top_left k newest update earlier older.between under) bare
    ]

-- so it is of an update that no later one covers
pub uncovered_goes : LeftLaws → UncoveredCanGo
uncovered_goes laws k update is =
    let live = live_named k update is.live in
    free_built laws k is.built update live.earlier live.later live.among
    (later_clear k update live.earlier live.later live.among is.uncovered)
