-- What comes of a plan that is carried out.
use Rattle.std.proofs.Common.{◌≡◌, ℕ, ◌+◌, ◌^◌, ◌<◌, ◌≤◌, false, List, [], ◌∷◌, ◌++◌, map, length, get_or}
use Rattle.std.proofs.Common.{Some}
use Rattle.std.proofs.Common.{refl, sym, ◌∙◌, ap, arith, subst}
use Rattle.std.specs.List.{All, filter, fold, list_any}
use Rattle.std.specs.List.Sorted.{IsPermutation}
use Rattle.std.proofs.lemmas.List.{length-append}
use Rattle.std.proofs.lemmas.List.Elements.{All-head, All-tail, All-map, All-weaker}
use Rattle.std.proofs.lemmas.List.Sorted.{IsPermutation-sym, IsPermutation-trans}
use Rattle.ks_base.specs.declared.places.Range.{Range}
use Rattle.ks_base.specs.declared.reports.Replaced.{Replaced}
use Rattle.image_memory.specs.declared.types.Piece.{Piece}
use Rattle.image_memory.specs.declared.types.Fence.{Fence}
use Rattle.image_memory.specs.Ranges.{meets, MeetsNone}
use Rattle.image_memory.specs.Contents.{Contents, IsValid, piece_range, fence_range}
use Rattle.image_memory.specs.Access.{bytes_at, written}
use Rattle.image_memory.specs.Changes.{ArePlaceable, after_fence}
use Rattle.image_memory.specs.Fetch.{HasCode}
use Rattle.image_memory.specs.laws.RangeLaws.{list_any-map}
use Rattle.symbol_table.specs.declared.symbols.Symbol.{Symbol}
use Rattle.splice_jump.specs.Jump.{five_at}
use Rattle.splice_jump.specs.Jumps.{jumped, jumped_memory, olds_at, unjumped, AreSpliced}
use Rattle.update_memory.specs.declared.types.Jump.{Jump}
use Rattle.update_memory.specs.Added.{AreAddable, with_pieces}
use Rattle.update_memory.specs.Retired.{with_fences}
use Rattle.update_memory.specs.Rows.{row_of, rows_of, old_of, olds_of}
use Rattle.update_memory.specs.Withdrawn.{without_pieces}
use Rattle.image_threads.specs.Program.{Program}
use Rattle.update_plan.specs.declared.types.Plan.{Plan}
use Rattle.update_plan.specs.Sound.{IsCode, IsJumpTo, AllReplaceNewest, CanBeMade}
use Rattle.update_stack.specs.declared.updates.Arena.{Arena}
use Rattle.update_stack.specs.declared.updates.Update.{Update as Shown}
use Rattle.update_stack.specs.declared.updates.Kept.{Kept}
use Rattle.update_stack.specs.AbstractMachine.{AbstractMachine, Row, Update, bodies_in, with_replaced, contents_of}
use Rattle.update_stack.specs.AbstractMachine.{is_text, jump_row, jump_rows}
use Rattle.update_stack.specs.StandsFor.{Seen, seen, seen_of, patched}
use Rattle.update_stack.specs.Apply.{has_name, with_new_piece, update_as, committed}
use Rattle.update_stack.specs.Undo.{withdrawn, ranges_in, code_ranges_in, newest_update}
use Rattle.update_stack.specs.Systems.{text_of, HasJumpCode, Holds, live_update, live_updates, machine_of}
use Rattle.update_stack.specs.Stacked.{IsBuilt, AreKept, OneKept}
use Rattle.update_stack.specs.inside.Carrying.{bare_jump, shown_as, EndsLow, FitsIn, IsKeptOf}
use Rattle.update_stack.specs.inside.Carrying.{IsCarriedOut, HoldsAfter}
use Rattle.update_stack.specs.laws.StackedLaws.{built_sound}
use Rattle.update_stack.specs.laws.ViewLaws.{ranges_back}
use Rattle.update_stack.proofs.LastLaws.{last_more, text_more, table_more, live_more}
use Rattle.update_stack.proofs.TableLaws.{JumpsAdded, JumpsReplaced, spliced_new, jumps_stacked}
use Rattle.update_stack.proofs.BuiltLaws.{MemoryLaws, machine_is, pieces_made, pieces_fit, ranges_fit}
use Rattle.update_stack.proofs.BuiltLaws.{committed_back, contents_after, built_commit}
use Rattle.update_stack.proofs.KeptLaws.{CodeWasThere}
use Rattle.update_stack.proofs.BesideLaws.{ranges_stay}
use Rattle.update_stack.proofs.TextLaws.{HasOldCode, placed_stays, kept_by_text}
use Rattle.update_stack.proofs.UndoLaws.{ValidJumped, StaySpliced, TakenBack, CodeStays, PlacesStay, jump_code}
use Rattle.update_stack.proofs.UndoLaws.{code_jumped, kept_code}
use Rattle.update_stack.proofs.AddedLaws.{added_ranges, added_code_ranges}

-- the rows of jumps before their code is noted
pub rows_bare : (replaced : List Replaced) → map row_of (map bare_jump replaced) ≡ jump_rows replaced
rows_bare [] = refl
rows_bare (one ∷ more) = ap (λ (rows : List (ℕ × ℕ)). (one.home, one.base) ∷ rows) (rows_bare more)

pub homes_low : (replaced : List Replaced) → All EndsLow replaced
    → All (λ (jump : Jump). jump.home + 5 ≤ 2 ^ 32) (map bare_jump replaced)
homes_low replaced low = All-map (λ (jump : Jump). jump.home + 5 ≤ 2 ^ 32) bare_jump replaced low

-- the laws of other crates that are used here
abbrev pub BytesAdded : Type 0
BytesAdded = (contents : Contents) (pieces : List Piece) (address count : ℕ) → IsValid contents
    → ArePlaceable pieces → AreAddable contents pieces → HasCode contents.pieces address count
    → bytes_at (with_pieces contents pieces).pieces address count ≡ bytes_at contents.pieces address count

abbrev pub OldsAdded : Type 0
OldsAdded = (contents : Contents) (pieces : List Piece) (olds : List (ℕ × List ℕ)) → IsValid contents
    → ArePlaceable pieces → AreAddable contents pieces
    → All (λ (old : ℕ × List ℕ). HasCode contents.pieces old.0 (length old.1)) olds
    → (with_pieces (record contents { pieces = unjumped olds contents.pieces }) pieces).pieces
    ≡ unjumped olds (with_pieces contents pieces).pieces

abbrev pub JumpedAdded : Type 0
JumpedAdded = (contents : Contents) (pieces : List Piece) (rows : List (ℕ × ℕ)) → IsValid contents
    → ArePlaceable pieces → AreAddable contents pieces → AreSpliced contents rows
    → (with_pieces (jumped_memory rows contents) pieces).pieces ≡ jumped rows (with_pieces contents pieces).pieces

pub record Laws : Type 0 where
  pub memory : MemoryLaws
  pub added : JumpsAdded
  pub over : JumpsReplaced
  pub valid : ValidJumped
  pub spliced : StaySpliced
  pub taken_back : TakenBack
  pub stays : CodeStays
  pub places : PlacesStay
  pub bytes : BytesAdded
  pub past_olds : OldsAdded
  pub past_jumps : JumpedAdded
  pub was_there : CodeWasThere

-- a range meets none of pieces that have the ranges of others of which it meets none
pub meets_by_ranges : (own : Range) (ps qs : List Piece) → map piece_range ps ≡ map piece_range qs
    → MeetsNone piece_range own qs → MeetsNone piece_range own ps
meets_by_ranges own ps qs same none =
    sym (list_any-map (meets own) piece_range ps)
    ∙ ap (list_any (meets own)) same
    ∙ list_any-map (meets own) piece_range qs
    ∙ none

-- a memory by its two parts
pub memory_is : (a b : Contents) → a.pieces ≡ b.pieces → a.fences ≡ b.fences → a ≡ b
memory_is a b pieces fences = λ i. record { pieces = pieces i; fences = fences i }

-- retired ranges are added to those that are there, whatever the pieces
fences_by : (a b : Contents) (fences : List Fence) → a.fences ≡ b.fences
    → (with_fences a fences).fences ≡ (with_fences b fences).fences
unfolding with_fences
fences_by a b [] same = same
fences_by a b (fence ∷ fences) same =
    fences_by (after_fence a fence) (after_fence b fence) fences
    (ap (λ (fs : List Fence). (after_fence (record a { fences = fs }) fence).fences) same)

-- the code that was noted, in pieces where it stands still
same_olds : (ps qs : List Piece) (rows : List (ℕ × ℕ))
    → All (λ (row : ℕ × ℕ). five_at ps row.0 ≡ five_at qs row.0) rows → olds_at ps rows ≡ olds_at qs rows
same_olds ps qs [] same = refl
same_olds ps qs (row ∷ rows) same =
    let Same : ℕ × ℕ → Type 0 = λ r. five_at ps r.0 ≡ five_at qs r.0 in
    ap (λ (old : List ℕ). let first : ℕ × List ℕ = (row.0, old) in first ∷ olds_at ps rows)
    (All-head Same row rows same)
    ∙ ap (λ (olds : List (ℕ × List ℕ)). let first : ℕ × List ℕ = (row.0, five_at qs row.0) in first ∷ olds)
    (same_olds ps qs rows (All-tail Same row rows same))

-- pieces are added beside old code that is put back
abbrev pub with_text : Contents → List Piece → Contents
with_text contents pieces = record contents { pieces = pieces }

pub text_added : OldsAdded → CodeStays → (contents : Contents) (pieces : List Piece) (kept : List Kept) → IsValid contents
    → ArePlaceable pieces → AreAddable contents pieces → HasOldCode kept contents.pieces
    → text_of kept (with_pieces contents pieces).pieces
    ≡ (with_pieces (with_text contents (text_of kept contents.pieces)) pieces).pieces
text_added past stays contents pieces [] valid placeable addable code = refl
text_added past stays contents pieces (one ∷ later) valid placeable addable code =
    let Each : Kept → Type 0 = λ each. All (HasJumpCode contents.pieces) each.jumps in
    let text = text_of later contents.pieces in
    ap (unjumped (olds_of one.jumps))
    (text_added past stays contents pieces later valid placeable addable (All-tail Each one later code))
    ∙ sym (past (with_text contents text) pieces (olds_of one.jumps)
    (kept_by_text (λ ps. IsValid (with_text contents ps))
    (λ start bytes ps is. record { placed = placed_stays start bytes ps is.placed; fenced = is.fenced })
    later contents.pieces valid)
    placeable
    (kept_by_text (λ ps. AreAddable (with_text contents ps) pieces)
    (λ start bytes ps is. record {
      apart = is.apart;
      clear =
          All-weaker (λ (range : Range). MeetsNone piece_range range ps)
          (λ (range : Range). MeetsNone piece_range range (written start bytes ps))
          (λ range none. meets_by_ranges range (written start bytes ps) ps (ranges_stay start bytes ps) none)
          (map piece_range pieces) is.clear;
    })
    later contents.pieces addable)
    (All-map (λ (old : ℕ × List ℕ). HasCode text old.0 (length old.1)) old_of one.jumps
    (kept_by_text (λ ps. All (HasJumpCode ps) one.jumps)
    (λ start bytes ps all. All-weaker (HasJumpCode ps) (HasJumpCode (written start bytes ps))
    (λ jump has. stays ps start bytes jump.home (length jump.old) has) one.jumps all)
    later contents.pieces (All-head Each one later code))))

-- what is kept of an update is what the machine has of it
update_is : (name : List ℕ) (plan : Plan) (jumps : List Jump) (kept : Kept)
    → IsKeptOf plan jumps kept → live_update (shown_as name plan.report) kept ≡ update_as name plan
update_is name plan jumps kept is = λ i. record {
  name = name;
  report = plan.report;
  pieces = is.pieces i;
  retired = is.retired i;
  symbols = is.symbols i;
  needs = is.needs i;
}

-- a system, and a plan that can be made on its machine
module _ (laws : Laws) (before : Program) (arena : Arena) (updates : List Shown) (kept : List Kept)
    (holds : Holds before arena updates kept) (plan : Plan)
    (can : CanBeMade (contents_of (machine_of before arena updates kept)) plan) where
  abbrev k : AbstractMachine
  k = machine_of before arena updates kept

  abbrev replaced : List Replaced
  replaced = plan.report.replaced

  -- the rows that were there
  abbrev rows : List (ℕ × ℕ)
  rows = bodies_in k.table

  valid_text : IsValid (contents_of k)
  valid_text = (built_sound k holds.built).jumps.valid

  spliced_text : AreSpliced (contents_of k) rows
  spliced_text = (built_sound k holds.built).jumps.spliced

  memory : before.contents ≡ jumped_memory rows (contents_of k)
  unfolding patched
  memory = ap (λ (s : Seen). s.contents) holds.stands

  valid_before : IsValid before.contents
  valid_before = subst IsValid (sym memory) (laws.valid (contents_of k) rows valid_text)

  can_jumped : CanBeMade (jumped_memory rows (contents_of k)) plan
  can_jumped = record {
    placeable = can.placeable;
    apart = can.apart;
    alone =
        All-weaker (λ (piece : Piece). MeetsNone piece_range (piece_range piece) k.pieces)
        (λ (piece : Piece). MeetsNone piece_range (piece_range piece) (jumped rows k.pieces))
        (λ piece none.
        meets_by_ranges (piece_range piece) (jumped rows k.pieces) k.pieces (laws.places rows k.pieces) none)
        plan.pieces can.alone;
    full = can.full;
    code =
        All-weaker (λ (fence : Fence). IsCode k.pieces fence.range)
        (λ (fence : Fence). IsCode (jumped rows k.pieces) fence.range)
        (λ fence is a lies. code_jumped laws.stays rows k.pieces a 1 (is a lies)) plan.fences can.code;
    retired_apart = can.retired_apart;
    in_use = can.in_use;
    jumps =
        All-weaker (IsJumpTo (contents_of k) plan.fences) (IsJumpTo (jumped_memory rows (contents_of k)) plan.fences)
        (λ one is. record {
          code = code_jumped laws.stays rows k.pieces one.home 5 is.code;
          fence = is.fence;
          base = is.base;
        }) replaced can.jumps;
    once = can.once;
    marked = can.marked;
  }

  pub can_before : CanBeMade before.contents plan
  can_before = subst (λ (c : Contents). CanBeMade c plan) (sym memory) can_jumped

  -- the plan fits
  code_there : All (λ (one : Replaced). HasCode before.contents.pieces one.home 5) replaced
  code_there i d l = (can_before.jumps i d l).code

  abbrev full : Contents
  full = with_fences (with_pieces before.contents plan.pieces) plan.fences

  full_pieces : full.pieces ≡ (with_pieces before.contents plan.pieces).pieces
  full_pieces = laws.memory.ranges_pieces (with_pieces before.contents plan.pieces) plan.fences

  code_full : All (λ (row : ℕ × ℕ). HasCode full.pieces row.0 5) (jump_rows replaced)
  code_full =
      All-map (λ (row : ℕ × ℕ). HasCode full.pieces row.0 5) jump_row replaced
      (λ i d l. subst (λ (ps : List Piece). HasCode ps (get_or replaced i d).home 5) (sym full_pieces)
      (laws.memory.pieces_code before.contents plan.pieces
      (get_or replaced i d).home 5 valid_before can_before.placeable
      (pieces_fit before.contents plan can_before) (code_there i d l)))

  pub plan_fits : (jumps : List Jump) → rows_of jumps ≡ jump_rows replaced → FitsIn before.contents plan jumps
  plan_fits jumps are = record {
    addable = pieces_fit before.contents plan can_before;
    retirable = ranges_fit laws.memory.pieces_fences before.contents plan can_before;
    code =
        jump_code full.pieces jumps
        (subst (All (λ (row : ℕ × ℕ). HasCode full.pieces row.0 5)) (sym are) code_full);
  }

  module _ (name : List ℕ) (new : list_any (has_name name) k.updates ≡ false)
      (replace : AllReplaceNewest (bodies_in k.table) plan) where
    abbrev after_it : AbstractMachine
    after_it = committed k name plan

    abbrev update : Update
    update = update_as name plan

    built_after : IsBuilt after_it
    built_after = built_commit laws.memory k name plan holds.built can new replace

    back : withdrawn after_it update ≡ k
    back = committed_back laws.memory k name plan holds.built can new

    -- the machine's memory after it
    abbrev text : Contents
    text = with_fences (with_pieces (contents_of k) plan.pieces) plan.fences

    text_now : contents_of after_it ≡ text
    text_now = contents_after laws.memory k name plan holds.built can

    table_now : after_it.table ≡ fold with_replaced k.table replaced
    unfolding committed
    table_now = refl

    text_pieces : text.pieces ≡ (with_pieces (contents_of k) plan.pieces).pieces
    text_pieces = laws.memory.ranges_pieces (with_pieces (contents_of k) plan.pieces) plan.fences

    -- the memory before the new jumps
    pieces_full : full.pieces ≡ jumped rows text.pieces
    pieces_full =
        full_pieces
        ∙ ap (λ (c : Contents). (with_pieces c plan.pieces).pieces) memory
        ∙ laws.past_jumps (contents_of k) plan.pieces rows valid_text can.placeable
        (pieces_fit (contents_of k) plan can) spliced_text
        ∙ ap (jumped rows) (sym text_pieces)

    fences_full : full.fences ≡ text.fences
    fences_full =
        fences_by (with_pieces before.contents plan.pieces) (with_pieces (contents_of k) plan.pieces) plan.fences
        (laws.memory.pieces_fences before.contents plan.pieces
        ∙ ap (λ (c : Contents). c.fences) memory
        ∙ sym (laws.memory.pieces_fences (contents_of k) plan.pieces))

    full_is : full ≡ jumped_memory rows text
    full_is = memory_is full (jumped_memory rows text) pieces_full fences_full

    valid_after : IsValid text
    valid_after = subst IsValid text_now (built_sound after_it built_after).jumps.valid

    spliced_after : AreSpliced text (bodies_in (fold with_replaced k.table replaced))
    spliced_after =
        subst (λ (t : List Row). AreSpliced text (bodies_in t)) table_now
        (subst (λ (c : Contents). AreSpliced c (bodies_in after_it.table)) text_now
        (built_sound after_it built_after).jumps.spliced)

    spliced_full : AreSpliced full (jump_rows replaced)
    spliced_full =
        subst (λ (c : Contents). AreSpliced c (jump_rows replaced)) (sym full_is)
        (laws.spliced text (jump_rows replaced) rows
        (spliced_new text k.table replaced can.once spliced_after))

    valid_full : IsValid full
    valid_full = subst IsValid (sym full_is) (laws.valid text rows valid_after)

    patched_is : jumped_memory (jump_rows replaced) full ≡ patched after_it
    unfolding patched
    patched_is =
        ap (jumped_memory (jump_rows replaced)) full_is
        ∙ ap (with_text text) (sym (jumps_stacked laws.added laws.over text k.table replaced valid_after spliced_after))
        ∙ ap (λ (t : List Row). jumped_memory (bodies_in t) text) (sym table_now)
        ∙ ap (jumped_memory (bodies_in after_it.table)) (sym text_now)

    -- the code that was noted stands there still
    olds_full : olds_at before.contents.pieces (jump_rows replaced) ≡ olds_at full.pieces (jump_rows replaced)
    olds_full =
        same_olds before.contents.pieces full.pieces (jump_rows replaced)
        (All-map (λ (row : ℕ × ℕ). five_at before.contents.pieces row.0 ≡ five_at full.pieces row.0) jump_row replaced
        (λ i d l.
        sym (laws.bytes before.contents plan.pieces (get_or replaced i d).home 5 valid_before can_before.placeable
        (pieces_fit before.contents plan can_before) (code_there i d l))
        ∙ ap (λ (ps : List Piece). five_at ps (get_or replaced i d).home) (sym full_pieces)))

    module _ (after : Program) (jumps : List Jump) (one : Kept) (is : IsCarriedOut before after plan jumps)
        (has : IsKeptOf plan jumps one) where
      abbrev shown : Shown
      shown = shown_as name plan.report

      abbrev now : AbstractMachine
      now = machine_of after arena (updates ++ shown ∷ []) (kept ++ one ∷ [])

      memory_jumped : after.contents ≡ jumped_memory (jump_rows replaced) full
      memory_jumped =
          ap (λ (s : Seen). s.contents) is.seen_after
          ∙ ap (λ (rs : List (ℕ × ℕ)). jumped_memory rs full) is.rows

      memory_after : after.contents ≡ patched after_it
      memory_after = memory_jumped ∙ patched_is

      olds_are : olds_of one.jumps ≡ olds_at full.pieces (jump_rows replaced)
      olds_are = ap olds_of has.jumps_kept ∙ is.olds ∙ olds_full

      restored : unjumped (olds_of one.jumps) after.contents.pieces ≡ full.pieces
      restored =
          ap (λ (olds : List (ℕ × List ℕ)). unjumped olds after.contents.pieces) olds_are
          ∙ ap (λ (c : Contents). unjumped (olds_at full.pieces (jump_rows replaced)) c.pieces) memory_jumped
          ∙ laws.taken_back full (jump_rows replaced) valid_full spliced_full

      pieces_now : now.pieces ≡ after_it.pieces
      unfolding committed
      pieces_now =
          text_more kept one after.contents.pieces
          ∙ ap (text_of kept) (restored ∙ full_pieces)
          ∙ text_added laws.past_olds laws.stays before.contents plan.pieces kept valid_before can_before.placeable
          (pieces_fit before.contents plan can_before) holds.code
          ∙ pieces_made (with_text before.contents (text_of kept before.contents.pieces)) plan.pieces

      ranges_now : now.retired ≡ after_it.retired
      unfolding patched
      ranges_now =
          ap (λ (c : Contents). map fence_range c.fences) memory_after ∙ ranges_back after_it.table after_it.retired

      pub same_now : now ≡ after_it
      unfolding committed
      same_now =
          machine_is now after_it pieces_now (table_more updates shown) ranges_now
          (ap (λ (s : Seen). s.symbols) is.seen_after) (ap (λ (s : Seen). s.stacks) is.seen_after) refl refl
          (ap (λ (s : Seen). s.threads) is.seen_after)
          (live_more updates shown kept one holds.paired
          ∙ ap (λ (u : Update). live_updates updates kept ++ u ∷ []) (update_is name plan jumps one has))

      stands : seen after ≡ seen_of now
      stands =
          ap (λ (c : Contents). let s : Seen = record (seen after) { contents = c } in s)
          (memory_after ∙ ap patched (sym same_now))

      newest : newest_update after_it ≡ Some update
      unfolding committed
      newest = last_more k.updates update

      olds_kept : olds_of one.jumps
          ≡ olds_at (jumped (bodies_in (withdrawn after_it update).table) after_it.pieces) (jump_rows replaced)
      olds_kept =
          olds_are
          ∙ ap (λ (ps : List Piece). olds_at ps (jump_rows replaced))
          (pieces_full
          ∙ ap (λ (c : Contents). jumped rows c.pieces) (sym text_now)
          ∙ ap (λ (m : AbstractMachine). jumped (bodies_in m.table) after_it.pieces) (sym back))

      left : without_pieces update.pieces (fold with_new_piece k.pieces plan.pieces) ≡ k.pieces
      unfolding committed withdrawn
      left = ap (λ (m : AbstractMachine). m.pieces) back

      ranges_kept : IsPermutation one.ranges (ranges_in after_it update)
      unfolding committed
      ranges_kept =
          IsPermutation-trans one.ranges (map piece_range plan.pieces) (ranges_in after_it update)
          (IsPermutation-sym (map piece_range plan.pieces) one.ranges has.ranges)
          (added_ranges k.pieces plan.pieces left)

      code_ranges_kept : IsPermutation one.code_ranges (code_ranges_in after_it update)
      unfolding committed
      code_ranges_kept =
          IsPermutation-trans one.code_ranges (map piece_range (filter is_text plan.pieces))
          (code_ranges_in after_it update)
          (IsPermutation-sym (map piece_range (filter is_text plan.pieces)) one.code_ranges has.code_ranges)
          (added_code_ranges k.pieces plan.pieces left)

      kept_after : AreKept after_it (kept ++ one ∷ [])
      kept_after =
          OneKept after_it update kept (kept ++ one ∷ []) one newest refl
          (record {
            rows = ap rows_of has.jumps_kept ∙ is.rows;
            olds = olds_kept;
            ranges = ranges_kept;
            code_ranges = code_ranges_kept;
            order = has.order;
            code_order = has.code_order;
            count = has.count;
          })
          (subst (λ (m : AbstractMachine). AreKept m kept) (sym back) holds.are_kept)

      built_now : IsBuilt now
      built_now = subst IsBuilt (sym same_now) built_after

      kept_now : AreKept now (kept ++ one ∷ [])
      kept_now =
          subst (λ (m : AbstractMachine). AreKept m (kept ++ one ∷ [])) (sym same_now) kept_after

      code_now : HasOldCode (kept ++ one ∷ []) after.contents.pieces
      unfolding patched
      code_now =
          All-weaker (λ (o : Kept). All (HasJumpCode now.pieces) o.jumps)
          (λ (o : Kept). All (HasJumpCode after.contents.pieces) o.jumps)
          (λ o all. All-weaker (HasJumpCode now.pieces) (HasJumpCode after.contents.pieces)
          (λ jump there. subst (λ (s : Seen). HasCode s.contents.pieces jump.home (length jump.old)) (sym stands)
          (code_jumped laws.stays (bodies_in now.table) now.pieces jump.home (length jump.old) there))
          o.jumps all) (kept ++ one ∷ [])
          (kept_code laws.was_there now (kept ++ one ∷ []) built_now kept_now)

      pub holds_after : HoldsAfter before after arena updates kept name plan one
      holds_after = record {
        holds = record {
          stands = stands;
          opened = tt;
          built = built_now;
          are_kept = kept_now;
          code = code_now;
          paired =
              let was : length kept ≡ length updates = holds.paired in
              omega (arith, length-append kept (one ∷ []), length-append updates (shown ∷ []));
        };
        same = same_now;
      }

-- the jumps of a plan end at addresses of 32 bits
abbrev pub CodeEnds : Type 0
CodeEnds = (contents : Contents) (start count : ℕ) → IsValid contents → 0 < count
    → HasCode contents.pieces start count → start + count ≤ 0xFFFF_0000

pub homes_end : CodeEnds → (contents : Contents) (plan : Plan) → IsValid contents → CanBeMade contents plan
    → All EndsLow plan.report.replaced
homes_end ends contents plan valid can i d l =
    let low = ends contents (get_or plan.report.replaced i d).home 5 valid (omega arith) (can.jumps i d l).code in
    omega arith

-- what is seen of a program when a plan was carried out in it for which room was made
abbrev after_change : List Piece → List Symbol → List Fence → List Jump → Seen → Seen
after_change pieces symbols fences jumps s = record s {
  contents = jumped_memory (rows_of jumps) (with_fences (with_pieces s.contents pieces) fences);
  symbols = s.symbols ++ symbols;
}

-- and so by what is left of the plan when its needs were moved out of it
pub seen_carried : (before reserved after : Program) (plan left : Plan) (fences : List Fence)
    (jumps jumps_given : List Jump) → seen reserved ≡ seen before → left ≡ record plan { needs = left.needs }
    → fences ≡ left.fences → jumps_given ≡ jumps
    → seen after ≡ after_change left.pieces left.symbols fences jumps_given (seen reserved)
    → seen after ≡ after_change plan.pieces plan.symbols plan.fences jumps (seen before)
seen_carried before reserved after plan left fences jumps jumps_given same rest are_fences are_jumps changed =
    changed
    ∙ ap (after_change left.pieces left.symbols fences jumps_given) same
    ∙ ap (λ (fs : List Fence). after_change left.pieces left.symbols fs jumps_given (seen before)) are_fences
    ∙ ap (λ (js : List Jump). after_change left.pieces left.symbols left.fences js (seen before)) are_jumps
    ∙ ap (λ (p : Plan). after_change p.pieces p.symbols p.fences jumps (seen before)) rest
