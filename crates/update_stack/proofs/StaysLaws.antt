-- New code stays reached while events leave its home and it alone.
use Rattle.std.proofs.Common.{◌≡◌, ◌≢◌, ℕ, ◌<◌, ◌==◌, Bool, true, false, not, List, [], ◌∷◌, ◌++◌, map, length, get_or}
use Rattle.std.proofs.Common.{Option, Some, None, Result, Ok, IfSome, refl, sym, ◌∙◌, ap, subst, arith, ◌⊎◌, inl, inr}
use Rattle.std.specs.List.{All, Any, Contains, filter, fold, last_or, list_any}
use Rattle.std.proofs.lemmas.Bool.{eq-eqb, eqb-true, eqb-false, false_from_ne_true, false≢true, or_from, or_left}
use Rattle.std.proofs.lemmas.Bool.{or_parts}
use Rattle.std.proofs.lemmas.List.{append_assoc}
use Rattle.std.proofs.lemmas.List.Elements.{All-nil, All-cons, All-contains, All-filter, All-push}
use Rattle.std.proofs.lemmas.List.Elements.{Contains-append_cases}
use Rattle.std.proofs.lemmas.List.Folds.{Any-from_list_any, list_any_at, list_any_none}
use Rattle.ks_base.specs.declared.places.Range.{Range}
use Rattle.ks_base.specs.declared.refusals.Refusal.{Refusal}
use Rattle.ks_base.specs.declared.refusals.Refusal.TheVariants.{NothingApplied, NoUpdate}
use Rattle.ks_base.specs.declared.reports.Replaced.{Replaced}
use Rattle.ks_base.specs.declared.reports.Report.{Report}
use Rattle.ks_base.specs.declared.reports.HookReport.{HookReport}
use Rattle.image_memory.specs.declared.types.Piece.{Piece}
use Rattle.image_memory.specs.declared.types.Fence.{Fence}
use Rattle.image_memory.specs.Ranges.{lies_in, is_one_of}
use Rattle.image_memory.specs.Contents.{piece_range, fence_range}
use Rattle.image_memory.specs.Access.{first_fault, write_fault, overlaid_piece, written}
use Rattle.image_memory.specs.Changes.{HasPiece, with_piece}
use Rattle.image_memory.specs.Fetch.{is_code}
use Rattle.image_memory.specs.laws.RangeLaws.{within}
use Rattle.image_memory.specs.laws.PutLaws.{Contains-put}
use Rattle.image_threads.specs.Program.{IsStackRange}
use Rattle.ia32_step.specs.declared.types.Thread.{Thread}
use Rattle.splice_jump.specs.Jumps.{IsFenced}
use Rattle.symbol_table.specs.Bodies.{newest}
use Rattle.update_memory.specs.Retired.{with_ranges}
use Rattle.update_memory.specs.Withdrawn.{is_based_at}
use Rattle.update_plan.specs.declared.types.Plan.{Plan}
use Rattle.update_plan.specs.NewCode.{linked_code}
use Rattle.update_plan.specs.Sound.{IsJumpTo, is_replaced_at, AllReplaceNewest, CanBeMade}
use Rattle.update_stack.specs.AbstractMachine.{AbstractMachine, Update, is_home, bodies_in, contents_of, is_text}
use Rattle.update_stack.specs.AbstractMachine.{first_machine}
use Rattle.update_stack.specs.Apply.{running_of, gaps_of, planned_in, with_new_piece, update_as, committed, applied}
use Rattle.update_stack.specs.Apply.{has_name}
use Rattle.update_stack.specs.Hooks.{hooked}
use Rattle.update_stack.specs.Undo.{withdrawn, named, newest_update, undone, undone_named}
use Rattle.update_stack.specs.Events.{Event, Spawn, Step, Apply, Hooks, Undo, UndoNamed, Happened, Applied, Undone}
use Rattle.update_stack.specs.Events.{happened, answered, apply_answered, hooks_answered, machine_after, after_event, after_events}
use Rattle.update_stack.specs.Stacked.{IsSound, IsBuilt}
use Rattle.update_stack.specs.Uncovered.{IsUncovered}
use Rattle.update_stack.specs.Reached.{LeadsTo}
use Rattle.update_stack.specs.Stays.{IsNewest, LeavesAloneBy, LeavesAlone, LeaveAlone, StayReached, NewCodeStaysReached}
use Rattle.update_stack.specs.Stays.{HookedCodeStaysReached}
use Rattle.update_stack.specs.laws.StackedLaws.{built_sound, last_more}
use Rattle.update_stack.specs.laws.TableLaws.{homes_after}
use Rattle.update_stack.specs.laws.ViewLaws.{ranges_back}
use Rattle.update_stack.proofs.TableLaws.{newest_after}
use Rattle.update_stack.proofs.BuiltLaws.{contains_mapped, wrote}
use Rattle.update_stack.proofs.LastingLaws.{clear_keeps}
use Rattle.update_stack.proofs.PlaceLaws.{name_is_new}
use Rattle.update_stack.proofs.PastLaws.{home_kept, newest_kept, withdrawn_among}
use Rattle.update_stack.proofs.PlanLaws.{GapsAscend, planned_replaces}
use Rattle.update_stack.proofs.SiftLaws.{passes_kept, listed_kept, one_or_behind, all_without}
use Rattle.update_stack.proofs.StillKeptLaws.{live_homes}
use Rattle.update_stack.proofs.ThereLaws.{IsLive, live_named, live_there, built_names, listed_among}
use Rattle.update_stack.proofs.MovingLaws.{moved_leaves, spawned_leaves}
use Rattle.update_stack.proofs.TakenLaws.{undone_leaves, newest_live, named_live}
use Rattle.update_stack.proofs.ReachedLaws.{CodeIsBrought, IsAt, accepted, all_false, all_ranges, at_by, at_commit}
use Rattle.update_stack.proofs.ReachedLaws.{brought, code_in_others, leads_by, other_homes}
use Rattle.update_stack.proofs.MomentLaws.{EventLaws, IsMoment, StartsWell, can_be_made, applied_leaves}
use Rattle.update_stack.proofs.MomentLaws.{hooks_leave, data_leave, committed_moment, event_leaves, moments}

-- a home and the code that it leads to, which a live update brought
pub record Stays (k : AbstractMachine) (home : ℕ) (piece : Piece) : Type 0 where
  pub live : IsNewest k home piece.base
  pub here : IsAt k home piece

-- ---- lists
none_lies : (a : ℕ) (ranges : List Range) (range : Range) → list_any (lies_in a) ranges ≡ false → Contains ranges range
    → lies_in a range ≡ false
none_lies a ranges range none there =
    All-contains (λ (r : Range). lies_in a r ≡ false) ranges range (all_false (lies_in a) ranges none) there

none_kept : {X : Type 0} (p q : X → Bool) (xs : List X) → list_any p xs ≡ false → list_any p (filter q xs) ≡ false
none_kept p q xs none =
    list_any_none p (filter q xs) (All-filter q (λ x. p x ≡ false) xs (all_false p xs none))

contains_more : (pieces more : List Piece) (piece : Piece) → Contains pieces piece
    → Contains (fold with_new_piece pieces more) piece
contains_more pieces [] piece there = there
contains_more pieces (one ∷ more) piece there =
    contains_more (with_piece one pieces) more piece (Contains-put piece_range one piece pieces there)

-- where no function is replaced that has a home, each has another
homes_differ : (replaced : List Replaced) (home : ℕ) → is_replaced_at replaced home ≡ false
    → All (λ (one : Replaced). one.home ≢ home) replaced
homes_differ [] home none = All-nil (λ (one : Replaced). one.home ≢ home)
homes_differ (one ∷ more) home none =
    let parts = or_parts (one.home == home) (is_replaced_at more home) none in
    All-cons (λ (other : Replaced). other.home ≢ home) one more (eqb-false one.home home parts.0)
    (homes_differ more home parts.1)

-- ---- what a write leaves
live_same : (k m : AbstractMachine) (home base : ℕ) → m.updates ≡ k.updates → IsNewest k home base
    → IsNewest m home base
live_same k m home base same live = record {
  earlier = live.earlier;
  update = live.update;
  later = live.later;
  parts = same ∙ live.parts;
  replaced = live.replaced;
  brought = live.brought;
  last = live.last;
}

-- a scratch piece has no say
stays_bare : (k : AbstractMachine) (scratch : Option Range) (home : ℕ) (piece : Piece) → Stays k home piece
    → Stays (record k { scratch = scratch }) home piece
stays_bare k scratch home piece stays = record {
  live = live_same k (record k { scratch = scratch }) home piece.base refl stays.live;
  here = record {
    has_row = stays.here.has_row;
    newest = stays.here.newest;
    inner = stays.here.inner;
    in_use = stays.here.in_use;
    stands = stays.here.stands;
    code = stays.here.code;
  };
}

stays_wrote : (k : AbstractMachine) (start : ℕ) (bytes : List ℕ) (threads : List Thread) (home : ℕ) (piece : Piece)
    → IsSound k → first_fault (write_fault k.pieces) start (length bytes) ≡ None → Stays k home piece
    → Stays (wrote start bytes threads k) home piece
stays_wrote k start bytes threads home piece sound clear stays =
    let keeps = clear_keeps (contents_of k) start bytes sound.jumps.valid clear in
    let same : overlaid_piece start bytes piece ≡ piece =
    All-contains (λ (p : Piece). is_text p ≡ true → overlaid_piece start bytes p ≡ p) k.pieces piece keeps
    stays.here.stands (ap is_code stays.here.code) in
    record {
      live = live_same k (wrote start bytes threads k) home piece.base refl stays.live;
      here = record {
        has_row = stays.here.has_row;
        newest = stays.here.newest;
        inner = stays.here.inner;
        in_use = stays.here.in_use;
        stands =
            subst (Contains (written start bytes k.pieces)) same
            (contains_mapped (overlaid_piece start bytes) k.pieces piece stays.here.stands);
        code = stays.here.code;
      };
    }

-- ---- what an update leaves
module _ (k : AbstractMachine) (name : List ℕ) (plan : Plan) (can : CanBeMade (contents_of k) plan) (home : ℕ)
    (piece : Piece) (stays : Stays k home piece) (other : is_replaced_at plan.report.replaced home ≡ false)
    (clear : list_any (lies_in piece.base) (map fence_range plan.fences) ≡ false) where
  abbrev replaced : List Replaced
  replaced = plan.report.replaced

  abbrev live : IsNewest k home piece.base
  live = stays.live

  abbrev here : IsAt k home piece
  here = stays.here

  live_after : IsNewest (committed k name plan) home piece.base
  unfolding committed
  live_after = record {
    earlier = live.earlier;
    update = live.update;
    later = live.later ++ update_as name plan ∷ [];
    parts =
        ap (λ (updates : List Update). updates ++ update_as name plan ∷ []) live.parts
        ∙ append_assoc live.earlier (live.update ∷ live.later) (update_as name plan ∷ []);
    replaced = live.replaced;
    brought = live.brought;
    last =
        All-push (λ (one : Update). is_replaced_at one.report.replaced home ≡ false) live.later (update_as name plan)
        live.last other;
  }

  -- no range that is retired then has the base, so it is no home
  clear_of : (fence : Fence) → Contains plan.fences fence ⊎ Contains (contents_of k).fences fence
      → lies_in piece.base fence.range ≡ false
  clear_of fence (inl new) =
      none_lies piece.base (map fence_range plan.fences) fence.range clear
      (contains_mapped fence_range plan.fences fence new)
  clear_of fence (inr old) =
      none_lies piece.base k.retired fence.range here.in_use
      (subst (λ (ranges : List Range). Contains ranges fence.range) (ranges_back k.table k.retired)
      (contains_mapped fence_range (contents_of k).fences fence old))

  no_new_home : is_replaced_at replaced piece.base ≡ false
  no_new_home =
      false_from_ne_true (is_replaced_at replaced piece.base)
      (λ is. read (Any-from_list_any (λ (one : Replaced). one.home == piece.base) replaced is))
    where
      at_fence : (one : Replaced) → one.home ≡ piece.base
          → Any (IsFenced one.home) (plan.fences ++ (contents_of k).fences) → ⊥
      at_fence one same (m, fence, less, at, fenced) =
          let outside = clear_of fence (Contains-append_cases plan.fences (contents_of k).fences fence (m, less, at)) in
          let low = fenced.low in
          let long = fenced.long in
          let lies : lies_in piece.base fence.range ≡ true =
          within piece.base fence.range (omega (arith, low, same)) (omega (arith, low, long, same)) in
          false≢true (sym outside ∙ lies)

      read : Any (λ (one : Replaced). (one.home == piece.base) ≡ true) replaced → ⊥
      read (j, one, less, at, is) =
          at_fence one (eqb-true one.home piece.base is)
          (All-contains (IsJumpTo (contents_of k) plan.fences) replaced one can.jumps (j, less, at)).fence

  here_after : IsAt (committed k name plan) home piece
  unfolding committed
  here_after =
      let ranges = map fence_range plan.fences in
      let Misses : Range → Type 0 = λ range. lies_in piece.base range ≡ false in
      record {
        has_row =
            homes_after k.table replaced home
            ∙ or_left (is_home k.table home) (is_replaced_at replaced home) here.has_row;
        newest =
            newest_after k.table replaced home
            ∙ other_homes home (newest (bodies_in k.table) home) replaced (homes_differ replaced home other)
            ∙ here.newest;
        inner =
            homes_after k.table replaced piece.base
            ∙ or_from (is_home k.table piece.base) (is_replaced_at replaced piece.base) here.inner no_new_home;
        in_use =
            list_any_none (lies_in piece.base) (with_ranges k.retired ranges)
            (all_ranges Misses k.retired ranges (all_false (lies_in piece.base) k.retired here.in_use)
            (all_false (lies_in piece.base) ranges clear));
        stands = contains_more k.pieces plan.pieces piece here.stands;
        code = here.code;
      }

  -- so both stay where an update is made
  pub stays_committed : Stays (committed k name plan) home piece
  stays_committed = record { live = live_after; here = here_after }

-- ---- what is left where an update is taken back
module _ (k : AbstractMachine) (update : Update) (is : IsUncovered k update) (left : IsBuilt (withdrawn k update))
    (home : ℕ) (piece : Piece) (stays : Stays k home piece)
    (other : is_replaced_at update.report.replaced home ≡ false) where
  abbrev gone : List Replaced
  gone = update.report.replaced

  abbrev had : IsNewest k home piece.base
  had = stays.live

  place : IsLive k.updates update
  place = live_named k update is.live

  updates_left : (withdrawn k update).updates ≡ place.earlier ++ place.later
  updates_left =
      ap (λ (m : AbstractMachine). m.updates) (withdrawn_among k update place.earlier place.later place.among)

  -- another update brought the code
  not_itself : had.update ≡ update → ⊥
  not_itself same =
      false≢true (sym other ∙ sym (ap (λ (u : Update). is_replaced_at u.report.replaced home) same) ∙ had.replaced)

  -- which is live still, behind it or before it
  live_before : IsNewest (withdrawn k update) home piece.base
  live_before =
      let P : Update → Type 0 = λ one. is_replaced_at one.report.replaced home ≡ false in
      elim (one_or_behind had.earlier had.update had.later place.earlier update place.later
      (sym had.parts ∙ place.among.parts)) [
        | inl same ↦ absurd (not_itself same)
        | inr (inl b) ↦
            record {
              earlier = place.earlier ++ b.between;
              update = had.update;
              later = had.later;
              parts =
                  updates_left ∙ ap (λ (us : List Update). place.earlier ++ us) b.after_parts
                  ∙ sym (append_assoc place.earlier b.between (had.update ∷ had.later));
              replaced = had.replaced;
              brought = had.brought;
              last = had.last;
            }
        | inr (inr b) ↦
            record {
              earlier = had.earlier;
              update = had.update;
              later = b.between ++ place.later;
              parts =
                  updates_left ∙ ap (λ (us : List Update). us ++ place.later) b.front_parts
                  ∙ append_assoc had.earlier (had.update ∷ b.between) place.later;
              replaced = had.replaced;
              brought = had.brought;
              last = all_without P b.between update place.later (subst (All P) b.after_parts had.last);
            }
      ]

  -- and it stays, since its update's pieces are there without the other
  stands_before : Contains (withdrawn k update).pieces piece
  unfolding withdrawn
  stands_before =
      let keeps : Piece → Bool = λ p. not (is_based_at update.pieces p) in
      let among = listed_among (withdrawn k update).updates live_before.update live_before.earlier live_before.later
      (built_names (withdrawn k update) left) live_before.parts in
      let there = live_there (withdrawn k update) left live_before.update
      (record { earlier = live_before.earlier; later = live_before.later; among = among }) in
      let (j, p, less, at, begins) = All-contains (HasPiece (contents_of (withdrawn k update)))
      live_before.update.pieces piece.base there.pieces live_before.brought in
      let kept : not (is_based_at update.pieces p) ≡ true = passes_kept keeps k.pieces p (j, less, at) in
      listed_kept keeps k.pieces piece stays.here.stands
      (ap (λ (b : ℕ). not (list_any (λ (base : ℕ). base == b) update.pieces)) (sym begins) ∙ kept)

  -- each of its homes has a row, so none of them is where the code begins
  none_begins : All (λ (one : Replaced). one.home ≢ piece.base) gone
  none_begins i d l same =
      false≢true (sym stays.here.inner ∙ ap (is_home k.table) (sym same) ∙ live_homes k is.built update place i d l)

  in_use_before : list_any (lies_in piece.base) (withdrawn k update).retired ≡ false
  unfolding withdrawn
  in_use_before =
      none_kept (lies_in piece.base) (λ (range : Range). not (is_one_of update.retired range)) k.retired
      stays.here.in_use

  here_before : IsAt (withdrawn k update) home piece
  unfolding withdrawn
  here_before = record {
    has_row = home_kept k.table gone home (homes_differ gone home other) ∙ stays.here.has_row;
    newest = newest_kept k.table gone home (homes_differ gone home other) ∙ stays.here.newest;
    inner = home_kept k.table gone piece.base none_begins ∙ stays.here.inner;
    in_use = in_use_before;
    stands = stands_before;
    code = stays.here.code;
  }

  -- so both stay where another update is taken back
  pub stays_withdrawn : Stays (withdrawn k update) home piece
  stays_withdrawn = record { live = live_before; here = here_before }

-- ---- what each event leaves
-- what an update that was made retires is what its plan does
retires_none : (k now : AbstractMachine) (name : List ℕ) (plan : Plan) (base : ℕ) → committed k name plan ≡ now
    → IfSome (newest_update now) (λ (update : Update). list_any (lies_in base) update.retired ≡ false)
    → list_any (lies_in base) (map fence_range plan.fences) ≡ false
unfolding committed
retires_none k now name plan base is none =
    let Misses : Update → Type 0 = λ update. list_any (lies_in base) update.retired ≡ false in
    let newest_is : newest_update now ≡ Some (update_as name plan) =
    ap newest_update (sym is) ∙ last_more None k.updates (update_as name plan) in
    subst (λ (o : Option Update). IfSome o Misses) newest_is none

module _ (laws : EventLaws) (k : AbstractMachine) (moment : IsMoment k) (home : ℕ) (piece : Piece)
    (stays : Stays k home piece) where
  -- what an event leaves that leaves them alone
  abbrev After : Result Happened Refusal → Type 0
  After result = LeavesAlone k result home piece.base → Stays (machine_after k result) home piece

  sound : IsSound k
  sound = built_sound k moment.built

  writes : (start : ℕ) (bytes : List ℕ) (threads : List Thread)
      → first_fault (write_fault k.pieces) start (length bytes) ≡ None
      → Stays (wrote start bytes threads k) home piece
  writes start bytes threads clear = stays_wrote k start bytes threads home piece sound clear stays

  made_stays : (name : List ℕ) (plan : Plan) → CanBeMade (contents_of k) plan
      → list_any (has_name name) k.updates ≡ false → AllReplaceNewest (bodies_in k.table) plan
      → After (Ok (happened (committed k name plan) (Applied plan.report)))
  made_stays name plan can new replace alone =
      stays_committed k name plan can home piece stays alone.0
      (retires_none k (committed k name plan) name plan piece.base refl alone.1)

  taken_stays : (update : Update) → IsUncovered k update
      → After (Ok (happened (withdrawn k update) (Undone update.name)))
  taken_stays update is alone =
      let Other : Update → Type 0 = λ u. is_replaced_at u.report.replaced home ≡ false in
      stays_withdrawn k update is (laws.goes k update is) home piece stays
      (subst (λ (o : Option Update). IfSome o Other) is.live alone)

  -- an update does
  update_stays : (name pre post : List ℕ) → After (apply_answered (applied k name pre post))
  update_stays name pre post =
      applied_leaves laws.plans laws.free k moment.built After (λ refusal alone. stays) made_stays name pre post

  -- and each event
  pub event_stays : (event : Event) → After (answered k event)
  unfolding answered undone undone_named
  event_stays (Spawn name argument) =
      spawned_leaves k sound moment.stacks (λ (m : AbstractMachine). Stays m home piece) writes After
      (λ refusal alone. stays) (λ number m is alone. is) (λ outcome m is alone. is) name argument (length k.threads)
  event_stays (Step n) =
      moved_leaves k sound moment.stacks (λ (m : AbstractMachine). Stays m home piece) writes After
      (λ refusal alone. stays) (λ number m is alone. is) (λ outcome m is alone. is) n
  event_stays (Apply name pre post) = update_stays name pre post
  event_stays (Hooks name pre post) =
      let Misses : List Update → Type 0 = λ us. IfSome (last_or None us)
      (λ (update : Update). list_any (lies_in piece.base) update.retired ≡ false) in
      hooks_leave laws k moment.built (λ (m : AbstractMachine). Stays m home piece)
      (λ m scratch is. stays_bare m scratch home piece is)
      (λ m start bytes built is clear.
      stays_wrote m start bytes m.threads home piece (built_sound m built) clear is)
      After (λ refusal alone. stays) name pre post
      (λ made now done is updates built move alone.
      move (subst After (ap apply_answered is) (update_stays name pre post)
      (alone.0, subst Misses (sym updates) alone.1)))
  event_stays Undo =
      undone_leaves k moment.built (newest_update k) (newest_live k moment.built) After (λ refusal alone. stays)
      (λ update takes is. taken_stays update is) NothingApplied
  event_stays (UndoNamed name) =
      undone_leaves k moment.built (named k name) (named_live k moment.built name) After (λ refusal alone. stays)
      (λ update takes is. taken_stays update is) (NoUpdate name)

-- and each list of events
events_stay : EventLaws → (k : AbstractMachine) (events : List Event) → IsMoment k → (home : ℕ) (piece : Piece)
    → Stays k home piece → LeaveAlone k events home piece.base
    → Stays (after_events k events) home piece × IsSound (after_events k events)
unfolding after_events after_event
events_stay laws k [] moment home piece stays alone = (stays, built_sound k moment.built)
events_stay laws k (event ∷ events) moment home piece stays alone =
    events_stay laws (machine_after k (answered k event)) events (event_leaves laws k moment event) home piece
    (event_stays laws k moment home piece stays event alone.0) alone.1

-- ---- one event, on a machine whose updates lie each on what was there without it
pub one_event : EventLaws → (k : AbstractMachine) (event : Event) (now : Happened) (home : ℕ) (piece : Piece)
    → IsBuilt k → All IsStackRange k.stacks → IsNewest k home piece.base → LeadsTo k home piece
    → answered k event ≡ Ok now → LeavesAloneBy k now now.answer home piece.base
    → IsNewest now.machine home piece.base × LeadsTo now.machine home piece
one_event laws k event now home piece built bounds live leads is alone =
    let moment : IsMoment k = record { built = built; stacks = bounds } in
    let stays : Stays k home piece = record { live = live; here = at_by k home piece leads } in
    let built_now : IsBuilt now.machine =
    subst (λ (r : Result Happened Refusal). IsBuilt (machine_after k r)) is (event_leaves laws k moment event).built in
    let stays_now : Stays now.machine home piece =
    subst (λ (r : Result Happened Refusal). LeavesAlone k r home piece.base → Stays (machine_after k r) home piece) is
    (event_stays laws k moment home piece stays event) alone in
    (stays_now.live, leads_by now.machine home piece (built_sound now.machine built_now) stays_now.here)

-- ---- from an update that is accepted
live_at_first : (k : AbstractMachine) (name : List ℕ) (plan : Plan) (i : ℕ) (d : Replaced)
    → i < length plan.report.replaced → (piece : Piece) → Contains plan.pieces piece
    → IsNewest (committed k name plan) (get_or plan.report.replaced i d).home piece.base
unfolding committed
live_at_first k name plan i d less piece new =
    let home = (get_or plan.report.replaced i d).home in
    record {
      earlier = k.updates;
      update = update_as name plan;
      later = [];
      parts = refl;
      replaced =
          list_any_at (λ (one : Replaced). one.home == home) plan.report.replaced i d less (eq-eqb home home refl);
      brought = contains_mapped (λ (p : Piece). p.base) plan.pieces piece new;
      last = All-nil (λ (one : Update). is_replaced_at one.report.replaced home ≡ false);
    }

stay_by : EventLaws → CodeIsBrought → GapsAscend → (k : AbstractMachine) → IsMoment k
    → (name pre_file post_file : List ℕ) (plan : Plan) → CanBeMade (contents_of k) plan
    → planned_in k name pre_file post_file ≡ Ok plan → (now : AbstractMachine) → IsMoment now
    → ((home : ℕ) (piece : Piece) → Stays (committed k name plan) home piece → Stays now home piece)
    → StayReached k pre_file post_file now plan.report
stay_by laws codes ascend k moment name pre_file post_file plan can is now after_moment moves =
    let brings = brought codes ascend k name pre_file post_file plan is in
    let steps = brings.steps in
    record {
      steps = brings.steps;
      each = λ i d less events alone.
          let one = get_or plan.report.replaced i d in
          let text = brings.each i d less in
          let piece = linked_code steps.post steps.placement steps.values text.new.name one.base in
          let stays : Stays (committed k name plan) one.home piece = record {
            live = live_at_first k name plan i d less piece text.stands;
            here = at_commit laws.memory k name plan moment.built can piece text.stands i d less refl refl;
          } in
          let later = events_stay laws now events after_moment one.home piece (moves one.home piece stays) alone in
          let after = after_events now events in
          record {
            code =
                code_in_others (running_of k) (gaps_of k) pre_file post_file brings.steps plan.pieces after.pieces
                one text later.0.here.stands;
            leads = leads_by after one.home piece later.1 later.0.here;
          };
    }

stay_reached : EventLaws → CodeIsBrought → GapsAscend → (k now : AbstractMachine) → IsMoment k
    → (name pre_file post_file : List ℕ) (report : Report) → applied k name pre_file post_file ≡ Ok (now, report)
    → StayReached k pre_file post_file now report
stay_reached laws codes ascend k now moment name pre_file post_file report is =
    let it = accepted k name pre_file post_file now report is in
    let can = can_be_made laws.plans laws.free k moment.built name pre_file post_file it.plan it.plan_is in
    let replace = planned_replaces laws.plans.replace k name pre_file post_file it.plan moment.built it.plan_is in
    subst (λ (m : AbstractMachine). StayReached k pre_file post_file m report) it.now_is
    (subst (StayReached k pre_file post_file (committed k name it.plan)) it.report_is
    (stay_by laws codes ascend k moment name pre_file post_file it.plan can it.plan_is (committed k name it.plan)
    (committed_moment laws k moment name it.plan can (name_is_new k name pre_file post_file it.plan it.plan_is) replace)
    (λ home piece stays. stays)))

hooked_reached : EventLaws → CodeIsBrought → GapsAscend → (k now : AbstractMachine) → IsMoment k
    → (name pre_file post_file : List ℕ) (done : HookReport) → hooked k name pre_file post_file ≡ Ok (now, done)
    → StayReached k pre_file post_file now done.report
unfolding answered
hooked_reached laws codes ascend k now moment name pre_file post_file done is =
    let ran = laws.hooked k now name pre_file post_file done moment.built is in
    let it = accepted k name pre_file post_file ran.made done.report ran.is_applied in
    let can = can_be_made laws.plans laws.free k moment.built name pre_file post_file it.plan it.plan_is in
    let bare : AbstractMachine = record ran.made { scratch = now.scratch } in
    subst (StayReached k pre_file post_file now) it.report_is
    (stay_by laws codes ascend k moment name pre_file post_file it.plan can it.plan_is now
    (subst (λ (r : Result Happened Refusal). IsMoment (machine_after k r)) (ap hooks_answered is)
    (event_leaves laws k moment (Hooks name pre_file post_file)))
    (λ home piece stays.
    data_leave laws k moment.built (λ (m : AbstractMachine). Stays m home piece)
    (λ m scratch was. stays_bare m scratch home piece was)
    (λ m start bytes built was clear.
    stays_wrote m start bytes m.threads home piece (built_sound m built) clear was)
    bare now ran.built ran.differs
    (stays_bare ran.made now.scratch home piece
    (subst (λ (m : AbstractMachine). Stays m home piece) it.now_is stays))))

-- so what is replaced goes on being reached, in every list of events
pub all_stay : EventLaws → CodeIsBrought → GapsAscend → StartsWell → NewCodeStaysReached
all_stay laws codes ascend starts file image events name pre_file post_file now report read is =
    stay_reached laws codes ascend (after_events (first_machine image) events) now
    (moments laws (first_machine image) events (starts file image read)) name pre_file post_file report is

pub all_hooked_stay : EventLaws → CodeIsBrought → GapsAscend → StartsWell → HookedCodeStaysReached
all_hooked_stay laws codes ascend starts file image events name pre_file post_file now done read is =
    hooked_reached laws codes ascend (after_events (first_machine image) events) now
    (moments laws (first_machine image) events (starts file image read)) name pre_file post_file done is
