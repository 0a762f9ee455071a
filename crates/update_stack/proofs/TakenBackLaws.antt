-- What taking an update back restores, after any list of events from the start of an image.
use Rattle.std.proofs.Common.{◌≡◌, ℕ, List, [], ◌∷◌, ◌++◌, length, Option, Result, Ok, refl, sym, ◌∙◌, ap, subst, IsSomeAnd}
use Rattle.std.proofs.Common.{Some, None, false, slice_get}
use Rattle.std.specs.List.{All, last_or, list_any}
use Rattle.ks_base.specs.declared.refusals.Refusal.{Refusal}
use Rattle.ks_base.specs.declared.refusals.Refusal.TheVariants.{NothingApplied, NoUpdate}
use Rattle.image_file.specs.Reading.{Contents as Image}
use Rattle.image_memory.specs.Access.{first_fault, write_fault}
use Rattle.ia32_step.specs.declared.types.Thread.{Thread}
use Rattle.splice_jump.specs.Jumps.{jumped, jumped_memory, olds_at, unjumped, AreSpliced}
use Rattle.update_memory.specs.Withdrawn.{without_pieces}
use Rattle.update_plan.specs.declared.types.Plan.{Plan}
use Rattle.update_plan.specs.Sound.{AllReplaceNewest, CanBeMade}
use Rattle.update_stack.specs.AbstractMachine.{AbstractMachine, Update, bodies_in, contents_of, jump_rows}
use Rattle.update_stack.specs.AbstractMachine.{first_machine}
use Rattle.update_stack.specs.StandsFor.{patched}
use Rattle.update_stack.specs.Apply.{applied, committed, has_name}
use Rattle.update_stack.specs.Undo.{withdrawn, named, newest_update, undone, undone_named, place_of}
use Rattle.update_stack.specs.Events.{Event, Spawn, Step, Apply, Hooks, Undo, UndoNamed, Happened, Applied, happened}
use Rattle.update_stack.specs.Events.{answered, apply_answered, machine_after, after_event, after_events}
use Rattle.update_stack.specs.TakenBack.{Before, before_update, befores_by, befores_along, TakesBack, RestoresAll, TakenBackIsRestored}
use Rattle.update_stack.specs.TakenBack.{restored_from, HomesAreRestored, lasting}
use Rattle.update_stack.specs.Stacked.{IsSound}
use Rattle.update_stack.specs.Uncovered.{IsUncovered, HasOtherHomes}
use Rattle.update_stack.specs.laws.StackedLaws.{built_sound, last_more}
use Rattle.update_stack.proofs.BuiltLaws.{wrote}
use Rattle.update_stack.proofs.KeptLaws.{withdrawn_pieces}
use Rattle.update_stack.proofs.TableLaws.{JumpsAdded, JumpsReplaced}
use Rattle.update_stack.proofs.MovingLaws.{moved_leaves, spawned_leaves}
use Rattle.update_stack.proofs.PastLaws.{later_among}
use Rattle.update_stack.proofs.ThereLaws.{IsLive, live_named}
use Rattle.update_stack.proofs.UncoveredLaws.{later_clear, uncovered_alone}
use Rattle.update_stack.proofs.LeftLaws.{LeftLaws}
use Rattle.update_stack.proofs.StillKeptLaws.{BytesStay}
use Rattle.update_stack.proofs.StandingLaws.{Stands, spliced_own, jumps_over}
use Rattle.update_stack.proofs.UndoLaws.{ValidJumped, StaySpliced, TakenBack, DropsPastJumps, stands_from}
use Rattle.update_stack.proofs.TakenLaws.{undone_leaves, newest_live, named_live, IsTaken, event_takes}
use Rattle.update_stack.proofs.MomentLaws.{EventLaws, IsMoment, StartsWell, applied_leaves, hooks_leave, event_leaves}
use Rattle.update_stack.proofs.MomentLaws.{moments}
use Rattle.update_stack.proofs.BeforeLaws.{WereBefore, NoneBefore, IsNoted, before_bare, before_newest, before_wrote}
use Rattle.update_stack.proofs.BeforeLaws.{before_made, noted_before}

-- the laws of jumps that are used here
pub record JumpLaws : Type 0 where
  pub added : JumpsAdded
  pub over : JumpsReplaced
  pub valid : ValidJumped
  pub spliced : StaySpliced
  pub taken_back : TakenBack
  pub dropped : DropsPastJumps

-- and those of events, of what is left of a memory, and of jumps
pub record BackLaws : Type 0 where
  pub event : EventLaws
  pub left : LeftLaws
  pub stay : BytesStay
  pub jumps : JumpLaws

-- What an event leaves of what was before each live update.
module _ (laws : BackLaws) (befores : List Before) (k : AbstractMachine) (moment : IsMoment k)
    (were : WereBefore befores k) where
  abbrev Leaves : Result Happened Refusal → Type 0
  Leaves result = WereBefore (befores_by befores k result) (machine_after k result)

  sound : IsSound k
  sound = built_sound k moment.built

  writes : (start : ℕ) (bytes : List ℕ) (threads : List Thread)
      → first_fault (write_fault k.pieces) start (length bytes) ≡ None
      → WereBefore befores (wrote start bytes threads k)
  writes start bytes threads clear =
      before_wrote laws.left.code befores k start bytes threads clear moment.built were

  made : (name : List ℕ) (plan : Plan) → CanBeMade (contents_of k) plan → list_any (has_name name) k.updates ≡ false
      → AllReplaceNewest (bodies_in k.table) plan
      → Leaves (Ok (happened (committed k name plan) (Applied plan.report)))
  made name plan can new replace =
      before_made laws.event.memory laws.stay k name plan moment.built can new replace befores were

  noted : (update : Update) → IsUncovered k update → IsNoted befores k update
  noted update is =
      let live = live_named k update is.live in
      noted_before laws.left laws.stay befores k were moment.built update live.earlier live.later live.among
      (later_clear k update live.earlier live.later live.among is.uncovered)

  update_leaves : (name pre post : List ℕ) → Leaves (apply_answered (applied k name pre post))
  update_leaves name pre post =
      applied_leaves laws.event.plans laws.event.free k moment.built Leaves (λ refusal. were) made name pre post

  before_event : (event : Event)
      → WereBefore (befores_by befores k (answered k event)) (machine_after k (answered k event))
  unfolding answered undone undone_named
  before_event (Spawn name argument) =
      spawned_leaves k sound moment.stacks (WereBefore befores) writes Leaves (λ refusal. were) (λ number m is. is)
      (λ outcome m is. is) name argument (length k.threads)
  before_event (Step n) =
      moved_leaves k sound moment.stacks (WereBefore befores) writes Leaves (λ refusal. were) (λ number m is. is)
      (λ outcome m is. is) n
  before_event (Apply name pre post) = update_leaves name pre post
  before_event (Hooks name pre post) =
      let all = befores ++ before_update k ∷ [] in
      hooks_leave laws.event k moment.built (WereBefore all) (λ m scratch is. before_bare scratch all m is)
      (λ m start bytes built is clear. before_wrote laws.left.code all m start bytes m.threads clear built is) Leaves
      (λ refusal. were) name pre post
      (λ made now done is updates built stays. stays (subst Leaves (ap apply_answered is) (update_leaves name pre post)))
  before_event Undo =
      undone_leaves k moment.built (newest_update k) (newest_live k moment.built) Leaves (λ refusal. were)
      (λ update takes is. (noted update is).rest) NothingApplied
  before_event (UndoNamed name) =
      undone_leaves k moment.built (named k name) (named_live k moment.built name) Leaves (λ refusal. were)
      (λ update takes is. (noted update is).rest) (NoUpdate name)

-- and any list of events
before_events : BackLaws → (befores : List Before) (k : AbstractMachine) (events : List Event) → IsMoment k
    → WereBefore befores k → WereBefore (befores_along befores k events) (after_events k events)
unfolding befores_along after_events after_event
before_events laws befores k [] moment were = were
before_events laws befores k (event ∷ events) moment were =
    before_events laws (befores_by befores k (answered k event)) (machine_after k (answered k event)) events
    (event_leaves laws.event k moment event) (before_event laws befores k moment were event)

-- The bytes at the homes of an update that goes are put back, and the rest stays.
put_back : JumpLaws → (k : AbstractMachine) (update : Update) → IsUncovered k update
    → (patched (withdrawn k update)).pieces
    ≡ without_pieces update.pieces (unjumped
    (olds_at (jumped (bodies_in (withdrawn k update).table) k.pieces) (jump_rows update.report.replaced))
    (patched k).pieces)
unfolding patched
put_back laws k update is =
    ap (jumped rows) (withdrawn_pieces k update)
    ∙ sym (ap (without_pieces update.pieces) restored ∙ laws.dropped update.pieces rows k.pieces)
  where
    rows : List (ℕ × ℕ)
    rows = bodies_in (withdrawn k update).table

    homes : List (ℕ × ℕ)
    homes = jump_rows update.report.replaced

    live : IsLive k.updates update
    live = live_named k update is.live

    stands : Stands k update
    stands =
        stands_from k is.built update live.earlier live.later live.among
        (subst (All (HasOtherHomes update)) (later_among k.updates update live.earlier live.later live.among)
        (uncovered_alone k update is))

    sound : IsSound k
    sound = built_sound k is.built

    own : AreSpliced (contents_of k) homes
    own = spliced_own k update stands (contents_of k) sound.jumps.spliced

    restored : unjumped (olds_at (jumped rows k.pieces) homes) (jumped (bodies_in k.table) k.pieces)
        ≡ jumped rows k.pieces
    restored =
        ap (unjumped (olds_at (jumped rows k.pieces) homes))
        (jumps_over laws.added laws.over k update stands (contents_of k) sound.jumps.valid sound.jumps.spliced)
        ∙ laws.taken_back (jumped_memory rows (contents_of k)) homes
        (laws.valid (contents_of k) rows sound.jumps.valid) (laws.spliced (contents_of k) homes rows own)

-- ---- the two laws
module _ (laws : BackLaws) (starts : StartsWell) (image : Image) (events : List Event) (k : AbstractMachine)
    (update : Update) (now : AbstractMachine) (takes : TakesBack image events k update now) where
  moment : IsMoment k
  moment =
      subst IsMoment (sym takes.before)
      (moments laws.event (first_machine image) events (starts takes.file image takes.read))

  were : WereBefore (befores_along [] (first_machine image) events) k
  were =
      subst (WereBefore (befores_along [] (first_machine image) events)) (sym takes.before)
      (before_events laws [] (first_machine image) events (starts takes.file image takes.read)
      (NoneBefore [] (first_machine image) refl refl))

  taken : IsTaken k update takes.happened
  taken = event_takes k moment.built takes.event update takes.happened takes.takes takes.accepted

  now_is : now ≡ withdrawn k update
  now_is = takes.leaves ∙ taken.machine

  -- what was before the newest is restored, where it is whole
  pub newest_restored : newest_update k ≡ Some update
      → IsSomeAnd (last_or None (befores_along [] (first_machine image) events)) (λ before. RestoresAll before now)
  newest_restored newest =
      let befores = befores_along [] (first_machine image) events in
      let has = before_newest befores k update were newest in
      subst (λ (o : Option Before). IsSomeAnd o (λ before. RestoresAll before now))
      (sym (ap (last_or None) has.parts ∙ last_more None has.older has.before))
      (λ whole. has.was.whole whole ∙ ap lasting (sym now_is))

  -- and what stood at its homes before any
  pub homes_restored : IsSomeAnd
      (slice_get (befores_along [] (first_machine image) events) (place_of update.name k.updates))
      (λ before. (patched now).pieces ≡ restored_from before.machine update (patched k).pieces)
  homes_restored =
      let befores = befores_along [] (first_machine image) events in
      let it = noted laws befores k moment were update taken.uncovered in
      subst (λ (o : Option Before). IsSomeAnd o (λ (before : Before).
      (patched now).pieces ≡ restored_from before.machine update (patched k).pieces)) (sym it.at)
      (ap (λ (m : AbstractMachine). (patched m).pieces) now_is
      ∙ put_back laws.jumps k update taken.uncovered
      ∙ ap (λ (olds : List (ℕ × List ℕ)). without_pieces update.pieces (unjumped olds (patched k).pieces))
      (sym it.homes))

-- so it is after every list of events
pub taken_back : BackLaws → StartsWell → TakenBackIsRestored
taken_back laws starts image events k update now takes newest =
    newest_restored laws starts image events k update now takes newest

-- and so is this
pub homes_back : BackLaws → StartsWell → HomesAreRestored
homes_back laws starts image events k update now takes =
    homes_restored laws starts image events k update now takes
