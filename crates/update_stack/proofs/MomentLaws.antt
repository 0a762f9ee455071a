-- What holds of the machine after each event, and so after any list of events from the start of an image.
use Rattle.std.proofs.Common.{◌≡◌, ℕ, ◌≤◌, ◌<◌, Bool, true, false, if◌then◌else◌, nat_lt, List, [], ◌∷◌, map, length}
use Rattle.std.proofs.Common.{Option, Some, None, Result, Ok, Err, arith, refl, sym, ap, subst}
use Rattle.std.specs.List.{All, fold, list_any}
use Rattle.std.proofs.lemmas.List.Elements.{All-cons}
use Rattle.std.proofs.lemmas.Bool.Decides.{nat_tests}
use Rattle.ks_base.specs.declared.places.Range.{Range}
use Rattle.ks_base.specs.declared.refusals.Refusal.{Refusal}
use Rattle.ks_base.specs.declared.refusals.Refusal.TheVariants.{NothingApplied, NoUpdate}
use Rattle.ks_base.specs.declared.reports.Report.{Report}
use Rattle.ks_base.specs.declared.reports.HookReport.{HookReport}
use Rattle.image_file.specs.Fields.{◌>>=◌}
use Rattle.image_file.specs.Reading.{Contents as Image, image_of}
use Rattle.image_memory.specs.Ranges.{Ascends}
use Rattle.image_memory.specs.Contents.{Contents, IsValid, piece_range}
use Rattle.image_memory.specs.Access.{first_fault, write_fault}
use Rattle.ia32_step.specs.declared.types.Thread.{Thread}
use Rattle.image_threads.specs.Program.{IsStackRange}
use Rattle.link_post.specs.Places.{unless_empty, without}
use Rattle.stack_scan.specs.Standing.{thread_refusal}
use Rattle.update_plan.specs.declared.types.Plan.{Plan}
use Rattle.update_plan.specs.Plan.{unless}
use Rattle.update_plan.specs.Sound.{AllReplaceNewest, AreGaps, CanBeMade}
use Rattle.update_stack.specs.AbstractMachine.{AbstractMachine, Update, bodies_in, contents_of, first_machine}
use Rattle.update_stack.specs.Apply.{running_of, retired_of, gaps_of, planned_in, accepted, applied, committed, has_name}
use Rattle.update_stack.specs.Aside.{DiffersAside}
use Rattle.update_stack.specs.Hooks.{hooked}
use Rattle.update_stack.specs.Hooked.{HooksAreUpdates}
use Rattle.update_stack.specs.Undo.{withdrawn, named, newest_update, undone, undone_named}
use Rattle.update_stack.specs.Events.{Event, Spawn, Step, Apply, Hooks, Undo, UndoNamed, Happened, Applied, Hooked}
use Rattle.update_stack.specs.Events.{happened, apply_answered, hooks_answered, answered, machine_after, after_event, after_events}
use Rattle.update_stack.specs.TakenBack.{MachinesAreBuilt}
use Rattle.update_stack.specs.Stacked.{IsSound, IsBuilt}
use Rattle.update_stack.specs.Uncovered.{IsUncovered, UncoveredCanGo}
use Rattle.update_stack.specs.laws.DataLaws.{DataLaws, data_moved, differs_back}
use Rattle.update_stack.specs.laws.StackedLaws.{built_sound}
use Rattle.update_stack.proofs.BuiltLaws.{MemoryLaws, built_write, built_commit, wrote, fences_listed}
use Rattle.update_stack.proofs.PlaceLaws.{name_is_new}
use Rattle.update_stack.proofs.PlanLaws.{SoundPlans, plan_found, planned_replaces}
use Rattle.update_stack.proofs.MovingLaws.{moved_leaves, spawned_leaves}
use Rattle.update_stack.proofs.TakenLaws.{undone_leaves, newest_live, named_live}

-- a law of an arena's gaps that is used here
abbrev pub GapsAreFree : Type 0
GapsAreFree = (contents : Contents) (free : List Range) → IsValid contents → Ascends (λ range. range) 0 free
    → All (λ gap. gap.high ≤ 0xFFFF_0000) free → AreGaps contents (fold without free (map piece_range contents.pieces))

-- the laws of memory, of plans, of gaps, of an update that is taken out from among others, and of one at which functions
-- were run
pub record EventLaws : Type 0 where
  pub memory : MemoryLaws
  pub plans : SoundPlans
  pub free : GapsAreFree
  pub goes : UncoveredCanGo
  pub hooked : HooksAreUpdates
  pub data_alone : DataLaws

-- what holds after each event
pub record IsMoment (k : AbstractMachine) : Type 0 where
  pub built : IsBuilt k
  pub stacks : All IsStackRange k.stacks

-- what is free of the arena can be placed in
gaps_free : GapsAreFree → (k : AbstractMachine) → IsSound k → AreGaps (contents_of k) (gaps_of k)
gaps_free free k sound =
    free (contents_of k) (unless_empty k.arena) sound.jumps.valid (ascends (nat_lt k.arena.low k.arena.high) refl)
    (lows (nat_lt k.arena.low k.arena.high) refl)
  where
    some : nat_lt k.arena.low k.arena.high ≡ true → k.arena.low < k.arena.high
    some test = grind (arith, nat_tests)

    ascends : (b : Bool) → nat_lt k.arena.low k.arena.high ≡ b
        → Ascends (λ range. range) 0 (if b then k.arena ∷ [] else [])
    ascends true test = (omega arith, some test, tt)
    ascends false test = tt

    lows : (b : Bool) → nat_lt k.arena.low k.arena.high ≡ b
        → All (λ gap. gap.high ≤ 0xFFFF_0000) (if b then k.arena ∷ [] else [])
    lows true test =
        All-cons (λ (gap : Range). gap.high ≤ 0xFFFF_0000) k.arena [] (sound.arena (some test))
        (λ i d l. absurd (omega arith))
    lows false test = λ i d l. absurd (omega arith)

-- what is planned can be made
pub can_be_made : SoundPlans → GapsAreFree → (k : AbstractMachine) → IsBuilt k → (name pre post : List ℕ) (plan : Plan)
    → planned_in k name pre post ≡ Ok plan → CanBeMade (contents_of k) plan
can_be_made plans free k built name pre post plan is =
    let sound = built_sound k built in
    plans.can (running_of k) (retired_of k) (gaps_of k) pre post plan sound.jumps.valid sound.jumps.spliced
    (fences_listed k built) (gaps_free free k sound) (plan_found k name pre post plan is)

-- What is so where an update is refused, and of the machine with each update that can be made, is so of what is
-- answered to it.
module _ (plans : SoundPlans) (free : GapsAreFree) (k : AbstractMachine) (built : IsBuilt k)
    (Q : Result Happened Refusal → Type 0) (refused : (refusal : Refusal) → Q (Err refusal))
    (made : (name : List ℕ) (plan : Plan) → CanBeMade (contents_of k) plan → list_any (has_name name) k.updates ≡ false
    → AllReplaceNewest (bodies_in k.table) plan
    → Q (Ok (happened (committed k name plan) (Applied plan.report)))) where
  -- so it is of every update that is asked for
  pub applied_leaves : (name pre post : List ℕ) → Q (apply_answered (applied k name pre post))
  unfolding accepted applied
  applied_leaves name pre post = by_plan (planned_in k name pre post) refl
    where
      by_threads : (plan : Plan) (o : Option Refusal) → planned_in k name pre post ≡ Ok plan
          → Q (apply_answered (unless o plan >>= λ (clear : Plan).
          let r : Result (AbstractMachine × Report) Refusal = Ok (committed k name clear, clear.report) in r))
      by_threads plan (Some refusal) is = refused refusal
      by_threads plan None is =
          made name plan (can_be_made plans free k built name pre post plan is) (name_is_new k name pre post plan is)
          (planned_replaces plans.replace k name pre post plan built is)

      by_plan : (r : Result Plan Refusal) → planned_in k name pre post ≡ r
          → Q (apply_answered ((r >>= λ (plan : Plan). unless (thread_refusal k.pieces plan.guarded k.threads) plan)
          >>= λ (clear : Plan).
          let r : Result (AbstractMachine × Report) Refusal = Ok (committed k name clear, clear.report) in r))
      by_plan (Err refusal) is = refused refusal
      by_plan (Ok plan) is = by_threads plan (thread_refusal k.pieces plan.guarded k.threads) is

-- What functions leave that were run at an update: what is so of the machine that the update makes, whichever scratch piece
-- it has, and after each write that has no fault, if it was so before it.
module _ (laws : EventLaws) (k : AbstractMachine) (built : IsBuilt k) (P : AbstractMachine → Type 0)
    (bare : (m : AbstractMachine) (scratch : Option Range) → P m → P (record m { scratch = scratch }))
    (writes : (m : AbstractMachine) (start : ℕ) (bytes : List ℕ) → IsBuilt m → P m
    → first_fault (write_fault m.pieces) start (length bytes) ≡ None → P (wrote start bytes m.threads m)) where
  pub data_leave : (m now : AbstractMachine) → IsBuilt now → DiffersAside m now → P m → P now
  data_leave m now after differs is =
      let back = differs_back m now differs in
      let built_m : IsBuilt m =
      data_moved laws.data_alone IsBuilt (λ x start bytes valid was clear. built_write x start bytes x.threads was) now m
      (built_sound now after).jumps.valid back after in
      (data_moved laws.data_alone (λ (x : AbstractMachine). IsBuilt x × P x)
      (λ x start bytes valid was clear.
      (built_write x start bytes x.threads was.0, writes x start bytes was.0 was.1 clear))
      m now (built_sound m built_m).jumps.valid differs (built_m, is)).1

  -- What is answered, by what a refusal leaves, and by what is so where it is so of the machine that the update makes.
  pub hooks_leave : (Q : Result Happened Refusal → Type 0) → ((refusal : Refusal) → Q (Err refusal))
      → (name pre post : List ℕ)
      → ((made now : AbstractMachine) (done : HookReport) → applied k name pre post ≡ Ok (made, done.report)
      → made.updates ≡ now.updates → IsBuilt now → (P made → P now) → Q (Ok (happened now (Hooked done))))
      → Q (hooks_answered (hooked k name pre post))
  hooks_leave Q refused name pre post answers = by_result (hooked k name pre post) refl
    where
      by_result : (r : Result (AbstractMachine × HookReport) Refusal) → hooked k name pre post ≡ r
          → Q (hooks_answered r)
      by_result (Err refusal) is = refused refusal
      by_result (Ok left) is =
          let it = laws.hooked k left.0 name pre post left.1 built is in
          let m : AbstractMachine = record it.made { scratch = left.0.scratch } in
          answers it.made left.0 left.1 it.is_applied (sym (ap (λ (x : AbstractMachine). x.updates) it.differs.rest))
          it.built (λ was. data_leave m left.0 it.built it.differs (bare it.made left.0.scratch was))

-- what an event leaves
module _ (laws : EventLaws) (k : AbstractMachine) (moment : IsMoment k) where
  abbrev Leaves : Result Happened Refusal → Type 0
  Leaves result = IsMoment (machine_after k result)

  sound : IsSound k
  sound = built_sound k moment.built

  wrote_clear : (start : ℕ) (bytes : List ℕ) (threads : List Thread)
      → first_fault (write_fault k.pieces) start (length bytes) ≡ None → IsMoment (wrote start bytes threads k)
  wrote_clear start bytes threads clear =
      record { built = built_write k start bytes threads moment.built; stacks = moment.stacks }

  -- an update that is made leaves it so
  pub committed_moment : (name : List ℕ) (plan : Plan) → CanBeMade (contents_of k) plan
      → list_any (has_name name) k.updates ≡ false → AllReplaceNewest (bodies_in k.table) plan
      → IsMoment (committed k name plan)
  unfolding committed
  committed_moment name plan can new replace =
      record { built = built_commit laws.memory k name plan moment.built can new replace; stacks = moment.stacks }

  withdrawn_moment : (update : Update) → IsUncovered k update → IsMoment (withdrawn k update)
  unfolding withdrawn
  withdrawn_moment update is = record { built = laws.goes k update is; stacks = moment.stacks }

  -- an update does
  update_leaves : (name pre post : List ℕ) → Leaves (apply_answered (applied k name pre post))
  update_leaves name pre post =
      applied_leaves laws.plans laws.free k moment.built Leaves (λ refusal. moment) committed_moment name pre post

  -- and each event
  pub event_leaves : (event : Event) → IsMoment (machine_after k (answered k event))
  unfolding answered undone undone_named
  event_leaves (Spawn name argument) =
      spawned_leaves k sound moment.stacks IsMoment wrote_clear Leaves (λ refusal. moment) (λ number m is. is)
      (λ outcome m is. is) name argument (length k.threads)
  event_leaves (Step n) =
      moved_leaves k sound moment.stacks IsMoment wrote_clear Leaves (λ refusal. moment) (λ number m is. is)
      (λ outcome m is. is) n
  event_leaves (Apply name pre post) = update_leaves name pre post
  event_leaves (Hooks name pre post) =
      hooks_leave laws k moment.built (λ (m : AbstractMachine). All IsStackRange m.stacks) (λ m scratch is. is)
      (λ m start bytes built is clear. is) Leaves (λ refusal. moment) name pre post
      (λ made now done is updates built stays. record {
        built = built;
        stacks = stays (subst Leaves (ap apply_answered is) (update_leaves name pre post)).stacks;
      })
  event_leaves Undo =
      undone_leaves k moment.built (newest_update k) (newest_live k moment.built) Leaves (λ refusal. moment)
      (λ update takes is. withdrawn_moment update is) NothingApplied
  event_leaves (UndoNamed name) =
      undone_leaves k moment.built (named k name) (named_live k moment.built name) Leaves (λ refusal. moment)
      (λ update takes is. withdrawn_moment update is) (NoUpdate name)

-- after any list of events
pub moments : EventLaws → (k : AbstractMachine) (events : List Event) → IsMoment k → IsMoment (after_events k events)
unfolding after_events after_event
moments laws k [] moment = moment
moments laws k (event ∷ events) moment =
    moments laws (machine_after k (answered k event)) events (event_leaves laws k moment event)

-- the start of each image that is read
abbrev pub StartsWell : Type 0
StartsWell = (file : List ℕ) (image : Image) → image_of file ≡ Ok image → IsMoment (first_machine image)

-- so the machine is built after every list of events
pub all_built : EventLaws → StartsWell → MachinesAreBuilt
all_built laws starts file image events read =
    (moments laws (first_machine image) events (starts file image read)).built
