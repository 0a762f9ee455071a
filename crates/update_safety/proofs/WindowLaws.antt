-- What events leave of the windows.
use Rattle.std.proofs.Common.{◌≡◌, ℕ, Bool, true, false, not, ◌||◌, if◌then◌else◌, List, [], ◌∷◌, ◌++◌, map}
use Rattle.std.proofs.Common.{length, set, nat_le, Option, Some, None, Result, Ok, Err, Contains}
use Rattle.std.proofs.Common.{◌⊎◌, inl, inr, refl, sym, ◌∙◌, ap, arith, subst}
use Rattle.std.specs.Option.{option_to_list}
use Rattle.std.specs.List.{Any, flat_map}
use Rattle.std.proofs.lemmas.Bool.{false≢true, not-true}
use Rattle.std.proofs.lemmas.List.{append-nil}
use Rattle.std.proofs.lemmas.List.Elements.{All-contains, filter_passes}
use Rattle.ks_base.specs.declared.places.Range.{Range}
use Rattle.ks_base.specs.declared.refusals.Refusal.{Refusal}
use Rattle.ks_base.specs.declared.refusals.Refusal.TheVariants.{TooManyThreads}
use Rattle.ks_base.specs.declared.reports.Report.{Report}
use Rattle.image_file.specs.Fields.{◌>>=◌}
use Rattle.image_memory.specs.declared.types.Piece.{Piece}
use Rattle.image_memory.specs.declared.types.Fence.{Fence}
use Rattle.image_memory.specs.Contents.{IsValid, fence_range}
use Rattle.image_memory.specs.Fetch.{HasCode}
use Rattle.image_memory.specs.Ranges.{is_one_of}
use Rattle.image_memory.specs.laws.RangeLaws.{within}
use Rattle.symbol_table.specs.Symbols.{function_named}
use Rattle.ia32_step.specs.declared.types.Thread.{Thread}
use Rattle.image_threads.specs.Program.{running_at}
use Rattle.image_threads.specs.Spawning.{started, started_at, started_on, free_stack, first_bytes, first_thread}
use Rattle.stack_scan.specs.Standing.{in_one, thread_refusal}
use Rattle.update_plan.specs.declared.types.Plan.{Plan}
use Rattle.update_plan.specs.Plan.{unless}
use Rattle.update_plan.specs.Sound.{is_replaced_at, BeginsAt, CanBeMade}
use Rattle.update_stack.specs.AbstractMachine.{AbstractMachine, Update, is_home, view_in, fence_in, contents_of}
use Rattle.update_stack.specs.Steps.{step_in, moved_by, moved, after_start, spawned}
use Rattle.update_stack.specs.Apply.{planned_in, accepted, applied, committed}
use Rattle.update_stack.specs.Apply.{update_as}
use Rattle.update_stack.specs.Undo.{withdrawn, ranges_in, newest_update}
use Rattle.update_stack.specs.Events.{Happened, spawn_answered, step_answered}
use Rattle.update_stack.specs.Events.{apply_answered, answered, machine_after}
use Rattle.update_stack.specs.Stacked.{IsBuilt}
use Rattle.update_stack.specs.Uncovered.{IsUncovered, UncoveredCanGo}
use Rattle.update_stack.specs.laws.StackedLaws.{built_sound, last_more}
use Rattle.update_stack.specs.laws.TableLaws.{homes_after}
use Rattle.update_stack.specs.laws.StepLaws.{by_step}
use Rattle.update_safety.specs.Clear.{newest_retired}
use Rattle.update_safety.specs.Windows.{window_in, SameWindows, KeepsWindows, StartsKeepWindows, StepsKeepWindows}
use Rattle.update_safety.specs.Windows.{UpdatesKeepWindows, UndosKeepWindows}
use Rattle.update_safety.proofs.ViewLaws.{text_at, shows, window_by, shows_on, text_written, text_is_code, code_is_text}
use Rattle.update_safety.proofs.ViewLaws.{one_more, text_left, IsHeld, held_in, in_one_of, listed_one, mapped_contains}
use Rattle.update_safety.proofs.ViewLaws.{one_there}
use Rattle.update_safety.proofs.LiveLaws.{IsReplaced, home_replaced, live_homes, range_was, stays_live}
use Rattle.update_safety.proofs.TakenLaws.{was_taken, taken_uncovered}

-- a window of a machine, by its text, its table and its retired ranges
window_is : (k : AbstractMachine) (address : ℕ)
    → window_in k address ≡ shows (text_at k.pieces address) (is_home k.table address) (in_one k.retired address)
unfolding view_in
window_is k address = window_by (is_home k.table) k.retired k.pieces address

-- the laws of updates that are used here
abbrev pub PlansCanBeMade : Type 0
PlansCanBeMade = (k : AbstractMachine) (name pre_file post_file : List ℕ) (plan : Plan) → IsBuilt k
    → planned_in k name pre_file post_file ≡ Ok plan → CanBeMade (contents_of k) plan

abbrev pub CodeStays : Type 0
CodeStays = (k : AbstractMachine) (name : List ℕ) (plan : Plan) (address count : ℕ) → IsBuilt k
    → CanBeMade (contents_of k) plan → HasCode k.pieces address count
    → HasCode (committed k name plan).pieces address count

pub record UpdateLaws : Type 0 where
  pub can : PlansCanBeMade
  pub code : CodeStays

-- Where text is where it was, windows are.
abbrev pub SameText : (old new : List Piece) → Type 0
SameText old new = (address : ℕ) → text_at new address ≡ text_at old address

pub same_windows : (k : AbstractMachine) (pieces : List Piece) (threads : List Thread) → SameText k.pieces pieces
    → SameWindows k (record k { pieces = pieces; threads = threads })
same_windows k pieces threads same address =
    let now : AbstractMachine = record k { pieces = pieces; threads = threads } in
    window_is now address
    ∙ ap (λ (text : Bool). shows text (is_home k.table address) (in_one k.retired address)) (same address)
    ∙ sym (window_is k address)

-- a step and a start write bytes alone
step_text : (k : AbstractMachine) (thread : Thread) → SameText k.pieces (step_in k thread).contents.pieces
step_text k thread =
    by_step (λ contents. SameText k.pieces contents.pieces) k (λ address. refl)
    (λ start bytes clear address. text_written start bytes k.pieces address) thread

step_windows : (k : AbstractMachine) (n : ℕ) → SameWindows k (machine_after k (step_answered (moved k n)))
unfolding moved
step_windows k n = by_thread (running_at k.threads n)
  where
    by_thread : (o : Option Thread) → SameWindows k (machine_after k (step_answered (moved_by k n o)))
    by_thread None = λ address. refl
    by_thread (Some thread) =
        same_windows k (step_in k thread).contents.pieces (set k.threads n (step_in k thread).thread)
        (step_text k thread)

pub steps_keep_windows : StepsKeepWindows
unfolding answered
steps_keep_windows k thread now is =
    subst (λ (r : Result Happened Refusal). SameWindows k (machine_after k r)) is (step_windows k thread)

start_windows : (k : AbstractMachine) (name : List ℕ) (argument n : ℕ)
    → SameWindows k (machine_after k (spawn_answered n (spawned k name argument)))
unfolding spawned started
start_windows k name argument n = by_place (function_named k.symbols name)
  where
    on_stack : (pc : ℕ) (o : Option Range)
        → SameWindows k (machine_after k (spawn_answered n
        (after_start k (started_on k.pieces k.threads pc argument o))))
    on_stack pc None = λ address. refl
    on_stack pc (Some stack) =
        same_windows k _ (k.threads ++ first_thread (length k.threads) stack pc ∷ [])
        (text_written stack.low (first_bytes stack argument) k.pieces)

    by_count : (pc : ℕ) (full : Bool)
        → SameWindows k (machine_after k (spawn_answered n (after_start k (if full then Err TooManyThreads
        else started_on k.pieces k.threads pc argument (free_stack k.stacks k.threads)))))
    by_count pc true = λ address. refl
    by_count pc false = on_stack pc (free_stack k.stacks k.threads)

    by_place : (pc : Result ℕ Refusal)
        → SameWindows k (machine_after k (spawn_answered n
        (after_start k (started_at k.pieces k.stacks k.threads argument pc))))
    by_place (Err refusal) = λ address. refl
    by_place (Ok pc) = by_count pc (nat_le 4096 (length k.threads))

pub starts_keep_windows : StartsKeepWindows
unfolding answered
starts_keep_windows k name argument now is =
    subst (λ (r : Result Happened Refusal). SameWindows k (machine_after k r)) is
    (start_windows k name argument (length k.threads))

-- what is read off the newest update
newest_is : (f : Update → List Range) (k : AbstractMachine) (update : Update) → newest_update k ≡ Some update
    → flat_map f (option_to_list (newest_update k)) ≡ f update
newest_is f k update newest =
    ap (λ (o : Option Update). flat_map f (option_to_list o)) newest ∙ append-nil (f update)

-- A machine on which an update is made: code stays, homes stay homes, and more ranges are retired.
module _ (k : AbstractMachine) (name : List ℕ) (plan : Plan) where
  abbrev after : AbstractMachine
  after = committed k name plan

  retires : newest_retired after ≡ map fence_range plan.fences
  unfolding committed
  retires =
      newest_is (λ (update : Update). update.retired) after (update_as name plan)
      (last_more None k.updates (update_as name plan))

  code_after : CodeStays → IsBuilt k → CanBeMade (contents_of k) plan → (address : ℕ)
      → text_at k.pieces address ≡ true → text_at after.pieces address ≡ true
  code_after code built can address is =
      code_is_text after.pieces address (code k name plan address 1 built can (text_is_code k.pieces address is))

  home_after : (address : ℕ) → is_home after.table address
      ≡ (is_home k.table address || is_replaced_at plan.report.replaced address)
  unfolding committed
  home_after address = homes_after k.table plan.report.replaced address

  stray_after : (address : ℕ) → in_one after.retired address
      ≡ (in_one (map fence_range plan.fences) address || in_one k.retired address)
  unfolding committed
  stray_after address = one_more k.retired (map fence_range plan.fences) address

  update_windows : CodeStays → IsBuilt k → CanBeMade (contents_of k) plan → KeepsWindows (newest_retired after) k after
  update_windows code built can address out was =
      window_is after address
      ∙ shows_on (text_at k.pieces address) (is_home k.table address) (in_one k.retired address)
      (text_at after.pieces address) (is_home after.table address) (in_one after.retired address)
      (sym (window_is k address) ∙ was) (code_after code built can address) at_home outside
    where
      not_new : in_one (map fence_range plan.fences) address ≡ false
      not_new = ap (λ (ranges : List Range). in_one ranges address) (sym retires) ∙ out

      at_home : is_home k.table address ≡ true → is_home after.table address ≡ false
          → in_one after.retired address ≡ true → ⊥
      at_home home gone stray =
          false≢true (sym gone ∙ home_after address
          ∙ ap (λ (b : Bool). b || is_replaced_at plan.report.replaced address) home)

      outside : in_one k.retired address ≡ false → is_home after.table address ≡ false
          → in_one after.retired address ≡ true → ⊥
      outside free gone stray =
          false≢true (sym (stray_after address
          ∙ ap (λ (b : Bool). b || in_one k.retired address) not_new ∙ free) ∙ stray)

-- what an update leaves of the windows, or a refusal of one
abbrev KeepsBut : AbstractMachine → Result Happened Refusal → Type 0
KeepsBut k result = KeepsWindows (newest_retired (machine_after k result)) k (machine_after k result)

apply_windows : UpdateLaws → (k : AbstractMachine) (name pre post : List ℕ) → IsBuilt k
    → KeepsBut k (apply_answered (applied k name pre post))
unfolding accepted applied
apply_windows laws k name pre post built = by_plan (planned_in k name pre post) refl
  where
    by_threads : (plan : Plan) (o : Option Refusal) → CanBeMade (contents_of k) plan
        → KeepsBut k (apply_answered (unless o plan >>= λ (clear : Plan).
        let r : Result (AbstractMachine × Report) Refusal = Ok (committed k name clear, clear.report) in r))
    by_threads plan (Some refusal) can = λ address out was. was
    by_threads plan None can = update_windows k name plan laws.code built can

    by_plan : (r : Result Plan Refusal) → planned_in k name pre post ≡ r
        → KeepsBut k (apply_answered ((r >>= λ (plan : Plan).
        unless (thread_refusal k.pieces plan.guarded k.threads) plan) >>= λ (clear : Plan).
        let r : Result (AbstractMachine × Report) Refusal = Ok (committed k name clear, clear.report) in r))
    by_plan (Err refusal) is = λ address out was. was
    by_plan (Ok plan) is =
        by_threads plan (thread_refusal k.pieces plan.guarded k.threads) (laws.can k name pre post plan built is)

pub updates_keep_windows : UpdateLaws → UpdatesKeepWindows
unfolding answered
updates_keep_windows laws k name pre post now built is =
    subst (KeepsBut k) is (apply_windows laws k name pre post built)

-- A machine from which an uncovered update is taken out: code stays outside its pieces, no more is retired, and at a
-- home without a row any longer nothing is.
module _ (k : AbstractMachine) (update : Update) (is : IsUncovered k update) (goes : UncoveredCanGo) where
  abbrev left : AbstractMachine
  left = withdrawn k update

  valid : IsValid (contents_of k)
  valid = (built_sound k is.built).jumps.valid

  code_left : (address : ℕ) → in_one (ranges_in k update) address ≡ false → text_at k.pieces address ≡ true
      → text_at left.pieces address ≡ true
  unfolding withdrawn
  code_left address out is = text_left update.pieces k.pieces address is out

  -- what is retired still is no range of the update's
  not_own : (range : Range) → Contains left.retired range → Contains update.retired range → ⊥
  unfolding withdrawn
  not_own range there own =
      let other : is_one_of update.retired range ≡ false =
      not-true (is_one_of update.retired range)
      (All-contains (λ (r : Range). not (is_one_of update.retired r) ≡ true) left.retired range
      (filter_passes (λ (r : Range). not (is_one_of update.retired r)) k.retired) there) in
      false≢true (sym other ∙ listed_one update.retired range own)

  stray_was : (address : ℕ) → in_one left.retired address ≡ true → in_one k.retired address ≡ true
  stray_was address stray =
      let held = held_in left.retired address stray in
      in_one_of k.retired held.range address (range_was k update held.range held.there) held.holds

  listed_fence : (range : Range) → Contains k.retired range → Contains (contents_of k).fences (fence_in k.table range)
  listed_fence range there = mapped_contains (fence_in k.table) k.retired range there

  -- The update that replaced such a home is live still, or is the one that goes: then it retired what began there.
  home_left : (address : ℕ) → is_home k.table address ≡ true → is_home left.table address ≡ false
      → in_one left.retired address ≡ true → ⊥
  home_left address home gone stray =
      let held = held_in left.retired address stray in
      let replaced = home_replaced k is.built address home in
      by_update held replaced (retired_it held replaced replaced.over)
      (stays_live k update replaced.update is.live replaced.live)
    where
      -- the range that is left there is the one that was retired with the home
      retired_it : (held : IsHeld left.retired address) (replaced : IsReplaced k address)
          → Any (BeginsAt address) replaced.update.retired → Contains replaced.update.retired held.range
      retired_it held replaced (j, range, less, at, begins) =
          let low = begins.low in
          let full = begins.full in
          let there : Contains k.retired range =
          All-contains (Contains k.retired) replaced.update.retired range replaced.retired (j, less, at) in
          let same : fence_in k.table range ≡ fence_in k.table held.range =
          one_there (contents_of k) (fence_in k.table range) (fence_in k.table held.range) address valid
          (listed_fence range there) (listed_fence held.range (range_was k update held.range held.there))
          (within address range (omega arith) (omega arith)) held.holds in
          subst (Contains replaced.update.retired) (ap (λ (fence : Fence). fence.range) same) (j, less, at)

      by_update : (held : IsHeld left.retired address) (replaced : IsReplaced k address)
          → Contains replaced.update.retired held.range
          → (replaced.update ≡ update) ⊎ Contains left.updates replaced.update → ⊥
      by_update held replaced its (inl same) =
          not_own held.range held.there (subst (λ (u : Update). Contains u.retired held.range) same its)
      by_update held replaced its (inr live) =
          false≢true (sym gone ∙ live_homes left (goes k update is) replaced.update live address replaced.replaced)

  undo_windows : KeepsWindows (ranges_in k update) k left
  undo_windows address out was =
      window_is left address
      ∙ shows_on (text_at k.pieces address) (is_home k.table address) (in_one k.retired address)
      (text_at left.pieces address) (is_home left.table address) (in_one left.retired address)
      (sym (window_is k address) ∙ was) (code_left address out) (home_left address)
      (λ free gone stray. false≢true (sym free ∙ stray_was address stray))

pub undos_keep_windows : UncoveredCanGo → UndosKeepWindows
undos_keep_windows goes k event update now built takes is =
    let uncovered = taken_uncovered k event update now built takes is in
    subst (KeepsWindows (ranges_in k update) k) (was_taken k event update now takes is).left
    (undo_windows k update uncovered goes)
