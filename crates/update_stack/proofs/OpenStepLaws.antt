-- A step over memory in which other bytes than the jump stand at one home, that of the newest update, beside a step
-- over the same memory with all the jumps.
use Rattle.std.proofs.Common.{◌≡◌, ◌≢◌, ℕ, ◌+◌, ◌<◌, ◌==◌, Bool, true, false, if◌then◌else◌, List}
use Rattle.std.proofs.Common.{length, set, IfSome, Option, Some, None, Result, Ok, Err, refl, sym, ◌∙◌, ap, subst, arith}
use Rattle.std.proofs.Common.{ne_eqb}
use Rattle.std.specs.List.{All}
use Rattle.ks_base.specs.declared.refusals.Fault.{Fault}
use Rattle.image_memory.specs.declared.types.Fence.{Fence}
use Rattle.image_memory.specs.declared.types.Piece.{Piece}
use Rattle.image_memory.specs.declared.types.Window.{Window}
use Rattle.image_memory.specs.Contents.{Contents, IsValid}
use Rattle.image_memory.specs.Access.{first_fault, write_fault}
use Rattle.image_memory.specs.Fetch.{View, Unmapped, AtHome, Stray, Bytes, HasCode, view_at, window_for, window_at}
use Rattle.image_memory.specs.Fetch.{jump_at, fetched}
use Rattle.ia32_decode.specs.declared.types.Decoded.{Decoded}
use Rattle.ia32_decode.specs.Decode.{decoded_from}
use Rattle.ia32_step.specs.declared.types.Flow.TheVariants.{Plain}
use Rattle.ia32_step.specs.declared.types.Outcome.TheVariants.{Moved}
use Rattle.ia32_step.specs.declared.types.Store.{Store}
use Rattle.ia32_step.specs.declared.types.Thread.{Thread}
use Rattle.ia32_step.specs.Changes.{goes_on, at_address, above}
use Rattle.ia32_step.specs.Code.{KeepsCode, SameData}
use Rattle.ia32_step.specs.Operands.{spelled}
use Rattle.ia32_step.specs.laws.OperandLaws.{length-spelled}
use Rattle.ia32_step.specs.Step.{Left, left_by, context_of, resumed, exits, done, store_fault, after_store}
use Rattle.ia32_step.specs.Step.{unless_barred, change_by, change_in, next_change, stepped, store_of, store_unless, stored}
use Rattle.ia32_step.specs.Step.{window_length, fetched_count}
use Rattle.image_threads.specs.Program.{running_at}
use Rattle.splice_jump.specs.declared.phase.Phase.{Phase}
use Rattle.splice_jump.specs.Jump.{five_at, displacement, jump_bytes, with_old, after_old}
use Rattle.splice_jump.specs.Jumps.{jumped, jumped_memory, IsSpliced, AreSpliced}
use Rattle.splice_jump.specs.Phases.{phase_bytes, open_home, AreNotLookedAt, HomesAreNotLookedAt}
use Rattle.splice_jump.specs.laws.CodeLaws.{ends_below}
use Rattle.update_stack.specs.AbstractMachine.{AbstractMachine, Update, is_home, bodies_in, contents_of, base_of}
use Rattle.update_stack.specs.Steps.{step_in, moved_by, moved}
use Rattle.update_stack.specs.Events.{Step, step_answered, answered, machine_after, after_event}
use Rattle.update_stack.specs.Undo.{newest_update, withdrawn}
use Rattle.update_stack.specs.Stacked.{IsBuilt}
use Rattle.update_stack.specs.StandsFor.{patched}
use Rattle.update_stack.specs.Jumps.{CanJump, jumped_left}
use Rattle.update_stack.specs.Phases.{code_below, old_five, opened_at, opened_in, patched_in, ReplacedOne}
use Rattle.update_stack.specs.Phases.{IsOpenAt}
use Rattle.update_stack.specs.PhaseSteps.{StepsStandIn, OpenHomesLeadOn}
use Rattle.update_stack.specs.laws.StackedLaws.{built_sound}
use Rattle.update_stack.specs.laws.StepLaws.{by_step}
use Rattle.update_stack.specs.laws.ViewLaws.{home_row}
use Rattle.update_stack.proofs.TextLaws.{PastOldCode}
use Rattle.update_stack.proofs.BesideLaws.{clear_avoids, five_stays}
use Rattle.update_stack.proofs.CodeLaws.{written_kept}
use Rattle.update_stack.proofs.LockStep.{Decodes, NoSay, NoFaultSay, WrittenCode, CodeHeld, StaysValid, fetched_is}
use Rattle.update_stack.proofs.LockStep.{jump_is_met, jump_carried_out, home_jump, home_spliced}
use Rattle.update_stack.proofs.PhaseLaws.{five_in, length-five_in}
use Rattle.update_stack.proofs.OpenHomeLaws.{replaced_home, patched_spliced, patched_views}
use Rattle.update_stack.proofs.ReachedLaws.{home_of_row, home_met, home_left}
use Rattle.update_stack.proofs.StepLaws.{AllSteps}
use Rattle.update_stack.proofs.TraceLaws.{LeavesViews, LeavesHomes, five_fetched}

-- the laws of other crates that are used here
pub record OpenLaws : Type 0 where
  pub say : NoSay
  pub faults : NoFaultSay
  pub code : WrittenCode
  pub held : CodeHeld
  pub looks : HomesAreNotLookedAt
  pub old : PastOldCode
  pub valid : StaysValid
  pub homes : LeavesHomes
  pub views : LeavesViews
  pub steps : AllSteps

-- ---- memory in which other bytes stand at a home: what is known of them
record IsOpenable (memory : Contents) (home : ℕ) (five : List ℕ) : Type 0 where
  valid : IsValid memory
  code : HasCode memory.pieces home 5
  count : length five ≡ 5
  same : SameData (with_old home five memory.pieces) memory.pieces
  looks : AreNotLookedAt memory home five

module _ (laws : OpenLaws) (memory : Contents) (home : ℕ) (five : List ℕ) (is : IsOpenable memory home five)
    (thread : Thread) where
  abbrev opened : Contents
  opened = after_old memory home five

  -- what a step leaves, with the other bytes at the home
  abbrev left_over : Left → Left
  left_over left = record left { contents = after_old left.contents home five }

  -- where the same is fetched, as elsewhere than at the home,
  abbrev FetchesAlike : Type 0
  FetchesAlike = window_at opened thread.pc ≡ window_at memory thread.pc

  same_window : thread.pc ≢ home → (view_at memory thread.pc ≡ AtHome → IsSpliced memory thread.pc) → FetchesAlike
  unfolding window_at
  same_window other homes =
      ap (λ (met : View). window_for met (jump_at opened.pieces thread.pc)) (is.looks.views thread.pc)
      ∙ by_met (view_at memory thread.pc) homes
    where
      by_met : (met : View) → (met ≡ AtHome → IsSpliced memory thread.pc)
          → window_for met (jump_at opened.pieces thread.pc) ≡ window_for met (jump_at memory.pieces thread.pc)
      by_met Unmapped homes = refl
      by_met AtHome homes = ap (window_for AtHome) (is.looks.jumps thread.pc (homes refl) other)
      by_met Stray homes = refl
      by_met (Bytes code) homes = refl

  -- an instruction does the same,
  same_change : FetchesAlike → next_change opened thread ≡ next_change memory thread
  unfolding next_change
  same_change window =
      ap (change_in opened.pieces (context_of thread)) window ∙ by_window (window_at memory thread.pc)
    where
      by_window : (w : Result Window Fault)
          → change_in opened.pieces (context_of thread) w ≡ change_in memory.pieces (context_of thread) w
      by_window (Err fault) = refl
      by_window (Ok w) = laws.say opened.pieces memory.pieces is.same (context_of thread) (decoded_from (fetched w))

  -- a step leaves the same with the other bytes,
  store_over : (store : Option Store) → store_fault memory store ≡ None
      → after_store opened store ≡ after_old (after_store memory store) home five
  store_over None clear = refl
  store_over (Some s) clear =
      ap (λ (ps : List Piece). let c : Contents = record memory { pieces = ps } in c)
      (sym (laws.old memory home s.address five (spelled s.width s.value) is.valid
      (subst (HasCode memory.pieces home) (sym is.count) is.code)
      (ap (first_fault (write_fault memory.pieces) s.address) (length-spelled s.width s.value) ∙ clear)))

  barred_over : (fault : Option Fault) (change : _) (left : Left) → left ≡ unless_barred fault memory thread change
      → store_fault memory change.store ≡ fault → unless_barred fault opened thread change ≡ left_over left
  barred_over (Some fault) change left leaves is = ap left_over (sym leaves)
  barred_over None change left leaves is =
      ap (λ (after : Contents). let l : Left = record {
        contents = after;
        thread = resumed thread change.context;
        outcome = Moved change.flow;
      } in l)
      (store_over change.store is)
      ∙ ap left_over (sym leaves)

  done_over : (change : Result _ Fault) → done opened thread change ≡ left_over (done memory thread change)
  done_over (Err fault) = refl
  done_over (Ok change) =
      ap (λ (f : Option Fault). unless_barred f opened thread change) (laws.faults opened memory is.same change.store)
      ∙ barred_over (store_fault memory change.store) change (done memory thread (Ok change)) refl refl

  step_over : FetchesAlike → stepped opened thread ≡ left_over (stepped memory thread)
  unfolding stepped
  step_over window = by_end (thread.pc == 0xFFFF_0000)
    where
      by_end : (ends : Bool)
          → (if ends then exits opened thread else done opened thread (next_change opened thread))
          ≡ left_over (if ends then exits memory thread else done memory thread (next_change memory thread))
      by_end true = refl
      by_end false = ap (done opened thread) (same_change window) ∙ done_over (next_change memory thread)

  -- and the same is told of it
  stored_over : FetchesAlike → stored opened thread ≡ stored memory thread
  unfolding stored
  stored_over window =
      ap (λ (s : Option Store). if thread.pc == 0xFFFF_0000 then None else s)
      (ap (store_of opened) (same_change window) ∙ by_change (next_change memory thread))
    where
      by_change : (change : Result _ Fault) → store_of opened change ≡ store_of memory change
      by_change (Err fault) = refl
      by_change (Ok change) =
          ap (λ (f : Option Fault). store_unless f change.store) (laws.faults opened memory is.same change.store)

  fetched_over : FetchesAlike → fetched_count opened thread ≡ fetched_count memory thread
  unfolding fetched_count
  fetched_over window =
      ap (λ (w : Result Window Fault). if thread.pc == 0xFFFF_0000 then 0 else window_length w) window

-- ---- the home that is open
pub row_at_open : (k : AbstractMachine) (home : ℕ) → IsBuilt k → ReplacedOne k home → is_home k.table home ≡ true
row_at_open k home built replaced = (replaced_home k home built replaced).has_row

-- the law: there the machine's step goes on at the newest version
pub leads_on : OpenHomesLeadOn
leads_on phase k thread built opened is =
    home_left k thread.pc (base_of k thread.pc) (built_sound k built)
    (row_at_open k thread.pc built (subst (λ (o : Option ℕ). IfSome o (ReplacedOne k)) is opened)) refl thread refl

-- the bytes that stand there without the update are the same after a step
old_is : (k : AbstractMachine) (home : ℕ) (update : Update) → newest_update k ≡ Some update
    → old_five k home ≡ five_at (jumped (bodies_in (withdrawn k update).table) k.pieces) home
unfolding old_five
old_is k home update newest = ap (λ (o : Option Update). five_at (code_below k o) home) newest

old_stays : (k : AbstractMachine) (home : ℕ) (thread : Thread) (threads : List Thread) → IsBuilt k
    → ReplacedOne k home
    → old_five (record k { pieces = (step_in k thread).contents.pieces; threads = threads }) home ≡ old_five k home
unfolding withdrawn
old_stays k home thread threads built replaced =
    let update = replaced.update in
    let sound = built_sound k built in
    let rows = bodies_in (withdrawn k update).table in
    let five : List Piece → List ℕ = λ ps. five_at (jumped rows ps) home in
    let after : AbstractMachine = record k { pieces = (step_in k thread).contents.pieces; threads = threads } in
    let same : five (step_in k thread).contents.pieces ≡ five k.pieces =
    by_step (λ (c : Contents). five c.pieces ≡ five k.pieces) k refl
    (λ start bytes clear. five_stays (contents_of k) start bytes rows home sound.jumps.valid
    (clear_avoids (contents_of k) start (length bytes) sound.jumps.valid clear)
    (home_of_row k home sound (row_at_open k home built replaced)).code) thread in
    old_is after home update replaced.newest ∙ same ∙ sym (old_is k home update replaced.newest)

-- ---- a step in each phase, beside that over the memory with all the jumps
module _ (laws : OpenLaws) (phase : Phase) (k : AbstractMachine) (built : IsBuilt k) where
  open_spliced : (home : ℕ) → ReplacedOne k home → IsSpliced (patched k) home
  open_spliced home replaced =
      patched_spliced laws.homes k home (built_sound k built).jumps (row_at_open k home built replaced)

  homes_spliced : (pc : ℕ) → view_at (patched k) pc ≡ AtHome → IsSpliced (patched k) pc
  unfolding patched
  homes_spliced pc met =
      let can = (built_sound k built).jumps in
      let rows = bodies_in k.table in
      home_spliced k (patched k) pc can.spliced (laws.homes (contents_of k) rows rows can.spliced)
      (sym (laws.views (contents_of k) rows pc can.valid can.spliced) ∙ met)

  openable : (home : ℕ) → ReplacedOne k home → IsOpenable (patched k) home (five_in phase k home)
  unfolding patched
  openable home replaced =
      let five = five_in phase k home in
      let count = length-five_in phase k home in
      let valid = laws.valid (contents_of k) (bodies_in k.table) (built_sound k built).jumps.valid in
      let spliced = open_spliced home replaced in
      record {
        valid = valid;
        code = spliced.code;
        count = count;
        same =
            laws.code (patched k).pieces home five valid.placed
            (λ a low high. laws.held (patched k) home 5 a valid spliced.code low
            (subst (λ (n : ℕ). a < home + n) count high));
        looks = laws.looks (patched k) home five valid spliced count;
      }

  -- no home is open at which a thread stands
  abbrev pub IsAway : Option ℕ → Thread → Type 0
  IsAway o thread = IfSome o (λ home. thread.pc ≢ home)

  -- what a step leaves, with the phase's bytes
  abbrev pub left_in : Option ℕ → Left → Left
  left_in o left = record left { contents = opened_at phase k left.contents o }

  -- what is told of a step, and what it leaves, over the memory of the phase
  pub record IsAlike (o : Option ℕ) (thread : Thread) : Type 0 where
    pub left : stepped (opened_at phase k (patched k) o) thread ≡ left_in o (stepped (patched k) thread)
    pub told : stored (opened_at phase k (patched k) o) thread ≡ stored (patched k) thread
    pub count : fetched_count (opened_at phase k (patched k) o) thread ≡ fetched_count (patched k) thread

  alike_at : (o : Option ℕ) (thread : Thread) → IfSome o (ReplacedOne k) → IsAway o thread → IsAlike o thread
  alike_at None thread replaced away = record { left = refl; told = refl; count = refl }
  alike_at (Some home) thread replaced away =
      let five = five_in phase k home in
      let is = openable home replaced in
      let window = same_window laws (patched k) home five is thread away (homes_spliced thread.pc) in
      record {
        left = step_over laws (patched k) home five is thread window;
        told = stored_over laws (patched k) home five is thread window;
        count = fetched_over laws (patched k) home five is thread window;
      }

  pub alike_in : (thread : Thread) → IsOpenAt phase k → IsAway (open_home phase) thread
      → IsAlike (open_home phase) thread
  alike_in thread opened away = alike_at (open_home phase) thread opened away

  -- the phase's bytes are the same after a step
  opened_stays : (o : Option ℕ) (thread : Thread) (threads : List Thread) (contents : Contents)
      → IfSome o (ReplacedOne k)
      → opened_at phase (record k { pieces = (step_in k thread).contents.pieces; threads = threads }) contents o
      ≡ opened_at phase k contents o
  opened_stays None thread threads contents replaced = refl
  opened_stays (Some home) thread threads contents replaced =
      ap (λ (old : List ℕ). after_old contents home (phase_bytes phase home (base_of k home) old))
      (old_stays k home thread threads built replaced)

-- the retired ranges of the machine stay at a step
same_fences : (k : AbstractMachine) (thread : Thread) → (step_in k thread).contents.fences ≡ (contents_of k).fences
same_fences k thread =
    by_step (λ (c : Contents). c.fences ≡ (contents_of k).fences) k refl (λ start bytes clear. refl) thread

-- the law: so the thread steps as on the machine
pub stands_in : OpenLaws → StepsStandIn
unfolding patched
stands_in laws phase k thread built opened away =
    let rows = bodies_in k.table in
    let left = step_in k thread in
    let after : AbstractMachine = record k { pieces = left.contents.pieces } in
    let same : left.contents ≡ contents_of after =
    ap (λ (fences : List Fence). let c : Contents = record { pieces = left.contents.pieces; fences = fences } in c)
    (same_fences k thread) in
    (alike_in laws phase k built thread opened away).left
    ∙ ap (left_in laws phase k built (open_home phase)) (laws.steps k thread (built_sound k built).jumps)
    ∙ ap (λ (c : Contents). let l : Left = record left { contents = opened_in phase k (jumped_memory rows c) } in l)
    same
    ∙ ap (λ (c : Contents). let l : Left = record left { contents = c } in l)
    (sym (opened_stays laws phase k built (open_home phase) thread k.threads (patched after) opened))

-- ---- at the open home the jump of the memory with all the jumps writes nothing, and has five bytes
abbrev pub JumpsStand : Type 0
JumpsStand = (contents : Contents) (rows : List (ℕ × ℕ)) → IsValid contents → AreSpliced contents rows
    → All (λ row. jump_at (jumped rows contents.pieces) row.0 ≡ jump_bytes row.0 row.1) rows

pub record JumpLaws : Type 0 where
  pub decodes : Decodes
  pub stand : JumpsStand
  pub homes : LeavesHomes
  pub views : LeavesViews
  pub steps : AllSteps

module _ (laws : JumpLaws) (k : AbstractMachine) (thread : Thread) (built : IsBuilt k)
    (row : is_home k.table thread.pc ≡ true) where
  abbrev can : CanJump k
  can = (built_sound k built).jumps

  -- what stands there
  abbrev jump : ℕ → List ℕ
  jump pc = jump_at (jumped (bodies_in k.table) k.pieces) pc

  is_met : view_at (patched k) thread.pc ≡ AtHome
  is_met = patched_views laws.views k thread.pc can ∙ home_met k thread.pc (built_sound k built) row

  runs : (thread.pc == 0xFFFF_0000) ≡ false
  runs =
      let low = ends_below (contents_of k) thread.pc 5 can.valid (omega arith)
      (home_of_row k thread.pc (built_sound k built) row).code in
      ne_eqb thread.pc 0xFFFF_0000 (λ ended. absurd (omega (arith, ended, low)))

  change_there : next_change (patched k) thread
      ≡ Ok (goes_on (at_address (above (above thread.pc 5) (displacement thread.pc (base_of k thread.pc)))
      (context_of thread)))
  unfolding next_change window_at patched
  change_there =
      let pieces = (patched k).pieces in
      let context = context_of thread in
      let base = base_of k thread.pc in
      ap (λ (met : View). change_in pieces context (window_for met (jump thread.pc))) is_met
      ∙ ap (λ (bytes : List ℕ). change_by pieces context (decoded_from bytes))
      (fetched_is (jump thread.pc)
      ∙ (home_jump k thread.pc (laws.stand (contents_of k) (bodies_in k.table) can.valid can.spliced) can.low row).0)
      ∙ ap (λ (decoded : Option Decoded). change_by pieces context decoded) (jump_is_met laws.decodes thread.pc base)
      ∙ jump_carried_out pieces context (displacement thread.pc base)

  pub nothing_stored : stored (patched k) thread ≡ None
  unfolding stored
  nothing_stored =
      ap (λ (change : Result _ Fault). if thread.pc == 0xFFFF_0000 then None else store_of (patched k) change)
      change_there
      ∙ ap (λ (ends : Bool). let none : Option Store = None in if ends then none else none) runs

  pub five_counted : fetched_count (patched k) thread ≡ 5
  unfolding fetched_count window_at patched
  five_counted =
      let rows = bodies_in k.table in
      let spliced = home_row k.table thread.pc (λ row. IsSpliced (patched k) row.0)
      (laws.homes (contents_of k) rows rows can.spliced).each row in
      ap (λ (ends : Bool). if ends then 0 else window_length (window_at (patched k) thread.pc)) runs
      ∙ ap (λ (met : View). window_length (window_for met (jump thread.pc))) is_met
      ∙ five_fetched (patched k) thread.pc spliced

  -- and the thread goes on at the newest version, in the same memory
  pub left_there : stepped (patched k) thread
      ≡ left_by (patched k) (record thread { pc = base_of k thread.pc }) (Moved Plain)
  unfolding patched
  left_there =
      laws.steps k thread can
      ∙ ap (jumped_left (bodies_in k.table))
      (home_left k thread.pc (base_of k thread.pc) (built_sound k built) row refl thread refl)

-- ---- code stays code in each phase, whose bytes are the same after a step
same_five : (phase : Phase) (k : AbstractMachine) (number home : ℕ) → IsBuilt k → ReplacedOne k home
    → five_in phase (after_event k (Step number)) home ≡ five_in phase k home
unfolding after_event answered moved
same_five phase k number home built replaced = by_thread (running_at k.threads number)
  where
    by_thread : (o : Option Thread)
        → five_in phase (machine_after k (step_answered (moved_by k number o))) home ≡ five_in phase k home
    by_thread None = refl
    by_thread (Some thread) =
        ap (phase_bytes phase home (base_of k home))
        (old_stays k home thread (set k.threads number (step_in k thread).thread) built replaced)

pub phase_code_kept : (phase : Phase) (k : AbstractMachine) (number : ℕ) → IsBuilt k → IsOpenAt phase k
    → KeepsCode (patched k).pieces (patched (after_event k (Step number))).pieces
    → KeepsCode (patched_in phase k).pieces (patched_in phase (after_event k (Step number))).pieces
phase_code_kept phase k number built opened keeps = by_home (open_home phase) opened
  where
    after : AbstractMachine
    after = after_event k (Step number)

    by_home : (o : Option ℕ) → IfSome o (ReplacedOne k)
        → KeepsCode (opened_at phase k (patched k) o).pieces (opened_at phase after (patched after) o).pieces
    by_home None replaced = keeps
    by_home (Some home) replaced =
        let five = five_in phase k home in
        subst (λ (bytes : List ℕ). KeepsCode (with_old home five (patched k).pieces)
        (with_old home bytes (patched after).pieces)) (sym (same_five phase k number home built replaced))
        (written_kept home five (patched k).pieces (patched after).pieces keeps)
