-- An update at which functions were run is an update as any other, and then bytes of data differ.
use Rattle.std.proofs.Common.{◌≡◌, ℕ, zero, suc, ◌+◌, List, [], ◌∷◌, IsTrue, Option, Some, None, Result, Ok}
use Rattle.std.proofs.Common.{Err, refl, sym, ◌∙◌, ap, subst, arith}
use Rattle.std.proofs.lemmas.List.Elements.{All-nil, All-cons}
use Rattle.ks_base.specs.declared.places.Range.{Range}
use Rattle.ks_base.specs.declared.refusals.Refusal.{Refusal}
use Rattle.ks_base.specs.declared.reports.Report.{Report}
use Rattle.ks_base.specs.declared.reports.HookRun.{HookRun}
use Rattle.ks_base.specs.declared.reports.HookReport.{HookReport}
use Rattle.i386_reloc.specs.declared.types.Ref.{Ref}
use Rattle.i386_reloc.specs.Sections.{sections_of}
use Rattle.image_file.specs.Fields.{◌>>=◌}
use Rattle.image_memory.specs.Contents.{IsValid, piece_range}
use Rattle.ia32_step.specs.declared.types.State.{State}
use Rattle.ia32_step.specs.declared.types.State.TheVariants.{Running, Exited, Stopped}
use Rattle.ia32_step.specs.declared.types.Thread.{Thread}
use Rattle.image_threads.specs.Spawning.{is_stack}
use Rattle.image_threads.specs.laws.StackLaws.{length-first_bytes}
use Rattle.saved_data.specs.Saved.{CanBePutBack}
use Rattle.update_plan.specs.declared.types.Hook.{Hook}
use Rattle.update_plan.specs.declared.types.Plan.{Plan}
use Rattle.update_stack.specs.declared.updates.HookEnd.{HookEnd}
use Rattle.update_stack.specs.declared.updates.HookEnd.TheVariants.{Returned, Faulted, Unreturned}
use Rattle.update_stack.specs.AbstractMachine.{AbstractMachine, Update, contents_of}
use Rattle.update_stack.specs.Accepted.{AcceptedLieOnTop}
use Rattle.update_stack.specs.Apply.{accepted, applied, committed}
use Rattle.update_stack.specs.Aside.{LeavesAside, AsItWas, AfterStep, AfterSaved, DiffersAside}
use Rattle.update_stack.specs.HookRuns.{fresh_piece, scratch_range, begun_aside, aside_thread, hook_budget, gone_on}
use Rattle.update_stack.specs.HookRuns.{hook_steps, hook_run, Ran, after_hook, all_run, ran_aside}
use Rattle.update_stack.specs.Hooks.{listed_in, report_with, run_listed, run_none, hooked_by, hooked}
use Rattle.update_stack.specs.Hooked.{IsHooked, HooksAreUpdates}
use Rattle.update_stack.specs.Scratch.{after_aside, pieces_but, scratched, unscratched}
use Rattle.update_stack.specs.ScratchLaws.{ScratchComesAndGoes}
use Rattle.update_stack.specs.Stacked.{IsSound, IsBuilt, Untouched, Updated, IsOnTop}
use Rattle.update_stack.specs.Steps.{step_in}
use Rattle.update_stack.specs.Undo.{withdrawn}
use Rattle.update_stack.specs.laws.DataLaws.{DataLaws, aside_differs, data_moved, itself, scratch_gone, stack_stays}
use Rattle.update_stack.specs.laws.StackedLaws.{built_sound}
use Rattle.update_stack.proofs.BuiltLaws.{built_write}
use Rattle.update_stack.proofs.DropScratchLaws.{BytesLeft, dropped, built_left}
use Rattle.update_stack.proofs.LeftLaws.{MemoryStays}
use Rattle.update_stack.proofs.ReachedLaws.{accepted as accepted_is}

-- ---- what runs leave
-- a scratch piece that is set anew can be put back
fresh_fits : (k : AbstractMachine) (base : ℕ) → IsTrue (is_stack k.pieces (scratch_range base))
    → CanBePutBack k.pieces (fresh_piece (scratch_range base) ∷ [])
fresh_fits k base there =
    let Q : Range → Type 0 = λ range. IsTrue (is_stack k.pieces range) in
    let piece = fresh_piece (scratch_range base) in
    let whole : (piece_range piece).high ≡ base + 4096 = length-first_bytes (scratch_range base) 0 (omega arith) in
    let own : Q (piece_range piece) =
    subst (λ (high : ℕ). Q (record { low = base; high = high })) (sym whole) there in
    All-cons Q (piece_range piece) [] own (All-nil Q)

steps_leave : (k : AbstractMachine) (made left : ℕ) (now : AbstractMachine) (thread : Thread) → LeavesAside k now
    → LeavesAside k (hook_steps made left now thread).machine
unfolding hook_steps
steps_leave k made zero now thread before = before
steps_leave k made (suc left) now thread before =
    by_state (step_in now thread).thread.state
    (steps_leave k (made + 1) left (after_aside now (step_in now thread)) (step_in now thread).thread
    (AfterStep now thread before))
  where
    by_state : (state : State)
        → LeavesAside k
        (hook_steps (made + 1) left (after_aside now (step_in now thread)) (step_in now thread).thread).machine
        → LeavesAside k (gone_on (hook_steps (made + 1) left) (made + 1) (after_aside now (step_in now thread))
        (step_in now thread).thread state).machine
    by_state Running rest = rest
    by_state (Exited value) rest = AfterStep now thread before
    by_state (Stopped fault) rest = AfterStep now thread before

module _ (laws : DataLaws) (k : AbstractMachine) (valid : IsValid (contents_of k)) (base : ℕ)
    (there : IsTrue (is_stack k.pieces (scratch_range base))) where
  still_there : (now : AbstractMachine) → LeavesAside k now → IsTrue (is_stack now.pieces (scratch_range base))
  still_there now leaves =
      stack_stays (contents_of k) (contents_of now) (scratch_range base) (aside_differs laws k now valid leaves).differ
      there

  run_leaves : (now : AbstractMachine) (address : ℕ) → LeavesAside k now
      → LeavesAside k (hook_run now base address).machine
  unfolding hook_run
  run_leaves now address before =
      steps_leave k 0 hook_budget (begun_aside now base) (aside_thread base address)
      (AfterSaved now (fresh_piece (scratch_range base) ∷ []) before (fresh_fits now base (still_there now before)))

  all_leave : (hooks : List Hook) (now : AbstractMachine) (runs : List HookRun) (left : Ran) → LeavesAside k now
      → all_run hooks base now runs ≡ Ok left → LeavesAside k left.0
  unfolding all_run
  all_leave [] now runs left before is =
      let first : Ran = (now, runs) in
      let same : first ≡ left = cc in
      subst (λ (ran : Ran). LeavesAside k ran.0) same before
  all_leave (hook ∷ hooks) now runs left before is =
      by_end (hook_run now base hook.address).end
      (λ more goes. all_leave hooks (hook_run now base hook.address).machine more left
      (run_leaves now hook.address before) goes)
      is
    where
      by_end : (end : HookEnd)
          → ((more : List HookRun) → all_run hooks base (hook_run now base hook.address).machine more ≡ Ok left
          → LeavesAside k left.0)
          → after_hook (all_run hooks base) hook runs (hook_run now base hook.address).machine end ≡ Ok left
          → LeavesAside k left.0
      by_end (Returned steps) rest goes = rest _ goes
      by_end (Faulted fault pc) rest goes = absurd cc
      by_end Unreturned rest goes = absurd cc

-- ---- a machine that is built is so without its scratch piece's range, too
abbrev bare : AbstractMachine → AbstractMachine
bare k = record k { scratch = None }

sound_bare : (k : AbstractMachine) → IsSound k → IsSound (bare k)
sound_bare k sound = record {
  jumps = record { valid = sound.jumps.valid; spliced = sound.jumps.spliced; low = sound.jumps.low };
  stacks = sound.stacks;
  arena = sound.arena;
  retired = sound.retired;
  scratch = tt;
}

top_bare : (k : AbstractMachine) (update : Update) → IsOnTop k update → IsOnTop (bare k) update
unfolding withdrawn
top_bare k update top = record {
  table = top.table;
  once = top.once;
  marked = top.marked;
  pieces = top.pieces;
  bases = top.bases;
  retired = top.retired;
  ranges = top.ranges;
  symbols = top.symbols;
  versions = λ i d l. let one = top.versions i d l in record { own = one.own; code = one.code };
  over = top.over;
  name = top.name;
  scratch = tt;
}

withdrawn_bare : (k : AbstractMachine) (update : Update) → withdrawn (bare k) update ≡ bare (withdrawn k update)
unfolding withdrawn
withdrawn_bare k update = refl

built_bare : (k : AbstractMachine) → IsBuilt k → IsBuilt (bare k)
built_bare _ (Untouched k sound none empty unused) = Untouched (bare k) (sound_bare k sound) none empty unused
built_bare _ (Updated k update sound newest top below) =
    Updated (bare k) update (sound_bare k sound) newest (top_bare k update top)
    (subst IsBuilt (sym (withdrawn_bare k update)) (built_bare (withdrawn k update) below))

-- ---- the laws that are used
pub record HookLaws : Type 0 where
  pub data_alone : DataLaws
  pub comes : ScratchComesAndGoes
  pub lies : AcceptedLieOnTop
  pub memory : MemoryStays
  pub bytes : BytesLeft

-- data that are written leave a machine built
built_moved : DataLaws → (k now : AbstractMachine) → IsBuilt k → DiffersAside k now → IsBuilt now
built_moved laws k now built differs =
    data_moved laws IsBuilt (λ m start bytes valid is clear. built_write m start bytes m.threads is) k now
    (built_sound k built).jumps.valid differs built

-- What runs on a scratch piece leave, once that is gone.
record HasRun (k now : AbstractMachine) : Type 0 where
  differs : DiffersAside (bare k) now
  bare_now : now.scratch ≡ None
  built : IsBuilt now

has_run : HookLaws → (k : AbstractMachine) → IsBuilt k → (hooks : List Hook) (ran : Ran) → ran_aside hooks k ≡ Ok ran
    → HasRun k ran.0
unfolding ran_aside scratched
has_run laws k built hooks ran is = by_ready (scratched k) refl is
  where
    by_ran : (ready : AbstractMachine × ℕ) → scratched k ≡ Ok ready → (r : Result Ran Refusal)
        → all_run hooks ready.1 ready.0 [] ≡ r
        → (r >>= λ (left : Ran). let o : Result Ran Refusal = Ok (unscratched left.0, left.1) in o) ≡ Ok ran
        → HasRun k ran.0
    by_ran ready here (Err refusal) runs goes = absurd cc
    by_ran ready here (Ok left) runs goes =
        let last : Ran = (unscratched left.0, left.1) in
        let same : last ≡ ran = cc in
        let came = laws.comes (bare k) ready.0 ready.1 (built_bare k built) refl here in
        let valid = (built_sound ready.0 came.built).jumps.valid in
        let leaves = all_leave laws.data_alone ready.0 valid ready.1 came.stands hooks ready.0 [] left AsItWas runs in
        let differs = aside_differs laws.data_alone ready.0 left.0 valid leaves in
        let range = scratch_range ready.1 in
        let own : left.0.scratch ≡ Some range = ap (λ (m : AbstractMachine). m.scratch) differs.rest ∙ came.scratch in
        let gone : dropped left.0 range ≡ unscratched left.0 =
        ap (λ (o : Option Range). let m : AbstractMachine =
        record left.0 { pieces = pieces_but o left.0.pieces; scratch = None } in m) (sym own) in
        subst (λ (r : Ran). HasRun k r.0) same
        (record {
          differs =
              subst (λ (m : AbstractMachine). DiffersAside m (unscratched left.0)) came.goes
              (scratch_gone laws.data_alone ready.0 left.0 range came.scratch differs);
          bare_now = refl;
          built =
              subst IsBuilt gone
              (built_left laws.memory laws.bytes range left.0
              (built_moved laws.data_alone ready.0 left.0 came.built differs) own);
        })

    by_ready : (r : Result (AbstractMachine × ℕ) Refusal) → scratched k ≡ r
        → (r >>= λ (ready : AbstractMachine × ℕ). all_run hooks ready.1 ready.0 []
        >>= λ (left : Ran). let o : Result Ran Refusal = Ok (unscratched left.0, left.1) in o) ≡ Ok ran
        → HasRun k ran.0
    by_ready (Err refusal) here goes = absurd cc
    by_ready (Ok ready) here goes = by_ran ready here (all_run hooks ready.1 ready.0 []) refl goes

-- ---- the law
scratch_stays : (k : AbstractMachine) (name : List ℕ) (plan : Plan) → (committed k name plan).scratch ≡ k.scratch
unfolding committed
scratch_stays k name plan = refl

abbrev Left : Type 0
Left = AbstractMachine × HookReport

module _ (laws : HookLaws) (k : AbstractMachine) (name pre post : List ℕ) (left : Left) (built : IsBuilt k) where
  abbrev Is : Left → Type 0
  Is answer = IsHooked k answer.0 name pre post answer.1

  by_applied : (r : Result (AbstractMachine × Report) Refusal) → applied k name pre post ≡ r → run_none r ≡ Ok left
      → Is left
  by_applied (Err refusal) here goes = absurd cc
  by_applied (Ok made) here goes =
      let last : Left = (made.0, report_with made.1 []) in
      let same : last ≡ left = cc in
      let it = accepted_is k name pre post made.0 made.1 here in
      subst Is same
      (record {
        made = made.0;
        is_applied = here;
        differs = itself made.0;
        bare = λ none. ap (λ (m : AbstractMachine). m.scratch) (sym it.now_is) ∙ scratch_stays k name it.plan ∙ none;
        built = (laws.lies k made.0 name pre post made.1 built here).built;
      })

  by_ran : (plan : Plan) → applied k name pre post ≡ Ok (committed k name plan, plan.report) → (r : Result Ran Refusal)
      → ran_aside plan.hooks (committed k name plan) ≡ r
      → (r >>= λ (ran : Ran). let o : Result Left Refusal = Ok (ran.0, report_with plan.report ran.1) in o) ≡ Ok left
      → Is left
  by_ran plan here (Err refusal) runs goes = absurd cc
  by_ran plan here (Ok ran) runs goes =
      let last : Left = (ran.0, report_with plan.report ran.1) in
      let same : last ≡ left = cc in
      let made = committed k name plan in
      let has = has_run laws made (laws.lies k made name pre post plan.report built here).built plan.hooks ran runs in
      subst Is same
      (record {
        made = made;
        is_applied = here;
        differs =
            subst (λ (o : Option Range). let m : AbstractMachine = record made { scratch = o } in DiffersAside m ran.0)
            (sym has.bare_now) has.differs;
        bare = λ none. has.bare_now;
        built = has.built;
      })

  by_plan : (r : Result Plan Refusal) → accepted k name pre post ≡ r
      → (r >>= λ (plan : Plan). ran_aside plan.hooks (committed k name plan)
      >>= λ (ran : Ran). let o : Result Left Refusal = Ok (ran.0, report_with plan.report ran.1) in o) ≡ Ok left
      → Is left
  unfolding applied
  by_plan (Err refusal) here goes = absurd cc
  by_plan (Ok plan) here goes =
      by_ran plan
      (ap (λ (r : Result Plan Refusal). r
      >>= λ (p : Plan). let o : Result (AbstractMachine × Report) Refusal = Ok (committed k name p, p.report) in o) here)
      (ran_aside plan.hooks (committed k name plan)) refl goes

  by_list : (r : Result (Option (List Ref)) ℕ) → hooked_by k name pre post r ≡ Ok left → Is left
  unfolding run_listed
  by_list (Err offset) goes = absurd cc
  by_list (Ok None) goes = by_applied (applied k name pre post) refl goes
  by_list (Ok (Some references)) goes = by_plan (accepted k name pre post) refl goes

pub hooks_update : HookLaws → HooksAreUpdates
unfolding hooked
hooks_update laws k now name pre post done built is =
    by_list laws k name pre post (now, done) built (listed_in (sections_of post)) is
