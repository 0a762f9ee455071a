-- A thread's step in any phase: the program does what the machine does, as the same program does with all its jumps.
use Rattle.std.proofs.Common.{◌≡◌, ◌≢◌, ℕ, ◌-◌, ◌<◌, true, List, [], ◌∷◌, map, length, get_or, set, Option, Some, None, IfSome}
use Rattle.std.proofs.Common.{IsSomeAnd, Result, Ok, Err, MatchResult, IfOk, OnErr, refl, sym, ◌∙◌, ap, subst, arith}
use Rattle.std.specs.Option.{option_map}
use Rattle.std.specs.List.{All, last_or}
use Rattle.std.proofs.lemmas.Bool.{eqb-true}
use Rattle.std.proofs.lemmas.List.Elements.{All-head}
use Rattle.ks_base.specs.declared.refusals.Refusal.{Refusal}
use Rattle.ks_base.specs.declared.reports.Replaced.{Replaced}
use Rattle.image_memory.specs.Contents.{Contents}
use Rattle.ia32_step.specs.declared.types.Flow.TheVariants.{Plain}
use Rattle.ia32_step.specs.declared.types.Outcome.{Outcome}
use Rattle.ia32_step.specs.declared.types.Outcome.TheVariants.{Moved}
use Rattle.ia32_step.specs.declared.types.Store.{Store}
use Rattle.ia32_step.specs.declared.types.Thread.{Thread}
use Rattle.ia32_step.specs.declared.types.Traced.{Traced}
use Rattle.ia32_step.specs.Step.{Left, left_by, stepped, store_fault, after_store, stored, fetched_count}
use Rattle.image_threads.specs.Program.{Program, running_at}
use Rattle.image_threads.specs.Stepping.{continued, moved_by, moved, sent_by, sent}
use Rattle.splice_jump.specs.declared.phase.Phase.{Phase}
use Rattle.splice_jump.specs.Phases.{open_home}
use Rattle.update_stack.specs.declared.updates.Arena.{Arena}
use Rattle.update_stack.specs.declared.updates.Update.{Update as Shown}
use Rattle.update_stack.specs.declared.updates.Kept.{Kept}
use Rattle.update_stack.specs.AbstractMachine.{AbstractMachine, base_of, shown_update}
use Rattle.update_stack.specs.StandsFor.{Seen, patched}
use Rattle.update_stack.specs.Phases.{opened_in, patched_in, home_replaced, ReplacedOne}
use Rattle.update_stack.specs.Systems.{live_updates, machine_of, HoldsIn}
use Rattle.update_stack.specs.Uncovered.{LeadsThere}
use Rattle.update_stack.specs.inside.Stepping.{ComesOfStep, StandsOpen, StandsAway, is_at}
use Rattle.update_stack.specs.laws.StackedLaws.{built_newest}
use Rattle.update_stack.proofs.HoldsLaws.{Laws, shown_again}
use Rattle.update_stack.proofs.OpenStepLaws.{OpenLaws, JumpLaws, alike_in, left_in, row_at_open}
use Rattle.update_stack.proofs.OpenStepLaws.{nothing_stored, five_counted, left_there}
use Rattle.update_stack.proofs.PhaseLaws.{sealed, sealed_same, sealing, reopen}
use Rattle.update_stack.proofs.StepLaws.{AllSteps}
use Rattle.update_stack.proofs.TraceLaws.{LeavesViews, LeavesHomes, step_keeps, step_comes}
use Rattle.update_stack.proofs.UncoveredLaws.{newest_leads}

-- ---- the base of the home that is open, as the newest update's report tells it
last_mapped : {X Y : Type 0} (f : X → Y) (o : Option X) (xs : List X)
    → last_or (option_map f o) (map f xs) ≡ option_map f (last_or o xs)
last_mapped f o [] = refl
last_mapped f o (x ∷ xs) = last_mapped f (Some x) xs

last_found : {X : Type 0} (xs : List X) (y x d : X) → last_or (Some y) xs ≡ Some x → get_or (y ∷ xs) (length xs) d ≡ x
last_found [] y x d is = cc
last_found (z ∷ zs) y x d is = last_found zs z x d is

last_got : {X : Type 0} (xs : List X) (x d : X) → last_or None xs ≡ Some x → get_or xs (length xs - 1) d ≡ x
last_got [] x d is = absurd (cc)
last_got (y ∷ ys) x d is =
    let short : length (y ∷ ys) - 1 ≡ length ys = omega arith in
    ap (λ (n : ℕ). get_or (y ∷ ys) n d) short ∙ last_found ys y x d is

-- the one function that an update replaced
pub record TellsBase (k : AbstractMachine) (home : ℕ) (replaced : List Replaced) : Type 0 where
  pub full : 0 < length replaced
  pub base : (d : Replaced) → (get_or replaced 0 d).base ≡ base_of k home

tells_one : (k : AbstractMachine) (home : ℕ) (replaced : List Replaced) → map home_replaced replaced ≡ home ∷ []
    → All (LeadsThere k) replaced → TellsBase k home replaced
tells_one k home [] is leads = absurd (cc)
tells_one k home (one ∷ rest) is leads =
    let same : one.home ≡ home = cc in
    let leads_there : base_of k one.home ≡ one.base = All-head (LeadsThere k) one rest leads in
    record { full = omega arith; base = λ d. sym leads_there ∙ ap (base_of k) same }

module _ (phase : Phase) (program : Program) (arena : Arena) (updates : List Shown) (kept : List Kept)
    (holds : HoldsIn phase program arena updates kept) where
  abbrev k : AbstractMachine
  k = machine_of program arena updates kept

  pub tells_base : (home : ℕ) → open_home phase ≡ Some home → (shown : List Shown) (n : ℕ) (d : Shown)
      (replaced : List Replaced) → shown ≡ updates → n ≡ length updates
      → replaced ≡ (get_or shown (n - 1) d).report.replaced → TellsBase k home replaced
  tells_base home is shown n d replaced same long told =
      let one : ReplacedOne k home = subst (λ (o : Option ℕ). IfSome o (ReplacedOne k)) is holds.opened in
      let update = one.update in
      let newest : last_or None updates ≡ Some (shown_update update) =
      ap (last_or None) (sym (shown_again updates kept holds.paired))
      ∙ last_mapped shown_update None (live_updates updates kept) ∙ ap (option_map shown_update) one.newest in
      let last : get_or shown (n - 1) d ≡ shown_update update =
      ap (λ (us : List Shown). get_or us (n - 1) d) same ∙ ap (λ (m : ℕ). get_or updates (m - 1) d) long
      ∙ last_got updates (shown_update update) d newest in
      subst (TellsBase k home) (sym (told ∙ ap (λ (u : Shown). u.report.replaced) last))
      (tells_one k home update.report.replaced one.only
      (newest_leads k update (built_newest k update holds.built one.newest).top))

  -- where the running thread of a number stands at that home
  pub stands_open : (n home base : ℕ) → open_home phase ≡ Some home → (threads : List Thread)
      → threads ≡ program.threads → is_at home (running_at threads n) ≡ true → base ≡ base_of k home
      → StandsOpen phase k n base
  stands_open n home base opened threads same there newest =
      by_thread (running_at program.threads n) refl
      (sym (ap (λ (ts : List Thread). is_at home (running_at ts n)) same) ∙ there)
    where
      by_thread : (o : Option Thread) → running_at program.threads n ≡ o → is_at home o ≡ true
          → StandsOpen phase k n base
      by_thread None found at = absurd (cc)
      by_thread (Some running) found at =
          let pc : running.pc ≡ home = eqb-true running.pc home at in
          record {
            running = running;
            found = found;
            opened = opened ∙ ap (λ (a : ℕ). Some a) (sym pc);
            newest = newest ∙ ap (base_of k) (sym pc);
          }

  -- a thread that stands there can be sent on
  pub is_sent : (n base : ℕ) (refusal : Refusal) → StandsOpen phase k n base → sent program n base ≡ Err refusal → ⊥
  unfolding sent
  is_sent n base refusal stands is =
      let found : sent_by program n base (Some stands.running) ≡ Err refusal =
      sym (ap (sent_by program n base) stands.found) ∙ is in
      cc

-- what is told of a step at the open home
abbrev pub traced_on : Outcome → Traced
traced_on outcome = record { outcome = outcome; store = None; fetched = 5 }

-- ---- the laws of other crates that are used here
pub record WriteLaws : Type 0 where
  pub clear : (contents : Contents) (thread : Thread) → store_fault contents (stored contents thread) ≡ None
  pub all : (contents : Contents) (thread : Thread)
      → (stepped contents thread).contents ≡ after_store contents (stored contents thread)

module _ (laws : Laws) (steps : AllSteps) (views : LeavesViews) (homes : LeavesHomes) (phase : Phase) (arena : Arena)
    (updates : List Shown) (kept : List Kept) where
  abbrev machine : Program → AbstractMachine
  machine program = machine_of program arena updates kept

  abbrev whole : Program → Program
  whole program = sealed phase arena updates kept program

  -- The program's step, as that of the same program with all its jumps: what this comes to, with the phase's bytes.
  record StepsWhole (old new : Program) (n : ℕ) (traced : Traced) : Type 0 where
    after : Program
    steps_on : moved (whole old) n ≡ Ok (after, traced.outcome)
    is : new ≡ record after { contents = opened_in phase (machine old) after.contents }
    wrote : after.contents ≡ after_store (patched (machine old)) traced.store
    clear : store_fault (patched (machine old)) traced.store ≡ None
    told : IsSomeAnd (running_at old.threads n) (λ running. traced.store ≡ stored (patched (machine old)) running)
    count : IsSomeAnd (running_at old.threads n)
        (λ running. traced.fetched ≡ fetched_count (patched (machine old)) running)

  -- the system after a step
  pub record Comes (old new : Program) (n : ℕ) (result : Result Traced Refusal) : Type 0 where
    pub holds : HoldsIn phase new arena updates kept
    pub comes : ComesOfStep (machine old) (machine new) n result

  comes_whole : (old new : Program) (n : ℕ) (traced : Traced) → HoldsIn phase old arena updates kept
      → StepsWhole old new n traced → Comes old new n (Ok traced)
  comes_whole old new n traced holds one =
      let before = whole old in
      let holds_before = sealing phase arena updates kept old holds in
      let holds_after =
      step_keeps laws steps arena updates kept before one.after n (Ok traced) holds_before one.steps_on tt in
      let again = reopen phase arena updates kept old one.after new holds holds_after one.is in
      let came =
      step_comes laws steps arena updates kept views homes before one.after n (Ok traced) holds_before one.steps_on
      one.wrote one.clear one.told one.count tt in
      record {
        holds = again.0;
        comes =
            subst (λ (m : AbstractMachine). ComesOfStep m (machine new) n (Ok traced))
            (sealed_same phase arena updates kept old holds)
            (subst (λ (m : AbstractMachine). ComesOfStep (machine before) m n (Ok traced)) (sym again.1) came);
      }

  -- no running thread has the number
  comes_refused : (old new : Program) (n : ℕ) (refusal : Refusal) → HoldsIn phase old arena updates kept
      → moved (whole old) n ≡ Err refusal → new ≡ old → Comes old new n (Err refusal)
  comes_refused old new n refusal holds is same =
      let before = whole old in
      let came =
      step_comes laws steps arena updates kept views homes before before n (Err refusal)
      (sealing phase arena updates kept old holds) is tt tt tt tt refl in
      subst (λ (p : Program). Comes old p n (Err refusal)) (sym same)
      (record {
        holds = holds;
        comes =
            subst (λ (m : AbstractMachine). ComesOfStep m m n (Err refusal))
            (sealed_same phase arena updates kept old holds) came;
      })

  memory_in : (old : Program) → HoldsIn phase old arena updates kept → old.contents ≡ patched_in phase (machine old)
  memory_in old holds = ap (λ (s : Seen). s.contents) holds.stands

  -- ---- a thread that doesn't stand at the open home
  away_steps : OpenLaws → WriteLaws → (old new : Program) (n : ℕ) (traced : Traced) → HoldsIn phase old arena updates kept
      → StandsAway phase old.threads n → moved old n ≡ Ok (new, traced.outcome)
      → IsSomeAnd (running_at old.threads n) (λ running. traced.store ≡ stored old.contents running)
      → IsSomeAnd (running_at old.threads n) (λ running. traced.fetched ≡ fetched_count old.contents running)
      → StepsWhole old new n traced
  unfolding moved
  away_steps opens writes old new n traced holds away is told count =
      by_thread (running_at old.threads n) refl away is told count
    where
      k : AbstractMachine
      k = machine old

      by_thread : (o : Option Thread) → running_at old.threads n ≡ o
          → IfSome (open_home phase) (λ home. IfSome o (λ running. running.pc ≢ home))
          → moved_by old n o ≡ Ok (new, traced.outcome)
          → IsSomeAnd o (λ running. traced.store ≡ stored old.contents running)
          → IsSomeAnd o (λ running. traced.fetched ≡ fetched_count old.contents running) → StepsWhole old new n traced
      by_thread None at away is told count = absurd (cc)
      by_thread (Some running) at away is told count =
          let memory = memory_in old holds in
          let alike = alike_in opens phase k holds.built running holds.opened away in
          let left = stepped (patched k) running in
          let same : stepped old.contents running ≡ left_in opens phase k holds.built (open_home phase) left =
          ap (λ (c : Contents). stepped c running) memory ∙ alike.left in
          let pair : Program × Outcome =
          (continued old n (stepped old.contents running), (stepped old.contents running).outcome) in
          let came : pair ≡ (new, traced.outcome) = cc in
          let outcome : left.outcome ≡ traced.outcome =
          sym (ap (λ (l : Left). l.outcome) same) ∙ ap (λ (p : Program × Outcome). p.1) came in
          let store : traced.store ≡ stored (patched k) running =
          told ∙ ap (λ (c : Contents). stored c running) memory ∙ alike.told in
          let fetched : traced.fetched ≡ fetched_count (patched k) running =
          count ∙ ap (λ (c : Contents). fetched_count c running) memory ∙ alike.count in
          record {
            after = continued (whole old) n left;
            steps_on =
                ap (moved_by (whole old) n) at
                ∙ ap (λ (o : Outcome). let r : Result (Program × Outcome) Refusal =
                Ok (continued (whole old) n left, o) in r) outcome;
            is = sym (ap (λ (p : Program × Outcome). p.0) came) ∙ ap (continued old n) same;
            wrote = writes.all (patched k) running ∙ ap (after_store (patched k)) (sym store);
            clear = ap (store_fault (patched k)) store ∙ writes.clear (patched k) running;
            told = subst (λ (o : Option Thread). IsSomeAnd o (λ thread. traced.store ≡ stored (patched k) thread))
                (sym at) store;
            count =
                subst (λ (o : Option Thread). IsSomeAnd o (λ thread. traced.fetched ≡ fetched_count (patched k) thread))
                (sym at) fetched;
          }

  not_moved : (old : Program) (n : ℕ) (refusal : Refusal) → moved old n ≡ Err refusal → moved (whole old) n ≡ Err refusal
  unfolding moved
  not_moved old n refusal is = by_thread (running_at old.threads n) is
    where
      by_thread : (o : Option Thread) → moved_by old n o ≡ Err refusal → moved_by (whole old) n o ≡ Err refusal
      by_thread None is = is
      by_thread (Some thread) is = absurd (cc)

  pub away_comes : OpenLaws → WriteLaws → (old new : Program) (n : ℕ) (result : Result Traced Refusal)
      → HoldsIn phase old arena updates kept → StandsAway phase old.threads n
      → MatchResult result (λ traced. moved old n ≡ Ok (new, traced.outcome)) (λ refusal. moved old n ≡ Err refusal)
      → IfOk result (λ traced. IsSomeAnd (running_at old.threads n)
      (λ running. traced.store ≡ stored old.contents running))
      → IfOk result (λ traced. IsSomeAnd (running_at old.threads n)
      (λ running. traced.fetched ≡ fetched_count old.contents running))
      → OnErr result (new ≡ old) → Comes old new n result
  away_comes opens writes old new n (Ok traced) holds away is told count same =
      comes_whole old new n traced holds (away_steps opens writes old new n traced holds away is told count)
  away_comes opens writes old new n (Err refusal) holds away is told count same =
      comes_refused old new n refusal holds (not_moved old n refusal is) same

  -- ---- a thread that stands there
  on_steps : JumpLaws → (old new : Program) (n base : ℕ) (outcome : Outcome) → HoldsIn phase old arena updates kept
      → StandsOpen phase (machine old) n base → sent old n base ≡ Ok (new, outcome)
      → StepsWhole old new n (traced_on outcome)
  unfolding moved sent
  on_steps jumps old new n base outcome holds stands is =
      let k = machine old in
      let running = stands.running in
      let there : Thread = record running { pc = base } in
      let threads = set old.threads n there in
      let after : Program = record (whole old) { threads = threads } in
      let row = row_at_open k running.pc holds.built
      (subst (λ (o : Option ℕ). IfSome o (ReplacedOne k)) stands.opened holds.opened) in
      let found : sent_by old n base (Some running) ≡ Ok (new, outcome) =
      sym (ap (sent_by old n base) stands.found) ∙ is in
      let pair : Program × Outcome = (record old { threads = threads }, Moved Plain) in
      let came : pair ≡ (new, outcome) = cc in
      let left : stepped (patched k) running ≡ left_by (patched k) there (Moved Plain) =
      left_there jumps k running holds.built row
      ∙ ap (λ (pc : ℕ). let t : Thread = record running { pc = pc } in left_by (patched k) t (Moved Plain))
      (sym stands.newest) in
      let none : Option Store = None in
      record {
        after = after;
        steps_on =
            ap (moved_by (whole old) n) stands.found
            ∙ ap (λ (l : Left). let r : Result (Program × Outcome) Refusal =
            Ok (continued (whole old) n l, l.outcome) in r) left
            ∙ ap (λ (o : Outcome). let r : Result (Program × Outcome) Refusal = Ok (after, o) in r)
            (ap (λ (p : Program × Outcome). p.1) came);
        is =
            sym (ap (λ (p : Program × Outcome). p.0) came)
            ∙ ap (λ (c : Contents). let p : Program = record old { contents = c; threads = threads } in p)
            (memory_in old holds);
        wrote = refl;
        clear = refl;
        told = subst (λ (o : Option Thread). IsSomeAnd o (λ thread. none ≡ stored (patched k) thread))
            (sym stands.found) (sym (nothing_stored jumps k running holds.built row));
        count = subst (λ (o : Option Thread). IsSomeAnd o (λ thread. 5 ≡ fetched_count (patched k) thread))
            (sym stands.found) (sym (five_counted jumps k running holds.built row));
      }

  pub on_comes : JumpLaws → (old new : Program) (n base : ℕ) (outcome : Outcome) → HoldsIn phase old arena updates kept
      → StandsOpen phase (machine old) n base → sent old n base ≡ Ok (new, outcome)
      → Comes old new n (Ok (traced_on outcome))
  on_comes jumps old new n base outcome holds stands is =
      comes_whole old new n (traced_on outcome) holds (on_steps jumps old new n base outcome holds stands is)
