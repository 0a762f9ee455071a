-- New code is reached from the home of the function that it replaces.
use Rattle.std.proofs.Common.{◌≡◌, ◌≢◌, ℕ, zero, suc, ◌-◌, ◌<◌, ◌≤◌, ◌==◌, Bool, true, false, cond, List, [], ◌∷◌}
use Rattle.std.proofs.Common.{map, length, get_or, drop, Option, Some, None, Result, Ok, refl, sym, ◌∙◌, ap, arith}
use Rattle.std.proofs.Common.{subst, ne_eqb}
use Rattle.std.specs.Prelude.{unwrap_or}
use Rattle.std.specs.List.{All, AllPairs, Contains, fold, list_any}
use Rattle.std.proofs.lemmas.Bool.{eq-eqb, false_from_ne_true, or_parts, or_right}
use Rattle.std.proofs.lemmas.List.Elements.{All-nil, All-cons, All-head, All-tail, All-contains, All-map}
use Rattle.std.proofs.lemmas.List.Folds.{list_any_at, list_any_none}
use Rattle.ks_base.specs.declared.places.Range.{Range}
use Rattle.ks_base.specs.declared.refusals.Refusal.{Refusal}
use Rattle.ks_base.specs.declared.reports.Replaced.{Replaced}
use Rattle.ks_base.specs.declared.reports.Report.{Report}
use Rattle.image_file.specs.laws.FieldLaws.{bind_ok, ok_is}
use Rattle.image_memory.specs.declared.types.Kind.{Kind}
use Rattle.image_memory.specs.declared.types.Kind.TheVariants.{Code}
use Rattle.image_memory.specs.declared.types.Piece.{Piece}
use Rattle.image_memory.specs.Ranges.{Ascends, lies_in, MeetsNone}
use Rattle.image_memory.specs.Contents.{Contents, piece_range, fence_range, holding}
use Rattle.image_memory.specs.Changes.{IsPlaceable}
use Rattle.image_memory.specs.Fetch.{View, AtHome, Stray, Bytes, HasCode, is_code, code_in, code_from, seen_in, view}
use Rattle.image_memory.specs.Fetch.{window_of}
use Rattle.image_memory.specs.laws.RangeLaws.{within, each_above, found_here}
use Rattle.image_memory.specs.laws.PutLaws.{All-put}
use Rattle.splice_jump.specs.Jumps.{IsSpliced}
use Rattle.splice_jump.specs.laws.CodeLaws.{code_at, ends_below, not_held_twice}
use Rattle.ia32_step.specs.declared.types.Thread.{Thread}
use Rattle.ia32_step.specs.declared.types.Flow.TheVariants.{Plain}
use Rattle.ia32_step.specs.declared.types.Outcome.TheVariants.{Moved}
use Rattle.ia32_step.specs.Step.{left_by, exits}
use Rattle.stack_scan.specs.Standing.{thread_refusal}
use Rattle.symbol_table.specs.Bodies.{newest}
use Rattle.symbol_solve.specs.Candidates.{Running}
use Rattle.update_memory.specs.Retired.{with_range, with_ranges}
use Rattle.update_plan.specs.declared.types.Plan.{Plan}
use Rattle.update_plan.specs.Addresses.{AreSteps}
use Rattle.update_plan.specs.NewCode.{HasNewCode, BringsNewCode, linked_code}
use Rattle.update_plan.specs.Plan.{planned, unless}
use Rattle.update_plan.specs.Sound.{IsCode, is_replaced_at, AllReplaceNewest, CanBeMade}
use Rattle.update_stack.specs.AbstractMachine.{AbstractMachine, Row, is_home, bodies_in, base_of, view_in, contents_of}
use Rattle.update_stack.specs.AbstractMachine.{with_replaced}
use Rattle.update_stack.specs.Steps.{step_at, step_in}
use Rattle.update_stack.specs.Apply.{running_of, retired_of, gaps_of, planned_in}
use Rattle.update_stack.specs.Apply.{accepted as accepted_plan, committed, applied}
use Rattle.update_stack.specs.Stacked.{IsSound, IsBuilt}
use Rattle.update_stack.specs.Reached.{LeadsTo, AreReached}
use Rattle.update_stack.specs.laws.StackedLaws.{built_sound}
use Rattle.update_stack.specs.laws.TableLaws.{homes_after, homes_spliced}
use Rattle.update_stack.specs.laws.ViewLaws.{home_row}
use Rattle.update_stack.proofs.TableLaws.{all_homes_more, base_over, newest_after}
use Rattle.update_stack.proofs.BuiltLaws.{MemoryLaws, built_commit, pieces_made}
use Rattle.update_stack.proofs.PlaceLaws.{name_is_new}
use Rattle.update_stack.proofs.PlanLaws.{GapsAscend, GapsBelow, GapsApart, SoundPlans, gaps_ascend, plan_found}
use Rattle.update_stack.proofs.PlanLaws.{planned_can, planned_replaces}

-- what is said of plans
abbrev pub CodeIsBrought : Type 0
CodeIsBrought = (running : Running) (retired gaps : List Range) (pre_file post_file : List ℕ) (plan : Plan)
    → Ascends (λ (range : Range). range) 0 gaps → planned running retired gaps pre_file post_file ≡ Ok plan
    → BringsNewCode running gaps pre_file post_file plan

-- ---- what is known of a home and the code that it leads to, by the parts of the machine
pub record IsAt (k : AbstractMachine) (home : ℕ) (piece : Piece) : Type 0 where
  pub has_row : is_home k.table home ≡ true
  pub newest : base_of k home ≡ piece.base
  pub inner : is_home k.table piece.base ≡ false
  pub in_use : list_any (lies_in piece.base) k.retired ≡ false
  pub stands : Contains k.pieces piece
  pub code : piece.kind ≡ Code

-- what is met at a home with a row
seen_home : (homes : ℕ → Bool) (ranges : List Range) (pc : ℕ) (whole : Option (List ℕ))
    → 5 ≤ length (unwrap_or whole []) → homes pc ≡ true → seen_in homes ranges pc whole ≡ AtHome
seen_home homes ranges pc None some is = let none : 5 ≤ 0 = some in absurd (omega arith)
seen_home homes ranges pc (Some code) some is =
    ap (λ (b : Bool). cond b AtHome
    (cond (list_any (lies_in pc) ranges) Stray (Bytes (window_of ranges pc code)))) is

pub home_of_row : (k : AbstractMachine) (home : ℕ) → IsSound k → is_home k.table home ≡ true
    → IsSpliced (contents_of k) home
home_of_row k home sound is =
    home_row k.table home (λ row. IsSpliced (contents_of k) row.0) sound.jumps.spliced.each is

pub home_met : (k : AbstractMachine) (home : ℕ) → IsSound k → is_home k.table home ≡ true → view_in k home ≡ AtHome
unfolding view_in view
home_met k home sound is =
    seen_home (is_home k.table) k.retired home (code_from k.pieces home) (home_of_row k home sound is).code is

-- one step leads on from there
pub home_left : (k : AbstractMachine) (home base : ℕ) → IsSound k → is_home k.table home ≡ true → base_of k home ≡ base
    → (thread : Thread) → thread.pc ≡ home
    → step_in k thread ≡ left_by (contents_of k) (record thread { pc = base }) (Moved Plain)
unfolding step_in
home_left k home base sound is leads thread at =
    let low = ends_below (contents_of k) home 5 sound.jumps.valid (omega arith) (home_of_row k home sound is).code in
    let runs : (thread.pc == 0xFFFF_0000) ≡ false =
    ne_eqb thread.pc 0xFFFF_0000 (λ ended. absurd (omega (arith, ended, at, low))) in
    ap (λ (b : Bool). cond b (exits (contents_of k) thread)
    (step_at (contents_of k) thread (base_of k thread.pc) (view_in k thread.pc))) runs
    ∙ ap (λ (pc : ℕ). step_at (contents_of k) thread (base_of k pc) (view_in k pc)) at
    ∙ ap (λ (met : View). step_at (contents_of k) thread (base_of k home) met) (home_met k home sound is)
    ∙ ap (λ (pc : ℕ). let on : Thread = record thread { pc = pc } in left_by (contents_of k) on (Moved Plain)) leads

-- a piece is the one that holds its base
pub piece_held : (pieces : List Piece) (piece : Piece) → Ascends piece_range 0 pieces → Contains pieces piece
    → holding pieces piece.base ≡ Some piece
piece_held pieces piece ascend (i, less, at) =
    let full = (each_above piece_range 0 pieces i piece ascend less).1 in
    let some : piece.base < (piece_range piece).high =
    subst (λ (p : Piece). (piece_range p).low < (piece_range p).high) at full in
    found_here piece_range 0 pieces piece.base i piece ascend less
    (subst (λ (p : Piece). lies_in piece.base (piece_range p) ≡ true) (sym at)
    (within piece.base (piece_range piece) (omega arith) some))
    ∙ ap (λ (p : Piece). Some p) at

-- the code of a piece at its base
code_of_piece : (pieces : List Piece) (piece : Piece) → Ascends piece_range 0 pieces → Contains pieces piece
    → piece.kind ≡ Code → code_from pieces piece.base ≡ Some piece.bytes
code_of_piece pieces piece ascend there code =
    let here : piece.base - piece.base ≡ 0 = omega arith in
    ap (code_in piece.base) (piece_held pieces piece ascend there)
    ∙ ap (λ (kind : Kind). cond (is_code kind) (Some (drop (piece.base - piece.base) piece.bytes)) None) code
    ∙ ap (λ (n : ℕ). Some (drop n piece.bytes)) here

-- and what is met there
code_met : (k : AbstractMachine) (home : ℕ) (piece : Piece) → IsSound k → IsAt k home piece
    → view_in k piece.base ≡ Bytes (window_of k.retired piece.base piece.bytes)
unfolding view_in view
code_met k home piece sound is =
    let met : View = Bytes (window_of k.retired piece.base piece.bytes) in
    ap (seen_in (is_home k.table) k.retired piece.base)
    (code_of_piece k.pieces piece sound.jumps.valid.placed.ascend is.stands is.code)
    ∙ ap (λ (b : Bool). cond b AtHome (cond (list_any (lies_in piece.base) k.retired) Stray met)) is.inner
    ∙ ap (λ (b : Bool). cond b Stray met) is.in_use

-- so the home leads there
pub leads_by : (k : AbstractMachine) (home : ℕ) (piece : Piece) → IsSound k → IsAt k home piece → LeadsTo k home piece
leads_by k home piece sound is = record {
  met = home_met k home sound is.has_row;
  newest = is.newest;
  step = home_left k home piece.base sound is.has_row is.newest;
  stands = is.stands;
  code = is.code;
  arrives = code_met k home piece sound is;
}

-- and the other way round
seen_at_home : (homes : ℕ → Bool) (ranges : List Range) (pc : ℕ) (whole : Option (List ℕ))
    → seen_in homes ranges pc whole ≡ AtHome → homes pc ≡ true
seen_at_home homes ranges pc None is = absurd cc
seen_at_home homes ranges pc (Some code) is = by_test (homes pc) (list_any (lies_in pc) ranges) is
  where
    by_test : (b c : Bool) → cond b AtHome (cond c Stray (Bytes (window_of ranges pc code))) ≡ AtHome → b ≡ true
    by_test true c same = refl
    by_test false true same = absurd cc
    by_test false false same = absurd cc

seen_bytes : (homes : ℕ → Bool) (ranges : List Range) (pc : ℕ) (whole : Option (List ℕ)) (bytes : List ℕ)
    → seen_in homes ranges pc whole ≡ Bytes bytes
    → (homes pc ≡ false) × (list_any (lies_in pc) ranges ≡ false)
seen_bytes homes ranges pc None bytes is = absurd cc
seen_bytes homes ranges pc (Some code) bytes is = by_test (homes pc) (list_any (lies_in pc) ranges) is
  where
    by_test : (b c : Bool) → cond b AtHome (cond c Stray (Bytes (window_of ranges pc code))) ≡ Bytes bytes
        → (b ≡ false) × (c ≡ false)
    by_test true c same = absurd cc
    by_test false true same = absurd cc
    by_test false false same = (refl, refl)

pub at_by : (k : AbstractMachine) (home : ℕ) (piece : Piece) → LeadsTo k home piece → IsAt k home piece
unfolding view_in view
at_by k home piece leads =
    let clear = seen_bytes (is_home k.table) k.retired piece.base (code_from k.pieces piece.base)
    (window_of k.retired piece.base piece.bytes) leads.arrives in
    record {
      has_row = seen_at_home (is_home k.table) k.retired home (code_from k.pieces home) leads.met;
      newest = leads.newest;
      inner = clear.0;
      in_use = clear.1;
      stands = leads.stands;
      code = leads.code;
    }

-- ---- the newest base of a home, where functions are replaced
pub other_homes : (home base : ℕ) (replaced : List Replaced) → All (λ (one : Replaced). one.home ≢ home) replaced
    → fold (base_over home) base replaced ≡ base
other_homes home base [] apart = refl
other_homes home base (one ∷ more) apart =
    let Differs : Replaced → Type 0 = λ other. other.home ≢ home in
    ap (λ (b : Bool). fold (base_over home) (cond b one.base base) more)
    (ne_eqb one.home home (All-head Differs one more apart))
    ∙ other_homes home base more (All-tail Differs one more apart)

own_home : (replaced : List Replaced) → AllPairs (λ (a b : Replaced). a.home ≢ b.home) replaced → (i : ℕ) (d : Replaced)
    → i < length replaced → (base : ℕ)
    → fold (base_over (get_or replaced i d).home) base replaced ≡ (get_or replaced i d).base
own_home [] once i d less base = absurd (omega arith)
own_home (one ∷ more) once zero d less base =
    ap (λ (b : Bool). fold (base_over one.home) (cond b one.base base) more) (eq-eqb one.home one.home refl)
    ∙ other_homes one.home one.base more
    (λ j e short same. once 0 (suc j) e (omega arith) (omega arith) (sym same))
own_home (one ∷ more) once (suc i) d less base =
    own_home more (λ j n e before short. once (suc j) (suc n) e (omega arith) (omega arith)) i d (omega arith)
    (base_over (get_or more i d).home base one)

-- ---- tests of lists
pub all_false : {X : Type 0} (p : X → Bool) (xs : List X) → list_any p xs ≡ false → All (λ x. p x ≡ false) xs
all_false p [] none = All-nil (λ x. p x ≡ false)
all_false p (x ∷ xs) none =
    let parts = or_parts (p x) (list_any p xs) none in
    All-cons (λ y. p y ≡ false) x xs parts.0 (all_false p xs parts.1)

-- what holds of each of some ranges and of more holds of all of them
pub all_ranges : (P : Range → Type 0) (ranges more : List Range) → All P ranges → All P more
    → All P (with_ranges ranges more)
all_ranges P ranges [] before all = before
all_ranges P ranges (range ∷ more) before all =
    all_ranges P (with_range ranges range) more
    (All-put (λ (r : Range). r) P range ranges (All-head P range more all) before) (All-tail P range more all)

-- ---- a machine on which an update is made
module _ (laws : MemoryLaws) (k : AbstractMachine) (name : List ℕ) (plan : Plan) (built : IsBuilt k)
    (can : CanBeMade (contents_of k) plan) where
  abbrev contents : Contents
  contents = contents_of k

  abbrev replaced : List Replaced
  replaced = plan.report.replaced

  sound : IsSound k
  sound = built_sound k built

  -- no code was there where a piece is added
  module _ (piece : Piece) (new : Contains plan.pieces piece) where
    none_there : (count : ℕ) → 0 < count → HasCode k.pieces piece.base count → ⊥
    none_there count some code =
        let full = (All-contains (λ (p : Piece). IsPlaceable (piece_range p)) plan.pieces piece can.placeable new).0 in
        not_held_twice k.pieces piece piece.base
        (All-contains (λ (p : Piece). MeetsNone piece_range (piece_range p) k.pieces) plan.pieces piece can.alone new)
        (code_at contents piece.base count piece.base sound.jumps.valid code (omega arith) (omega (arith, some)))
        (omega arith) full

    -- so the base is no home, before and after
    other_row : (home : ℕ) → HasCode k.pieces home 5 → (home == piece.base) ≡ false
    other_row home code =
        ne_eqb home piece.base
        (λ same. none_there 5 (omega arith) (subst (λ (a : ℕ). HasCode k.pieces a 5) same code))

    no_home : is_home (fold with_replaced k.table replaced) piece.base ≡ false
    no_home =
        list_any_none (λ (row : Row). row.home == piece.base) (fold with_replaced k.table replaced)
        (all_homes_more (λ home. (home == piece.base) ≡ false) k.table replaced
        (λ i d less. other_row (get_or k.table i d).home
        (homes_spliced contents k.table sound.jumps.spliced i d less).code)
        (λ i d less. other_row (get_or replaced i d).home (can.jumps i d less).code))

    -- and is not retired
    not_retired : (range : Range) → IsCode k.pieces range → lies_in piece.base range ≡ false
    not_retired range code =
        false_from_ne_true (lies_in piece.base range)
        (λ lies. none_there 1 (omega arith) (code piece.base lies))

    none_retired : list_any (lies_in piece.base) (committed k name plan).retired ≡ false
    unfolding committed
    none_retired =
        let Misses : Range → Type 0 = λ range. lies_in piece.base range ≡ false in
        list_any_none (lies_in piece.base) (with_ranges k.retired (map fence_range plan.fences))
        (all_ranges Misses k.retired (map fence_range plan.fences)
        (λ i d less. not_retired (get_or k.retired i d) (sound.retired i d less))
        (All-map Misses fence_range plan.fences
        (λ i d less. not_retired (get_or plan.fences i d).range (can.code i d less))))

    there : Contains (committed k name plan).pieces piece
    unfolding committed
    there =
        subst (λ (pieces : List Piece). Contains pieces piece) (pieces_made contents plan.pieces)
        (laws.pieces_given contents plan.pieces piece new)

    -- the home of a replaced function whose base it begins at leads there
    pub at_commit : (i : ℕ) (d : Replaced) → i < length replaced → (get_or replaced i d).base ≡ piece.base
        → piece.kind ≡ Code → IsAt (committed k name plan) (get_or replaced i d).home piece
    unfolding committed
    at_commit i d less base code =
        let one = get_or replaced i d in
        record {
          has_row =
              homes_after k.table replaced one.home
              ∙ or_right (is_home k.table one.home) (is_replaced_at replaced one.home)
              (list_any_at (λ (other : Replaced). other.home == one.home) replaced i d less
              (eq-eqb one.home one.home refl));
          newest =
              newest_after k.table replaced one.home
              ∙ own_home replaced can.once i d less (newest (bodies_in k.table) one.home) ∙ base;
          inner = no_home;
          in_use = none_retired;
          stands = there;
          code = code;
        }

-- ---- an update that is accepted
pub record IsAccepted (k : AbstractMachine) (name pre_file post_file : List ℕ) (now : AbstractMachine) (report : Report)
    : Type 0 where
  pub plan : Plan
  pub plan_is : planned_in k name pre_file post_file ≡ Ok plan
  pub now_is : committed k name plan ≡ now
  pub report_is : plan.report ≡ report

abbrev carried_out : AbstractMachine → List ℕ → Plan → AbstractMachine × Report
carried_out k name plan = (committed k name plan, plan.report)

by_refusal : (plan clear : Plan) (o : Option Refusal) → unless o plan ≡ Ok clear → plan ≡ clear
by_refusal plan clear (Some refusal) is = absurd cc
by_refusal plan clear None is = ok_is plan clear is

pub accepted : (k : AbstractMachine) (name pre_file post_file : List ℕ) (now : AbstractMachine) (report : Report)
    → applied k name pre_file post_file ≡ Ok (now, report) → IsAccepted k name pre_file post_file now report
unfolding accepted_plan applied
accepted k name pre_file post_file now report is =
    let left : AbstractMachine × Report = (now, report) in
    let (clear, clear_is, made) = bind_ok (accepted_plan k name pre_file post_file)
    (λ (p : Plan). let r : Result (AbstractMachine × Report) Refusal = Ok (carried_out k name p) in r) left is in
    let (plan, plan_is, rest) = bind_ok (planned_in k name pre_file post_file)
    (λ (p : Plan). unless (thread_refusal k.pieces p.guarded k.threads) p) clear clear_is in
    let same = ok_is (carried_out k name clear) left made in
    record {
      plan = clear;
      plan_is =
          plan_is
          ∙ ap (λ (p : Plan). let r : Result Plan Refusal = Ok p in r)
          (by_refusal plan clear (thread_refusal k.pieces plan.guarded k.threads) rest);
      now_is = ap (λ (pair : AbstractMachine × Report). pair.0) same;
      report_is = ap (λ (pair : AbstractMachine × Report). pair.1) same;
    }

-- new code that stands among other pieces, too
abbrev pub code_in_others : (running : Running) (gaps : List Range) (pre_file post_file : List ℕ)
    (steps : AreSteps running gaps pre_file post_file) (pieces others : List Piece) (one : Replaced)
    (text : HasNewCode running gaps pre_file post_file steps pieces one)
    → Contains others (linked_code steps.post steps.placement steps.values text.new.name one.base)
    → HasNewCode running gaps pre_file post_file steps others one
code_in_others running gaps pre_file post_file steps pieces others one text there = record {
  old = text.old;
  new = text.new;
  old_is = text.old_is;
  new_is = text.new_is;
  function = text.function;
  ran_at = text.ran_at;
  found = text.found;
  changed = text.changed;
  code = text.code;
  placed = text.placed;
  stands = there;
}

pub brought : CodeIsBrought → GapsAscend → (k : AbstractMachine) (name pre_file post_file : List ℕ) (plan : Plan)
    → planned_in k name pre_file post_file ≡ Ok plan → BringsNewCode (running_of k) (gaps_of k) pre_file post_file plan
brought codes ascend k name pre_file post_file plan is =
    codes (running_of k) (retired_of k) (gaps_of k) pre_file post_file plan (gaps_ascend ascend k)
    (plan_found k name pre_file post_file plan is)

-- so each function that it replaces is reached
reached_by : MemoryLaws → CodeIsBrought → GapsAscend → (k : AbstractMachine) (name pre_file post_file : List ℕ)
    (plan : Plan) → IsBuilt k → CanBeMade (contents_of k) plan → AllReplaceNewest (bodies_in k.table) plan
    → planned_in k name pre_file post_file ≡ Ok plan
    → AreReached k pre_file post_file (committed k name plan) plan.report
reached_by laws codes ascend k name pre_file post_file plan built can replace is =
    let brings = brought codes ascend k name pre_file post_file plan is in
    let steps = brings.steps in
    let now = committed k name plan in
    let new = name_is_new k name pre_file post_file plan is in
    let sound = built_sound now (built_commit laws k name plan built can new replace) in
    record {
      steps = brings.steps;
      each = λ i d less.
          let one = get_or plan.report.replaced i d in
          let text = brings.each i d less in
          let piece = linked_code steps.post steps.placement steps.values text.new.name one.base in
          let here = at_commit laws k name plan built can piece text.stands i d less refl refl in
          record {
            code = code_in_others (running_of k) (gaps_of k) pre_file post_file brings.steps plan.pieces now.pieces one
                text here.stands;
            leads = leads_by now one.home piece sound here;
          };
    }

pub all_reached : MemoryLaws → CodeIsBrought → SoundPlans → GapsAscend → GapsBelow → GapsApart
    → (k now : AbstractMachine) (name pre_file post_file : List ℕ) (report : Report) → IsBuilt k
    → applied k name pre_file post_file ≡ Ok (now, report) → AreReached k pre_file post_file now report
all_reached laws codes plans ascend below apart k now name pre_file post_file report built is =
    let it = accepted k name pre_file post_file now report is in
    let can = planned_can plans.can ascend below apart k name pre_file post_file it.plan built it.plan_is in
    let replace = planned_replaces plans.replace k name pre_file post_file it.plan built it.plan_is in
    subst (λ (m : AbstractMachine). AreReached k pre_file post_file m report) it.now_is
    (subst (AreReached k pre_file post_file (committed k name it.plan)) it.report_is
    (reached_by laws codes ascend k name pre_file post_file it.plan built can replace it.plan_is))
