-- The runs of listed functions, one after another.
use Rattle.std.proofs.Common.{◌≡◌, ℕ, suc, ◌+◌, ◌≤◌, ◌<◌, List, [], ◌∷◌, ◌++◌, length, map, take, drop, set, get_or}
use Rattle.std.proofs.Common.{append_assoc, IfSome, Option, Some, Result, Ok, refl, sym, ◌∙◌, ap, subst, arith}
use Rattle.std.specs.List.{slice_get}
use Rattle.std.specs.Option.{option_map, unwrap_or}
use Rattle.std.proofs.Math.Seq.{drop-cons, set-append_seam}
use Rattle.std.proofs.lemmas.List.{append-nil, drop_all, length-append, map-append, take_more}
use Rattle.ks_base.specs.declared.refusals.Refusal.{Refusal}
use Rattle.ks_base.specs.declared.reports.HookRun.{HookRun}
use Rattle.update_plan.specs.declared.types.Hook.{Hook}
use Rattle.update_stack.specs.declared.updates.HookEnd.{HookEnd}
use Rattle.update_stack.specs.declared.updates.HookEnd.TheVariants.{Returned}
use Rattle.update_stack.specs.AbstractMachine.{AbstractMachine}
use Rattle.update_stack.specs.Aside.{LeavesAside, AsItWas, AfterStep, AfterSaved}
use Rattle.update_stack.specs.HookRuns.{Ran, after_hook, after_run, all_run, hook_left, hook_run}
use Rattle.apply_hooks.specs.Runs.{waiting, with_steps}

-- what threads that are none of the program's leave, one after another
pub leaves_on : (a b c : AbstractMachine) → LeavesAside a b → LeavesAside b c → LeavesAside a c
leaves_on a b _ first AsItWas = first
leaves_on a b _ first (AfterStep now thread before) = AfterStep now thread (leaves_on a b now first before)
leaves_on a b _ first (AfterSaved now saved before fit) = AfterSaved now saved (leaves_on a b now first before) fit

-- So many functions were run: their runs, those that wait, and what is left to be run.
pub record HasRun (hooks : List Hook) (base : ℕ) (k now : AbstractMachine) (runs : List HookRun) (at : ℕ) : Type 0 where
  pub made : List HookRun
  pub runs_are : runs ≡ made ++ map waiting (drop at hooks)
  pub many : length made ≡ at
  pub rest : all_run (drop at hooks) base now made ≡ all_run hooks base k []

pub none_run : (hooks : List Hook) (base : ℕ) (k : AbstractMachine) (runs : List HookRun) → runs ≡ map waiting hooks
    → HasRun hooks base k k runs 0
none_run hooks base k runs are = record { made = []; runs_are = are; many = refl; rest = refl }

next_hook : (hooks : List Hook) (at : ℕ) (hook : Hook) → at < length hooks → hook ≡ get_or hooks at hook
    → drop at hooks ≡ hook ∷ drop (at + 1) hooks
next_hook hooks at hook less is =
    let on : suc at ≡ at + 1 = omega arith in
    drop-cons hooks at hook less
    ∙ ap (λ (h : Hook). h ∷ drop (suc at) hooks) (sym is)
    ∙ ap (λ (n : ℕ). hook ∷ drop n hooks) on

at_seam : (xs : List HookRun) (y : HookRun) (ys : List HookRun) → slice_get (xs ++ y ∷ ys) (length xs) ≡ Some y
at_seam [] y ys = refl
at_seam (x ∷ xs) y ys = at_seam xs y ys

run_on : (hook : Hook) (hooks : List Hook) (base : ℕ) (k : AbstractMachine) (runs : List HookRun)
    → all_run (hook ∷ hooks) base k runs ≡ after_run (all_run hooks base) hook runs (hook_run k base hook.address)
unfolding all_run
run_on hook hooks base k runs = refl

run_out : (base : ℕ) (k : AbstractMachine) (runs : List HookRun) → all_run [] base k runs ≡ Ok (k, runs)
unfolding all_run
run_out base k runs = refl

module _ (hooks : List Hook) (base : ℕ) (k now : AbstractMachine) (runs : List HookRun) (at : ℕ)
    (has : HasRun hooks base k now runs at) where
  -- after all of them
  pub all_have_run : length hooks ≤ at → Ok (now, runs) ≡ all_run hooks base k []
  all_have_run over =
      let none = drop_all at hooks over in
      let own : runs ≡ has.made =
      has.runs_are ∙ ap (λ (left : List Hook). has.made ++ map waiting left) none ∙ append-nil has.made in
      ap (λ (rs : List HookRun). let r : Result Ran Refusal = Ok (now, rs) in r) own
      ∙ sym (run_out base now has.made)
      ∙ sym (ap (λ (left : List Hook). all_run left base now has.made) none)
      ∙ has.rest

  module _ (hook : Hook) (less : at < length hooks) (is : hook ≡ get_or hooks at hook) where
    -- the next one's place
    runs_here : runs ≡ has.made ++ waiting hook ∷ map waiting (drop (at + 1) hooks)
    runs_here =
        has.runs_are ∙ ap (λ (left : List Hook). has.made ++ map waiting left) (next_hook hooks at hook less is)

    waits : slice_get runs at ≡ Some (waiting hook)
    waits =
        ap (λ (rs : List HookRun). slice_get rs at) runs_here
        ∙ ap (slice_get (has.made ++ waiting hook ∷ map waiting (drop (at + 1) hooks))) (sym has.many)
        ∙ at_seam has.made (waiting hook) (map waiting (drop (at + 1) hooks))

    pub place_there : at < length runs
    place_there =
        let many = has.many in
        omega (arith, ap length runs_here, length-append has.made (waiting hook ∷ map waiting (drop (at + 1) hooks)))

    pub name_there : (name : List ℕ) → IfSome (slice_get runs at) (λ (run : HookRun). name ≡ run.function)
        → name ≡ hook.function
    name_there name told = subst (λ (o : Option HookRun). IfSome o (λ (run : HookRun). name ≡ run.function)) waits told

    -- what its run comes to
    pub ended : (next : AbstractMachine) (end : HookEnd) → hook_left next end ≡ hook_run now base (get_or hooks at hook).address
        → after_hook (all_run (drop (at + 1) hooks) base) hook has.made next end ≡ all_run hooks base k []
    ended next end left =
        let rest = drop (at + 1) hooks in
        ap (after_run (all_run rest base) hook has.made)
        (left ∙ ap (λ (h : Hook). hook_run now base h.address) (sym is))
        ∙ sym (run_on hook rest base now has.made)
        ∙ sym (ap (λ (left : List Hook). all_run left base now has.made) (next_hook hooks at hook less is))
        ∙ has.rest

    pub one_more : (next : AbstractMachine) (after : List HookRun) (steps : ℕ)
        → hook_left next (Returned steps) ≡ hook_run now base (get_or hooks at hook).address
        → after ≡ unwrap_or (option_map (λ (run : HookRun). set runs at (with_steps steps run)) (slice_get runs at)) runs
        → HasRun hooks base k next after (at + 1)
    one_more next after steps left noted =
        let rest = drop (at + 1) hooks in
        let ran : HookRun = record { function = hook.function; steps = steps } in
        record {
          made = has.made ++ ran ∷ [];
          runs_are =
              noted
              ∙ ap (λ (o : Option HookRun). unwrap_or (option_map (λ (run : HookRun). set runs at (with_steps steps run)) o)
              runs) waits
              ∙ ap (λ (rs : List HookRun). set rs at ran) runs_here
              ∙ ap (λ (n : ℕ). set (has.made ++ waiting hook ∷ map waiting rest) n ran) (sym has.many)
              ∙ set-append_seam has.made (waiting hook) (map waiting rest) ran
              ∙ sym (append_assoc has.made (ran ∷ []) (map waiting rest));
          many =
              let many = has.many in
              omega (arith, length-append has.made (ran ∷ []));
          rest = ended next (Returned steps) left;
        }

-- one more that waits
pub wait_on : (hooks items : List Hook) (runs after : List HookRun) (at : ℕ) (hook : Hook) (name : List ℕ)
    → items ≡ hooks → at < length items → hook ≡ get_or items at hook → name ≡ hook.function
    → runs ≡ map waiting (take at hooks) → after ≡ runs ++ record { function = name; steps = 0 } ∷ []
    → after ≡ map waiting (take (at + 1) hooks)
wait_on hooks items runs after at hook name same less is named before more =
    let own : after ≡ runs ++ waiting hook ∷ [] =
    more ∙ ap (λ (n : List ℕ). let run : HookRun = record { function = n; steps = 0 } in runs ++ run ∷ []) named in
    let there : hook ≡ get_or hooks at hook = is ∙ ap (λ (xs : List Hook). get_or xs at hook) same in
    let long : at < length hooks = omega (arith, ap length same) in
    own
    ∙ ap (λ (rs : List HookRun). rs ++ waiting hook ∷ []) before
    ∙ sym (map-append waiting (take at hooks) (hook ∷ []))
    ∙ ap (map waiting) (sym (take_more hooks at hook long ∙ ap (λ (h : Hook). take at hooks ++ h ∷ []) (sym there)))
