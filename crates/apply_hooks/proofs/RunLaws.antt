-- The run of one function on the scratch piece, step by step.
use Rattle.std.proofs.Common.{◌≡◌, ℕ, suc, ◌+◌, ◌-◌, ◌≤◌, ◌<◌, List, [], ◌∷◌, IsTrue, refl, sym, ◌∙◌, ap, subst, arith}
use Rattle.std.proofs.lemmas.List.Elements.{All-nil, All-cons}
use Rattle.ks_base.specs.declared.places.Range.{Range}
use Rattle.image_memory.specs.declared.types.Piece.{Piece}
use Rattle.image_memory.specs.Contents.{IsValid, piece_range}
use Rattle.ia32_step.specs.declared.types.State.{State}
use Rattle.ia32_step.specs.declared.types.Thread.{Thread}
use Rattle.image_threads.specs.Spawning.{first_thread, is_stack}
use Rattle.image_threads.specs.laws.StackLaws.{length-first_bytes}
use Rattle.saved_data.specs.Saved.{CanBePutBack}
use Rattle.update_stack.specs.declared.updates.HookEnd.TheVariants.{Unreturned}
use Rattle.update_stack.specs.AbstractMachine.{AbstractMachine, contents_of}
use Rattle.update_stack.specs.Aside.{LeavesAside, AsItWas, AfterStep, AfterSaved}
use Rattle.update_stack.specs.HookRuns.{hook_budget, fresh_piece, scratch_range, begun_aside}
use Rattle.update_stack.specs.HookRuns.{hook_left, gone_on, hook_steps, hook_run}
use Rattle.update_stack.specs.PutBack.{with_saved}
use Rattle.update_stack.specs.Scratch.{after_aside}
use Rattle.update_stack.specs.Steps.{step_in}
use Rattle.update_stack.specs.laws.DataLaws.{DataLaws, aside_differs, stack_stays}

-- a scratch piece that is set anew can be put back
pub fresh_fits : (pieces : List Piece) (stack : Range) (base : ℕ) (fresh : List Piece) → stack ≡ scratch_range base
    → IsTrue (is_stack pieces stack) → fresh ≡ fresh_piece stack ∷ [] → CanBePutBack pieces fresh
fresh_fits pieces stack base fresh at there is =
    let Q : Range → Type 0 = λ range. IsTrue (is_stack pieces range) in
    let piece = fresh_piece (scratch_range base) in
    let whole : (piece_range piece).high ≡ base + 4096 = length-first_bytes (scratch_range base) 0 (omega arith) in
    let own : Q (piece_range piece) =
    subst (λ (high : ℕ). Q (record { low = base; high = high })) (sym whole) (subst Q at there) in
    subst (CanBePutBack pieces) (ap (λ (range : Range). fresh_piece range ∷ []) (sym at) ∙ sym is)
    (All-cons Q (piece_range piece) [] own (All-nil Q))

-- a run at its start
pub budget_is : hook_budget ≡ 1000000
unfolding hook_budget
budget_is = refl

pub begins : (k now : AbstractMachine) (thread : Thread) (stack : Range) (base address : ℕ) (fresh : List Piece)
    → stack ≡ scratch_range base → fresh ≡ fresh_piece stack ∷ [] → now ≡ with_saved k fresh
    → thread ≡ first_thread 0 stack address
    → hook_steps 0 (hook_budget - 0) now thread ≡ hook_run k base address
unfolding hook_run
begins k now thread stack base address fresh at is begun first =
    let whole : hook_budget - 0 ≡ hook_budget = omega arith in
    let machine : now ≡ begun_aside k base =
    begun ∙ ap (with_saved k) (is ∙ ap (λ (range : Range). fresh_piece range ∷ []) at) in
    ap (λ (n : ℕ). hook_steps 0 n now thread) whole
    ∙ ap (λ (m : AbstractMachine). hook_steps 0 hook_budget m thread) machine
    ∙ ap (hook_steps 0 hook_budget (begun_aside k base))
    (first ∙ ap (λ (range : Range). first_thread 0 range address) at)

-- one step of it
pub one_less : (made : ℕ) → made < hook_budget → hook_budget - made ≡ suc (hook_budget - (made + 1))
one_less made less = omega arith

one_step : (made left : ℕ) (k : AbstractMachine) (thread : Thread)
    → hook_steps made (suc left) k thread
    ≡ gone_on (hook_steps (made + 1) left) (made + 1) (after_aside k (step_in k thread)) (step_in k thread).thread
    (step_in k thread).thread.state
unfolding hook_steps
one_step made left k thread = refl

-- the machine, the thread and its state after a step, as they are left
pub steps_on : (made : ℕ) (k next : AbstractMachine) (thread after : Thread) (state : State) → made < hook_budget
    → next ≡ after_aside k (step_in k thread) → after ≡ (step_in k thread).thread → after.state ≡ state
    → hook_steps made (hook_budget - made) k thread
    ≡ gone_on (hook_steps (made + 1) (hook_budget - (made + 1))) (made + 1) next after state
steps_on made k next thread after state less machine stepped is =
    let left = hook_budget - (made + 1) in
    ap (λ (n : ℕ). hook_steps made n k thread) (one_less made less)
    ∙ one_step made left k thread
    ∙ ap (λ (m : AbstractMachine). gone_on (hook_steps (made + 1) left) (made + 1) m (step_in k thread).thread
    (step_in k thread).thread.state) (sym machine)
    ∙ ap (λ (t : Thread). gone_on (hook_steps (made + 1) left) (made + 1) next t t.state) (sym stepped)
    ∙ ap (gone_on (hook_steps (made + 1) left) (made + 1) next after) is

-- after as many steps as it may make
no_step : (made : ℕ) (k : AbstractMachine) (thread : Thread) → hook_steps made 0 k thread ≡ hook_left k Unreturned
unfolding hook_steps
no_step made k thread = refl

pub none_left : (made : ℕ) (k : AbstractMachine) (thread : Thread) → hook_budget ≤ made
    → hook_left k Unreturned ≡ hook_steps made (hook_budget - made) k thread
none_left made k thread over =
    let none : hook_budget - made ≡ 0 = omega arith in
    sym (ap (λ (n : ℕ). hook_steps made n k thread) none ∙ no_step made k thread)

-- the scratch piece stays
pub still_stands : DataLaws → (k now : AbstractMachine) (stack : Range) → IsValid (contents_of k) → LeavesAside k now
    → IsTrue (is_stack k.pieces stack) → IsTrue (is_stack now.pieces stack)
still_stands laws k now stack valid leaves there =
    stack_stays (contents_of k) (contents_of now) stack (aside_differs laws k now valid leaves).differ there

-- what is left when it was set anew, and after one more step
pub aside_fresh : (k now : AbstractMachine) (saved : List Piece) → CanBePutBack k.pieces saved
    → now ≡ with_saved k saved → LeavesAside k now
aside_fresh k now saved fit is = subst (LeavesAside k) (sym is) (AfterSaved k saved AsItWas fit)

pub aside_stepped : (k now next : AbstractMachine) (thread : Thread) → LeavesAside k now
    → next ≡ after_aside now (step_in now thread) → LeavesAside k next
aside_stepped k now next thread before is = subst (LeavesAside k) (sym is) (AfterStep now thread before)
