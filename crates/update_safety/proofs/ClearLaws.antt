-- Where the check of the threads passes, no running thread and no frame that keeps the slot rule is in the ranges that
-- are looked at; and these hold all that goes.
use Rattle.std.proofs.Common.{◌≡◌, ℕ, zero, suc, ◌+◌, ◌-◌, ◌*◌, ◌/◌, ◌%◌, ◌≤◌}
use Rattle.std.proofs.Common.{◌<◌, Bool, true, false, cond, ◌&&◌, nat_le}
use Rattle.std.proofs.Common.{◌==◌, if◌then◌else◌, List, [], ◌∷◌, ◌++◌, map}
use Rattle.std.proofs.Common.{get_or, Option, Some, None, Result, Ok, Err}
use Rattle.std.proofs.Common.{slice_get, IsTrue, IsFalse, All, refl, sym, ◌∙◌, ap, subst, arith}
use Rattle.std.specs.Prelude.{not, is_some}
use Rattle.std.specs.Option.{option_map, option_or, option_to_list}
use Rattle.std.specs.List.{flat_map}
use Rattle.std.proofs.lemmas.Bool.{eqb-true}
use Rattle.std.proofs.lemmas.Bool.Decides.{nat_tests}
use Rattle.std.proofs.lemmas.List.{append-nil}
use Rattle.std.proofs.lemmas.List.Folds.{find-append}
use Rattle.ks_base.specs.declared.places.Range.{Range}
use Rattle.ks_base.specs.declared.refusals.Place.{Place}
use Rattle.ks_base.specs.declared.refusals.Place.TheVariants.{Pc}
use Rattle.ks_base.specs.declared.refusals.Refusal.{Refusal}
use Rattle.ks_base.specs.declared.reports.Report.{Report}
use Rattle.image_file.specs.Fields.{◌>>=◌}
use Rattle.image_memory.specs.declared.types.Piece.{Piece}
use Rattle.image_memory.specs.Contents.{fence_range}
use Rattle.image_memory.specs.Access.{first_fault, read_fault, dword_at}
use Rattle.ia32_step.specs.declared.types.Frame.{Frame}
use Rattle.ia32_step.specs.declared.types.State.{State}
use Rattle.ia32_step.specs.declared.types.State.TheVariants.{Running, Exited, Stopped}
use Rattle.ia32_step.specs.declared.types.Thread.{Thread}
use Rattle.ia32_step.specs.Frames.{is_slot, holds_dword, keeps_slot}
use Rattle.ia32_step.specs.Threads.{is_running, esp_of}
use Rattle.image_threads.specs.Program.{if_running, running_at}
use Rattle.stack_scan.specs.Standing.{looked_at, in_register, on_stack, addresses, stack_addresses, places, in_one}
use Rattle.stack_scan.specs.Standing.{first_place, standing_at, stack_out, is_stack_out, stands_by, stands}
use Rattle.stack_scan.specs.Standing.{standing_refused, thread_refusal}
use Rattle.symbol_solve.specs.Candidates.{Running as Program}
use Rattle.update_plan.specs.declared.types.Plan.{Plan}
use Rattle.update_plan.specs.Plan.{planned, unless}
use Rattle.update_stack.specs.AbstractMachine.{AbstractMachine, Update}
use Rattle.update_stack.specs.Apply.{name_refusal, running_of, retired_of, gaps_of, planned_in, accepted, applied, committed}
use Rattle.update_stack.specs.Apply.{update_as}
use Rattle.update_stack.specs.Undo.{ranges_in}
use Rattle.update_stack.specs.Events.{apply_answered, answered}
use Rattle.update_stack.specs.laws.StackedLaws.{last_more}
use Rattle.update_safety.specs.Clear.{newest_retired, IsOutside, KeepSlots, AcceptedIsClear, TakenBackIsClear}
use Rattle.update_safety.proofs.TakenLaws.{was_taken}

neither : {X : Type 0} (a b : Option X) → option_or a b ≡ None → (a ≡ None) × (b ≡ None)
neither None b none = (refl, none)
neither (Some x) b none = absurd (cc)

passed : {X : Type 0} (b : Bool) (x : X) (o : Option X) → cond b (Some x) o ≡ None → (b ≡ false) × (o ≡ None)
passed true x o none = absurd (cc)
passed false x o none = (refl, none)

both : (a b : Bool) → (a && b) ≡ true → (a ≡ true) × (b ≡ true)
both true b is = (refl, is)
both false b is = absurd (cc)

-- a running thread of a number
running_one : (o : Option Thread) (thread : Thread) → if_running o ≡ Some thread
    → (o ≡ Some thread) × (thread.state ≡ Running)
running_one None thread is = absurd (cc)
running_one (Some one) thread is = by_state one.state refl is
  where
    by_state : (state : State) → one.state ≡ state → (if is_running state then Some one else None) ≡ Some thread
        → (Some one ≡ Some thread) × (thread.state ≡ Running)
    by_state Running runs is =
        let same : one ≡ thread = cc in
        (is, subst (λ (t : Thread). t.state ≡ Running) same runs)
    by_state (Exited value) runs is = absurd (cc)
    by_state (Stopped fault) runs is = absurd (cc)

-- a slot is one of the dwords of the stack that are looked at
slot_listed : (esp high slot : ℕ) → slot % 4 ≡ 0 → esp ≤ slot → slot + 4 ≤ high
    → (k : ℕ) × (k < (high - esp / 4 * 4) / 4) × (slot ≡ esp / 4 * 4 + 4 * k)
slot_listed esp high slot whole low below = ((slot - esp / 4 * 4) / 4, omega arith, omega arith)

module _ (pieces : List Piece) (ranges : List Range) where
  -- each thread is passed
  thread_passed : (threads : List Thread) (number : ℕ) (thread : Thread)
      → thread_refusal pieces ranges threads ≡ None → slice_get threads number ≡ Some thread
      → standing_refused (stands pieces ranges thread) ≡ None
  unfolding thread_refusal
  thread_passed [] number thread none is = absurd (cc)
  thread_passed (first ∷ threads) zero thread none is =
      let same : first ≡ thread = cc in
      let here = neither (standing_refused (stands pieces ranges first)) (thread_refusal pieces ranges threads) none in
      subst (λ (t : Thread). standing_refused (stands pieces ranges t) ≡ None) same here.0
  thread_passed (first ∷ threads) (suc number) thread none is =
      let here = neither (standing_refused (stands pieces ranges first)) (thread_refusal pieces ranges threads) none in
      thread_passed threads number thread here.1 is

  -- and none of its places lies in the ranges
  no_place : (thread : Thread) → thread.state ≡ Running → standing_refused (stands pieces ranges thread) ≡ None
      → first_place ranges (places pieces thread) ≡ None
  no_place thread runs none =
      by_stack (is_stack_out thread) (first_place ranges (places pieces thread))
      (subst (λ (s : State). standing_refused (stands_by s pieces ranges thread) ≡ None) runs none)
    where
      found_none : (o : Option (Place × ℕ)) → standing_refused (Ok (option_map (standing_at thread.number) o)) ≡ None
          → o ≡ None
      found_none None none = refl
      found_none (Some seen) none = absurd (cc)

      by_stack : (out : Bool) (o : Option (Place × ℕ))
          → standing_refused (if out then Err (stack_out thread) else Ok (option_map (standing_at thread.number) o))
          ≡ None → o ≡ None
      by_stack true o none = absurd (cc)
      by_stack false o none = found_none o none

  -- a dword of the stack that was looked at
  dword_clear : (start n k slot : ℕ) → k < n → slot ≡ start + 4 * k
      → first_place ranges (map (on_stack pieces) (addresses start n)) ≡ None
      → IsFalse (in_one ranges (dword_at pieces slot))
  unfolding addresses
  dword_clear start zero k slot l at none = absurd (omega arith)
  dword_clear start (suc n) zero slot l at none =
      let here : start ≡ slot = omega arith in
      let rest = first_place ranges (map (on_stack pieces) (addresses (start + 4) n)) in
      subst (λ (a : ℕ). IsFalse (in_one ranges (dword_at pieces a))) here
      (passed (in_one ranges (dword_at pieces start)) (on_stack pieces start) rest none).0
  dword_clear start (suc n) (suc k) slot l at none =
      let rest = first_place ranges (map (on_stack pieces) (addresses (start + 4) n)) in
      dword_clear (start + 4) n k slot (omega arith) (omega arith)
      (passed (in_one ranges (dword_at pieces start)) (on_stack pieces start) rest none).1

  frame_clear : (stack : Range) (esp : ℕ) (frame : Frame)
      → first_place ranges (map (on_stack pieces) (stack_addresses esp stack.high)) ≡ None
      → IsTrue (keeps_slot pieces stack esp frame) → IsFalse (in_one ranges frame.address)
  unfolding keeps_slot is_slot
  frame_clear stack esp frame none keeps =
      let slot = frame.slot in
      let parts = both (is_slot stack esp slot) (holds_dword pieces slot frame.address) keeps in
      let outer = both (slot % 4 == 0)
      (nat_le esp slot && (nat_le stack.low slot && nat_le (slot + 4) stack.high)) parts.0 in
      let inner = both (nat_le esp slot) (nat_le stack.low slot && nat_le (slot + 4) stack.high) outer.1 in
      let ends = both (nat_le stack.low slot) (nat_le (slot + 4) stack.high) inner.1 in
      let whole : slot % 4 ≡ 0 = eqb-true (slot % 4) 0 outer.0 in
      let low : esp ≤ slot = grind (arith, nat_tests) in
      let below : slot + 4 ≤ stack.high = grind (arith, nat_tests) in
      let holds = both (not (is_some (first_fault (read_fault pieces) slot 4)))
      (dword_at pieces slot == frame.address) parts.1 in
      let same : dword_at pieces slot ≡ frame.address = eqb-true (dword_at pieces slot) frame.address holds.1 in
      let (k, within, at) = slot_listed esp stack.high slot whole low below in
      subst (λ (value : ℕ). IsFalse (in_one ranges value)) same
      (dword_clear (esp / 4 * 4) ((stack.high - esp / 4 * 4) / 4) k slot within at none)

  -- what is known of a running thread that was passed, and of its frames
  thread_clear : (threads : List Thread) (number : ℕ) (thread : Thread) (frames : List Frame)
      → thread_refusal pieces ranges threads ≡ None → running_at threads number ≡ Some thread
      → All (λ frame. IsTrue (keeps_slot pieces thread.stack (esp_of thread) frame)) frames
      → All (λ (frame : Frame). IsFalse (in_one ranges frame.address)) frames × IsFalse (in_one ranges thread.pc)
  thread_clear threads number thread frames none is keeps =
      let running = running_one (slice_get threads number) thread is in
      let nowhere = no_place thread running.1 (thread_passed threads number thread none running.0) in
      let registers = map (in_register thread.registers) looked_at in
      let words = map (on_stack pieces) (stack_addresses (esp_of thread) thread.stack.high) in
      let first = passed (in_one ranges thread.pc) (Pc, thread.pc) (first_place ranges (registers ++ words)) nowhere in
      let others = neither (first_place ranges registers) (first_place ranges words)
      (sym (find-append (λ place. in_one ranges place.1) registers words) ∙ first.1) in (
        λ i d l. frame_clear thread.stack (esp_of thread) (get_or frames i d) others.1 (keeps i d l),
        first.0,
      )

-- ---- the update rule
-- the law of plans that is used here
abbrev pub RetiredIsGuarded : Type 0
RetiredIsGuarded = (running : Program) (retired gaps : List Range) (pre_file post_file : List ℕ) (plan : Plan)
    (address : ℕ) → planned running retired gaps pre_file post_file ≡ Ok plan
    → IsFalse (in_one plan.guarded address) → IsFalse (in_one (map fence_range plan.fences) address)

module _ (k : AbstractMachine) (name pre post : List ℕ) where
  plan_in : (plan : Plan) → planned_in k name pre post ≡ Ok plan
      → planned (running_of k) (retired_of k) (gaps_of k) pre post ≡ Ok plan
  unfolding planned_in
  plan_in plan is = by_name (name_refusal k name) is
    where
      by_name : (o : Option Refusal) → (unless o k >>= λ (free : AbstractMachine).
          planned (running_of free) (retired_of free) (gaps_of free) pre post) ≡ Ok plan
          → planned (running_of k) (retired_of k) (gaps_of k) pre post ≡ Ok plan
      by_name (Some refusal) is = absurd (cc)
      by_name None is = is

  retired_now : (plan : Plan) → newest_retired (committed k name plan) ≡ map fence_range plan.fences
  unfolding committed
  retired_now plan =
      ap (λ (o : Option Update). flat_map (λ (update : Update). update.retired) (option_to_list o))
      (last_more None k.updates (update_as name plan))
      ∙ append-nil (map fence_range plan.fences)

  -- where threads and frames are outside what the plan guards, they are outside what it retires
  made_clear : RetiredIsGuarded → (plan : Plan) (number : ℕ) (thread : Thread) (frames : List Frame)
      → planned_in k name pre post ≡ Ok plan → thread_refusal k.pieces plan.guarded k.threads ≡ None
      → running_at k.threads number ≡ Some thread → KeepSlots k thread frames
      → IsOutside (newest_retired (committed k name plan)) thread frames
  made_clear law plan number thread frames is none runs keeps =
      let clear = thread_clear k.pieces plan.guarded k.threads number thread frames none runs keeps in
      let guards : (address : ℕ) → IsFalse (in_one plan.guarded address)
      → IsFalse (in_one (map fence_range plan.fences) address) =
      λ address. law (running_of k) (retired_of k) (gaps_of k) pre post plan address (plan_in plan is) in
      subst (λ (ranges : List Range). IsOutside ranges thread frames) (sym (retired_now plan)) record {
        addresses = λ i d l. guards (get_or frames i d).address (clear.0 i d l);
        pc = guards thread.pc clear.1;
      }

pub accepted_clear : RetiredIsGuarded → AcceptedIsClear
unfolding answered accepted applied
accepted_clear law k name pre post now number thread frames is runs keeps =
    by_plan (planned_in k name pre post) refl is
  where
    by_threads : (plan : Plan) (o : Option Refusal) → planned_in k name pre post ≡ Ok plan
        → thread_refusal k.pieces plan.guarded k.threads ≡ o
        → apply_answered (unless o plan >>= λ (clear : Plan).
        let r : Result (AbstractMachine × Report) Refusal = Ok (committed k name clear, clear.report) in r) ≡ Ok now
        → IsOutside (newest_retired now.machine) thread frames
    by_threads plan (Some refusal) planned stands is = absurd (cc)
    by_threads plan None planned none is =
        let machine : committed k name plan ≡ now.machine = cc in
        subst (λ (m : AbstractMachine). IsOutside (newest_retired m) thread frames) machine
        (made_clear k name pre post law plan number thread frames planned none runs keeps)

    by_plan : (r : Result Plan Refusal) → planned_in k name pre post ≡ r
        → apply_answered ((r >>= λ (plan : Plan). unless (thread_refusal k.pieces plan.guarded k.threads) plan)
        >>= λ (clear : Plan).
        let r : Result (AbstractMachine × Report) Refusal = Ok (committed k name clear, clear.report) in r) ≡ Ok now
        → IsOutside (newest_retired now.machine) thread frames
    by_plan (Err refusal) planned is = absurd (cc)
    by_plan (Ok plan) planned is = by_threads plan (thread_refusal k.pieces plan.guarded k.threads) planned refl is

-- ---- the undo rule
pub taken_back_clear : TakenBackIsClear
taken_back_clear k event update now number thread frames takes is runs keeps =
    let taken = was_taken k event update now takes is in
    let clear = thread_clear k.pieces (ranges_in k update) k.threads number thread frames taken.clear runs keeps in
    record { addresses = clear.0; pc = clear.1 }
