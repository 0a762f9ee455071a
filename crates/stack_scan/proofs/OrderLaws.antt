-- The order of ranges doesn't matter for where a thread stands.
use Rattle.std.proofs.Common.{◌≡◌, ℕ, Bool, if◌then◌else◌, List, [], ◌∷◌, Option, Result, Ok, Err, refl, ◌∙◌, ap}
use Rattle.std.specs.Option.{option_map, option_or}
use Rattle.std.specs.List.{find}
use Rattle.std.specs.List.Sorted.{IsPermutation}
use Rattle.std.proofs.lemmas.List.Sorted.{list_any-IsPermutation}
use Rattle.ks_base.specs.declared.places.Range.{Range}
use Rattle.ks_base.specs.declared.refusals.Refusal.{Refusal}
use Rattle.ks_base.specs.declared.refusals.Place.{Place}
use Rattle.ks_base.specs.declared.refusals.Standing.{Standing}
use Rattle.image_memory.specs.declared.types.Piece.{Piece}
use Rattle.image_memory.specs.Ranges.{lies_in}
use Rattle.ia32_step.specs.declared.types.State.{State}
use Rattle.ia32_step.specs.declared.types.State.TheVariants.{Running, Exited, Stopped}
use Rattle.ia32_step.specs.declared.types.Thread.{Thread}
use Rattle.stack_scan.specs.declared.types.StackOut.{StackOut}
use Rattle.stack_scan.specs.Standing.{in_one, first_place, places, standing_at}
use Rattle.stack_scan.specs.Standing.{stack_out, is_stack_out, stands_by, stands}
use Rattle.stack_scan.specs.Standing.{standing_refused, thread_refusal}

module _ (pieces : List Piece) (ranges others : List Range) (same : IsPermutation ranges others) where
  same_test : (seen : Place × ℕ) → in_one ranges seen.1 ≡ in_one others seen.1
  same_test seen = list_any-IsPermutation (lies_in seen.1) ranges others same

  first_same : (seen : List (Place × ℕ)) → first_place ranges seen ≡ first_place others seen
  first_same seen = ap (λ (test : Place × ℕ → Bool). find test seen) (λ i place. same_test place i)

  by_state : (state : State) (thread : Thread)
      → stands_by state pieces ranges thread ≡ stands_by state pieces others thread
  by_state Running thread =
      ap (λ (found : Option (Place × ℕ)). let answer : Result (Option Standing) StackOut =
      if is_stack_out thread then Err (stack_out thread) else Ok (option_map (standing_at thread.number) found) in
      answer) (first_same (places pieces thread))
  by_state (Exited value) thread = refl
  by_state (Stopped fault) thread = refl

  pub stands_same : (thread : Thread) → stands pieces ranges thread ≡ stands pieces others thread
  stands_same thread = by_state thread.state thread

  pub refusal_same : (threads : List Thread)
      → thread_refusal pieces ranges threads ≡ thread_refusal pieces others threads
  unfolding thread_refusal
  refusal_same [] = refl
  refusal_same (thread ∷ threads) =
      ap (λ (found : Result (Option Standing) StackOut).
      option_or (standing_refused found) (thread_refusal pieces ranges threads)) (stands_same thread)
      ∙ ap (λ (rest : Option Refusal). option_or (standing_refused (stands pieces others thread)) rest)
      (refusal_same threads)
