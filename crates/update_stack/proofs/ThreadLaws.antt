-- Where a thread stands in memory with jumps: as in memory without them, for a stack is data.
use Rattle.std.proofs.Common.{◌≡◌, ℕ, zero, suc, ◌+◌, ◌-◌, ◌*◌, ◌/◌, ◌<◌, ◌≤◌, Bool, true, false}
use Rattle.std.proofs.Common.{List, [], ◌∷◌, ◌++◌, map, get_or}
use Rattle.std.proofs.Common.{Option, Some, None, Result, Ok, Err, refl, sym, ◌∙◌, ap, subst, arith, if◌then◌else◌}
use Rattle.std.specs.Option.{option_map, option_or}
use Rattle.std.specs.Int.{w32, from_le_bytes}
use Rattle.std.specs.List.{All, Any}
use Rattle.std.proofs.lemmas.Bool.Decides.{nat_tests}
use Rattle.std.proofs.lemmas.List.Elements.{All-head, All-tail}
use Rattle.ks_base.specs.declared.places.Range.{Range}
use Rattle.ks_base.specs.declared.refusals.Place.{Place}
use Rattle.ks_base.specs.declared.refusals.Place.TheVariants.{Pc, Stack}
use Rattle.ks_base.specs.declared.refusals.Standing.{Standing}
use Rattle.image_memory.specs.declared.types.Kind.TheVariants.{Writable}
use Rattle.image_memory.specs.declared.types.Piece.{Piece}
use Rattle.image_memory.specs.Ranges.{lies_in}
use Rattle.image_memory.specs.Contents.{Contents, IsValid, piece_range, holding}
use Rattle.image_memory.specs.Access.{byte_at, bytes_at, dword_at}
use Rattle.image_memory.specs.Fetch.{code_in, code_from}
use Rattle.image_memory.specs.laws.RangeLaws.{within, found_here}
use Rattle.ia32_step.specs.declared.types.State.{State}
use Rattle.ia32_step.specs.declared.types.State.TheVariants.{Running, Exited, Stopped}
use Rattle.ia32_step.specs.declared.types.Thread.{Thread}
use Rattle.ia32_step.specs.Threads.{esp_of}
use Rattle.splice_jump.specs.Jumps.{jumped, AreSpliced}
use Rattle.stack_scan.specs.declared.types.StackOut.{StackOut}
use Rattle.stack_scan.specs.Standing.{LiesInWritable, IsStack, HasStack, addresses, looked_at, in_register, on_stack}
use Rattle.stack_scan.specs.Standing.{places, first_place, standing_at, stack_out, is_stack_out}
use Rattle.stack_scan.specs.Standing.{stands_by, stands, standing_refused, thread_refusal}

-- a law of another crate: jumps leave data
abbrev pub DataStay : Type 0
DataStay = (contents : Contents) (rows : List (ℕ × ℕ)) (address : ℕ) → IsValid contents → AreSpliced contents rows
    → code_from contents.pieces address ≡ None
    → byte_at (jumped rows contents.pieces) address ≡ byte_at contents.pieces address

module _ (data_stay : DataStay) (contents : Contents) (rows : List (ℕ × ℕ)) (valid : IsValid contents)
    (spliced : AreSpliced contents rows) where
  -- no code stands on a stack
  no_code : (piece : Piece) → piece.kind ≡ Writable → (a : ℕ) → code_in a (Some piece) ≡ None
  no_code piece writable a = rw writable refl

  stack_data : (stack : Range) (a : ℕ) → Any (LiesInWritable stack) contents.pieces → stack.low ≤ a → a < stack.high
      → code_from contents.pieces a ≡ None
  stack_data stack a (k, piece, less, at, lies) low high =
      let first = lies.low in
      let last = lies.high in
      let there : get_or contents.pieces k piece ≡ piece = at in
      let holds : lies_in a (piece_range (get_or contents.pieces k piece)) ≡ true =
      subst (λ (p : Piece). lies_in a (piece_range p) ≡ true) (sym there)
      (within a (piece_range piece) (omega arith) (omega arith)) in
      let found : holding contents.pieces a ≡ Some piece =
      found_here piece_range 0 contents.pieces a k piece valid.placed.ascend less holds ∙ ap Some there in
      ap (code_in a) found ∙ no_code piece lies.kind a

  bytes_stay : (a n : ℕ) → ((k : ℕ) → a ≤ k → k < a + n → code_from contents.pieces k ≡ None)
      → bytes_at (jumped rows contents.pieces) a n ≡ bytes_at contents.pieces a n
  unfolding bytes_at
  bytes_stay a zero none = refl
  bytes_stay a (suc n) none =
      ap (λ (b : ℕ). b ∷ bytes_at (jumped rows contents.pieces) (a + 1) n)
      (data_stay contents rows a valid spliced (none a (omega arith) (omega arith)))
      ∙ ap (λ (bs : List ℕ). byte_at contents.pieces a ∷ bs)
      (bytes_stay (a + 1) n (λ k low high. none k (omega arith) (omega arith)))

  dword_stays : (stack : Range) (a : ℕ) → Any (LiesInWritable stack) contents.pieces → stack.low ≤ a
      → a + 4 ≤ stack.high → dword_at (jumped rows contents.pieces) a ≡ dword_at contents.pieces a
  dword_stays stack a held low high =
      ap (from_le_bytes w32) (bytes_stay a 4 (λ k from to. stack_data stack k held (omega arith) (omega arith)))

  words_stay : (stack : Range) (start n : ℕ) → Any (LiesInWritable stack) contents.pieces → stack.low ≤ start
      → start + 4 * n ≤ stack.high
      → map (on_stack (jumped rows contents.pieces)) (addresses start n)
      ≡ map (on_stack contents.pieces) (addresses start n)
  unfolding addresses
  words_stay stack start zero held low high = refl
  words_stay stack start (suc n) held low high =
      ap (λ (value : ℕ). let first : Place × ℕ = (Stack start, value) in
      first ∷ map (on_stack (jumped rows contents.pieces)) (addresses (start + 4) n))
      (dword_stays stack start held low (omega arith))
      ∙ ap (λ (ws : List (Place × ℕ)). on_stack contents.pieces start ∷ ws)
      (words_stay stack (start + 4) n held (omega arith) (omega arith))

  places_stay : (thread : Thread) → IsStack contents.pieces thread.stack → is_stack_out thread ≡ false
      → places (jumped rows contents.pieces) thread ≡ places contents.pieces thread
  places_stay thread is inside =
      let above : thread.stack.low ≤ esp_of thread = grind (arith, nat_tests) in
      let below : esp_of thread ≤ thread.stack.high = grind (arith, nat_tests) in
      let low = is.low in
      let high = is.high in
      ap (λ (ws : List (Place × ℕ)). (Pc, thread.pc) ∷ map (in_register thread.registers) looked_at ++ ws)
      (words_stay thread.stack (esp_of thread / 4 * 4) ((thread.stack.high - esp_of thread / 4 * 4) / 4) is.held
      (omega arith) (omega arith))

  stands_stay : (ranges : List Range) (thread : Thread) → HasStack contents.pieces thread
      → stands (jumped rows contents.pieces) ranges thread ≡ stands contents.pieces ranges thread
  stands_stay ranges thread has = by_state thread.state refl
    where
      by_out : (out : Bool) → is_stack_out thread ≡ out → IsStack contents.pieces thread.stack
          → (if out then Err (stack_out thread)
          else Ok (option_map (standing_at thread.number)
          (first_place ranges (places (jumped rows contents.pieces) thread))))
          ≡ (if out then Err (stack_out thread)
          else Ok (option_map (standing_at thread.number) (first_place ranges (places contents.pieces thread))))
      by_out true is stack = refl
      by_out false is stack =
          ap (λ (seen : List (Place × ℕ)). let r : Result (Option Standing) StackOut =
          Ok (option_map (standing_at thread.number) (first_place ranges seen)) in r) (places_stay thread stack is)

      by_state : (state : State) → thread.state ≡ state
          → stands_by state (jumped rows contents.pieces) ranges thread ≡ stands_by state contents.pieces ranges thread
      by_state Running is = by_out (is_stack_out thread) refl (has is)
      by_state (Exited value) is = refl
      by_state (Stopped fault) is = refl

  pub threads_stay : (ranges : List Range) (threads : List Thread) → All (HasStack contents.pieces) threads
      → thread_refusal (jumped rows contents.pieces) ranges threads ≡ thread_refusal contents.pieces ranges threads
  unfolding thread_refusal
  threads_stay ranges [] all = refl
  threads_stay ranges (thread ∷ threads) all =
      ap (λ (r : Result (Option Standing) StackOut).
      option_or (standing_refused r) (thread_refusal (jumped rows contents.pieces) ranges threads))
      (stands_stay ranges thread (All-head (HasStack contents.pieces) thread threads all))
      ∙ ap (option_or (standing_refused (stands contents.pieces ranges thread)))
      (threads_stay ranges threads (All-tail (HasStack contents.pieces) thread threads all))
