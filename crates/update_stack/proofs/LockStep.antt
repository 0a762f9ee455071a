-- Over the memory with the jumps a thread steps as on the abstract machine.
use Rattle.std.proofs.Common.{◌≡◌, ℕ, ◌+◌, ◌-◌, ◌^◌, ◌<◌, ◌≤◌, suc, ◌==◌, Bool, true, false}
use Rattle.std.proofs.Common.{if◌then◌else◌, List, [], ◌∷◌, ◌++◌, length, replicate, Option, Some, None, Result}
use Rattle.std.proofs.Common.{Ok, Err, refl, sym, ◌∙◌, ap, arith}
use Rattle.std.proofs.Math.Seq.{take-append_seam}
use Rattle.std.proofs.lemmas.List.Elements.{All-head, All-tail}
use Rattle.std.specs.Option.{option_map}
use Rattle.std.specs.List.{All, list_any}
use Rattle.std.specs.Int.{w32, to_le_bytes}
use Rattle.ks_base.specs.declared.places.Range.{Range}
use Rattle.ks_base.specs.declared.refusals.Fault.{Fault}
use Rattle.image_memory.specs.declared.types.Piece.{Piece}
use Rattle.image_memory.specs.declared.types.Kind.TheVariants.{Code}
use Rattle.image_memory.specs.Contents.{Contents, IsValid, ArePlaced, holding}
use Rattle.image_memory.specs.Ranges.{lies_in}
use Rattle.image_memory.specs.Access.{kind_of, first_fault, write_fault, written, after_write}
use Rattle.image_memory.specs.Fetch.{View, Unmapped, AtHome, Stray, Bytes, view, view_at, seen_in, code_from}
use Rattle.image_memory.specs.Fetch.{window_of, window_for, window_at, jump_at, shown, fetched, HasCode}
use Rattle.ia32_decode.specs.declared.types.Decoded.{Decoded}
use Rattle.ia32_decode.specs.Decode.{decoded_from}
use Rattle.ia32_decode.specs.Branches.{jump_by}
use Rattle.ia32_step.specs.declared.types.Thread.{Thread}
use Rattle.ia32_step.specs.declared.types.Flow.TheVariants.{Plain}
use Rattle.ia32_step.specs.declared.types.Outcome.TheVariants.{Moved}
use Rattle.ia32_step.specs.Operands.{spelled}
use Rattle.ia32_step.specs.Changes.{goes_on, at_address, above}
use Rattle.ia32_step.specs.Exec.{executed, is_stepped, refuses_prefixes, done_by}
use Rattle.ia32_step.specs.Code.{SameData}
use Rattle.ia32_step.specs.Step.{Left, left_by, context_of, exits, done, store_fault, after_store, unless_barred}
use Rattle.ia32_step.specs.Step.{resumed, change_by, change_in, next_change, stepped}
use Rattle.ia32_step.specs.laws.OperandLaws.{length-spelled}
use Rattle.splice_jump.specs.Jump.{displacement, jump_bytes}
use Rattle.splice_jump.specs.Jumps.{jumped, jumped_memory, IsSpliced, AreSpliced}
use Rattle.update_stack.specs.AbstractMachine.{AbstractMachine, is_home, bodies_in, contents_of}
use Rattle.update_stack.specs.AbstractMachine.{view_in, base_of}
use Rattle.update_stack.specs.Steps.{step_at, step_in}
use Rattle.update_stack.specs.Jumps.{jumped_left}
use Rattle.update_stack.specs.laws.ViewLaws.{home_row, met_alike}

-- the jump at a home leads to the base
jump_leads : (home base : ℕ) → base < 2 ^ 32 → above (above home 5) (displacement home base) ≡ base
jump_leads home base small = omega arith

displacement_small : (home base : ℕ) → displacement home base < 2 ^ 32
displacement_small home base = omega arith

-- what carrying it out comes to
pub jump_carried_out : (pieces : List Piece) (context : _) (n : ℕ)
    → change_by pieces context (Some (jump_by n)) ≡ Ok (goes_on (at_address (above (above context.pc 5) n) context))
unfolding executed is_stepped refuses_prefixes done_by
jump_carried_out pieces context n = refl

-- what is fetched is what was shown
pub fetched_is : (bytes : List ℕ) → fetched (shown bytes) ≡ bytes
fetched_is bytes = take-append_seam bytes (replicate (15 - length bytes) 0)

-- the laws of other crates that are used here
abbrev pub Decodes : Type 0
Decodes = (n : ℕ) (rest : List ℕ) → n < 2 ^ 32 → decoded_from (0xE9 ∷ (to_le_bytes w32 n ++ rest)) ≡ Some (jump_by n)

abbrev pub NoSay : Type 0
NoSay = (a b : List Piece) → SameData a b → (context : _) (decoded : Option Decoded) →
    change_by a context decoded ≡ change_by b context decoded

abbrev pub NoFaultSay : Type 0
NoFaultSay = (a b : Contents) → SameData a.pieces b.pieces → (store : _) → store_fault a store ≡ store_fault b store

-- what is written where all is data is written beside the jumps
abbrev WritesBeside : Contents → List (ℕ × ℕ) → Type 0
WritesBeside contents rows = (start : ℕ) (bytes : List ℕ)
    → first_fault (write_fault contents.pieces) start (length bytes) ≡ None →
    written start bytes (jumped rows contents.pieces) ≡ jumped rows (written start bytes contents.pieces)

-- the jump at a home, decoded
pub jump_is_met : Decodes → (home base : ℕ) → decoded_from (jump_bytes home base) ≡ Some (jump_by (displacement home base))
jump_is_met decodes home base = decodes (displacement home base) [] (displacement_small home base)

-- what a change leaves, beside the jumps
store_beside : (contents : Contents) (rows : List (ℕ × ℕ)) → WritesBeside contents rows → (store : _)
    → store_fault contents store ≡ None
    → after_store (jumped_memory rows contents) store ≡ jumped_memory rows (after_store contents store)
store_beside contents rows beside None clear = refl
store_beside contents rows beside (Some s) clear =
    ap (λ (pieces : List Piece). let c : Contents = record contents { pieces = pieces } in c)
    (beside s.address (spelled s.width s.value)
    (ap (first_fault (write_fault contents.pieces) s.address) (length-spelled s.width s.value) ∙ clear))

barred_beside : (contents : Contents) (rows : List (ℕ × ℕ)) → WritesBeside contents rows
    → (thread : Thread) (fault : Option Fault) (change : _) (left : Left)
    → left ≡ unless_barred fault contents thread change → store_fault contents change.store ≡ fault
    → unless_barred fault (jumped_memory rows contents) thread change ≡ jumped_left rows left
barred_beside contents rows beside thread (Some fault) change left leaves is = ap (jumped_left rows) (sym leaves)
barred_beside contents rows beside thread None change left leaves is =
    ap (λ (after : Contents). let l : Left = record {
      contents = after;
      thread = resumed thread change.context;
      outcome = Moved change.flow;
    } in l)
    (store_beside contents rows beside change.store is)
    ∙ ap (jumped_left rows) (sym leaves)

done_beside : NoFaultSay → (contents : Contents) (rows : List (ℕ × ℕ))
    → SameData (jumped rows contents.pieces) contents.pieces → WritesBeside contents rows
    → (thread : Thread) (change : Result _ Fault)
    → done (jumped_memory rows contents) thread change ≡ jumped_left rows (done contents thread change)
done_beside faults contents rows same beside thread (Err fault) = refl
done_beside faults contents rows same beside thread (Ok change) =
    ap (λ (f : Option Fault). unless_barred f (jumped_memory rows contents) thread change)
    (faults (jumped_memory rows contents) contents same change.store)
    ∙ barred_beside contents rows beside thread (store_fault contents change.store) change
    (done contents thread (Ok change)) refl refl

-- a step by what is met
by_view : Decodes → NoSay → NoFaultSay → (contents : Contents) (rows : List (ℕ × ℕ))
    → SameData (jumped rows contents.pieces) contents.pieces
    → WritesBeside contents rows → (thread : Thread) (base : ℕ) (met : View)
    → (met ≡ AtHome → (jump_at (jumped rows contents.pieces) thread.pc ≡ jump_bytes thread.pc base) × (base < 2 ^ 32))
    → done (jumped_memory rows contents) thread
    (change_in (jumped rows contents.pieces) (context_of thread)
    (window_for met (jump_at (jumped rows contents.pieces) thread.pc)))
    ≡ jumped_left rows (step_at contents thread base met)
by_view decodes say faults contents rows same beside thread base Unmapped home = refl
by_view decodes say faults contents rows same beside thread base Stray home = refl
by_view decodes say faults contents rows same beside thread base (Bytes code) home =
    ap (λ (bytes : List ℕ). done (jumped_memory rows contents) thread
    (change_by (jumped rows contents.pieces) (context_of thread) (decoded_from bytes))) (fetched_is code)
    ∙ ap (done (jumped_memory rows contents) thread) (say (jumped rows contents.pieces) contents.pieces same
    (context_of thread) (decoded_from code))
    ∙ done_beside faults contents rows same beside thread (change_by contents.pieces (context_of thread)
    (decoded_from code))
by_view decodes say faults contents rows same beside thread base AtHome home =
    let pieces = jumped rows contents.pieces in
    ap (λ (bytes : List ℕ). done (jumped_memory rows contents) thread
    (change_by pieces (context_of thread) (decoded_from bytes)))
    (fetched_is (jump_at pieces thread.pc) ∙ (home refl).0)
    ∙ ap (λ (decoded : Option Decoded). done (jumped_memory rows contents) thread
    (change_by pieces (context_of thread) decoded)) (jump_is_met decodes thread.pc base)
    ∙ ap (done (jumped_memory rows contents) thread) (jump_carried_out pieces (context_of thread)
    (displacement thread.pc base))
    ∙ ap (λ (pc : ℕ). left_by (jumped_memory rows contents) (record thread { pc = pc }) (Moved Plain))
    (jump_leads thread.pc base (home refl).1)

-- the jump that is met at a home, and where it leads
pub home_jump : (k : AbstractMachine) (pc : ℕ)
    → All (λ row. jump_at (jumped (bodies_in k.table) k.pieces) row.0 ≡ jump_bytes row.0 row.1) (bodies_in k.table)
    → All (λ row. row.1 < 2 ^ 32) (bodies_in k.table) → is_home k.table pc ≡ true
    → (jump_at (jumped (bodies_in k.table) k.pieces) pc ≡ jump_bytes pc (base_of k pc)) × (base_of k pc < 2 ^ 32)
home_jump k pc jumps low is = (
  home_row k.table pc (λ row. jump_at (jumped (bodies_in k.table) k.pieces) row.0 ≡ jump_bytes row.0 row.1) jumps is,
  home_row k.table pc (λ row. row.1 < 2 ^ 32) low is,
)

-- a home that is met is one
met_home : (f : ℕ → Bool) (retired : List Range) (pc : ℕ) (code : Option (List ℕ))
    → seen_in f retired pc code ≡ AtHome → f pc ≡ true
met_home f retired pc None is = cc
met_home f retired pc (Some bytes) is = by_test (f pc) refl is
  where
    other : (b : Bool) → (if b then Stray else Bytes (window_of retired pc bytes)) ≡ AtHome → ⊥
    other true is = cc
    other false is = cc

    by_test : (b : Bool) → f pc ≡ b
        → (if b then AtHome else (if list_any (lies_in pc) retired then Stray else Bytes
        (window_of retired pc bytes))) ≡ AtHome → f pc ≡ true
    by_test true e is = e
    by_test false e is = absurd (other (list_any (lies_in pc) retired) is)

-- a home that is met is spliced, in each memory in which those with rows are
pub home_spliced : (k : AbstractMachine) (memory : Contents) (pc : ℕ) → AreSpliced (contents_of k) (bodies_in k.table)
    → AreSpliced memory (bodies_in k.table) → view_at (contents_of k) pc ≡ AtHome → IsSpliced memory pc
unfolding view_in view
home_spliced k memory pc spliced there is =
    home_row k.table pc (λ row. IsSpliced memory row.0) there.each
    (met_home (is_home k.table) k.retired pc (code_from k.pieces pc) (sym (met_alike k pc spliced.each) ∙ is))

-- a step of a running thread that doesn't end
step_beside : Decodes → NoSay → NoFaultSay → (k : AbstractMachine)
    → SameData (jumped (bodies_in k.table) k.pieces) k.pieces
    → WritesBeside (contents_of k) (bodies_in k.table) → (thread : Thread)
    → view_at (jumped_memory (bodies_in k.table) (contents_of k)) thread.pc ≡ view_in k thread.pc
    → (is_home k.table thread.pc ≡ true
    → (jump_at (jumped (bodies_in k.table) k.pieces) thread.pc
    ≡ jump_bytes thread.pc (base_of k thread.pc)) × (base_of k thread.pc < 2 ^ 32))
    → done (jumped_memory (bodies_in k.table) (contents_of k)) thread
    (next_change (jumped_memory (bodies_in k.table) (contents_of k)) thread)
    ≡ jumped_left (bodies_in k.table) (step_at (contents_of k) thread (base_of k thread.pc) (view_in k thread.pc))
unfolding next_change window_at view_in view
step_beside decodes say faults k same beside thread views home =
    let rows = bodies_in k.table in
    let memory = jumped_memory rows (contents_of k) in
    ap (λ (met : View). done memory thread (change_in memory.pieces (context_of thread)
    (window_for met (jump_at memory.pieces thread.pc)))) views
    ∙ by_view decodes say faults (contents_of k) rows same beside thread (base_of k thread.pc) (view_in k thread.pc)
    (λ is. home (met_home (is_home k.table) k.retired thread.pc (code_from k.pieces thread.pc) is))

-- either way
either_way : (rows : List (ℕ × ℕ)) (b : Bool) (one other : Left) (x y : Left) → x ≡ jumped_left rows one
    → y ≡ jumped_left rows other
    → (if b then x else y) ≡ jumped_left rows (if b then one else other)
either_way rows true one other x y e f = e
either_way rows false one other x y e f = f

pub step_stands : Decodes → NoSay → NoFaultSay → (k : AbstractMachine)
    → SameData (jumped (bodies_in k.table) k.pieces) k.pieces
    → WritesBeside (contents_of k) (bodies_in k.table) → (thread : Thread)
    → ((pc : ℕ) → view_at (jumped_memory (bodies_in k.table) (contents_of k)) pc ≡ view_at (contents_of k) pc)
    → All (λ row. jump_at (jumped (bodies_in k.table) k.pieces) row.0 ≡ jump_bytes row.0 row.1) (bodies_in k.table)
    → AreSpliced (contents_of k) (bodies_in k.table) → All (λ row. row.1 < 2 ^ 32) (bodies_in k.table)
    → stepped (jumped_memory (bodies_in k.table) (contents_of k)) thread
    ≡ jumped_left (bodies_in k.table) (step_in k thread)
unfolding stepped step_in
step_stands decodes say faults k same beside thread views jumps spliced low =
    let rows = bodies_in k.table in
    let memory = jumped_memory rows (contents_of k) in
    either_way rows (thread.pc == 0xFFFF_0000) (exits (contents_of k) thread)
    (step_at (contents_of k) thread (base_of k thread.pc) (view_in k thread.pc))
    (exits memory thread) (done memory thread (next_change memory thread)) refl
    (step_beside decodes say faults k same beside thread (views thread.pc
    ∙ met_alike k thread.pc spliced.each) (home_jump k thread.pc jumps low))

-- jumps change no data
abbrev pub WrittenCode : Type 0
WrittenCode = (pieces : List Piece) (start : ℕ) (bytes : List ℕ) → ArePlaced pieces →
    ((a : ℕ) → start ≤ a → a < start + length bytes → option_map kind_of (holding pieces a) ≡ Some Code)
    → SameData (written start bytes pieces) pieces

abbrev pub CodeHeld : Type 0
CodeHeld = (contents : Contents) (start count address : ℕ) → IsValid contents → HasCode contents.pieces start count →
    start ≤ address → address < start + count → option_map kind_of (holding contents.pieces address) ≡ Some Code

abbrev pub StaysValid : Type 0
StaysValid = (contents : Contents) (rows : List (ℕ × ℕ)) → IsValid contents → IsValid (jumped_memory rows contents)

abbrev StaysSpliced : Type 0
StaysSpliced = (contents : Contents) (rows : List (ℕ × ℕ)) (start : ℕ) (bytes : List ℕ) → AreSpliced contents rows
    → AreSpliced (after_write contents start bytes) rows

rest_spliced : (contents : Contents) (row : ℕ × ℕ) (rows : List (ℕ × ℕ)) → AreSpliced contents (row ∷ rows)
    → AreSpliced contents rows
rest_spliced contents row rows spliced = record {
  each = All-tail (λ r. IsSpliced contents r.0) row rows spliced.each;
  once = λ i j d less within. spliced.once (suc i) (suc j) d (omega arith) (omega arith);
}

pub same_data : WrittenCode → CodeHeld → StaysValid → StaysSpliced → (rows : List (ℕ × ℕ)) (contents : Contents)
    → IsValid contents → AreSpliced contents rows
    → SameData (jumped rows contents.pieces) contents.pieces
unfolding jumped
same_data code held stays spliced_on [] contents valid spliced = refl
same_data code held stays spliced_on (row ∷ rows) contents valid spliced =
    let after = after_write contents row.0 (jump_bytes row.0 row.1) in
    same_data code held stays spliced_on rows after (stays contents (row ∷ []) valid)
    (spliced_on contents rows row.0 (jump_bytes row.0 row.1) (rest_spliced contents row rows spliced))
    ∙ code contents.pieces row.0 (jump_bytes row.0 row.1) valid.placed
    (λ a low high. held contents row.0 5 a valid (All-head (λ r. IsSpliced contents r.0) row rows spliced.each).code
    low high)
