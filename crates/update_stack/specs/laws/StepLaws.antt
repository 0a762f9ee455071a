-- A law of the machine's steps, for the crates above: a step leaves memory as it was, or with one write that has no
-- fault.
use Rattle.std.proofs.Common.{◌≡◌, ℕ, ◌==◌, Bool, true, false, if◌then◌else◌, List, length, Option, Some, None, Result}
use Rattle.std.proofs.Common.{Ok, Err, refl, sym, ◌∙◌, ap, subst}
use Rattle.ks_base.specs.declared.refusals.Fault.{Fault}
use Rattle.image_memory.specs.Contents.{Contents}
use Rattle.image_memory.specs.Access.{first_fault, write_fault, after_write}
use Rattle.image_memory.specs.Fetch.{View, Unmapped, AtHome, Stray, Bytes}
use Rattle.ia32_decode.specs.Decode.{decoded_from}
use Rattle.ia32_step.specs.declared.types.Thread.{Thread}
use Rattle.ia32_step.specs.Operands.{spelled}
use Rattle.ia32_step.specs.Step.{Left, context_of, exits, done, store_fault, after_store, unless_barred, change_by}
use Rattle.ia32_step.specs.laws.OperandLaws.{length-spelled}
use Rattle.update_stack.specs.AbstractMachine.{AbstractMachine, contents_of, view_in, base_of}
use Rattle.update_stack.specs.Steps.{step_at, step_in}

-- What is so of memory as it was, and after each write that has no fault, is so of what a step leaves.
module _ (Q : Contents → Type 0) (contents : Contents) (same : Q contents)
    (writes : (start : ℕ) (bytes : List ℕ) → first_fault (write_fault contents.pieces) start (length bytes) ≡ None
    → Q (after_write contents start bytes)) where
  by_store : (store : _) → store_fault contents store ≡ None → Q (after_store contents store)
  by_store None clear = same
  by_store (Some s) clear =
      writes s.address (spelled s.width s.value)
      (ap (first_fault (write_fault contents.pieces) s.address) (length-spelled s.width s.value) ∙ clear)

  by_fault : (thread : Thread) (fault : Option Fault) (change : _) (left : Left)
      → left ≡ unless_barred fault contents thread change → store_fault contents change.store ≡ fault → Q left.contents
  by_fault thread None change left leaves is =
      subst (λ (l : Left). Q l.contents) (sym leaves) (by_store change.store is)
  by_fault thread (Some fault) change left leaves is = subst (λ (l : Left). Q l.contents) (sym leaves) same

  by_change : (thread : Thread) (change : Result _ Fault) → Q (done contents thread change).contents
  by_change thread (Err fault) = same
  by_change thread (Ok change) =
      by_fault thread (store_fault contents change.store) change (done contents thread (Ok change)) refl refl

  by_view : (thread : Thread) (base : ℕ) (met : View) → Q (step_at contents thread base met).contents
  by_view thread base Unmapped = same
  by_view thread base AtHome = same
  by_view thread base Stray = same
  by_view thread base (Bytes code) =
      by_change thread (change_by contents.pieces (context_of thread) (decoded_from code))

  by_end : (thread : Thread) (base : ℕ) (met : View) (ends : Bool)
      → Q (if ends then exits contents thread else step_at contents thread base met).contents
  by_end thread base met true = same
  by_end thread base met false = by_view thread base met

-- the law: what is so of memory as it was and after each such write is so after a step of the machine
pub by_step : (Q : Contents → Type 0) (k : AbstractMachine) → Q (contents_of k)
    → ((start : ℕ) (bytes : List ℕ) → first_fault (write_fault k.pieces) start (length bytes) ≡ None
    → Q (after_write (contents_of k) start bytes))
    → (thread : Thread) → Q (step_in k thread).contents
unfolding step_in
by_step Q k same writes thread =
    by_end Q (contents_of k) same writes thread (base_of k thread.pc) (view_in k thread.pc) (thread.pc == 0xFFFF_0000)
