-- What a step tells that it wrote.
use Rattle.std.proofs.Common.{◌≡◌, ◌==◌, Bool, true, false, if◌then◌else◌, Option, Some, None, Result, Ok, Err, refl}
use Rattle.ks_base.specs.declared.refusals.Fault.{Fault}
use Rattle.image_memory.specs.Contents.{Contents}
use Rattle.ia32_step.specs.declared.types.Store.{Store}
use Rattle.ia32_step.specs.declared.types.Thread.{Thread}
use Rattle.ia32_step.specs.declared.types.Change.{Change}
use Rattle.ia32_step.specs.Step.{store_fault, after_store, unless_barred, done, next_change, exits, stepped}
use Rattle.ia32_step.specs.Step.{store_unless, store_of, stored}

module _ (contents : Contents) (thread : Thread) where
  cleared : (store : Option Store) (fault : Option Fault) → store_fault contents store ≡ fault
      → store_fault contents (store_unless fault store) ≡ None
  cleared store (Some fault) is = refl
  cleared store None is = is

  change_cleared : (change : Result Change Fault) → store_fault contents (store_of contents change) ≡ None
  change_cleared (Err fault) = refl
  change_cleared (Ok change) = cleared change.store (store_fault contents change.store) refl

  pub clear : store_fault contents (stored contents thread) ≡ None
  unfolding stored
  clear = by_pc (thread.pc == 0xFFFF_0000)
    where
      by_pc : (b : Bool)
          → store_fault contents (if b then None else store_of contents (next_change contents thread)) ≡ None
      by_pc true = refl
      by_pc false = change_cleared (next_change contents thread)

  made : (change : Change) (fault : Option Fault)
      → (unless_barred fault contents thread change).contents ≡ after_store contents (store_unless fault change.store)
  made change (Some fault) = refl
  made change None = refl

  change_made : (change : Result Change Fault)
      → (done contents thread change).contents ≡ after_store contents (store_of contents change)
  change_made (Err fault) = refl
  change_made (Ok change) = made change (store_fault contents change.store)

  pub all : (stepped contents thread).contents ≡ after_store contents (stored contents thread)
  unfolding stepped stored
  all = by_pc (thread.pc == 0xFFFF_0000)
    where
      by_pc : (b : Bool)
          → (if b then exits contents thread else done contents thread (next_change contents thread)).contents
          ≡ after_store contents (if b then None else store_of contents (next_change contents thread))
      by_pc true = refl
      by_pc false = change_made (next_change contents thread)
