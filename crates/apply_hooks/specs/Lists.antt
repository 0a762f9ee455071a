-- Whether a new object lists functions to be run.
use Rattle.std.specs.Prelude.{ℕ, Bool, true, false, List, Option, Some, None, Result, Ok, Err}
use Rattle.ks_base.specs.declared.refusals.Refusal.{Refusal}
use Rattle.ks_base.specs.declared.refusals.Refusal.TheVariants.{BadHooks}
use Rattle.i386_reloc.specs.declared.types.Ref.{Ref}

abbrev pub lists : Result (Option (List Ref)) ℕ → Result Bool Refusal
lists (Err offset) = Err (BadHooks offset)
lists (Ok None) = Ok false
lists (Ok (Some references)) = Ok true
