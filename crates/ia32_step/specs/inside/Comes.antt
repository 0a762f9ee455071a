-- What a call that makes a change in place came to, against the definition of it.
use Rattle.std.specs.Prelude.{◌≡◌, Option, Some, None, Result, Ok, Err}
use Rattle.ks_base.specs.declared.refusals.Fault.{Fault}
use Rattle.ia32_step.specs.declared.types.Change.{Change}

-- the definition gives the change, or else the fault that the call ended with
abbrev pub Comes : Result Unit Fault → Change → Result Change Fault → Type 0
Comes (Ok done) change defined = Ok change ≡ defined
Comes (Err fault) change defined = Err fault ≡ defined

-- the fault that a call ended with, if any
abbrev pub fault_of : Result Unit Fault → Option Fault
fault_of (Ok done) = None
fault_of (Err fault) = Some fault
