-- What instructions are made of: the thread goes on, a place takes a number, a number is pushed or popped.
use Rattle.std.specs.Prelude.{ℕ, ◌+◌, ◌-◌, ◌%◌, ◌^◌, Some, None, Result}
use Rattle.ks_base.specs.declared.refusals.Fault.{Fault}
use Rattle.ia32_alu.specs.declared.types.Width.{Width}
use Rattle.ia32_alu.specs.declared.types.Width.TheVariants.{Dword}
use Rattle.ia32_step.specs.declared.types.Context.{Context}
use Rattle.ia32_step.specs.declared.types.Flow.TheVariants.{Plain}
use Rattle.ia32_step.specs.declared.types.Place.{Place}
use Rattle.ia32_step.specs.declared.types.Place.TheVariants.{InRegister, InMemory}
use Rattle.ia32_step.specs.declared.types.Change.{Change}
use Rattle.ia32_step.specs.Registers.{with_register, with_stack_top, stack_top}
use Rattle.ia32_step.specs.Operands.{Reader}

-- the thread goes on so, and nothing is written
abbrev pub goes_on : Context → Change
goes_on context = record { context = context; flow = Plain; store = None }

-- a number is written to memory at an address
abbrev pub storing : ℕ → Width → ℕ → Context → Change
storing address width v context =
    record { context = context; flow = Plain; store = Some (record { address = address; width = width; value = v }) }

-- a place takes a number
abbrev pub putting : Place → Width → ℕ → Context → Change
putting (InRegister r) width v context = goes_on (with_register width r v context)
putting (InMemory address) width v context = storing address width v context

-- the thread goes on elsewhere
abbrev pub at_address : ℕ → Context → Context
at_address pc context = record context { pc = pc }

-- n bytes, modulo 2^32, above and below an address
abbrev pub above : ℕ → ℕ → ℕ
above address n = (address + n) % 2 ^ 32

abbrev pub below : ℕ → ℕ → ℕ
below address n = (address + 2 ^ 32 - n) % 2 ^ 32

-- a dword is pushed: ESP falls by 4 and it is written there
abbrev pub pushing : ℕ → Context → Change
pushing v context = storing (below (stack_top context) 4) Dword v (with_stack_top (below (stack_top context) 4) context)

-- the dword on top of the stack
abbrev pub popped : Reader → Context → Result ℕ Fault
popped read context = read Dword (stack_top context)

-- the thread after a pop, with ESP n bytes higher still
abbrev pub raised : ℕ → Context → Context
raised n context = with_stack_top (above (stack_top context) (4 + n)) context
