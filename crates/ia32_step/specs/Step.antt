-- One step of a thread.
use Rattle.std.specs.Prelude.{ℕ, ◌==◌, if◌then◌else◌, List, Option, Some, None, Result, Ok, Err}
use Rattle.ks_base.specs.declared.refusals.Fault.{Fault}
use Rattle.ks_base.specs.declared.refusals.Fault.TheVariants.{Undecoded}
use Rattle.image_memory.specs.Contents.{Contents}
use Rattle.image_memory.specs.declared.types.Piece.{Piece}
use Rattle.image_memory.specs.declared.types.Window.{Window}
use Rattle.image_memory.specs.Fetch.{fetched, window_at}
use Rattle.image_memory.specs.Access.{first_fault, write_fault, after_write}
use Rattle.ia32_decode.specs.declared.types.Decoded.{Decoded}
use Rattle.ia32_decode.specs.Decode.{decoded_from}
use Rattle.ia32_step.specs.declared.types.Thread.{Thread}
use Rattle.ia32_step.specs.declared.types.Context.{Context}
use Rattle.ia32_step.specs.declared.types.State.TheVariants as states
use Rattle.ia32_step.specs.declared.types.Outcome.{Outcome}
use Rattle.ia32_step.specs.declared.types.Outcome.TheVariants.{Moved, Exited, Stopped}
use Rattle.ia32_step.specs.declared.types.Store.{Store}
use Rattle.ia32_step.specs.declared.types.Change.{Change}
use Rattle.ia32_step.specs.Registers.{accumulator}
use Rattle.ia32_alu.specs.Widths.{byte_count}
use Rattle.ia32_step.specs.Operands.{number_at, spelled}
use Rattle.ia32_step.specs.Exec.{executed}
use Rattle.ia32_alu.specs.declared.types.Width.TheVariants.{Dword}

-- what a step leaves: the memory, the thread, and what it came to
pub record Left : Type 0 where
  pub contents : Contents
  pub thread : Thread
  pub outcome : Outcome

abbrev pub left_by : Contents → Thread → Outcome → Left
left_by contents thread outcome = record { contents = contents; thread = thread; outcome = outcome }

abbrev pub context_of : Thread → Context
context_of thread = record { registers = thread.registers; pc = thread.pc; flags = thread.flags }

-- the thread with what an instruction leaves in the processor
abbrev pub resumed : Thread → Context → Thread
resumed thread context = record thread { registers = context.registers; pc = context.pc; flags = context.flags }

-- a step that stops changes nothing but the thread's state
abbrev pub stopped : Fault → Thread → Thread
stopped fault thread = record thread { state = states.Stopped fault }

abbrev pub stops : Contents → Thread → Fault → Left
stops contents thread fault = left_by contents (stopped fault thread) (Stopped fault)

-- why the first bad byte of what is to be written can't be written
abbrev pub store_fault : Contents → Option Store → Option Fault
store_fault contents None = None
store_fault contents (Some store) = first_fault (write_fault contents.pieces) store.address (byte_count store.width)

abbrev pub after_store : Contents → Option Store → Contents
after_store contents None = contents
after_store contents (Some store) = after_write contents store.address (spelled store.width store.value)

-- the memory and the thread after a change, unless it writes where it can't
abbrev pub unless_barred : Option Fault → Contents → Thread → Change → Left
unless_barred (Some fault) contents thread change = stops contents thread fault
unless_barred None contents thread change =
    record {
      contents = after_store contents change.store;
      thread = resumed thread change.context;
      outcome = Moved change.flow;
    }

-- what an instruction does is done whole, or the thread stops
abbrev pub done : Contents → Thread → Result Change Fault → Left
done contents thread (Err fault) = stops contents thread fault
done contents thread (Ok change) = unless_barred (store_fault contents change.store) contents thread change

abbrev pub change_by : List Piece → Context → Option Decoded → Result Change Fault
change_by pieces context None = Err Undecoded
change_by pieces context (Some d) = executed (number_at pieces) d context

-- what carrying out a decoded instruction leaves; where there is none the thread stops
abbrev pub carried_out : Contents → Thread → Option Decoded → Left
carried_out contents thread decoded = done contents thread (change_by contents.pieces (context_of thread) decoded)

abbrev pub change_in : List Piece → Context → Result Window Fault → Result Change Fault
change_in pieces context (Err fault) = Err fault
change_in pieces context (Ok window) = change_by pieces context (decoded_from (fetched window))

-- what the instruction that is fetched at a thread's pc does, or why there is none, or the first of its faults but
-- those of what it writes
unfoldable pub next_change : Contents → Thread → Result Change Fault
next_change contents thread = change_in contents.pieces (context_of thread) (window_at contents thread.pc)

-- a thread ends at the address to which the function that it was started at returns
abbrev pub exited : Thread → Thread
exited thread = record thread { state = states.Exited (accumulator (context_of thread) Dword) }

abbrev pub exits : Contents → Thread → Left
exits contents thread = left_by contents (exited thread) (Exited (accumulator (context_of thread) Dword))

-- One step of a running thread. At 0xFFFF0000, to which the function that it was started at returns, it ends; elsewhere
-- it carries out the instruction that is fetched at its pc.
unfoldable pub stepped : Contents → Thread → Left
stepped contents thread =
    if thread.pc == 0xFFFF_0000 then exits contents thread
    else done contents thread (next_change contents thread)

-- what a change writes, unless it can't
abbrev pub store_unless : Option Fault → Option Store → Option Store
store_unless (Some fault) store = None
store_unless None store = store

abbrev pub store_of : Contents → Result Change Fault → Option Store
store_of contents (Err fault) = None
store_of contents (Ok change) = store_unless (store_fault contents change.store) change.store

-- all that one step of a running thread writes: nothing where the thread ends or stops
unfoldable pub stored : Contents → Thread → Option Store
stored contents thread = if thread.pc == 0xFFFF_0000 then None else store_of contents (next_change contents thread)

-- how many bytes a window has, if there is one
abbrev pub window_length : Result Window Fault → ℕ
window_length (Err fault) = 0
window_length (Ok window) = window.length

-- how many bytes one step of a running thread fetches
unfoldable pub fetched_count : Contents → Thread → ℕ
fetched_count contents thread =
    if thread.pc == 0xFFFF_0000 then 0 else window_length (window_at contents thread.pc)
