use Rattle.update_stack.specs.AbstractMachine.{bodies_in, contents_of}
use Rattle.update_stack.specs.StandsFor.{patched}
use Rattle.update_stack.proofs.LockStep.{step_stands, same_data}
use Rattle.update_stack.proofs.laws.steps_stand.Goals as goal

pub returns : goal.returns
unfolding patched
returns c = λ k thread can.
    let memory = contents_of k in
    let rows = bodies_in k.table in
    step_stands c.jumps_decode.ensures.number c.code_bytes_have_no_say.ensures.changes
    c.code_bytes_have_no_say.ensures.faults k
    (same_data c.code_bytes_have_no_say.ensures.written c.code_stays_code.ensures.held
    c.homes_stay_spliced.ensures.valid c.homes_stay_spliced.ensures.written rows memory can.valid can.spliced)
    (λ start bytes clear.
    c.data_are_written_past_jumps.ensures.jumps memory rows start bytes can.valid can.spliced clear)
    thread (λ pc. c.jumps_leave_views.ensures memory rows pc can.valid can.spliced)
    (c.jumps_stand.ensures memory rows can.valid can.spliced) can.spliced can.low
