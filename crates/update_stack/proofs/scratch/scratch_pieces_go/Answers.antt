use Rattle.update_stack.proofs.ScratchGoesLaws.{Laws, holds_without}
use Rattle.update_stack.proofs.scratch.scratch_pieces_go.Goals as goal

pub returns : goal.returns
returns c before after arena updates kept range holds is goes =
    let laws : Laws = record {
      memory = c.memory_stays_memory.ensures;
      bytes = c.code_that_stays.ensures.bytes;
      past_olds = c.dropping_goes_past_writes.ensures.unjumped;
      past_jumps = c.dropping_goes_past_writes.ensures.jumped;
      stays = c.code_stays_code.ensures.stays;
      was_there = c.code_that_stays.ensures.code;
    } in
    holds_without laws before arena updates kept holds range is after goes
