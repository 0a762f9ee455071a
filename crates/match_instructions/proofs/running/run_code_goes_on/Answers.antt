use Rattle.match_instructions.proofs.CodeEnds.{ends_in_code}
use Rattle.match_instructions.proofs.RunLaws.{goes_on, has_bytes, is_short, place_met, instruction_low}
use Rattle.match_instructions.proofs.running.run_code_goes_on.Goals as goal

pub returns-clause-next : goal.returns-clause-next
returns-clause-next c = goes_on c.instructions_have_bytes.ensures.some c.instructions_have_bytes.ensures.short

pub returns-clause-some_bytes : goal.returns-clause-some_bytes
returns-clause-some_bytes c = has_bytes c.instructions_have_bytes.ensures.some

pub returns-clause-short : goal.returns-clause-short
returns-clause-short c = is_short c.instructions_have_bytes.ensures.short

pub returns-clause-place : goal.returns-clause-place
returns-clause-place c = place_met

pub returns-clause-low : goal.returns-clause-low
returns-clause-low c = instruction_low

pub returns-clause-ends : goal.returns-clause-ends
returns-clause-ends c =
    ends_in_code c.instructions_have_bytes.ensures.some c.instructions_have_bytes.ensures.within
