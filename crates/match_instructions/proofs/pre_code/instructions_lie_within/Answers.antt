use Rattle.match_instructions.proofs.PreLists.{lies_within}
use Rattle.match_instructions.proofs.pre_code.instructions_lie_within.Goals as goal

pub returns : goal.returns
returns c = λ section offset i. lies_within section offset i c.instructions_have_bytes.ensures.some
    c.instructions_have_bytes.ensures.within
