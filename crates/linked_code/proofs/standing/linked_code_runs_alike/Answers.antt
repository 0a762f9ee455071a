use Rattle.linked_code.proofs.Layouts.{fields_lie}
use Rattle.linked_code.proofs.Runs.{runs_alike}
use Rattle.linked_code.proofs.standing.linked_code_runs_alike.Goals as goal

pub returns : goal.returns
returns c = λ candidate bytes linked.
    runs_alike (record {
      fill = c.fields_decode_alike.ensures;
      lie = fields_lie;
      rests = c.decoding_rests_on_its_bytes.ensures;
      some = c.instructions_have_bytes.ensures.some;
      short = c.instructions_have_bytes.ensures.short;
      within = c.instructions_have_bytes.ensures.within;
    }) candidate bytes linked
