use Rattle.ksplice_calls.proofs.OneAnswer.{one_answer}
use Rattle.ksplice_calls.proofs.laws.calls_have_one_answer.Goals as goal

pub returns : goal.returns
returns c = one_answer c.objects_have_one_extract.ensures
