use Rattle.extract_post.proofs.OneAnswer.{one_result}
use Rattle.extract_post.proofs.laws.objects_have_one_extract.Goals as goal

pub returns : goal.returns
returns c = one_result
