use Rattle.extract_post.proofs.Computed.{is_extracted, extracted_is}
use Rattle.extract_post.proofs.laws.extract_is_computed.Goals as goal

pub returns : goal.returns
returns c = λ pre post answer. (is_extracted pre post answer, extracted_is pre post answer)
