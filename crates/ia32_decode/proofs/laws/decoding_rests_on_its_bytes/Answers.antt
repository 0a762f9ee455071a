use Rattle.ia32_decode.proofs.Locality.{rests}
use Rattle.ia32_decode.proofs.laws.decoding_rests_on_its_bytes.Goals as goal

pub returns : goal.returns
returns c = rests
