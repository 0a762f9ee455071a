use Rattle.linked_code.proofs.DecodeFields.{decoded_alike}
use Rattle.linked_code.proofs.decoding.fields_decode_alike.Goals as goal

pub returns : goal.returns
returns c = decoded_alike
