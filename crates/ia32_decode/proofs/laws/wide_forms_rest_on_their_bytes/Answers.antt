use Rattle.ia32_decode.proofs.FieldOrder.{laid}
use Rattle.ia32_decode.proofs.WideFormsRest.{bytes_rest, fields_rest}
use Rattle.ia32_decode.proofs.laws.wide_forms_rest_on_their_bytes.Goals as goal

pub returns-clause-bytes : goal.returns-clause-bytes
returns-clause-bytes c = λ window other decoded is same. bytes_rest window other decoded (laid window decoded is) same

pub returns-clause-fields : goal.returns-clause-fields
returns-clause-fields c = λ window other decoded is same. fields_rest window other decoded (laid window decoded is) same
