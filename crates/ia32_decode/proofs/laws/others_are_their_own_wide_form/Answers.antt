use Rattle.ia32_decode.proofs.WideForms.{parts, unchanged, fields_unchanged}
use Rattle.ia32_decode.proofs.laws.others_are_their_own_wide_form.Goals as goal

pub returns-clause-bytes : goal.returns-clause-bytes
returns-clause-bytes c = λ window decoded is none. unchanged window decoded (parts window decoded is) none

pub returns-clause-fields : goal.returns-clause-fields
returns-clause-fields c = λ window decoded is none. fields_unchanged window decoded (parts window decoded is) none
