use Rattle.ia32_decode.proofs.WideForms.{parts, wide_length_few, wide_bounds}
use Rattle.ia32_decode.proofs.laws.wide_forms_have_bytes.Goals as goal

pub returns-clause-longer : goal.returns-clause-longer
returns-clause-longer c = λ window decoded is. (wide_bounds window decoded is).longer

pub returns-clause-short : goal.returns-clause-short
returns-clause-short c = λ window decoded is. wide_length_few window decoded (parts window decoded is)

pub returns-clause-opcode : goal.returns-clause-opcode
returns-clause-opcode c = λ window decoded is. (wide_bounds window decoded is).opcode

pub returns-clause-displacement : goal.returns-clause-displacement
returns-clause-displacement c = λ window decoded is. (wide_bounds window decoded is).displacement

pub returns-clause-full : goal.returns-clause-full
returns-clause-full c = λ window decoded is. (wide_bounds window decoded is).full

pub returns-clause-immediate : goal.returns-clause-immediate
returns-clause-immediate c = λ window decoded is. (wide_bounds window decoded is).immediate
