use Rattle.std.proofs.Common.{Some, sym}
use Rattle.ia32_decode.proofs.Locality.{some_bytes_of}
use Rattle.ia32_decode.proofs.Readings.{short_of, within_of}
use Rattle.ia32_decode.proofs.laws.instructions_have_bytes.Goals as goal

pub returns-clause-some : goal.returns-clause-some
returns-clause-some c = λ window decoded is. some_bytes_of window (Some decoded) (sym is)

pub returns-clause-short : goal.returns-clause-short
returns-clause-short c = λ window decoded is. short_of window (Some decoded) (sym is)

pub returns-clause-within : goal.returns-clause-within
returns-clause-within c = λ window decoded is. within_of window (Some decoded) (sym is)
