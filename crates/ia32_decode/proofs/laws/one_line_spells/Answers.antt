use Rattle.ia32_decode.proofs.Readings.{same_line, same_reading}
use Rattle.ia32_decode.proofs.laws.one_line_spells.Goals as goal

pub returns-clause-line : goal.returns-clause-line
returns-clause-line c = same_line

pub returns-clause-instruction : goal.returns-clause-instruction
returns-clause-instruction c = same_reading
