use Rattle.work_forms.proofs.SectionLaws.{count_read, section_read}
use Rattle.work_forms.proofs.laws.written_sections_are_read.Goals as goal

pub returns-clause-count : goal.returns-clause-count
returns-clause-count c = count_read

pub returns-clause-each : goal.returns-clause-each
returns-clause-each c = section_read
