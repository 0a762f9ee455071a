use Rattle.splice_jump.specs.laws.CodeLaws.{code_kind, ends_below, code_written}
use Rattle.splice_jump.proofs.KeepLaws.{code_added, bytes_added}
use Rattle.splice_jump.proofs.laws.code_stays_code.Goals as goal

pub returns-clause-held : goal.returns-clause-held
returns-clause-held c contents start count address valid code low high =
    code_kind contents start count address valid code low high

pub returns-clause-ends : goal.returns-clause-ends
returns-clause-ends c contents start count valid some code = ends_below contents start count valid some code

pub returns-clause-stays : goal.returns-clause-stays
returns-clause-stays c pieces start bytes address count code = code_written pieces start bytes address count code

pub returns-clause-added : goal.returns-clause-added
returns-clause-added c contents piece address count valid apart code =
    code_added contents piece address count valid apart code

pub returns-clause-bytes : goal.returns-clause-bytes
returns-clause-bytes c contents piece address count valid apart code =
    bytes_added contents piece address count valid apart code
