use Rattle.splice_jump.specs.laws.CodeLaws.{spliced_written}
use Rattle.splice_jump.proofs.KeepLaws.{valid_jumped, spliced_jumped, spliced_added, spliced_fenced}
use Rattle.splice_jump.proofs.KeepLaws.{spliced_appended, spliced_before}
use Rattle.splice_jump.proofs.ChangeLaws.{spliced_with_base}
use Rattle.splice_jump.proofs.laws.homes_stay_spliced.Goals as goal

pub returns-clause-valid : goal.returns-clause-valid
returns-clause-valid c contents rows valid = valid_jumped contents rows valid

pub returns-clause-jumped : goal.returns-clause-jumped
returns-clause-jumped c contents rows others spliced = spliced_jumped contents rows others spliced

pub returns-clause-written : goal.returns-clause-written
returns-clause-written c contents rows start bytes spliced = spliced_written contents rows start bytes spliced

pub returns-clause-added : goal.returns-clause-added
returns-clause-added c contents rows piece valid spliced apart = spliced_added contents rows piece valid spliced apart

pub returns-clause-fenced : goal.returns-clause-fenced
returns-clause-fenced c contents rows fence spliced = spliced_fenced contents rows fence spliced

pub returns-clause-appended : goal.returns-clause-appended
returns-clause-appended c contents rows home base spliced one other =
    spliced_appended contents rows home base spliced one other

pub returns-clause-shortened : goal.returns-clause-shortened
returns-clause-shortened c contents rows home base spliced = spliced_before contents rows home base spliced

pub returns-clause-replaced : goal.returns-clause-replaced
returns-clause-replaced c contents rows home base spliced = spliced_with_base contents rows home base spliced
