use Rattle.saved_data.proofs.DifferLaws.{write_differs, put_back_differs, differs_on, differs_valid, differs_left}
use Rattle.saved_data.proofs.laws.data_alone_differ.Goals as goal

pub returns-clause-written : goal.returns-clause-written
returns-clause-written c = write_differs

pub returns-clause-put_back : goal.returns-clause-put_back
returns-clause-put_back c = put_back_differs

pub returns-clause-on : goal.returns-clause-on
returns-clause-on c = differs_on

pub returns-clause-valid : goal.returns-clause-valid
returns-clause-valid c = differs_valid

pub returns-clause-left : goal.returns-clause-left
returns-clause-left c = differs_left
