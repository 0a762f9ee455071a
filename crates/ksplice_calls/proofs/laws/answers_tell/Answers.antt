use Rattle.ksplice_calls.proofs.Promised.{usage_line, replies_some, ends_with_file, counts_tell, stay_or_loses}
use Rattle.ksplice_calls.proofs.Complete.{complete}
use Rattle.ksplice_calls.proofs.laws.answers_tell.Goals as goal

pub returns-clause-no_reading : goal.returns-clause-no_reading
returns-clause-no_reading c = usage_line

pub returns-clause-replies : goal.returns-clause-replies
returns-clause-replies c = replies_some

pub returns-clause-complete : goal.returns-clause-complete
returns-clause-complete c = complete

pub returns-clause-file : goal.returns-clause-file
returns-clause-file c = ends_with_file

pub returns-clause-rises : goal.returns-clause-rises
returns-clause-rises c = counts_tell

pub returns-clause-lost : goal.returns-clause-lost
returns-clause-lost c = stay_or_loses
