use Rattle.splice_jump.proofs.DataLaws.{kinds_stay, ranges_stay, kind_stays, look_stays, byte_stays}
use Rattle.splice_jump.proofs.DataLaws.{data_looks_same, data_stays}
use Rattle.splice_jump.proofs.laws.jumps_change_their_bytes_alone.Goals as goal

pub returns-clause-kinds : goal.returns-clause-kinds
returns-clause-kinds c rows pieces = kinds_stay rows pieces

pub returns-clause-ranges : goal.returns-clause-ranges
returns-clause-ranges c rows pieces = ranges_stay rows pieces

pub returns-clause-held : goal.returns-clause-held
returns-clause-held c rows pieces address = kind_stays rows pieces address

pub returns-clause-looks : goal.returns-clause-looks
returns-clause-looks c rows pieces address out = look_stays rows pieces address out

pub returns-clause-bytes : goal.returns-clause-bytes
returns-clause-bytes c rows pieces address out = byte_stays rows pieces address out

pub returns-clause-data_looks : goal.returns-clause-data_looks
returns-clause-data_looks c contents rows address valid spliced none =
    data_looks_same contents rows address valid spliced none

pub returns-clause-data_bytes : goal.returns-clause-data_bytes
returns-clause-data_bytes c contents rows address valid spliced none =
    data_stays contents rows address valid spliced none
