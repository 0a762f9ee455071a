use Rattle.update_retired.proofs.ApartLaws.{retired_apart}
use Rattle.update_retired.proofs.laws.retired_code_lies_apart.Goals as goal

pub returns : goal.returns
returns c = retired_apart
