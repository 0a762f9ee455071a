use Rattle.run_pre_match.proofs.MetLaws.{stand_for_one, one_number}
use Rattle.run_pre_match.proofs.laws.numbers_stand_for_one.Goals as goal

pub returns : goal.returns
returns c = λ candidate v offset address match.
    (stand_for_one candidate offset address match.whole, one_number candidate offset address)
