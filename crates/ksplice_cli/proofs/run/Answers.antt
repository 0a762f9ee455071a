-- Memory ran out before anything was loaded, and nothing came out.
use Rattle.std.proofs.Common.{[], None, refl}
use Rattle.ks_io.specs.laws.LoadLaws.{CameTo-nothing}
use Rattle.ksplice_calls.specs.Answer.{NoMemory}
use Rattle.ksplice_cli.proofs.run.Goals as goal

pub returns-in-Err-2-clause-answers : goal.returns-in-Err-2-clause-answers
returns-in-Err-2-clause-answers g c =
    rw c.in-Err-2.is
    (record { held = []; lost = None; loads = CameTo-nothing _ _ _; answer = NoMemory refl refl })
